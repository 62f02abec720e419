-- The words of each long exchanged by two shuffles, and then the bytes of each word.
use Rattle.std.proofs.Common.{◌≡◌, ℕ, ◌+◌, ◌*◌, ◌/◌, ◌%◌, ◌^◌, ◌<◌, ◌≤◌, List, [], ◌∷◌, refl, sym, ◌∙◌, ap, arith}
use Rattle.orc_bits.specs.Numbers.{cut}
use Rattle.orc_bits.specs.Lanes.{lane}
use Rattle.orc_ops.specs.declared.opcode.Op.{Op}
use Rattle.orc_ops.specs.Stems.{reversed}
use Rattle.x86_ins.specs.declared.ins.Ins.{Ins}
use Rattle.x86_ins.specs.declared.ins.ShuffleOp.TheVariants.{Pshufhw, Pshuflw}
use Rattle.x86_ins.specs.Vectors.{after, of_order, simd_effect, Registers}
use Rattle.x86_ins.proofs.Registers.{registers_simd}
use Rattle.sse_laws.proofs.Ways.{OnLanes, Equation, plain, cut_lane, first_result}
use Rattle.sse_laws.proofs.Words.{ordered, words_exchanged}
use Rattle.sse_l.specs.Rules.{rule_of}

-- the words of a long exchanged
abbrev exchanged : ℕ → ℕ
exchanged a = a % 2 ^ 16 * 2 ^ 16 + a / 2 ^ 16

exchanged_lane : (x : ℕ → List ℕ) → Registers x → (q : ℕ) → q * 4 + 4 ≤ 16 → lane 4 q (ordered 177 (x 0)) ≡ exchanged (cut 32 (lane 4 q (x 0)))
exchanged_lane x g q h = words_exchanged (x 0) (g 0) q h ∙ ap exchanged (sym (cut_lane (x 0) (g 0) 4 q))

pub swapwl_lanes : OnLanes 4 (rule_of Op.Swapwl) (first_result Op.Swapwl)
unfolding after
swapwl_lanes x g q h = exchanged_lane x g q h

-- what comes after the shuffles works on each word
abbrev rest_of : List Ins → List Ins
rest_of (i ∷ j ∷ rest) = rest
rest_of is = []

abbrev on_words : List Ins
on_words = rest_of (rule_of Op.Swapl)

abbrev turned : ℕ → ℕ → ℕ
turned a b = reversed 2 (a % 2 ^ 16) + 2 ^ 16 * reversed 2 (a / 2 ^ 16)

words_eq : Equation 4 on_words turned
words_eq σ h k = omega arith

all_reversed : (a b : ℕ) → a < 2 ^ 32 → turned (exchanged a) b ≡ reversed 4 a
all_reversed a b h = omega arith

pub swapl_lanes : OnLanes 4 (rule_of Op.Swapl) (first_result Op.Swapl)
unfolding after
swapl_lanes x g q h =
    let low : ℕ → List ℕ = simd_effect (of_order Pshuflw 0 0 177) x in
    let k = registers_simd (of_order Pshuflw 0 0 177) x g in
    let m : ℕ → List ℕ = simd_effect (of_order Pshufhw 0 0 177) low in
    let n = registers_simd (of_order Pshufhw 0 0 177) low k in
    let e : cut 32 (lane 4 q (m 0)) ≡ exchanged (cut 32 (lane 4 q (x 0))) = cut_lane (m 0) (n 0) 4 q ∙ exchanged_lane x g q h in
    plain 4 on_words turned refl words_eq m n q h ∙ ap (λ a. turned a 0) e ∙ all_reversed (cut 32 (lane 4 q (x 0))) 0 (omega arith)
