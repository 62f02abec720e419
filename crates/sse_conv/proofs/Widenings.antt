-- Results twice as large as the sources.
use Rattle.std.proofs.Common.{◌≡◌, ℕ, ◌+◌, ◌*◌, ◌≤◌, List, [], ◌∷◌, refl, lit<, ◌∙◌, arith}
use Rattle.std.specs.Int.Bits.{xor_self}
use Rattle.std.proofs.lemmas.Int.{ints}
use Rattle.std.proofs.lemmas.Bool.Decides.{nat_tests}
use Rattle.orc_bits.specs.Numbers.{cut}
use Rattle.orc_bits.specs.Lanes.{lane}
use Rattle.orc_ops.specs.declared.opcode.Op.{Op}
use Rattle.x86_ins.specs.declared.ins.VecOp.TheVariants as vec
use Rattle.x86_ins.specs.declared.ins.Ins.{Ins}
use Rattle.x86_ins.specs.declared.ins.Ins.TheVariants.{Vec}
use Rattle.x86_ins.specs.Vectors.{after, Registers}
use Rattle.x86_ins.proofs.Registers.{registers_after}
use Rattle.sse_laws.proofs.Ways.{first_result, widens}
use Rattle.sse_conv.specs.Rules.{rule_of}
use Rattle.sse_conv.proofs.Equations.{Widens}

-- ---- the low lanes beside zeros, beside themselves, and beside their signs

pub convubw_eq : Widens 1 Op.Convubw
convubw_eq t h k = simp xor_self (omega arith)

pub convuwl_eq : Widens 2 Op.Convuwl
convuwl_eq t h k = simp xor_self (omega arith)

pub convulq_eq : Widens 4 Op.Convulq
convulq_eq t h k = simp xor_self (omega arith)

pub convsbw_eq : Widens 1 Op.Convsbw
convsbw_eq t h k = grind (arith, ints, nat_tests)

pub convswl_eq : Widens 2 Op.Convswl
convswl_eq t h k = grind (arith, ints, nat_tests)

pub convslq_eq : Widens 4 Op.Convslq
convslq_eq t h k = simp xor_self (grind (arith, ints, nat_tests))

pub mergebw_eq : Widens 1 Op.Mergebw
mergebw_eq t h k = omega arith

pub mergewl_eq : Widens 2 Op.Mergewl
mergewl_eq t h k = omega arith

pub mergelq_eq : Widens 4 Op.Mergelq
mergelq_eq t h k = omega arith

pub splatbw_eq : Widens 1 Op.Splatbw
splatbw_eq t h k = omega arith

-- ---- a byte four times: beside itself, and that word beside itself

abbrev first_pair : List Ins
first_pair = Vec vec.Punpcklbw 0 0 ∷ []

abbrev second_pair : List Ins
second_pair = Vec vec.Punpcklwd 0 0 ∷ []

bytes_paired : (x : ℕ → List ℕ) → Registers x → (q : ℕ) → q * 2 + 2 ≤ 16 → lane 2 q (after first_pair x 0) ≡ 257 * cut 8 (lane 1 q (x 0))
bytes_paired = widens 1 first_pair (λ a b. 257 * a) (lit< tt) (λ q x. refl) (λ t h k. omega arith)

words_paired : (x : ℕ → List ℕ) → Registers x → (q : ℕ) → q * 4 + 4 ≤ 16 → lane 4 q (after second_pair x 0) ≡ 65537 * cut 16 (lane 2 q (x 0))
words_paired = widens 2 second_pair (λ a b. 65537 * a) (lit< tt) (λ q x. refl) (λ t h k. omega arith)

pub splatbl_lanes : (x : ℕ → List ℕ) → Registers x → (q : ℕ) → q * 4 + 4 ≤ 16 →
    lane 4 q (after (rule_of Op.Splatbl) x 0) ≡ first_result Op.Splatbl (cut 8 (lane 1 q (x 0))) 0
unfolding after
splatbl_lanes x g q h =
    let e = bytes_paired x g q (omega arith) in
    let f = words_paired (after first_pair x) (registers_after first_pair x g) q h in
    f ∙ rw e (omega arith)
