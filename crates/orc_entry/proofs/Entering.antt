-- The list before a function's code leads to a core with the block filled and RDI at it.
use Rattle.std.proofs.Common.{◌≡◌, ◌≢◌, ℕ, ◌+◌, ◌-◌, ◌^◌, ◌<◌, ◌≤◌, pos, List, [], ◌∷◌, ◌++◌, refl, sym, ap, ◌∙◌, subst, arith}
use Rattle.orc_bits.specs.Numbers.{wrap}
use Rattle.orc_bits.specs.Memory.{IsMapped}
use Rattle.orc_bits.proofs.LaneLaws.{change_other, change_same}
use Rattle.x86_ins.specs.declared.ins.AluOp.TheVariants.{Sub}
use Rattle.x86_ins.specs.declared.ins.Ins.{Ins}
use Rattle.x86_ins.specs.declared.ins.Ins.TheVariants.{AluImm, Lea}
use Rattle.x86_ins.specs.Machine.{Core, with_gpr, alu_core, alu_result, address}
use Rattle.x86_flow.specs.Moves.{away}
use Rattle.x86_flow.specs.Does.{Line}
use Rattle.x86_flow.proofs.Moves.{line_append}
use Rattle.x86_flow.proofs.Words.{at_away}
use Rattle.orc_entry.specs.declared.sources.Source.{Source}
use Rattle.orc_entry.specs.Code.{fills_code, Ascend, stack_size, block_at}
use Rattle.orc_entry.proofs.Fills.{Near, AllReady, AllFilled, fills_line}

-- c is the core at the entry
module _ (c : Core) (room : stack_size ≤ c.gpr 4) (low : c.gpr 4 + 1024 < 2 ^ 61) where
  abbrev pub begin : Core
  begin = alu_core Sub c 4 (wrap 64 (pos stack_size))

  pub stack : begin.gpr 4 ≡ c.gpr 4 - stack_size
  stack = change_same c.gpr 4 (alu_result Sub (c.gpr 4) (wrap 64 (pos stack_size))) ∙ down (c.gpr 4) room low
    where
      down : (a : ℕ) → stack_size ≤ a → a + 1024 < 2 ^ 61 → alu_result Sub a (wrap 64 (pos stack_size)) ≡ a - stack_size
      down a h w = omega (arith, h, w)

  pub begin_low : begin.gpr 4 + stack_size + 512 < 2 ^ 61
  begin_low = omega (arith, stack, room, low)

  -- what the list leaves
  pub record Entered (arg : ℕ → ℕ) (fills : List (Source × ℕ)) (d : Core) : Type 0 where
    pub stack : d.gpr 4 + stack_size ≡ c.gpr 4
    pub block : d.gpr 7 ≡ d.gpr 4 + block_at
    pub words : AllFilled (c.gpr 4 - stack_size) arg d.memory fills
    pub others : (r : ℕ) → r ≢ 0 → r ≢ 4 → r ≢ 7 → r ≢ 11 → d.gpr r ≡ c.gpr r
    pub outside : (x : ℕ) → ((c.gpr 4 - stack_size ≤ x) × (x < c.gpr 4) → ⊥) → d.memory x ≡ c.memory x
    pub mapped : (x : ℕ) → (c.gpr 4 - stack_size ≤ x) × (x < c.gpr 4) → IsMapped d.memory x

  module _ (Q : Core → Ins → Type 0) (first : Q c (AluImm Sub 4 (pos stack_size))) (calm : (u : Core) (i : Ins) → Near Q begin begin_low u → Q u i) (own : (x : ℕ) → (c.gpr 4 - stack_size ≤ x) × (x < c.gpr 4) → IsMapped c.memory x) where
    begins : Near Q begin begin_low begin
    begins = record { others = λ r n k. refl; outside = λ x out. refl; mapped = λ x i. own x (omega (arith, i.0, stack), omega (arith, i.1, stack, room)) }

    pub entry_line : (arg : ℕ → ℕ) (fills : List (Source × ℕ)) → Ascend 0 fills → AllReady Q begin begin_low calm arg fills
        → (d : Core) × Line Q (AluImm Sub 4 (pos stack_size) ∷ (fills_code fills ++ Lea 7 (away 4 block_at) ∷ [])) c d × Entered arg fills d
    entry_line arg fills up ready =
        let a = fills_line Q begin begin_low calm arg 0 fills up ready begin begins in
        let u : Core = a.0 in
        let near = a.2.near in
        let p = address u (away 4 block_at) in
        let d : Core = with_gpr u 7 p in
        let rsp_is : u.gpr 4 ≡ c.gpr 4 - stack_size = near.others 4 (λ q. omega (arith, q)) (λ q. omega (arith, q)) ∙ stack in
        let at : p ≡ c.gpr 4 - stack_size + block_at = at_away u 4 (c.gpr 4 - stack_size) block_at rsp_is (omega (arith, low)) in (
          d,
          (first, (begin, refl, line_append Q (fills_code fills) (Lea 7 (away 4 block_at) ∷ []) begin u d a.1 (calm u (Lea 7 (away 4 block_at)) near, (d, refl, refl)))),
          record {
            stack = omega (arith, rsp_is, room);
            block = at ∙ ap (λ x. x + block_at) (sym rsp_is);
            words = subst (λ r. AllFilled r arg u.memory fills) stack a.2.words;
            others = λ r n k m o. change_other u.gpr 7 p r m ∙ near.others r n o ∙ change_other c.gpr 4 (alu_result Sub (c.gpr 4) (wrap 64 (pos stack_size))) r k;
            outside = λ x out. near.outside x (λ i. out (omega (arith, i.0, stack), omega (arith, i.1, stack, room)));
            mapped = λ x i. near.mapped x (omega (arith, i.0, stack), omega (arith, i.1, stack, room));
          },
        )
