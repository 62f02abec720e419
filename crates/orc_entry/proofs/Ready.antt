-- From a good entry on the arguments are where the list looks for them.
use Rattle.std.proofs.Common.{◌≡◌, ◌≢◌, ℕ, zero, suc, ◌+◌, ◌^◌, ◌<◌, ◌≤◌, Bool, true, false, nat_lt, if◌then◌else◌, pos, List, [], ◌∷◌, Some, ap, ◌∙◌, subst, arith}
use Rattle.orc_bits.specs.Numbers.{wrap}
use Rattle.orc_bits.specs.Memory.{word}
use Rattle.orc_bits.proofs.LaneLaws.{change_other}
use Rattle.orc_bits.proofs.Memories.{some_one, value_small}
use Rattle.x86_ins.specs.declared.ins.AluOp.TheVariants.{Sub}
use Rattle.x86_ins.specs.declared.ins.Ins.{Ins}
use Rattle.x86_ins.specs.Machine.{Core, Bounded, alu_result}
use Rattle.orc_entry.specs.declared.sources.Source.{Source}
use Rattle.orc_entry.specs.declared.sources.Source.TheVariants as source
use Rattle.orc_entry.specs.Arguments.{argument_at, in_registers, register_of, stack_word}
use Rattle.orc_entry.specs.Code.{stack_size}
use Rattle.orc_entry.proofs.Fills.{Near, IsReady, AllReady}
use Rattle.orc_entry.proofs.Entering.{begin, begin_low, stack}
use Rattle.orc_entry.proofs.Known.{Known, AllKnown}

not_stack : (i : ℕ) → register_of i ≢ 4
not_stack zero e = omega (arith, e)
not_stack (suc zero) e = omega (arith, e)
not_stack (suc (suc zero)) e = omega (arith, e)
not_stack (suc (suc (suc zero))) e = omega (arith, e)
not_stack (suc (suc (suc (suc zero)))) e = omega (arith, e)
not_stack (suc (suc (suc (suc (suc i))))) e = omega (arith, e)

argument_small : (c : Core) (i v : ℕ) → Bounded c → argument_at c i ≡ Some v → v < 2 ^ 64
argument_small c i v bounded = go (nat_lt i in_registers)
  where
    go : (b : Bool) → (if b then Some (c.gpr (register_of i)) else word c.memory (c.gpr 4 + stack_word i)) ≡ Some v → v < 2 ^ 64
    go true e = subst (λ x. x < 2 ^ 64) (some_one (c.gpr (register_of i)) v e) (bounded.gpr (register_of i))
    go false e = value_small 8 c.memory (c.gpr 4 + stack_word i) v bounded.memory e

module _ (c : Core) (room : stack_size ≤ c.gpr 4) (low : c.gpr 4 + 1024 < 2 ^ 61) (Q : Core → Ins → Type 0) (calm : (u : Core) (i : Ins) → Near Q (begin c room low) (begin_low c room low) u → Q u i) where
  abbrev lowered : Core
  lowered = begin c room low

  there : (i v : ℕ) → argument_at c i ≡ Some v → (if nat_lt i in_registers then Some (lowered.gpr (register_of i)) else word lowered.memory (lowered.gpr 4 + stack_size + stack_word i)) ≡ Some v
  there i v = go (nat_lt i in_registers)
    where
      kept : lowered.gpr (register_of i) ≡ c.gpr (register_of i)
      kept = change_other c.gpr 4 (alu_result Sub (c.gpr 4) (wrap 64 (pos stack_size))) (register_of i) (not_stack i)

      back : lowered.gpr 4 + stack_size + stack_word i ≡ c.gpr 4 + stack_word i
      back = let e : lowered.gpr 4 + stack_size ≡ c.gpr 4 = omega (arith, stack c room low, room) in ap (λ x. x + stack_word i) e

      go : (b : Bool) → (if b then Some (c.gpr (register_of i)) else word c.memory (c.gpr 4 + stack_word i)) ≡ Some v → (if b then Some (lowered.gpr (register_of i)) else word lowered.memory (lowered.gpr 4 + stack_size + stack_word i)) ≡ Some v
      go true e = ap Some kept ∙ e
      go false e = ap (λ x. word c.memory x) back ∙ e

  pub ready : (count : ℕ) (arg : ℕ → ℕ) → count < 64 → Bounded c → ((i : ℕ) → i < count → argument_at c i ≡ Some (arg i)) → (xs : List (Source × ℕ)) → AllKnown count xs → AllReady Q lowered (begin_low c room low) calm arg xs
  ready count arg few bounded at [] known = tt
  ready count arg few bounded at (x ∷ xs) known = (one x.0 known.0, ready count arg few bounded at xs known.1)
    where
      one : (from : Source) → Known count from → IsReady Q lowered (begin_low c room low) calm arg from
      one (source.Argument k i) l = (omega (arith, l, few), there i (arg i) (at i l), argument_small c i (arg i) bounded (at i l))
      one (source.Number n) l = l
