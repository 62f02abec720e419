use Rattle.std.proofs.Common.{◌≡◌, true, IfOk, Result, Ok, Err, sym, subst}
use Rattle.orc_program.specs.Program.{FunctionValue}
use Rattle.orc_program.specs.Kept.{is_function}
use Rattle.c_emit.specs.Body.{emitted}
use Rattle.c_emit.specs.CAs.{CAs, HasShape}
use Rattle.c_emit.proofs.Meant.{emitted_as, emitted_shape}
use Rattle.c_emit.proofs.function.emit.Goals as goal

with_tree : {A E : Type 0} (P : A → Type 0) (r : Result A E) (v : A) → IfOk r (λ c. c ≡ v) → P v → IfOk r P
with_tree P (Ok c) v e h = subst P (sym e) h
with_tree P (Err e) v h p = h

pub returns-clause-shape : goal.returns-clause-shape
returns-clause-shape c = with_tree (HasShape c.args.f.now) c.function_of.result (emitted c.args.f.now) c.function_of.ensures (emitted_shape c.args.f.now)

pub returns-clause-means : goal.returns-clause-means
returns-clause-means c = with_tree (CAs c.args.f.now) c.function_of.result (emitted c.args.f.now) c.function_of.ensures (emitted_as c.args.f.now (subst (λ (f : FunctionValue). is_function f ≡ true) c.f.view_is c.f.invariant) c.requires.near)
