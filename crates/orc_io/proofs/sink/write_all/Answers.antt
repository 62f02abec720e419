use Rattle.std.proofs.Common.{◌+◌, ◌≤◌, arith, length, subst, sym}
use Rattle.std.proofs.Math.Seq.{take-add}
use Rattle.std.proofs.lemmas.List.{take_rest}
use Rattle.std.specs.Io.KnownBytes.{Appends}
use Rattle.std.proofs.KnownBytes.{Appends-trans}
use Rattle.std.proofs.lemmas.Grind.{common_steps}
use Rattle.orc_io.proofs.sink.write_all.Goals as goal

pub putting-preserved : goal.putting-preserved
putting-preserved g c =
    let h = c.in-Ok.ensures.count.0 in
    let k : c.putting.done + c.in-Ok.count ≤ length c.args.bytes.now = grind (arith, common_steps) in
    let put = rw (take_rest c.args.bytes.now c.putting.done) at c.in-Ok.ensures.bytes in
    (k, omega (arith, c.put.ensures.cause.later), grind (arith, common_steps), subst (Appends _ _) (sym (take-add c.putting.done c.in-Ok.count c.args.bytes.now)) (Appends-trans _ _ _ _ _ c.putting.invariant.3 put))
