use Rattle.std.proofs.Common.{false, true, ◌<◌, arith}
use Rattle.orc_jobs.specs.World.{stands_of}
use Rattle.orc_jobs.proofs.Lefts.{seeks_here, seeks_behind, seeks_next, ended_is, inside_all}
use Rattle.orc_jobs.proofs.drawing.nth_left.Goals as goal

pub returns-then-skip-eq0-clause-value : goal.returns-then-skip-eq0-clause-value
returns-then-skip-eq0-clause-value c =
    let rs = c.args.runners.now in
    let k = c.loop-k.k in
    let e = ended_is rs k c.index-runners-k.result c.has_ended.result false c.loop-k-test.true c.index-runners-k.is c.has_ended.ensures.value c.if-has_ended.false in
    seeks_here (stands_of rs) c.args.j k c.loop-k.skip (inside_all rs k c.loop-k-test.true) c.loop-k.invariant e c.if-skip-eq0.true

pub loop-k-preserved-then-has_ended : goal.loop-k-preserved-then-has_ended
loop-k-preserved-then-has_ended c =
    let rs = c.args.runners.now in
    let k = c.loop-k.k in
    let e = ended_is rs k c.index-runners-k.result c.has_ended.result true c.loop-k-test.true c.index-runners-k.is c.has_ended.ensures.value c.if-has_ended.true in
    seeks_behind (stands_of rs) c.args.j k c.loop-k.skip (inside_all rs k c.loop-k-test.true) c.loop-k.invariant e

pub loop-k-preserved : goal.loop-k-preserved
loop-k-preserved c =
    let rs = c.args.runners.now in
    let k = c.loop-k.k in
    let e = ended_is rs k c.index-runners-k.result c.has_ended.result false c.loop-k-test.true c.index-runners-k.is c.has_ended.ensures.value c.if-has_ended.false in
    let z = c.if-skip-eq0.false in
    seeks_next (stands_of rs) c.args.j k c.loop-k.skip (inside_all rs k c.loop-k-test.true) c.loop-k.invariant e (let some : 0 < c.loop-k.skip = grind (arith, z) in some)
