use Rattle.std.proofs.Common.{◌*◌, ◌^◌, ◌<◌, w64, arith}
use Rattle.std.proofs.Math.Facts.{Fits-of_lt}
use Rattle.orc_plan.proofs.Counted.{needs_long, need_there}
use Rattle.orc_plan.proofs.counting.need.Goals as goal

pub offset_bounds-as_slice-j : goal.offset_bounds-as_slice-j
offset_bounds-as_slice-j c =
    let long = needs_long c.args.core.now.steps c.needs.result.items c.as_slice.result.now _ c.as_slice.ensures.value c.needs.ensures in
    Fits-of_lt {w = w64} (let n : c.args.j * 4 < 2 ^ 64 = omega (arith, long, c.requires, c.as_slice.ensures.fits) in n)

pub bounds-as_slice-j : goal.bounds-as_slice-j
bounds-as_slice-j c = omega (arith, needs_long c.args.core.now.steps c.needs.result.items c.as_slice.result.now _ c.as_slice.ensures.value c.needs.ensures, c.requires)

pub returns : goal.returns
returns c = need_there c.args.core.now.steps c.needs.result.items c.as_slice.result.now c.args.j c.as_slice.ensures.value c.needs.ensures c.requires
