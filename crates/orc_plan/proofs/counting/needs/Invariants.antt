use Rattle.std.proofs.Common.{◌≡◌, ◌≤◌, ◌*◌, length, map, take}
use Rattle.std.specs.List.{range_with_len}
use Rattle.orc_plan.specs.Core.{made_in}
use Rattle.orc_plan.specs.Need.{need_in}
use Rattle.orc_plan.proofs.counting.needs.Given as goal

abbrev pub invariant-loop-j : goal.invariant-loop-j
invariant-loop-j l = record {
  same : l.needs.items ≡ map (need_in l.core.steps) (range_with_len 0 l.j);
  made : l.made ≡ length (made_in (take l.j l.core.steps));
  few : l.made ≤ 2 * l.j;
}
