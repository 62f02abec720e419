use Rattle.std.proofs.Common.{pos, get_or, rules, arith}
use Rattle.std.specs.Int.{w32}
use Rattle.std.specs.Int.RustNames.{FitsSigned}
use Rattle.std.proofs.lemmas.Int.{to_z-of_z}
use Rattle.orc_frame.proofs.Grown.{patterns_more}
use Rattle.orc_frame.proofs.lists.push_patterns.Goals as goal

pub loop-k-preserved : goal.loop-k-preserved
loop-k-preserved c =
    let at = get_or c.deref-in-loop-k.result.now c.loop-k.k (pos 0) in
    let fits : FitsSigned w32 at = search rules in
    patterns_more c.args.list.now c.loop-k.list c.push_pattern.new.list c.args.layout.now c.loop-k.k _ (pos 0) _ c.as_slice.result.now c.deref.result.now c.deref-in-loop-k.result.now c.requires (omega arith) c.loop-k.invariant c.in_ok-push_pattern.ensures c.as_slice.ensures.value c.deref.ensures.0 c.deref-in-loop-k.ensures.0 (to_z-of_z w32 at fits)
