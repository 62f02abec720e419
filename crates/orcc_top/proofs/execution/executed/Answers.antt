use Rattle.std.proofs.Common.{sym, subst}
use Rattle.orc_bits.specs.Parts.{memory_of}
use Rattle.orc_worlds.specs.Mapped.{AreMapped}
use Rattle.orc_worlds.proofs.Leaving.{segments_kept, block_kept}
use Rattle.orcc_top.proofs.execution.executed.Goals as goal

pub parts_now-requires : goal.parts_now-requires
parts_now-requires c =
    subst (AreMapped (memory_of c.run-end.new.m.memory)) (sym c.as_slice.ensures) (segments_kept _ c.args.job.now _ _ _ _ _ c.run-end.result c.requires.kept c.in_ok-m.ensures.start c.run-end.ensures.ends)

pub sums_of-requires-clause-mapped : goal.sums_of-requires-clause-mapped
sums_of-requires-clause-mapped c = block_kept _ c.args.job.now _ _ _ _ _ c.run-end.result c.in_ok-m.ensures.start c.run-end.ensures.ends
