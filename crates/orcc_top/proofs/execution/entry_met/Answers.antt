use Rattle.std.proofs.Common.{◌+◌, ap, sym, ◌∙◌}
use Rattle.orc_program.proofs.FactLaws.{kept_facts}
use Rattle.orc_image.specs.Spelling.{FunctionValue}
use Rattle.orcc_top.proofs.execution.entry_met.Goals as goal

pub meets-requires : goal.meets-requires
meets-requires c =
    (kept_facts c.f.inside.two_d (c.f.inside.dests + c.f.inside.sources) c.f.inside.facts c.f.invariant.facts).count
    ∙ ap (λ (x : FunctionValue). x.dests + x.sources) c.f.view_is ∙ sym c.in_ok-f.ensures.arrays
