use Rattle.orc_program.specs.Need.{steps}
use Rattle.orc_frame.specs.Function.{subject_of}
use Rattle.orc_asm.proofs.Calls.Weaker.{runs_quietly}
use Rattle.orcc_top.proofs.laws.entries_are_compiled.Goals as goal

pub returns : goal.returns
returns c f target entry kept near allowed e = (
  record { kept = kept; near = near; dests = e.dests; sources = e.sources; params = e.params; accs = e.accs; runs = e.runs; short = allowed.few_code },
  λ sizes sized. record {
    kept = kept;
    near = near;
    two_d = e.two_d;
    dests = e.dests;
    sources = e.sources;
    params = e.params;
    accs = e.accs;
    facts = e.facts;
    sized = sized;
    runs = runs_quietly (subject_of f) (steps f target) entry.code e.inside;
  },
)
