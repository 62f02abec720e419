use Rattle.std.proofs.Common.{◌≡◌, ◌∙◌, Ok, ap, sym, subst, refl}
use Rattle.orc_bits.specs.Parts.{layout, memory_of}
use Rattle.orc_program.specs.Meaning.{emulate}
use Rattle.orc_job.specs.declared.outcome.EndLine.TheVariants.{Emulated}
use Rattle.orc_job.specs.declared.outcome.Outcome.{Outcome}
use Rattle.orc_job.proofs.Keeping.{low}
use Rattle.orc_worlds.specs.Now.{AreNow}
use Rattle.orcc_top.proofs.Emulated.{are_now, comes_as}
use Rattle.orcc_top.proofs.emulation.emulated.Goals as goal

pub build-requires : goal.build-requires
build-requires c = low c.args.job.memory c.requires.kept.within

pub returns-in-Ok-emulate : goal.returns-in-Ok-emulate
returns-in-Ok-emulate c =
    let e : emulate c.args.f.now c.args.job.call (memory_of c.args.job.memory) ≡ Ok (memory_of c.emulate.new.store, c.in-Ok-emulate.accs.items)
    = ap (λ ps. emulate c.args.f.now c.args.job.call (memory_of ps)) (sym c.in-Ok.ensures.parts) ∙ c.in-Ok-emulate.ensures.ended in
    let now : AreNow (memory_of c.emulate.new.store) c.args.job.memory c.into_parts.result
    = subst (λ ps. AreNow (memory_of c.emulate.new.store) c.args.job.memory ps) (sym c.into_parts.ensures) (are_now c.args.job.memory c.emulate.new.store (c.in-Ok-emulate.ensures.layout ∙ ap layout c.in-Ok.ensures.parts) c.in-Ok.ensures.apart) in
    let o : Outcome = record { end = Emulated; accs = c.in-Ok-emulate.accs; memory = c.into_parts.result } in
    comes_as c.args.job.memory _ _ o e (refl, refl, now)
