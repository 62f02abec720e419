use Rattle.std.proofs.Common.{◌≡◌, ◌+◌, ℕ, true, ap₂, ap, sym, ◌∙◌, subst}
use Rattle.orc_program.specs.declared.known.Facts.{Facts}
use Rattle.orc_program.specs.Facts.{is_facts, is_free, free_facts}
use Rattle.orc_program.proofs.FactLaws.{free_kept, free_free}
use Rattle.orc_image.proofs.reading.Reader.facts.Goals as goal

pub returns-else-version-eq2-clause-kept : goal.returns-else-version-eq2-clause-kept
returns-else-version-eq2-clause-kept c =
    let count : c.from.result + c.from-else-version-eq2.result ≡ c.args.dests + c.args.sources = ap₂ (λ (m n : ℕ). m + n) c.from.ensures c.from-else-version-eq2.ensures in
    let same : c.free_facts.result ≡ free_facts (c.args.dests + c.args.sources) = c.free_facts.ensures ∙ ap free_facts count in
    subst (λ (x : Facts). is_facts c.args.two_d (c.args.dests + c.args.sources) x ≡ true) (sym same) (free_kept c.args.two_d (c.args.dests + c.args.sources))

pub returns-else-version-eq2-clause-free : goal.returns-else-version-eq2-clause-free
returns-else-version-eq2-clause-free c = λ one. subst (λ (x : Facts). is_free x ≡ true) (sym c.free_facts.ensures) (free_free (c.from.result + c.from-else-version-eq2.result))
