use Rattle.std.proofs.Common.{◌≡◌, ℕ, ◌+◌, List, ◌++◌, length, sym, ap, subst}
use Rattle.orc_image.specs.Spelling.{ImageValue, facts_bytes, function_bytes}
use Rattle.orc_image.proofs.Growing.{Fields, function_with, fields_bytes, fields_size}
use Rattle.orc_image.proofs.reading.read_function.Goals as goal

fields : (c : goal.In-Ok) → Fields c.args.seen.now.version c.in_ok-name.name c.in_ok-two_d.field-0 c.in_ok-dests.dests c.in_ok-sources.sources c.in_ok-params.params c.in_ok-accs.accs c.in_ok-facts.facts c.in_ok-bytes.bytes.now
    c.args.reader.now c.name.new.self c.byte.new.self c.byte-2.new.self c.byte-3.new.self c.byte-4.new.self c.byte-5.new.self c.facts.new.self c.code.new.self
fields c =
    let version = ap (λ (i : ImageValue). i.version) c.seen.view_is in
    let facts = subst (λ v. (c.byte-5.new.self.rest ≡ facts_bytes v c.in_ok-dests.dests c.in_ok-facts.facts ++ c.facts.new.self.rest) × (c.facts.new.self.at ≡ c.byte-5.new.self.at + length (facts_bytes v c.in_ok-dests.dests c.in_ok-facts.facts))) version c.in_ok-facts.ensures.spelled in
    record {
      the_name = c.in_ok-name.ensures.spelled;
      the_flags = c.in_ok-two_d.ensures.spelled;
      the_dests = c.in_ok-dests.ensures.spelled;
      the_sources = c.in_ok-sources.ensures.spelled;
      the_params = c.in_ok-params.ensures.spelled;
      the_accs = c.in_ok-accs.ensures.spelled;
      the_facts = facts;
      the_code = c.in_ok-bytes.ensures.spelled;
      few = c.in_ok-two_d.ensures.within.1;
    }

pub returns-in-Ok-clause-spelled : goal.returns-in-Ok-clause-spelled
returns-in-Ok-clause-spelled c =
    let v = c.args.seen.now.version in
    let made = function_with c.in_ok-name.name c.in_ok-two_d.field-0 c.in_ok-dests.dests c.in_ok-sources.sources c.in_ok-params.params c.in_ok-accs.accs c.in_ok-facts.facts in
    subst (λ (code : List ℕ). (c.args.reader.now.rest ≡ function_bytes v (made code) ++ c.code.new.self.rest) × (c.code.new.self.at ≡ c.args.reader.now.at + length (function_bytes v (made code)))) (sym c.in-Ok.ensures)
    (fields_bytes _ _ _ _ _ _ _ _ _ _ _ _ _ _ _ _ _ _ (fields c), fields_size _ _ _ _ _ _ _ _ _ _ _ _ _ _ _ _ _ _ (fields c))
