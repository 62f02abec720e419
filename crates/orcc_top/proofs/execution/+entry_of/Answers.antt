use Rattle.std.proofs.Common.{◌≡◌, Some, None, sym, subst, MatchOption, Option}
use Rattle.std.specs.List.{find}
use Rattle.std.specs.Str.{bytes_eq}
use Rattle.std.proofs.lemmas.List.{take_rest}
use Rattle.orc_image.specs.Spelling.{FunctionValue}
use Rattle.orcc_top.proofs.Calls.{find_behind}
use Rattle.orcc_top.proofs.execution.+entry_of.Goals as goal

pub returns-clause-first : goal.returns-clause-first
returns-clause-first t c =
    let e = find_behind (λ (g : FunctionValue). bytes_eq c.args.name.now g.name) c.args.functions.now c.f-item.result c.in-len1-up.len_at_least c.f-item.is (sym c.if-has_name.ensures.same) in
    subst (λ (o : Option FunctionValue). MatchOption c.entry_of.result (o ≡ None) (λ f. o ≡ Some f.now)) (sym e) (simp take_rest at c.entry_of.ensures.first)
