use Rattle.std.proofs.Common.{rules, ◌≡◌, ◌-◌, ◌++◌, ◌∙◌, ap, true, length, take, refl}
use Rattle.orc_program.specs.Kept.{is_function}
use Rattle.x86_flow.specs.Flow.{spell_all}
use Rattle.orc_entry.proofs.Around.{entry_spelled, exit_spelled, has_body}
use Rattle.orc_entry.proofs.entry.around.Goals as goal

pub put_list-requires : goal.put_list-requires
put_list-requires c =
    let is : is_function c.args.f.now ≡ true = search rules in
    entry_spelled c.args.f.now c.args.longs.now c.as_slice.result.now is (c.as_slice.ensures ∙ c.in_ok-first.ensures)

pub put_list-requires-2 : goal.put_list-requires-2
put_list-requires-2 c =
    let is : is_function c.args.f.now ≡ true = search rules in
    exit_spelled c.args.f.now c.as_slice-2.result.now is (c.as_slice-2.ensures ∙ c.in_ok-last.ensures)

pub returns-clause-body : goal.returns-clause-body
returns-clause-body c =
    let a = c.new-bytes.result.items in
    let b = c.put_list.new.code.items in
    has_body c.args.f.now c.args.longs.now c.args.code.now (take (length c.args.code.now - 1) c.args.code.now) a b c.extend_from_slice.new.self.items c.put_list-2.new.code.items c.put.new.code.items _
    c.new-bytes.ensures.items
    (c.in_ok-put_list.ensures ∙ ap (λ l. a ++ spell_all l) (c.as_slice.ensures ∙ c.in_ok-first.ensures))
    c.in_ok-extend_from_slice.ensures.items
    (c.in_ok-put_list-2.ensures ∙ ap (λ l. c.extend_from_slice.new.self.items ++ spell_all l) (c.as_slice-2.ensures ∙ c.in_ok-last.ensures))
    c.in_ok-put.ensures
    refl
    c.from_vec.ensures
    (let e : c.len-body.result ≡ length b = search rules in e)
    (let e : c.len-exit.result ≡ length c.extend_from_slice.new.self.items = search rules in e)
