use Rattle.std.proofs.Common.{◌++◌, ◌∷◌, [], ap, ◌∙◌}
use Rattle.orc_elf.proofs.Written.{one_more_name, all_names}
use Rattle.orc_elf.proofs.writing.name_part.Goals as goal

pub loop-e-preserved : goal.loop-e-preserved
loop-e-preserved c =
    let e = c.e-item.result in
    let grown = c.in_ok-push-2.ensures.items ∙ ap (λ t. t ++ 0 ∷ []) (c.in_ok-extend_from_slice.ensures.items ∙ ap (λ t. c.loop-e.out.items ++ t) c.name_bytes.ensures.bytes) in
    one_more_name c.loop-e.out.items c.args.entries.now c.loop-e.e-index e _ _ c.loop-e-test.true c.e-item.is grown c.loop-e.invariant

pub returns : goal.returns
returns c = all_names c.loop-e.out.items c.args.entries.now c.loop-e.e-index _ c.loop-e-test.false c.loop-e.invariant
