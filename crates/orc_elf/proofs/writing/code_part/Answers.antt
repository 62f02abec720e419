use Rattle.std.proofs.Common.{◌++◌, ap, ◌∙◌}
use Rattle.orc_elf.proofs.Written.{one_code, all_codes}
use Rattle.orc_elf.proofs.writing.code_part.Goals as goal

pub loop-e-preserved : goal.loop-e-preserved
loop-e-preserved c =
    let e = c.e-item.result in
    let grown = c.in_ok-extend_from_slice.ensures.items ∙ ap (λ t. c.pad.new.out.items ++ t) c.code_bytes.ensures.bytes ∙ ap (λ t. t ++ e.code) c.in_ok-pad.ensures in
    one_code c.loop-e.out.items c.args.entries.now c.loop-e.e-index e _ _ c.loop-e-test.true c.e-item.is grown c.loop-e.invariant

pub returns : goal.returns
returns c = all_codes c.loop-e.out.items c.args.entries.now c.loop-e.e-index _ c.loop-e-test.false c.loop-e.invariant
