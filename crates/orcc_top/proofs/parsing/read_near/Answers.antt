use Rattle.std.proofs.Common.{◌≡◌, ◌∙◌, None, Some, ap, sym, string_bytes}
use Rattle.orc_program.specs.Program.{ProgramValue, first_far_line}
use Rattle.orc_text.specs.Reads.{Reads}
use Rattle.orcc_top.specs.Texts.{TellsFault}
use Rattle.orcc_top.proofs.Refused.{fault_tells, far_refuses, near_read}
use Rattle.orcc_top.proofs.parsing.read_near.Goals as goal

pub returns-in-Err : goal.returns-in-Err
returns-in-Err c =
    let tells : TellsFault c.args.text.now (string_bytes c.in-Err.line) = rw c.in-Err.is at c.in_ok-program.ensures in
    fault_tells c.args.text.now _ tells

pub returns-in_ok-far_line-in-Some : goal.returns-in_ok-far_line-in-Some
returns-in_ok-far_line-in-Some c =
    let reads : Reads c.args.text.now c.in-Ok.program = rw c.in-Ok.is at c.in_ok-program.ensures in
    let first : first_far_line c.as_slice.result.now ≡ Some c.in-Some.line = sym c.first_far_line.ensures ∙ c.in-Some.is in
    far_refuses c.args.text.now _ c.in-Ok.program c.as_slice.result.now c.in-Some.line reads
    (c.as_slice.ensures ∙ ap (λ (p : ProgramValue). p.functions) c.program.view_is) first c.in_ok-far_line-in-Some.ensures

pub returns-in-None : goal.returns-in-None
returns-in-None c =
    let reads : Reads c.args.text.now c.in-Ok.program = rw c.in-Ok.is at c.in_ok-program.ensures in
    let none : first_far_line c.as_slice.result.now ≡ None = sym c.first_far_line.ensures ∙ c.in-None.is in
    near_read c.args.text.now c.in-Ok.program c.as_slice.result.now reads
    (c.as_slice.ensures ∙ ap (λ (p : ProgramValue). p.functions) c.program.view_is) none
