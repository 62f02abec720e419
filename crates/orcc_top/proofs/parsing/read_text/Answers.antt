use Rattle.std.proofs.Common.{◌≡◌, Some, ap, option_map}
use Rattle.orc_text.specs.Reads.{text_fault}
use Rattle.orcc_top.specs.declared.refusal.Refusal.TheVariants as refusal
use Rattle.orcc_top.proofs.parsing.read_text.Goals as goal

pub returns-in_ok-line_of-in-Err-Fault : goal.returns-in_ok-line_of-in-Err-Fault
returns-in_ok-line_of-in-Err-Fault c =
    let first : text_fault c.args.text.now ≡ Some (c.in-Err-Fault.line, c.in-Err-Fault.fault) = rw c.in-Err-Fault.field-0-is at c.in-Err-Fault.ensures.tells in
    record {
      refusal = refusal.Text c.in-Err-Fault.line c.in-Err-Fault.fault;
      first = ap (option_map (λ x. refusal.Text x.0 x.1)) first;
      says = c.in_ok-line_of-in-Err-Fault.ensures;
    }
