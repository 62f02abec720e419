use Rattle.std.proofs.Common.{◌+◌, ◌≡◌, ◌++◌, [], map, sym, ap, ◌∙◌, arith}
use Rattle.orc_program.specs.Program.{FunctionValue, ProgramValue}
use Rattle.orc_text.specs.Held.{said_of}
use Rattle.orc_text.proofs.Rest.{left_begins, left_next}
use Rattle.orc_text.proofs.reading.read.Goals as goal

pub loop-rest-init : goal.loop-rest-init
loop-rest-init c =
    let none = c.new.ensures ∙ sym (ap (λ (p : ProgramValue). map (λ (f : FunctionValue). f.name) p.functions ++ []) c.new_program.ensures) in
    (omega arith, record { named = none; place = tt }, left_begins c.args.text.now c.new_program.result c.new_program.ensures)

pub loop-rest-preserved : goal.loop-rest-preserved
loop-rest-preserved c =
    let says = c.in_ok-read_line.ensures.says in
    let counted : c.read_line.new.state.lines ≡ c.loop-rest.state.lines + 1 = ap (λ s. s.lines) says in (
      omega (arith, c.loop-rest.invariant.0, c.next_line.ensures.less, counted),
      c.in_ok-read_line.ensures.held,
      left_next c.args.text.now (said_of c.loop-rest.state) (said_of c.read_line.new.state) c.loop-rest.rest.now c.next_line.result.0.now c.next_line.result.1.now c.content.result.now
          c.loop-rest.invariant.2 c.next_line.ensures.line c.content.ensures.value c.in_ok-read_line.ensures.passes says,
    )
