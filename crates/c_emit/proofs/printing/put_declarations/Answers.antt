use Rattle.std.proofs.Common.{codes, ◌++◌}
use Rattle.c_emit.specs.Text.{line_text, numbered}
use Rattle.c_emit.specs.declared.lines.Line.TheVariants.{Temp, Sum, Start}
use Rattle.c_emit.proofs.Chain.{chain}
use Rattle.c_emit.proofs.printing.put_declarations.Goals as goal

pub returns : goal.returns
returns c =
    let temps = numbered (line_text Temp) 0 c.args.temps in
    let sums = numbered (line_text Sum) 0 c.args.accs in
    let starts = numbered (line_text Start) 0 c.args.accs in
    chain c.args.out.now.items (codes "{\nint64_t i;\nint64_t j;\n") (temps ++ (sums ++ starts)) c.in_ok-extend_from_slice.ensures.items
    (chain c.extend_from_slice.new.self.items temps (sums ++ starts) c.in_ok-put_lines.ensures
    (chain c.put_lines.new.out.items sums starts c.in_ok-put_lines-2.ensures c.in_ok-put_lines-3.ensures))
