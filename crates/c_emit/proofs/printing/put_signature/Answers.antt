use Rattle.std.proofs.Common.{codes, ◌++◌}
use Rattle.c_emit.specs.Text.{line_text, numbered}
use Rattle.c_emit.specs.declared.lines.Line.TheVariants.{Array, Param, Pointer}
use Rattle.c_emit.proofs.Chain.{chain}
use Rattle.c_emit.proofs.printing.put_signature.Goals as goal

pub returns : goal.returns
returns c =
    let arrays = numbered (line_text Array) 0 c.args.arrays in
    let params = numbered (line_text Param) 0 c.args.params in
    let accs = numbered (line_text Pointer) 0 c.args.accs in
    let end = codes ")\n" in
    let head = codes "(int64_t n, int64_t m" in
    chain c.args.out.now.items (codes "void orc_") (c.args.name.now ++ (head ++ (arrays ++ (params ++ (accs ++ end))))) c.in_ok-extend_from_slice.ensures.items
    (chain c.extend_from_slice.new.self.items c.args.name.now (head ++ (arrays ++ (params ++ (accs ++ end)))) c.in_ok-extend_from_slice-2.ensures.items
    (chain c.extend_from_slice-2.new.self.items head (arrays ++ (params ++ (accs ++ end))) c.in_ok-extend_from_slice-3.ensures.items
    (chain c.extend_from_slice-3.new.self.items arrays (params ++ (accs ++ end)) c.in_ok-put_lines.ensures
    (chain c.put_lines.new.out.items params (accs ++ end) c.in_ok-put_lines-2.ensures
    (chain c.put_lines-2.new.out.items accs end c.in_ok-put_lines-3.ensures c.in_ok-extend_from_slice-4.ensures.items)))))
