use Rattle.std.proofs.Common.{◌+◌, ◌++◌, length, ap, ◌∙◌, arith}
use Rattle.orc_elf.specs.Layout.{gap, symbol_bytes}
use Rattle.orc_elf.proofs.Written.{one_more_symbol, all_symbols, name_length}
use Rattle.orc_elf.proofs.writing.put_symbols.Goals as goal

pub loop-e-preserved : goal.loop-e-preserved
loop-e-preserved c =
    let e = c.e-item.result in
    let out = c.loop-e.out.items in
    let g = c.gap-at.ensures.gap in
    let size = ap length c.code_bytes-size.ensures.bytes in
    let name = ap length c.name_bytes.ensures.bytes in
    let l = name_length e.name c.name_bytes.ensures.kept.name in
    let grown = c.in_ok-put_symbol.ensures ∙ ap (λ n. out ++ symbol_bytes 0x12 c.loop-e.name (c.loop-e.at + n) (length c.code_bytes-size.result.now)) g ∙ ap (λ n. out ++ symbol_bytes 0x12 c.loop-e.name (c.loop-e.at + gap 16 c.loop-e.at) n) size in
    let step = one_more_symbol out c.args.entries.now c.loop-e.e-index c.loop-e.name c.loop-e.at e _ _ c.loop-e-test.true c.e-item.is grown c.loop-e.invariant.symbols in
    record {
      symbols = rw (g, size, name) step;
      name_low = omega (arith, name, l.1, c.loop-e.invariant.name_low);
      at_low = omega (arith, size, c.gap-at.ensures.small, c.code_bytes-size.ensures.kept.few_code, c.loop-e.invariant.at_low);
    }

pub returns : goal.returns
returns c = all_symbols c.loop-e.out.items c.args.entries.now c.loop-e.e-index c.loop-e.name c.loop-e.at _ c.loop-e-test.false c.loop-e.invariant.symbols
