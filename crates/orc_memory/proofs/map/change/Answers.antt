use Rattle.std.proofs.Common.{◌<◌, ◌≤◌, ◌-◌, ◌≡◌, length, arith, sym, ap, ◌∙◌, Some, get_or, is_some}
use Rattle.orc_bits.specs.declared.parts.Part.{Part}
use Rattle.orc_bits.proofs.PartLaws.{found, memory_changed, layout_changed}
use Rattle.orc_memory.proofs.map.change.Goals as goal

pub overflow_sub-i : goal.overflow_sub-i
overflow_sub-i c =
    let p : Part = get_or c.args.parts.now c.in-Some.k c.index-parts-k.result in
    (found c.args.parts.now c.args.at c.in-Some.k p c.in-Some.ensures.value (ap (get_or c.args.parts.now c.in-Some.k) c.index-parts-k.is)).low

pub set-requires : goal.set-requires
set-requires c =
    let p : Part = get_or c.args.parts.now c.in-Some.k c.index-parts-k.result in
    (found c.args.parts.now c.args.at c.in-Some.k p c.in-Some.ensures.value (ap (get_or c.args.parts.now c.in-Some.k) c.index-parts-k.is)).high

pub returns-in-Some-clause-mapped : goal.returns-in-Some-clause-mapped
returns-in-Some-clause-mapped c =
    sym (ap is_some (found c.args.parts.now c.args.at c.in-Some.k c.index-parts-k.result c.in-Some.ensures.value c.index-parts-k.is).byte)

pub returns-in-Some-clause-memory : goal.returns-in-Some-clause-memory
returns-in-Some-clause-memory c =
    let p : Part = get_or c.args.parts.now c.in-Some.k c.index-parts-k.result in
    memory_changed c.args.parts.now c.args.at c.args.b c.in-Some.k p c.set.new.self c.in-Some.ensures.value (ap (get_or c.args.parts.now c.in-Some.k) c.index-parts-k.is) c.set.ensures

pub returns-in-Some-clause-layout : goal.returns-in-Some-clause-layout
returns-in-Some-clause-layout c =
    let p : Part = get_or c.args.parts.now c.in-Some.k c.index-parts-k.result in
    layout_changed c.args.parts.now c.args.at c.args.b c.in-Some.k p c.set.new.self (ap (get_or c.args.parts.now c.in-Some.k) c.index-parts-k.is) c.set.ensures
