use Rattle.std.proofs.Common.{◌≡◌, ◌≤◌, ◌∙◌, ap, sym, arith, length, true}
use Rattle.orc_program.specs.declared.program.VarKind.TheVariants as kind
use Rattle.orc_program.specs.Program.{FunctionValue, places_of}
use Rattle.orc_program.specs.Checks.{patterns_of}
use Rattle.orc_program.specs.Facts.{facts_of}
use Rattle.orc_program.specs.Kept.{is_function}
use Rattle.orc_program.proofs.Counts.{vars_few}
use Rattle.orc_frame.specs.Layout.{layout_of, acc_sizes_of}
use Rattle.orc_frame.proofs.Apart.{layout_is, lie_apart}
use Rattle.orc_frame.proofs.slots.layout.Goals as goal

pub params-requires-clause-short : goal.params-requires-clause-short
params-requires-clause-short c =
    let f : FunctionValue = record { name = c.f.inside.name; two_d = c.f.inside.two_d; vars = c.f.inside.vars; insns = c.f.inside.insns; notes = c.f.inside.notes } in
    let few : length c.f.inside.vars ≤ 184 = vars_few f c.f.invariant in
    omega (arith, ap length c.as_slice-2.ensures, few)

pub returns-clause-value : goal.returns-clause-value
returns-clause-value c =
    let f : FunctionValue = record { name = c.f.inside.name; two_d = c.f.inside.two_d; vars = c.f.inside.vars; insns = c.f.inside.insns; notes = c.f.inside.notes } in
    let one : c.args.f.now ≡ f = sym c.f.view_is in
    layout_is f c.patterns-patterns.result.items c.acc_sizes-acc_sizes.result.items c.params.result.items c.len.result c.len-2.result c.pattern_slots.result.items c.sum_slots.result.items c.facts.result
    (c.patterns-patterns.ensures ∙ ap (λ (g : FunctionValue). patterns_of g.vars g.insns) one) (c.acc_sizes-acc_sizes.ensures ∙ ap acc_sizes_of c.as_slice.ensures) (c.params.ensures ∙ ap (places_of kind.Param) c.as_slice-2.ensures) c.len.ensures.value c.len-2.ensures.value c.pattern_slots.ensures c.sum_slots.ensures (c.facts.ensures.value ∙ ap facts_of one)
    ∙ ap layout_of (sym one)

pub returns-clause-apart : goal.returns-clause-apart
returns-clause-apart c =
    let f : FunctionValue = record { name = c.f.inside.name; two_d = c.f.inside.two_d; vars = c.f.inside.vars; insns = c.f.inside.insns; notes = c.f.inside.notes } in
    let is : is_function f ≡ true = c.f.invariant in
    let one : c.args.f.now ≡ f = sym c.f.view_is in
    lie_apart _ c.args.f.now (ap is_function one ∙ is) (returns-clause-value c)
