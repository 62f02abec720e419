use Rattle.std.proofs.Common.{ap, ◌≡◌, ◌∙◌, ◌++◌, ℕ, List, [], ◌∷◌, arith}
use Rattle.orc_program.specs.Need.{steps}
use Rattle.x86_ins.specs.declared.ins.Ins.{Ins}
use Rattle.x86_ins.specs.declared.ins.Ins.TheVariants.{Ret}
use Rattle.x86_flow.specs.Flow.{Plain, flat, spell_all}
use Rattle.x86_flow.specs.Tree.{flat_of}
use Rattle.orc_frame.specs.declared.frame.Layout.{Layout}
use Rattle.orc_frame.specs.Function.{subject_of}
use Rattle.orc_frame.proofs.Counted.{ok_map}
use Rattle.orc_region.proofs.Turn.Fits.{elements_few}
use Rattle.orc_region.proofs.Checked.Layouts.{two_d_is}
use Rattle.orc_region.specs.Code.{IsElements}
use Rattle.orc_region.specs.Elements.{AreOf}
use Rattle.orc_asm.specs.Function.{RunsFully, HasOnly}
use Rattle.orc_asm.specs.Passing.{PassesFully}
use Rattle.orc_asm.specs.Rows.{whole_flow}
use Rattle.orc_asm.proofs.Function.Whole.{HasCodeLength, whole_runs, front_spelled, behind_spelled}
use Rattle.orc_asm.proofs.Row.Built.{one_more}
use Rattle.orc_asm.proofs.Targeted.{body_only, return_for}
use Rattle.orc_asm.proofs.assembly.code_of.Goals as goal
use Rattle.orc_asm.proofs.assembly.code_of.Goals.{After-whole_code}

pub row_flow-requires : goal.row_flow-requires
row_flow-requires c = record {
  of = (c.args.f.now, record { kept = c.counts_of-counts.ensures.kept; steps = c.requires.steps; sizes = c.requires.sizes; lanes = c.requires.lanes; layout = c.layout-layout.ensures.value });
}

pub whole_code-requires-clause-few : goal.whole_code-requires-clause-few
whole_code-requires-clause-few c =
    let are : AreOf c.args.f.now c.args.placed.now c.layout-layout.result = record { kept = c.counts_of-counts.ensures.kept; steps = c.requires.steps; sizes = c.requires.sizes; lanes = c.requires.lanes; layout = c.layout-layout.ensures.value } in
    elements_few c.args.target c.args.f.now c.counts_of-counts.ensures.kept c.args.placed.now.places _ (c.in_ok-elements.ensures.is c.args.f.now are)

pub whole_code-requires-clause-first_spelled : goal.whole_code-requires-clause-first_spelled
whole_code-requires-clause-first_spelled c = front_spelled c.args.f.now c.counts_of-counts.ensures.kept c.layout-layout.result c.layout-layout.ensures.value c.args.placed.now.places c.in_ok-first.first c.as_slice.result.now c.in_ok-first.ensures.allowed
    (c.as_slice.ensures ∙ c.in_ok-append.ensures ∙ ap (λ (l : List Ins). c.in_ok-first.first ++ l) c.in_ok-resident_loads.ensures)

pub whole_code-requires-clause-last_spelled : goal.whole_code-requires-clause-last_spelled
whole_code-requires-clause-last_spelled c = behind_spelled c.args.f.now c.counts_of-counts.ensures.kept c.layout-layout.result c.layout-layout.ensures.value c.args.placed.now.places c.in_ok-epilogue.field-0 c.as_slice-2.result.now c.in_ok-epilogue.ensures.allowed
    (c.as_slice-2.ensures ∙ c.in_ok-append-2.ensures ∙ ap (λ (l : List Ins). l ++ c.in_ok-epilogue.field-0) c.in_ok-last.ensures)

-- the tree does the function's elements
elements_are : (c : After-whole_code) → IsElements c.args.f.now c.args.target c.args.placed.now.places c.in_ok-elements.elements
elements_are c = c.in_ok-elements.ensures.is c.args.f.now (record { kept = c.counts_of-counts.ensures.kept; steps = c.requires.steps; sizes = c.requires.sizes; lanes = c.requires.lanes; layout = c.layout-layout.ensures.value })

-- the instructions before the return: the rows between the frame's lists
abbrev body : (c : After-whole_code) → List Ins
body c = flat (whole_flow c.as_slice.result.now (Plain (flat_of c.in_ok-elements.elements)) c.as_slice-2.result.now c.layout-layout.result.two_d c.counts_of-counts.result.dests c.counts_of-counts.result.sources)

runs : (c : After-whole_code) (code : List ℕ) → code ≡ spell_all (body c ++ Ret ∷ [])
    → RunsFully c.args.f.now c.args.target code × HasCodeLength code × PassesFully (subject_of c.args.f.now) (steps c.args.f.now c.args.target) (spell_all (body c))
runs c code e = whole_runs c.args.target c.args.f.now c.counts_of-counts.ensures.kept c.layout-layout.result c.in_ok-first.first c.in_ok-epilogue.field-0
    (record {
      layout = c.layout-layout.ensures.value;
      prepares = c.in_ok-first.ensures.prepares;
      first_own = c.in_ok-first.ensures.own;
      first_allowed = c.in_ok-first.ensures.allowed;
      first_bytes = c.in_ok-first.ensures.bytes;
      first_short = c.in_ok-first.ensures.short;
      finishes = c.in_ok-epilogue.ensures.finishes;
      last_own = c.in_ok-epilogue.ensures.own;
      last_allowed = c.in_ok-epilogue.ensures.allowed;
      last_bytes = c.in_ok-epilogue.ensures.bytes;
      last_short = c.in_ok-epilogue.ensures.short;
    })
    c.args.placed.now.places _ (elements_are c) c.as_slice.result.now c.as_slice-2.result.now
    (c.as_slice.ensures ∙ c.in_ok-append.ensures ∙ ap (λ (l : List Ins). c.in_ok-first.first ++ l) c.in_ok-resident_loads.ensures) (c.as_slice-2.ensures ∙ c.in_ok-append-2.ensures ∙ ap (λ (l : List Ins). l ++ c.in_ok-epilogue.field-0) c.in_ok-last.ensures)
    code c.layout-layout.result.two_d c.counts_of-counts.result.dests c.counts_of-counts.result.sources (ap (λ (x : Layout). x.two_d) c.layout-layout.ensures.value ∙ two_d_is c.args.f.now) c.counts_of-counts.ensures.dests c.counts_of-counts.ensures.sources e

only : (c : After-whole_code) → HasOnly c.args.target (spell_all (body c))
only c = body_only c.args.target c.args.f.now c.counts_of-counts.ensures.kept c.layout-layout.result c.layout-layout.ensures.value c.args.placed.now.places c.in_ok-first.first c.in_ok-epilogue.field-0
    c.in_ok-first.ensures.allowed c.in_ok-epilogue.ensures.allowed c.in_ok-first.ensures.sse2 c.in_ok-epilogue.ensures.sse2 c.in_ok-elements.elements (elements_are c) c.in_ok-elements.ensures.target c.as_slice.result.now c.as_slice-2.result.now
    (c.as_slice.ensures ∙ c.in_ok-append.ensures ∙ ap (λ (l : List Ins). c.in_ok-first.first ++ l) c.in_ok-resident_loads.ensures) (c.as_slice-2.ensures ∙ c.in_ok-append-2.ensures ∙ ap (λ (l : List Ins). l ++ c.in_ok-epilogue.field-0) c.in_ok-last.ensures)
    c.layout-layout.result.two_d c.counts_of-counts.result.dests c.counts_of-counts.result.sources c.counts_of-counts.ensures.few.0 c.counts_of-counts.ensures.few.1

pub returns-clause-inside : goal.returns-clause-inside
returns-clause-inside c = ok_map c.whole_code.result _ _ (λ code e. (runs (goal.at.returns-clause-inside c).After-whole_code code e).0) c.whole_code.ensures

pub returns-clause-passes : goal.returns-clause-passes
returns-clause-passes c =
    let after = (goal.at.returns-clause-passes c).After-whole_code in
    ok_map c.whole_code.result _ _ (λ code e. (spell_all (body after), e ∙ one_more (body after) Ret, (runs after code e).2, only after)) c.whole_code.ensures

pub returns-clause-target : goal.returns-clause-target
returns-clause-target c =
    let after = (goal.at.returns-clause-target c).After-whole_code in
    ok_map c.whole_code.result _ _ (λ code e. return_for c.args.target (spell_all (body after)) code (e ∙ one_more (body after) Ret) (only after)) c.whole_code.ensures

pub returns-clause-bytes : goal.returns-clause-bytes
returns-clause-bytes c = ok_map c.whole_code.result _ _ (λ code e. let long = (runs (goal.at.returns-clause-bytes c).After-whole_code code e).1 in (long.0, omega (arith, long.1))) c.whole_code.ensures

pub returns-clause-room : goal.returns-clause-room
returns-clause-room c = ok_map c.whole_code.result _ _ (λ code e. (runs (goal.at.returns-clause-room c).After-whole_code code e).1.1) c.whole_code.ensures
