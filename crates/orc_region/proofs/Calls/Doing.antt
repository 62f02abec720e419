-- Structured code that does elements of a row does so wherever its instructions stand in the code of a good call.
use Rattle.std.proofs.Common.{◌≡◌, ℕ, ◌+◌, ◌<◌, ◌≤◌, ◌⊎◌, inr, List, ◌++◌, length, refl, sym, ap, ◌∙◌, subst, arith, length-append}
use Rattle.orc_program.specs.Program.{FunctionValue}
use Rattle.orc_program.specs.Meaning.{State}
use Rattle.orc_program.proofs.Near.{far_array_is}
use Rattle.orc_program.proofs.Mapped.{in_range}
use Rattle.x86_ins.specs.declared.ins.Ins.{Ins}
use Rattle.x86_ins.specs.Machine.{Core, Point, Touches}
use Rattle.x86_ins.specs.Spelling.{IsAllowed}
use Rattle.x86_ins.specs.Way.{Placed, Each, AtMost}
use Rattle.x86_flow.specs.Flow.{Flow, flat, size, spell_all}
use Rattle.x86_flow.specs.Does.{Does}
use Rattle.x86_flow.proofs.Ways.{HasAt, has_all}
use Rattle.x86_flow.proofs.Flow.{Leads, flow_leads, listed, listed_length}
use Rattle.x86_flow.proofs.Plans.{weigh}
use Rattle.x86_flow.proofs.Returning.{each_map}
use Rattle.x86_flow.proofs.Counting.{at_most_more, at_most_weigh}
use Rattle.orc_frame.specs.Parts.{InFrame}
use Rattle.orc_frame.specs.Subject.{Call as Arguments, IsArray, rows}
use Rattle.orc_frame.specs.GoodCall.{GoodCall, lowered}
use Rattle.orc_frame.specs.Function.{IsCellByte, subject_of}
use Rattle.orc_region.specs.Stores.{TouchesCell, StoresFirst}
use Rattle.orc_region.specs.Elements.{meant_call, HasCome, Holds, InElements, InFarElements, IsQuiet, InWords, Stands, TouchesThese, Done}
use Rattle.orc_region.proofs.Calls.Wide.{GoesWide, cell_weight}

-- a byte of an element that a far load reads is a byte of a cell of the call
pub far_cell : (f : FunctionValue) (args : Arguments) (r i count a : ℕ) → r < rows (subject_of f) args → InFarElements f args r i count a → IsCellByte f (meant_call f args) a
far_cell f args r i count a row x =
    let array = far_array_is f.vars x.reached.insn.sources.items x.place x.reached.array in
    record { place = x.place; row = r; element = x.element; byte = x.byte; cell = record { array = (in_range f.vars x.place array, array); row = row; element = inr x.reached; inside = x.inside }; here = x.here }

-- elements i to i + count - 1 of row r are done from core c; A is where no movdqu stores to the first dest
module _ (f : FunctionValue) (code : Placed) (s : Point) (args : Arguments) (back : ℕ) (good : GoodCall (subject_of f) code s args back) (r i count : ℕ) (A : Type 0) (c : Core) where
  -- what holds at each step
  pub record OnWay (u : Core) (ins : Ins) : Type 0 where
    pub stack : u.gpr 4 ≡ lowered s.core
    pub quiet : IsQuiet f s.core args r i count c u
    pub inside : (a : ℕ) → Touches ins u a → InElements (IsArray (subject_of f)) f args r i count a ⊎ (InFarElements f args r i count a ⊎ InFrame (lowered s.core) a)
    pub wide : GoesWide (subject_of f) args A u ins

  -- what is left where these instructions were done
  pub record Leaves (at : List ℕ) (steps touches : ℕ) (done : List Ins) (d : Core) : Type 0 where
    pub e : State
    pub come : HasCome f args s.core.memory r (i + count) e
    pub short : length done ≤ steps
    pub light : weigh cell_weight done ≤ touches
    pub quiet : IsQuiet f s.core args r i count c d
    pub holds : Holds f at s.core args e d
    pub words : (a : ℕ) → InWords (lowered s.core) a → d.memory a ≡ c.memory a

  has_at : (list : List Ins) → Each IsAllowed list → (from : ℕ) → Stands code from list → HasAt code.bytes from list
  has_at list allowed from stands =
      subst (λ n. HasAt code.bytes n list) stands.3 (subst (λ b. HasAt b (length stands.0) list) (sym stands.2) (has_all list stands.0 stands.1 allowed))

  pub doing : (at : List ℕ) (flow : Flow) → Each IsAllowed (flat flow) → (from : ℕ) → Stands code from (flat flow) → (steps touches : ℕ) (done : List Ins) (d : Core) → Does OnWay flow c done d → Leaves at steps touches done d
      → (x : Done f at code s.core args r i count steps touches from (flat flow) c) × (x.d ≡ d) × (A → Each (λ m. StoresFirst (subject_of f) args m → ⊥) x.way)
  doing at flow allowed from stands steps touches done d does h =
      let within : from ≤ length code.bytes = omega (arith, stands.3, ap length stands.2, length-append stands.0 (spell_all (flat flow) ++ stands.1)) in
      let leads : Leads code OnWay c from done d (from + size (flat flow)) = flow_leads OnWay code good.code_low flow from within (has_at (flat flow) allowed from stands) c done d does in
      let way = leads.way in
      let count_is : length way ≡ length done = sym (listed_length way) ∙ ap length leads.list in
      let touching : AtMost (weigh cell_weight (listed way)) (TouchesCell (subject_of f) args) way = at_most_weigh cell_weight (TouchesCell (subject_of f) args) way
      (each_map (λ m. OnWay m.point.core m.ins) (λ m. cell_weight m.ins ≡ 0 → TouchesCell (subject_of f) args m → ⊥) (λ m q z w. q.wide.apart z w.0 w.1 w.2) way leads.each) in (
        record {
          e = h.e;
          come = h.come;
          way = way;
          d = d;
          runs = leads.runs;
          short = omega (arith, count_is, h.short);
          stack = each_map (λ m. OnWay m.point.core m.ins) (λ m. m.point.core.gpr 4 ≡ lowered s.core) (λ m q. q.stack) way leads.each;
          quiet = each_map (λ m. OnWay m.point.core m.ins) (λ m. IsQuiet f s.core args r i count c m.point.core) (λ m q. q.quiet) way leads.each;
          quiet_end = h.quiet;
          inside = each_map (λ m. OnWay m.point.core m.ins) (TouchesThese f s.core args r i count) (λ m q. q.inside) way leads.each;
          light = at_most_more (TouchesCell (subject_of f) args) (weigh cell_weight (listed way)) touches way (omega (arith, ap (weigh cell_weight) leads.list, h.light)) touching;
          holds = h.holds;
          words = h.words;
        },
        refl,
        λ x. each_map (λ m. OnWay m.point.core m.ins) (λ m. StoresFirst (subject_of f) args m → ⊥) (λ m q w. q.wide.stored x w.0 w.1.0 w.1.1 w.1.2) way leads.each,
      )
