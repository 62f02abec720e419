-- Code with rows runs as its function means.
use Rattle.std.proofs.Common.{◌≡◌, ◌≢◌, ℕ, zero, suc, ◌+◌, ◌*◌, ◌^◌, ◌<◌, ◌≤◌, ◌⊎◌, pos, Bool, true, false, true≢false, if◌then◌else◌, List, ◌++◌, length, length-append, is_some, Some, None, refl, sym, ap, ◌∙◌, subst, arith, inl, inr, ⊎_elim}
use Rattle.orc_bits.specs.Memory.{Memory, word, IsMapped}
use Rattle.orc_bits.proofs.LaneLaws.{change_other}
use Rattle.orc_ops.specs.declared.target.Target.{Target}
use Rattle.orc_program.specs.declared.program.VarKind.TheVariants as kind
use Rattle.orc_program.specs.Program.{FunctionValue, count_of}
use Rattle.orc_program.specs.Checks.{patterns_of}
use Rattle.orc_program.specs.Need.{turns, steps, steps_with, cost_for}
use Rattle.orc_region.proofs.Sizes.Steps.{regions_of, regions_steps}
use Rattle.x86_ins.specs.declared.ins.Ins.{Ins}
use Rattle.x86_ins.specs.declared.ins.Ins.TheVariants.{Ret}
use Rattle.x86_ins.specs.Machine.{Core, Point, Touches, moved}
use Rattle.x86_ins.specs.Spelling.{IsAllowed}
use Rattle.x86_ins.specs.Way.{Placed, Way, Moment, Each, AtMost}
use Rattle.x86_flow.specs.Flow.{Flow, flat, size, spell_all, with_return}
use Rattle.x86_flow.proofs.Plans.{weigh}
use Rattle.x86_flow.proofs.Returning.{returned, returns, each_map}
use Rattle.x86_flow.proofs.Counting.{at_most_back, at_most_more, at_most_weigh}
use Rattle.x86_flow.proofs.Flow.{Leads, flow_leads, listed, listed_length}
use Rattle.x86_flow.proofs.Larger.{LargerWay, big, way_larger, value_larger, alike_length, alike_each}
use Rattle.x86_flow.proofs.Ways.{HasAt, has_all}
use Rattle.orc_bits.proofs.Memories.{mapped_value}
use Rattle.orc_frame.specs.Parts.{sum_word}
use Rattle.orc_frame.specs.Subject.{Call as Arguments, rows}
use Rattle.orc_frame.specs.GoodCall.{GoodCall}
use Rattle.orc_asm.specs.RunsAs.{Saved, Promise, RunsWith, quiet}
use Rattle.orc_asm.specs.Passing.{PassesWith}
use Rattle.orc_asm.proofs.Calls.Inside.{Lifts, same_register}
use Rattle.orc_frame.specs.Function.{subject_of}
use Rattle.orc_frame.specs.Frame.{saved}
use Rattle.orc_asm.specs.Rows.{whole_flow}
use Rattle.orc_asm.proofs.Row.Emulated.{end_with, all_rows}
use Rattle.orc_region.proofs.Calls.Cells.{Arrays, call, mapped, dest_cell}
use Rattle.orc_asm.proofs.Row.Path.{Parts, Still, Own, path}
use Rattle.orc_region.proofs.Calls.Wide.{cell_weight}
use Rattle.x86_flow.proofs.Frame.{word_same}

-- ---- what a return leaves

moved_up : (r : ℕ) → r + 8 ≤ 2 ^ 47 → moved r (pos 8) ≡ r + 8
moved_up r h = omega (arith, h)

-- the return word is as it was
word_kept : (s d : Core) (back : ℕ) → s.gpr 4 + 8 ≤ 2 ^ 47 → ((x : ℕ) → s.gpr 4 ≤ x → x < s.gpr 4 + 8 → d.memory x ≡ s.memory x) → d.gpr 4 ≡ s.gpr 4 → word s.memory (s.gpr 4) ≡ Some back → word d.memory (d.gpr 4) ≡ Some back
word_kept s d back low same stack e = ap (λ a. word d.memory a) stack ∙ word_same d.memory s.memory (s.gpr 4) (omega (arith, low)) same ∙ e

not_mapped : (mem : Memory) (a : ℕ) → mem a ≡ None → IsMapped mem a → ⊥
not_mapped mem a e h = true≢false (sym h ∙ ap is_some e)

saved_again : (s t : Core) → ((j : ℕ) → j < 6 → t.gpr (saved j) ≡ s.gpr (saved j)) → Saved s t
saved_again s t h = record { rbx = h 0 (omega arith); rbp = h 1 (omega arith); r12 = h 2 (omega arith); r13 = h 3 (omega arith); r14 = h 4 (omega arith); r15 = h 5 (omega arith) }

saved_not : (j r : ℕ) → (r < 3) ⊎ ((r ≡ 4) ⊎ ((5 < r) × (r < 12))) → saved j ≢ r
saved_not zero r h e = grind (arith)
saved_not (suc zero) r h e = grind (arith)
saved_not (suc (suc j)) r h e = grind (arith)

-- a return touches the return word
return_bytes : (s d : Core) (a : ℕ) → s.gpr 4 + 8 ≤ 2 ^ 47 → d.gpr 4 ≡ s.gpr 4 → Touches Ret d a → (s.gpr 4 ≤ a) × (a < s.gpr 4 + 8)
return_bytes s d a low e t = (omega (arith, t.1, t.2, e, low), omega (arith, t.1, t.2, e, low))

-- ---- steps

one_or : (t : Bool) (m : ℕ) → (if t then (if t then m else 1) else 1) ≡ (if t then m else 1)
one_or true m = refl
one_or false m = refl

-- what the lists, and a turn, may have
pub record AreShort (f : FunctionValue) (target : Target) (first last : List Ins) (turn besides : ℕ) : Type 0 where
  pub lists : length first + length last ≤ 32 + 8 * length (patterns_of f.vars f.insns) + 16 * count_of kind.Accumulator f.vars
  pub turn_few : turn ≤ cost_for f target + (count_of kind.Dest f.vars + count_of kind.Source f.vars) + 4
  -- what a row's elements take besides their turns
  pub besides_few : besides ≤ 17 + 3 * (count_of kind.Dest f.vars + count_of kind.Source f.vars)

pub steps_rows : {target : Target} (f : FunctionValue) (known : Arrays f) (first last : List Ins) (turn besides n m : ℕ) → AreShort f target first last turn besides
    → length first + length last + (2 * (count_of kind.Dest f.vars + count_of kind.Source f.vars) + 3) + (1 + (if f.two_d then m else 1) * (2 + (regions_of besides (turns f n) turn + 5 * (count_of kind.Dest f.vars + count_of kind.Source f.vars) + 5))) + 1
    ≤ steps f target n (if f.two_d then m else 1)
steps_rows {target} f known first last turn besides n m short =
    let arrays = count_of kind.Dest f.vars + count_of kind.Source f.vars in
    let g = count_of kind.Accumulator f.vars in
    let c = length (patterns_of f.vars f.insns) in
    let rows = if f.two_d then m else 1 in
    let few : arrays ≤ 12 = omega (arith, known.few.dests, known.few.sources) in
    subst (λ k. length first + length last + (2 * arrays + 3) + (1 + rows * (2 + (regions_of besides (turns f n) turn + 5 * arrays + 5))) + 1 ≤ steps_with (turns f n) (cost_for f target) c g arrays k) (sym (one_or f.two_d m))
    (regions_steps (turns f n) (cost_for f target) c g arrays (length first + length last) besides turn rows short.lists short.turn_few short.besides_few few)

-- ---- the whole

module _ {target : Target} (f : FunctionValue) (known : Arrays f) (first : List Ins) (elements : Flow) (last : List Ins) (turn besides touches : ℕ) (short : AreShort f target first last turn besides)
    (Tame : Point → Arguments → Core → Ins → Type 0)
    (own : (code : Placed) (s : Point) (args : Arguments) (back : ℕ) (good : GoodCall (subject_of f) code s args back) → Own f known code s args back good (Tame s args))
    (parts : (code : Placed) (s : Point) (args : Arguments) (back : ℕ) (good : GoodCall (subject_of f) code s args back) → Parts f known code s args back good (Tame s args) first elements last (regions_of besides (turns f args.n) turn) (turns f args.n * touches)) where
  abbrev pub flow : Flow
  flow = whole_flow first elements last f.two_d (count_of kind.Dest f.vars) (count_of kind.Source f.vars)

  -- the instructions that go by pointers, at most
  abbrev pub pointing : Arguments → ℕ
  pointing args = weigh cell_weight first + rows (subject_of f) args * (turns f args.n * touches) + weigh cell_weight last

  -- of the moments of a way, at most so many have a property that an instruction which goes by no pointer doesn't have
  abbrev pub Counted : Point → Arguments → List Moment → Type 1
  Counted s args way = (R : Moment → Type 0) → ((m : Moment) → Tame s args m.point.core m.ins → cell_weight m.ins ≡ 0 → R m → ⊥) → AtMost (pointing args) R way

  -- each good call of the code returns, with what follows from its being quiet, from Tame at each step and from the count
  pub runs_with : (P : Promise) → ((s : Point) (args : Arguments) (way : List Moment) (t : Point) → quiet (subject_of f) s s.core.memory args way t → Each (λ m. Tame s args m.point.core m.ins) way → Counted s args way → P s s.core.memory args way t) → Each IsAllowed (with_return flow) → RunsWith (subject_of f) (steps f target) P (spell_all (with_return flow))
  runs_with P promised allowed start s args back good =
      let code : Placed = record { bytes = spell_all (with_return flow); start = start } in
      let x = path f known code s args back good (Tame s args) (own code s args back good) first elements last (regions_of besides (turns f args.n) turn) (turns f args.n * touches) (parts code s args back good) in
      let done = x.0 in
      let d = x.1 in
      let h = x.3 in
      let low = good.return_low in
      let Q : Core → Ins → Type 0 = λ u i. Still f known code s args back good u × Tame s args u i in
      let return_same : (t : ℕ) → s.core.gpr 4 ≤ t → t < s.core.gpr 4 + 8 → d.memory t ≡ s.core.memory t = λ t l u.
      h.still.quiet t
      (λ w. (good.disjoint.cells t (dest_cell f known code s args back good t w)).1 (l, u))
      (λ w. let room = good.frame_room in omega (arith, w.1, room, l))
      (λ w. (good.disjoint.block t (omega (arith, w.0), omega (arith, w.1, known.few.accs))).0 (l, u)) in
      let word_back = word_kept s.core d back low return_same h.stack good.returns in
      let last_tame : Tame s args d Ret = own code s args back good d Ret (λ a t. inr (inr (return_bytes s.core d a low h.stack t))) in
      let b = returns Q flow start allowed good.code_low s.core d done x.2 (h.still, last_tame) back word_back in
      let at_start : record { core = s.core; rip = start } ≡ s = ap (λ r. record { core = s.core; rip = r }) (sym good.first) in
      let raised : moved (d.gpr 4) (pos 8) ≡ s.core.gpr 4 + 8 = ap (λ r. moved r (pos 8)) h.stack ∙ moved_up (s.core.gpr 4) low in
      let bound = steps_rows f known first last turn besides args.n args.m short in
      record {
        end = end_with f h.end;
        means = all_rows f (call f known code s args back good) s.core.memory h.end h.emulated;
        way = b.way;
        t = returned d back;
        runs = subst (λ u. Way code u b.way (returned d back)) at_start b.runs;
        short = omega (arith, b.count, h.short, bound);
        over = (refl, raised);
        not_before = each_map _ _ (λ m q o. ⊎_elim (λ e. omega (arith, e, o.1)) (λ e. omega (arith, e, o.1)) q.0.stack) b.way b.each;
        same = λ t m nf ns. h.agree t nf ns;
        sums = h.words;
        rest = λ t e. h.still.quiet t
            (λ w. not_mapped s.core.memory t e (mapped f known code s args back good t (dest_cell f known code s args back good t w)))
            (λ w. not_mapped s.core.memory t e (good.frame t w))
            (λ w. not_mapped s.core.memory t e (good.block t (omega (arith, w.0), omega (arith, w.1, known.few.accs))));
        saved = saved_again s.core (returned d back).core (λ j l. change_other d.gpr 4 (moved (d.gpr 4) (pos 8)) (saved j) (saved_not j 4 (inr (inl refl))) ∙ h.registers j l);
        more = promised s args b.way (returned d back)
            (each_map _ _ (λ m q a nd ns nf. q.0.quiet a nd nf ns) b.way b.each, λ a nd ns nf. h.still.quiet a nd nf ns)
            (each_map _ _ (λ m q. q.1) b.way b.each)
            (λ R sees. at_most_back cell_weight R Q code s.core done d back (pointing args) b refl h.light (λ m q. sees m q.1));
      }

  -- wherever the flow's bytes stand, each call leads to the place behind them, with what follows from its being quiet, from Tame at each step and from the count
  pub passes_with : (P : Promise) → Lifts P → ((s : Point) (args : Arguments) (way : List Moment) (t : Point) → quiet (subject_of f) s s.core.memory args way t → Each (λ m. Tame s args m.point.core m.ins) way → Counted s args way → P s s.core.memory args way t) → Each IsAllowed (flat flow) → PassesWith (subject_of f) (steps f target) P (spell_all (flat flow))
  passes_with P lifts promised allowed code s small args any at within good =
      let own_code : Placed = record { bytes = spell_all (flat flow); start = s.rip } in
      let large = s.core.memory in
      let p : Point = big s small in
      let x = path f known own_code p args any good (Tame p args) (own own_code p args any good) first elements last (regions_of besides (turns f args.n) turn) (turns f args.n * touches) (parts own_code p args any good) in
      let done = x.0 in
      let d = x.1 in
      let h = x.3 in
      let low = good.return_low in
      let off = length at.before in
      let Q : Core → Ins → Type 0 = λ u i. Still f known own_code p args any good u × Tame p args u i in
      let long : length code.bytes ≡ off + (size (flat flow) + length at.after) = ap length at.is ∙ length-append at.before (spell_all (flat flow) ++ at.after) ∙ ap (λ k. off + k) (length-append (spell_all (flat flow)) at.after) in
      let has : HasAt code.bytes off (flat flow) = subst (λ l. HasAt l off (flat flow)) (sym at.is) (has_all (flat flow) at.before at.after allowed) in
      let leads : Leads code Q p.core off done d (off + size (flat flow)) = flow_leads Q code at.low flow off (omega (arith, long)) has p.core done d x.2 in
      let begins : record { core = p.core; rip = code.start + off } ≡ p = ap (λ r. record { core = p.core; rip = r }) (sym at.here) in
      let t : Point = record { core = d; rip = code.start + (off + size (flat flow)) } in
      let runs : Way code p leads.way t = subst (λ u. Way code u leads.way t) begins leads.runs in
      let b : LargerWay small large code leads.way t s = way_larger code p leads.way t large within runs in
      let beside = b.beside in
      let register : (r : ℕ) → b.end.core.gpr r ≡ d.gpr r = same_register small large t b.end beside in
      let weight : weigh cell_weight (listed leads.way) ≡ weigh cell_weight done = ap (weigh cell_weight) leads.list in
      let count : length leads.way ≡ length done = sym (listed_length leads.way) ∙ ap length leads.list in
      let count_more : length b.more ≡ length done = alike_length small large leads.way b.more b.alike ∙ count in
      let bound = steps_rows f known first last turn besides args.n args.m short in
      record {
        end = end_with f h.end;
        means = all_rows f (call f known own_code p args any good) small h.end h.emulated;
        way = b.more;
        t = b.end;
        runs = b.runs;
        short = omega (arith, count_more, h.short, bound);
        behind = ap (λ (u : Point). u.rip) beside.same ∙ omega (arith, at.here);
        stack = register 4 ∙ h.stack;
        below = alike_each small large (λ m. Q m.point.core m.ins) (λ m. m.point.core.gpr 4 ≤ s.core.gpr 4)
            (λ m n near e q. let r = same_register small large m.point n.point near 4 in ⊎_elim (λ z. omega (arith, r, z)) (λ z. omega (arith, r, z)) q.0.stack) leads.way b.more b.alike leads.each;
        same = λ a m nf ns. let v = mapped_value small a m in beside.agree a (within a v.0 v.1 ∙ sym v.1) ∙ h.agree a nf ns;
        sums = λ g l. value_larger 8 d.memory b.end.core.memory (s.core.gpr 7 + sum_word g) _ beside.sub (h.words g l);
        rest = beside.rest;
        saved = saved_again s.core b.end.core (λ j l. register (saved j) ∙ h.registers j l);
        more = lifts s small args leads.way b.more t b.end within b.alike beside
            (promised p args leads.way t (each_map _ _ (λ m q a nd ns nf. q.0.quiet a nd nf ns) leads.way leads.each, λ a nd ns nf. h.still.quiet a nd nf ns)
            (each_map _ _ (λ m q. q.1) leads.way leads.each)
            (λ R sees. at_most_more R (weigh cell_weight (listed leads.way)) (pointing args) leads.way (omega (arith, weight, h.light)) (at_most_weigh cell_weight R leads.way (each_map (λ m. Q m.point.core m.ins) _ (λ m q. sees m q.1) leads.way leads.each))));
      }
