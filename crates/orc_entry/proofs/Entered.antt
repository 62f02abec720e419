-- An entry's code does what a call from C asks: the list before the body, the body, the list behind it, and a return.
use Rattle.std.proofs.Common.{true, ◌≡◌, ℕ, ◌+◌, ◌-◌, ◌*◌, ◌%◌, ◌^◌, ◌<◌, ◌≤◌, ◌⊎◌, Bool, pos, List, [], ◌∷◌, ◌++◌, length, Some, Ok, is_some, refl, sym, ap, ◌∙◌, subst, arith, inl, ⊎_elim, length-append, append-nil, append_assoc}
use Rattle.orc_bits.specs.Memory.{Memory, IsMapped, word, value}
use Rattle.orc_ops.specs.declared.target.Target.{Target}
use Rattle.orc_program.specs.declared.program.VarKind.TheVariants as kind
use Rattle.orc_program.specs.Program.{FunctionValue, count_of}
use Rattle.orc_program.specs.Kept.{is_function}
use Rattle.orc_program.specs.Need.{steps}
use Rattle.x86_ins.specs.declared.ins.Ins.{Ins}
use Rattle.x86_ins.specs.declared.ins.Ins.TheVariants.{Ret}
use Rattle.x86_ins.specs.Machine.{Core, Point, moved, effect, return_to}
use Rattle.x86_ins.specs.Spelling.{IsAllowed, spelling}
use Rattle.x86_ins.specs.Way.{Placed, Step, Way, Moment, Each, AtMost, IsOver}
use Rattle.x86_flow.specs.Flow.{Plain, spell_all, size}
use Rattle.x86_flow.specs.Does.{Line}
use Rattle.x86_flow.proofs.Appends.{one_more}
use Rattle.x86_flow.proofs.Counting.{at_most_more, at_most_append}
use Rattle.x86_flow.proofs.Flow.{Leads, flow_leads, each_append, listed_length}
use Rattle.x86_flow.proofs.Frame.{word_same}
use Rattle.x86_flow.proofs.Returning.{returned, each_map}
use Rattle.x86_flow.proofs.Spelled.{each_both}
use Rattle.x86_flow.proofs.Ways.{way_append, HasAt, has_all, has_front, has_back, step_at}
use Rattle.orc_frame.specs.Layout.{frame_size}
use Rattle.orc_frame.specs.GoodCall.{GoodCall}
use Rattle.orc_frame.specs.Subject.{Call, Subject, rows}
use Rattle.orc_frame.specs.Function.{subject_of}
use Rattle.orc_region.specs.Stores.{TouchesCell, StoresFirst}
use Rattle.orc_asm.specs.RunsAs.{Saved, fully, stop}
use Rattle.orc_asm.specs.RunsAs.{QuietAt as BodyQuiet}
use Rattle.orc_asm.specs.Passing.{Passes, PassesWith}
use Rattle.orc_prototype.specs.Arguments.{IsSmall, shape_of, sum_size, sum_argument}
use Rattle.orc_entry.specs.Arguments.{call_by}
use Rattle.orc_entry.specs.Code.{entry_code, exit_code}
use Rattle.orc_entry.specs.Entry.{GoodEntry, QuietAt, Enters, EntersAs, entry_steps}
use Rattle.orc_entry.proofs.Front.{Led, front}
use Rattle.orc_entry.proofs.Called.{small_of, small_cell, small_within, stands, good_body}
use Rattle.orc_entry.proofs.Emulated.{SameEnd, same_emulation}
use Rattle.orc_entry.proofs.Leaving.{Left}
use Rattle.orc_entry.proofs.Passed.{Fine, leaves, sum_sizes, exit_length, body_keeps}

-- ---- lists of moments

none_of : {A : Type 0} (P : A → Type 0) (xs : List A) → Each (λ x. P x → ⊥) xs → AtMost 0 P xs
none_of P [] h = tt
none_of P (x ∷ xs) h = inl (h.0, none_of P xs h.1)

power_of : (n : ℕ) → (n ≡ 2) ⊎ (n ≡ 4) → 256 ^ n ≡ 2 ^ (8 * n)
power_of n h = ⊎_elim (λ q. subst (λ k. 256 ^ k ≡ 2 ^ (8 * k)) (sym q) refl) (λ q. subst (λ k. 256 ^ k ≡ 2 ^ (8 * k)) (sym q) refl) h

-- ---- steps

all_steps : (one two three whole arrays params sums exits bound : ℕ) → whole ≡ one + (two + (three + 1)) → one ≤ 18 + 6 * arrays + 4 * params + 2 * sums → two + 1 ≤ bound → three ≡ exits → exits ≡ 3 * sums + 1 → whole ≤ bound + (19 + 6 * arrays + 4 * params + 5 * sums)
all_steps one two three whole arrays params sums exits bound a b c d e = omega (arith, a, b, c, d, e)

-- ---- the parts of the code

-- the list behind the body, and the return
abbrev tail : FunctionValue → List ℕ
tail f = spell_all (exit_code f) ++ spelling Ret

ret_allowed : (list : List Ins) → Each IsAllowed list → Each IsAllowed (list ++ Ret ∷ [])
ret_allowed list h = each_both IsAllowed list (Ret ∷ []) h ((tt, refl), tt)

tail_stands : (list : List Ins) (bytes first body : List ℕ) → Each IsAllowed list → bytes ≡ first ++ (body ++ (spell_all list ++ spelling Ret)) → HasAt bytes (length first + length body) (list ++ Ret ∷ [])
tail_stands list bytes first body allowed is =
    let both = list ++ Ret ∷ [] in
    let has : HasAt ((first ++ body) ++ (spell_all both ++ [])) (length (first ++ body)) both = has_all both (first ++ body) [] (ret_allowed list allowed) in
    let same : (first ++ body) ++ (spell_all both ++ []) ≡ bytes = append_assoc first body (spell_all both ++ []) ∙ ap (λ l. first ++ (body ++ l)) (append-nil (spell_all both) ∙ one_more list Ret) ∙ sym is in
    subst (λ n. HasAt bytes n both) (length-append first body) (subst (λ l. HasAt l (length (first ++ body)) both) same has)

module _ (f : FunctionValue) (is : is_function f ≡ true) (few : IsSmall (shape_of f)) (longs : List Bool) (target : Target) (code : Placed) (s : Point) (arg : ℕ → ℕ) (cells : Memory) (back : ℕ) (good : GoodEntry f longs code s arg cells back) (d : Core) (led : Led f longs code s arg d)
    (small : Memory) (body : List ℕ) (any : ℕ) (called : GoodCall (subject_of f) (record { bytes = body; start = s.rip + size (entry_code f longs) }) (record { core = record d { memory = small }; rip = s.rip + size (entry_code f longs) }) (call_by f longs arg) any)
    (b : Passes (subject_of f) (steps f target) (fully (subject_of f) (record { core = d; rip = s.rip + size (entry_code f longs) }) small (call_by f longs arg)) code (record { core = d; rip = s.rip + size (entry_code f longs) }) small (call_by f longs arg) (s.rip + size (entry_code f longs) + length body))
    (held : (a : ℕ) → IsMapped cells a → small a ≡ cells a) where
  abbrev subject : Subject
  subject = subject_of f

  abbrev call : Call
  call = call_by f longs arg

  abbrev e : Core
  e = b.t.core

  abbrev count : ℕ
  count = count_of kind.Accumulator f.vars

  abbrev pointer : ℕ → ℕ
  pointer g = arg (sum_argument (shape_of f) g)

  abbrev FineAt : Core → Ins → Type 0
  FineAt = Fine f is few longs target code s arg cells back good d led small body any called b

  abbrev keeps : (a : ℕ) → (subject.cells call a → ⊥) → ((d.gpr 4 - frame_size ≤ a) × (a < d.gpr 4 + 312) → ⊥) → e.memory a ≡ d.memory a
  keeps = body_keeps f is few longs target code s arg cells back good d led small body any called b

  -- x is the core behind the exit list
  module _ (x : Core) (left : Left FineAt e count (sum_size f) pointer b.end.sums x) where
    abbrev t : Point
    t = returned x back

    stack_x : x.gpr 4 ≡ s.core.gpr 4
    stack_x = let one = left.stack in let two = b.stack in omega (arith, one, two, led.stack)

    word_back : word x.memory (x.gpr 4) ≡ Some back
    word_back =
        let low = good.stack_low in
        ap (λ a. word x.memory a) stack_x
        ∙ word_same x.memory s.core.memory (s.core.gpr 4) (omega (arith, low))
        (λ a lo hi.
        left.outside a (λ w. (good.apart.sums a w).1 (lo, hi))
        ∙ keeps a (λ c. (good.apart.cells a c).2 (lo, hi)) (λ w. omega (arith, w.1, lo, led.stack))
        ∙ led.outside a (λ w. omega (arith, w.1, lo)))
        ∙ good.returns

    raised : t.core.gpr 4 ≡ s.core.gpr 4 + 8
    raised = let low = good.stack_low in ap (λ r. moved r (pos 8)) stack_x ∙ up (s.core.gpr 4) (omega (arith, low))
      where
        up : (r : ℕ) → r + 8 ≤ 2 ^ 47 → moved r (pos 8) ≡ r + 8
        up r l = omega (arith, l)

    -- what is quiet in the body is quiet in the entry
    body_quiet : (u : Point) → BodyQuiet subject (record { core = d; rip = s.rip + size (entry_code f longs) }) call u → QuietAt f longs s arg u
    body_quiet u q a nd ns out =
        let accs = few.sums in
        let room = good.stack_room in
        q a nd (λ w. out (omega (arith, w.0, led.block, led.stack), omega (arith, w.1, led.block, led.stack, accs))) (λ w. out (omega (arith, w.0, led.stack), omega (arith, w.1, led.stack, room)))
        ∙ led.outside a (λ w. out (omega (arith, w.0), w.1))

    quiet_e : QuietAt f longs s arg b.t
    quiet_e = body_quiet b.t b.more.0.1

    quiet_x : (u : Point) → u.core.memory ≡ x.memory → QuietAt f longs s arg u
    quiet_x u m a nd ns out = ap (λ (mem : Memory). mem a) m ∙ left.outside a ns ∙ quiet_e a nd ns out

    abbrev end : SameEnd f call cells small b.end
    end = same_emulation f call cells small b.end (λ a v h. held a (ap is_some h) ∙ h) good.arrays good.only b.means

    same : (a : ℕ) → IsMapped cells a → t.core.memory a ≡ end.end.memory a
    same a m =
        let c = good.only a m in
        let apart = good.apart.cells a c in
        let accs = few.sums in
        let room = good.stack_room in
        left.outside a apart.0
        ∙ b.same a (subst (λ o. is_some o ≡ true) (sym (held a m)) m) (λ w. apart.1 (omega (arith, w.0, led.stack), omega (arith, w.1, led.stack, room))) (λ w. apart.1 (omega (arith, w.0, led.block, led.stack), omega (arith, w.1, led.block, led.stack, accs)))
        ∙ end.cells a m

    sums : (g : ℕ) → g < count → value (sum_size f g) t.core.memory (pointer g) ≡ Some (end.end.sums g % 2 ^ (8 * sum_size f g))
    sums g l = left.values g l ∙ ap (λ k. Some (b.end.sums g % k)) (power_of (sum_size f g) (sum_sizes f is g l)) ∙ ap (λ v. Some (v % 2 ^ (8 * sum_size f g))) (end.sums g)

    saved : Saved s.core t.core
    saved = record {
      rbx = left.others 3 (λ q. omega (arith, q)) (λ q. omega (arith, q)) (λ q. omega (arith, q)) ∙ b.saved.rbx ∙ led.saved.rbx;
      rbp = left.others 5 (λ q. omega (arith, q)) (λ q. omega (arith, q)) (λ q. omega (arith, q)) ∙ b.saved.rbp ∙ led.saved.rbp;
      r12 = left.others 12 (λ q. omega (arith, q)) (λ q. omega (arith, q)) (λ q. omega (arith, q)) ∙ b.saved.r12 ∙ led.saved.r12;
      r13 = left.others 13 (λ q. omega (arith, q)) (λ q. omega (arith, q)) (λ q. omega (arith, q)) ∙ b.saved.r13 ∙ led.saved.r13;
      r14 = left.others 14 (λ q. omega (arith, q)) (λ q. omega (arith, q)) (λ q. omega (arith, q)) ∙ b.saved.r14 ∙ led.saved.r14;
      r15 = left.others 15 (λ q. omega (arith, q)) (λ q. omega (arith, q)) (λ q. omega (arith, q)) ∙ b.saved.r15 ∙ led.saved.r15;
    }

    -- the return touches no cell
    ret_untouched : (rip : ℕ) → TouchesCell subject call (record { point = record { core = x; rip = rip }; ins = Ret }) → ⊥
    ret_untouched rip (a, c, (j, l, w)) =
        let low = good.stack_low in
        (good.apart.cells a c).2 (omega (arith, w, l, stack_x, low), omega (arith, w, l, stack_x, low))

    -- the places of the exit list and of the return
    abbrev off : ℕ
    off = size (entry_code f longs) + length body

    module _ (exits : Leads code FineAt e off (exit_code f) x (off + size (exit_code f))) (has : HasAt code.bytes (off + size (exit_code f)) (Ret ∷ [])) where
      abbrev last : Moment
      last = record { point = record { core = x; rip = code.start + (off + size (exit_code f)) }; ins = Ret }

      abbrev way : List Moment
      way = led.way ++ (b.way ++ (exits.way ++ last ∷ []))

      at_exit : b.t ≡ record { core = e; rip = code.start + off }
      at_exit = ap (λ r. record { core = e; rip = r }) (let h = b.behind in let g = good.first in let q : b.t.rip ≡ code.start + off = omega (arith, h, g) in q)

      runs : Way code s way t
      runs =
          let goes : effect Ret x (code.start + (off + size (exit_code f) + length (spelling Ret))) ≡ Ok t = ap (λ o. return_to o x) word_back in
          let step : Step code last.point Ret t = step_at code (off + size (exit_code f)) Ret [] x t has good.code_low goes in
          let ends : Way code (record { core = e; rip = code.start + off }) (exits.way ++ last ∷ []) t = way_append code exits.way (last ∷ []) (record { core = e; rip = code.start + off }) last.point t exits.runs (refl, t, step, refl) in
          way_append code led.way (b.way ++ (exits.way ++ last ∷ [])) s (record { core = d; rip = s.rip + size (entry_code f longs) }) t led.runs
          (way_append code b.way (exits.way ++ last ∷ []) (record { core = d; rip = s.rip + size (entry_code f longs) }) b.t t b.runs (subst (λ u. Way code u (exits.way ++ last ∷ []) t) (sym at_exit) ends))

      -- what holds of each moment
      each_part : (P : Moment → Type 0) → Each P led.way → Each P b.way → Each P exits.way → P last → Each P way
      each_part P one two three four = each_append P led.way (b.way ++ (exits.way ++ last ∷ [])) one (each_append P b.way (exits.way ++ last ∷ []) two (each_append P exits.way (last ∷ []) three (four, tt)))

      short : length way ≤ steps f target call.n (rows subject call) + entry_steps f
      short = all_steps (length led.way) (length b.way) (length exits.way) (length way) (count_of kind.Dest f.vars + count_of kind.Source f.vars) (count_of kind.Param f.vars) count (length (exit_code f)) (steps f target call.n (rows subject call))
          (length-append led.way (b.way ++ (exits.way ++ last ∷ [])) ∙ ap (λ n. length led.way + n) (length-append b.way (exits.way ++ last ∷ []) ∙ ap (λ n. length b.way + n) (length-append exits.way (last ∷ []))))
          led.short b.short (sym (listed_length exits.way) ∙ ap length exits.list) (exit_length f)

      not_before : Each (λ m. IsOver (stop s back) m.point → ⊥) way
      not_before = each_part (λ m. IsOver (stop s back) m.point → ⊥)
          (each_map (λ m. m.point.core.gpr 4 ≤ s.core.gpr 4) (λ m. IsOver (stop s back) m.point → ⊥) (λ m h o. omega (arith, h, o.1)) led.way led.below)
          (each_map (λ m. m.point.core.gpr 4 ≤ d.gpr 4) (λ m. IsOver (stop s back) m.point → ⊥) (λ m h o. omega (arith, h, o.1, led.stack)) b.way b.below)
          (each_map (λ m. FineAt m.point.core m.ins) (λ m. IsOver (stop s back) m.point → ⊥) (λ m h o. omega (arith, h.stack, o.1, led.stack)) exits.way exits.each)
          (λ o. omega (arith, stack_x, o.1))

      quiet : Each (λ m. QuietAt f longs s arg m.point) way
      quiet = each_part (λ m. QuietAt f longs s arg m.point) led.quiet
          (each_map (λ m. BodyQuiet subject (record { core = d; rip = s.rip + size (entry_code f longs) }) call m.point) (λ m. QuietAt f longs s arg m.point) (λ m h. body_quiet m.point h) b.way b.more.0.0)
          (each_map (λ m. FineAt m.point.core m.ins) (λ m. QuietAt f longs s arg m.point) (λ m h a nd ns out. h.quiet a ns ∙ quiet_e a nd ns out) exits.way exits.each)
          (quiet_x last.point refl)

      abbrev bound : ℕ
      bound = rows subject call * subject.turns call.n * subject.operands

      touches : AtMost bound (TouchesCell subject call) way
      touches =
          let P : Moment → Type 0 = TouchesCell subject call in
          let ends : AtMost 0 P (exits.way ++ last ∷ []) = none_of P (exits.way ++ last ∷ [])
          (each_append (λ m. P m → ⊥) exits.way (last ∷ []) (each_map (λ m. FineAt m.point.core m.ins) (λ m. P m → ⊥) (λ m h w. h.untouched w.0 w.1 w.2) exits.way exits.each) (ret_untouched (code.start + (off + size (exit_code f))), tt)) in
          let middle : AtMost (bound + 0) P (b.way ++ (exits.way ++ last ∷ [])) = at_most_append P bound 0 b.way (exits.way ++ last ∷ []) b.more.1.0 ends in
          at_most_more P (0 + (bound + 0)) bound way (none_added bound) (at_most_append P 0 (bound + 0) led.way (b.way ++ (exits.way ++ last ∷ [])) (none_of P led.way led.untouched) middle)
        where
          none_added : (n : ℕ) → 0 + (n + 0) ≤ n
          none_added n = omega arith

      done : Enters f longs target code s arg cells back
      done = record {
        end = end.end;
        means = end.means;
        way = way;
        t = t;
        runs = runs;
        short = short;
        over = (refl, raised);
        not_before = not_before;
        same = same;
        sums = sums;
        quiet = (quiet, quiet_x t refl);
        saved = saved;
        touches = touches;
        aligned = λ h. each_part (λ m. StoresFirst subject call m → ⊥) led.unstored (b.more.1.1 h) (each_map (λ m. FineAt m.point.core m.ins) (λ m. StoresFirst subject call m → ⊥) (λ m k w. k.unstored w.0) exits.way exits.each) (λ w. w.0);
      }

    whole : Each IsAllowed (exit_code f) → code.bytes ≡ spell_all (entry_code f longs) ++ (body ++ tail f) → Line FineAt (exit_code f) e x → Enters f longs target code s arg cells back
    whole allowed bytes line =
        let has : HasAt code.bytes off (exit_code f ++ Ret ∷ []) = tail_stands (exit_code f) code.bytes (spell_all (entry_code f longs)) body allowed bytes in
        let long : length code.bytes ≡ off + length (tail f) = ap length bytes ∙ length-append (spell_all (entry_code f longs)) (body ++ tail f) ∙ ap (λ n. size (entry_code f longs) + n) (length-append body (tail f)) ∙ associated (size (entry_code f longs)) (length body) (length (tail f)) in
        done (flow_leads FineAt code good.code_low (Plain (exit_code f)) off (omega (arith, long)) (has_front code.bytes off (exit_code f) (Ret ∷ []) has) e (exit_code f) x (line, refl)) (has_back code.bytes off (exit_code f) (Ret ∷ []) has)
      where
        associated : (a b c : ℕ) → a + (b + c) ≡ a + b + c
        associated a b c = omega arith

-- ---- the whole

-- as the bytes are those of the lists around a body that passes, each good call from C returns as the function means
pub enters : (f : FunctionValue) → is_function f ≡ true → IsSmall (shape_of f) → (longs : List Bool) (target : Target) (bytes body : List ℕ) → Each IsAllowed (exit_code f)
    → bytes ≡ spell_all (entry_code f longs) ++ (body ++ (spell_all (exit_code f) ++ spelling Ret)) → PassesWith (subject_of f) (steps f target) (fully (subject_of f)) body → EntersAs f longs target bytes
enters f is few longs target bytes body allowed all passes start s arg cells back good =
    let code : Placed = record { bytes = bytes; start = start } in
    let x = front f longs code s arg cells back few good (body ++ tail f) all in
    let d : Core = x.0 in
    let led = x.1 in
    let small = small_of cells d in
    let p : Point = record { core = d; rip = s.rip + size (entry_code f longs) } in
    let g = good_body f longs code s arg cells back few good d led body (tail f) all in
    let b = passes code p small (call_by f longs arg) g.0 (stands f longs code s arg cells back few good d led body (tail f) all) (small_within f longs code s arg cells back few good d led) g.1 in
    let y = leaves f is few longs target code s arg cells back good d led small body g.0 g.1 b in
    whole f is few longs target code s arg cells back good d led small body g.0 g.1 b (small_cell cells d) y.0 y.2 allowed all y.1
