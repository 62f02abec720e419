-- Need of a function's steps is Need of its instructions.
use Rattle.std.proofs.Common.{◌≡◌, ℕ, zero, suc, ◌+◌, ◌-◌, ◌<◌, ◌≤◌, ◌⊎◌, inl, inr, Bool, true, false, not, ◌||◌, ◌&&◌, ◌==◌, nat_lt, List, [], ◌∷◌, ◌++◌, refl, sym, ap, ◌∙◌, arith, length, map, max, filter, take, drop, slice_index, sum_by, count_by, append_assoc, append-nil, length-append, add-one, if◌then◌else◌, true≢false}
use Rattle.std.specs.List.{list_any, range_with_len, flat_map, fold}
use Rattle.std.proofs.lemmas.Bool.{cases_lt}
use Rattle.std.proofs.lemmas.Bool.Decides.{nat_tests}
use Rattle.std.proofs.lemmas.List.{get_or-append-add, get_or_append_left, drop-append-le}
use Rattle.std.proofs.lemmas.List.Elements.{filter-append}
use Rattle.std.proofs.lemmas.List.Folds.{list_any-append, list_any_at}
use Rattle.std.proofs.lemmas.List.FromFn.{length-range_with_len}
use Rattle.std.proofs.lemmas.List.Sums.{length-filter}
use Rattle.std.proofs.Math.Seq.{drop-append-add}
use Rattle.orc_program.specs.declared.program.Var.{Var}
use Rattle.orc_program.specs.declared.program.Insn.{Insn}
use Rattle.orc_program.specs.declared.program.Pattern.{Pattern}
use Rattle.orc_program.specs.Program.{FunctionValue}
use Rattle.orc_program.specs.Checks.{patterns_of}
use Rattle.orc_program.specs.Need as program
use Rattle.orc_program.specs.Need.{is_in, made_by, read_by, read_at, temp_of, is_made_again, is_read_at, is_live, live_count, need_of, registers, largest_need, spills}
use Rattle.orc_plan.specs.declared.steps.Step.{Step}
use Rattle.orc_plan.specs.Core as core
use Rattle.orc_plan.specs.Core.{made_in}
use Rattle.orc_plan.specs.Need.{is_read_in, made_at, need_in, widest}
use Rattle.orc_plan.specs.Places.{GoodPlaces, line_at}
use Rattle.orc_plan.specs.Lowered.{temps_made, last_value, steps_after, steps_of}
use Rattle.orc_plan.proofs.Holding.{is_same, same_is, other_is}
use Rattle.orc_plan.proofs.Numbered.{results_made, sources_read}
use Rattle.orc_plan.proofs.Ranges.{any_next, any_same, in_flat, passed_next, passed_same, sum_more, sum_same}

-- ---- steps one by one

-- the values that step j reads
abbrev pub reads_at : List Step → ℕ → List ℕ
reads_at [] j = []
reads_at (s ∷ ss) zero = core.read_by s
reads_at (s ∷ ss) (suc j) = reads_at ss j

steps_read : (vars : List Var) (known : List Pattern) (temps : List ℕ) (insns : List Insn) (h : ℕ) → reads_at (steps_after vars known temps insns) h ≡ map (last_value (temps ++ temps_made vars (take h insns))) (read_at vars insns h)
steps_read vars known temps [] h = refl
steps_read vars known temps (insn ∷ insns) zero =
    sources_read vars known temps insn.op 0 insn.sources.items ∙ ap (λ (ts : List ℕ). map (last_value ts) (read_by vars insn)) (sym (append-nil temps))
steps_read vars known temps (insn ∷ insns) (suc h) =
    steps_read vars known (temps ++ made_by vars insn) insns h ∙ ap (λ (ts : List ℕ). map (last_value ts) (read_at vars insns h)) (append_assoc temps (made_by vars insn) (temps_made vars (take h insns)))

steps_made : (vars : List Var) (known : List Pattern) (temps : List ℕ) (insns : List Insn) (h : ℕ) → made_at (steps_after vars known temps insns) h ≡ range_with_len (length (temps ++ temps_made vars (take h insns))) (length (program.made_at vars insns h))
steps_made vars known temps [] h = refl
steps_made vars known temps (insn ∷ insns) zero =
    results_made vars (length temps) insn.results.items ∙ ap (λ (ts : List ℕ). range_with_len (length ts) (length (made_by vars insn))) (sym (append-nil temps))
steps_made vars known temps (insn ∷ insns) (suc h) =
    steps_made vars known (temps ++ made_by vars insn) insns h ∙ ap (λ (ts : List ℕ). range_with_len (length ts) (length (program.made_at vars insns h))) (append_assoc temps (made_by vars insn) (temps_made vars (take h insns)))

steps_long : (vars : List Var) (known : List Pattern) (temps : List ℕ) (insns : List Insn) → length (steps_after vars known temps insns) ≡ length insns
steps_long vars known temps [] = refl
steps_long vars known temps (insn ∷ insns) = ap suc (steps_long vars known (temps ++ made_by vars insn) insns)

temps_more : (vars : List Var) (insns : List Insn) (j : ℕ) → temps_made vars (take (suc j) insns) ≡ temps_made vars (take j insns) ++ program.made_at vars insns j
temps_more vars [] zero = refl
temps_more vars [] (suc j) = refl
temps_more vars (x ∷ xs) zero = append-nil (made_by vars x)
temps_more vars (x ∷ xs) (suc j) = ap (λ (ts : List ℕ). made_by vars x ++ ts) (temps_more vars xs j) ∙ sym (append_assoc (made_by vars x) (temps_made vars (take j xs)) (program.made_at vars xs j))

made_more : (steps : List Step) (j : ℕ) → made_in (take (suc j) steps) ≡ made_in (take j steps) ++ made_at steps j
made_more [] zero = refl
made_more [] (suc j) = refl
made_more (x ∷ xs) zero = append-nil (core.made_by x)
made_more (x ∷ xs) (suc j) = ap (λ (ts : List ℕ). core.made_by x ++ ts) (made_more xs j) ∙ sym (append_assoc (core.made_by x) (made_in (take j xs)) (made_at xs j))

-- a value is read by some step from j on
read_from : (v : ℕ) (steps : List Step) (j : ℕ) → is_read_in (drop j steps) v ≡ list_any (λ h. is_in v (reads_at steps h)) (range_with_len j (length steps - j))
read_from v [] zero = refl
read_from v [] (suc j) = ap (λ n. list_any (λ h. is_in v (reads_at [] h)) (range_with_len (suc j) n)) (let e : 0 ≡ 0 - suc j = omega arith in e)
read_from v (s ∷ ss) zero =
    ap (λ b. is_in v (core.read_by s) || b)
    (read_from v ss 0 ∙ ap (λ n. list_any (λ h. is_in v (reads_at ss h)) (range_with_len 0 n)) (let e : length ss - 0 ≡ length ss = omega arith in e) ∙ sym (any_next (λ h. is_in v (reads_at (s ∷ ss) h)) 0 (length ss)))
    ∙ ap (λ n. list_any (λ h. is_in v (reads_at (s ∷ ss) h)) (range_with_len 0 n)) (let e : suc (length ss) ≡ suc (length ss) - 0 = omega arith in e)
read_from v (s ∷ ss) (suc j) =
    read_from v ss j ∙ sym (any_next (λ h. is_in v (reads_at (s ∷ ss) h)) j (length ss - j))
    ∙ ap (λ k. list_any (λ h. is_in v (reads_at (s ∷ ss) h)) (range_with_len k (length ss - j))) (add-one j)
    ∙ ap (λ k. list_any (λ h. is_in v (reads_at (s ∷ ss) h)) (range_with_len (suc j) k)) (let e : length ss - j ≡ suc (length ss) - suc j = omega arith in e)

-- ---- the last value of a temp

in_at : (ts : List ℕ) (w p : ℕ) → w < length ts → slice_index ts w ≡ p → is_in p ts ≡ true
in_at ts w p l e = list_any_at (λ q. p == q) ts w 0 l (is_same p (slice_index ts w) (sym e))

last_is : (ts : List ℕ) (v p : ℕ) → v < length ts → v == last_value ts p ≡ (slice_index ts v == p && not (is_in (slice_index ts v) (drop (suc v) ts)))
unfolding last_value
last_is [] v p l = absurd (omega arith)
last_is (q ∷ qs) zero p l = go (p == q) refl
  where
    none : (n : ℕ) → 0 == suc n ≡ false
    none n = other_is 0 (suc n) (omega arith)

    pick : (b : Bool) → 0 == (if b then 0 else suc (last_value qs p)) ≡ b
    pick true = refl
    pick false = none (last_value qs p)

    go : (b : Bool) → p == q ≡ b → 0 == (if b && not (is_in p qs) then 0 else suc (last_value qs p)) ≡ (q == p && not (is_in q qs))
    go true e = pick (not (is_in p qs)) ∙ ap (λ n. not (is_in n qs)) (same_is p q e) ∙ sym (ap (λ b. b && not (is_in q qs)) (is_same q p (sym (same_is p q e))))
    go false e = none (last_value qs p) ∙ sym (ap (λ b. b && not (is_in q qs)) (other_is q p (λ s. true≢false (sym (is_same p q (sym s)) ∙ e))))
last_is (q ∷ qs) (suc w) p l = go (p == q && not (is_in p qs)) refl (last_is qs w p (omega arith))
  where
    and_right : (a b : Bool) → (a && b) ≡ true → b ≡ true
    and_right true b h = h
    and_right false b h = absurd (true≢false (sym h))

    step : (n : ℕ) → suc w == suc n ≡ (w == n)
    step n = grind (arith, nat_tests)

    here : (c : Bool) → slice_index qs w == p ≡ c → not (is_in p qs) ≡ true → false ≡ (c && not (is_in (slice_index qs w) (drop (suc w) qs)))
    here true e h = absurd (true≢false (sym (in_at qs w p (omega arith) (same_is (slice_index qs w) p e)) ∙ not_true (is_in p qs) h))
      where
        not_true : (b : Bool) → not b ≡ true → b ≡ false
        not_true true h = absurd (true≢false (sym h))
        not_true false h = refl
    here false e h = refl

    go : (b : Bool) → (p == q && not (is_in p qs)) ≡ b → (w == last_value qs p ≡ (slice_index qs w == p && not (is_in (slice_index qs w) (drop (suc w) qs))))
        → suc w == (if b then 0 else suc (last_value qs p)) ≡ (slice_index qs w == p && not (is_in (slice_index qs w) (drop (suc w) qs)))
    go true e h = other_is (suc w) 0 (omega arith) ∙ here (slice_index qs w == p) refl (and_right (p == q) (not (is_in p qs)) e)
    go false e h = step (last_value qs p) ∙ h

read_same : (ts : List ℕ) (v : ℕ) (ps : List ℕ) → v < length ts → is_in v (map (last_value ts) ps) ≡ (is_in (slice_index ts v) ps && not (is_in (slice_index ts v) (drop (suc v) ts)))
read_same ts v [] l = refl
read_same ts v (p ∷ ps) l =
    ap (λ b. b || is_in v (map (last_value ts) ps)) (last_is ts v p l)
    ∙ ap (λ b. (slice_index ts v == p && not (is_in (slice_index ts v) (drop (suc v) ts))) || b) (read_same ts v ps l)
    ∙ out (slice_index ts v == p) (is_in (slice_index ts v) ps) (not (is_in (slice_index ts v) (drop (suc v) ts)))
  where
    out : (x y c : Bool) → ((x && c) || (y && c)) ≡ ((x || y) && c)
    out true true true = refl
    out true true false = refl
    out true false true = refl
    out true false false = refl
    out false y c = refl

-- ---- values by the instructions that make them

module _ (vars : List Var) (insns : List Insn) where
  -- the temps of the values that are made before instruction h, and how many there are
  abbrev before : ℕ → List ℕ
  before h = temps_made vars (take h insns)

  abbrev made : ℕ → List ℕ
  made h = program.made_at vars insns h

  -- the temps that instructions make from a on
  between : (a m : ℕ) → before (a + m) ≡ before a ++ flat_map made (range_with_len a m)
  between a zero = ap before (let e : a + 0 ≡ a = omega arith in e) ∙ sym (append-nil (before a))
  between a (suc m) =
      ap before (let e : a + suc m ≡ a + 1 + m = omega arith in e)
      ∙ between (a + 1) m
      ∙ ap (λ (ts : List ℕ). ts ++ flat_map made (range_with_len (a + 1) m)) (ap before (add-one a) ∙ temps_more vars insns a)
      ∙ append_assoc (before a) (made a) (flat_map made (range_with_len (a + 1) m))

  -- the temps of values that instructions make after instruction i and before h
  abbrev after : ℕ → ℕ → List ℕ
  after i h = flat_map made (range_with_len (suc i) (h - suc i))

  split_at : (i h : ℕ) → i < h → before h ≡ before i ++ (made i ++ after i h)
  split_at i h l =
      ap before (let e : h ≡ i + suc (h - suc i) = omega arith in e)
      ∙ between i (suc (h - suc i))
      ∙ ap (λ n. before i ++ (made i ++ flat_map made (range_with_len n (h - suc i)))) (add-one i)

  -- the number of value k of instruction i
  abbrev number : ℕ → ℕ → ℕ
  number i k = length (before i) + k

  number_low : (i k h : ℕ) → i < h → k < length (made i) → number i k < length (before h)
  number_low i k h l m = omega (arith, ap length (split_at i h l), length-append (before i) (made i ++ after i h), length-append (made i) (after i h))

  temp_is : (i k h : ℕ) → i < h → k < length (made i) → slice_index (before h) (number i k) ≡ temp_of vars insns i k
  temp_is i k h l m =
      ap (λ (ts : List ℕ). slice_index ts (number i k)) (split_at i h l)
      ∙ get_or-append-add (before i) (made i ++ after i h) k 0
      ∙ get_or_append_left (made i) (after i h) 0 k m

  later_is : (t i k h : ℕ) → i < h → k < length (made i) → is_in t (drop (suc (number i k)) (before h)) ≡ (is_in t (drop (suc k) (made i)) || list_any (λ g. is_in t (made g)) (range_with_len (suc i) (h - suc i)))
  later_is t i k h l m =
      ap (is_in t) (ap (λ (ts : List ℕ). drop (suc (number i k)) ts) (split_at i h l)
      ∙ ap (λ n. drop n (before i ++ (made i ++ after i h))) (let e : suc (length (before i) + k) ≡ length (before i) + suc k = omega arith in e)
      ∙ drop-append-add (before i) (made i ++ after i h) (suc k)
      ∙ drop-append-le (suc k) (made i) (after i h) (omega arith))
      ∙ list_any-append (λ q. t == q) (drop (suc k) (made i)) (after i h)
      ∙ ap (λ b. is_in t (drop (suc k) (made i)) || b) (in_flat t made (range_with_len (suc i) (h - suc i)))

  module _ (known : List Pattern) where
    abbrev steps : List Step
    steps = steps_after vars known [] insns

    -- step h reads a value where instruction h does
    reads_same : (i k h : ℕ) → i < h → k < length (made i) → is_in (number i k) (reads_at steps h) ≡ is_read_at vars insns i k h
    reads_same i k h l m =
        let t = temp_of vars insns i k in
        let low : nat_lt i h ≡ true = grind (arith, nat_tests, l) in
        ap (is_in (number i k)) (steps_read vars known [] insns h)
        ∙ read_same (before h) (number i k) (read_at vars insns h) (number_low i k h l m)
        ∙ ap (λ n. is_in n (read_at vars insns h) && not (is_in n (drop (suc (number i k)) (before h)))) (temp_is i k h l m)
        ∙ ap (λ b. is_in t (read_at vars insns h) && not b) (later_is t i k h l m)
        ∙ sym (ap (λ b. b && (is_in t (read_at vars insns h) && not (is_made_again vars insns i k h))) low)

    live_same : (j i k : ℕ) → i < j → k < length (made i) → is_read_in (drop j steps) (number i k) ≡ is_live vars insns j i k
    live_same j i k l m =
        let low : nat_lt i j ≡ true = grind (arith, nat_tests, l) in
        read_from (number i k) steps j
        ∙ ap (λ n. list_any (λ h. is_in (number i k) (reads_at steps h)) (range_with_len j (n - j))) (steps_long vars known [] insns)
        ∙ any_same (λ h. is_in (number i k) (reads_at steps h)) (is_read_at vars insns i k) j (length insns - j) (λ h g. reads_same i k h (omega arith) m)
        ∙ sym (ap (λ b. b && list_any (is_read_at vars insns i k) (range_with_len j (length insns - j))) low)

    -- what passes of the values that are made before step j, by the instructions that make them
    passed_by_makers : (p : ℕ → Bool) (j : ℕ) → length (filter p (made_in (take j steps))) ≡ sum_by (λ i. length (filter (λ k. p (number i k)) (range_with_len 0 (length (made i))))) (range_with_len 0 j)
    passed_by_makers p zero = refl
    passed_by_makers p (suc j) =
        let f = λ (i : ℕ). length (filter (λ k. p (number i k)) (range_with_len 0 (length (made i)))) in
        let one : length (filter p (made_at steps j)) ≡ f j =
        ap (λ (vs : List ℕ). length (filter p vs)) (steps_made vars known [] insns j)
        ∙ ap (λ n. length (filter p (range_with_len n (length (made j))))) (let e : length (before j) ≡ length (before j) + 0 = omega arith in e)
        ∙ passed_next p (length (before j)) 0 (length (made j)) in
        ap (λ (vs : List ℕ). length (filter p vs)) (made_more steps j)
        ∙ ap length (filter-append p (made_in (take j steps)) (made_at steps j))
        ∙ length-append (filter p (made_in (take j steps))) (filter p (made_at steps j))
        ∙ ap (λ n. n + length (filter p (made_at steps j))) (passed_by_makers p j)
        ∙ ap (λ n. sum_by f (range_with_len 0 j) + n) one
        ∙ sym (sum_more f j)

    live_counted : (j : ℕ) → length (filter (is_read_in (drop j steps)) (made_in (take j steps))) ≡ live_count vars insns j
    live_counted j =
        passed_by_makers (is_read_in (drop j steps)) j
        ∙ sum_same (λ i. length (filter (λ k. is_read_in (drop j steps) (number i k)) (range_with_len 0 (length (made i))))) (λ i. count_by (is_live vars insns j i) (range_with_len 0 (length (made i)))) j
        (λ i l. passed_same (λ k. is_read_in (drop j steps) (number i k)) (is_live vars insns j i) 0 (length (made i)) (λ k z m. live_same j i k l (omega arith))
        ∙ length-filter (is_live vars insns j i) (range_with_len 0 (length (made i))))

    pub same_need_after : (j : ℕ) → need_in steps j ≡ need_of vars insns j
    unfolding need_in need_of
    same_need_after j =
        length-append (filter (is_read_in (drop j steps)) (made_in (take j steps))) (made_at steps j)
        ∙ ap (λ n. n + length (made_at steps j)) (live_counted j)
        ∙ ap (λ n. live_count vars insns j + n) (ap length (steps_made vars known [] insns j) ∙ length-range_with_len (length (before j)) (length (made j)))

-- Need of a step is Need of its instruction
pub same_need : (f : FunctionValue) (j : ℕ) → need_in (steps_of f) j ≡ need_of f.vars f.insns j
unfolding steps_of
same_need f j = same_need_after f.vars f.insns (patterns_of f.vars f.insns) j

map_same : (f g : ℕ → ℕ) → ((x : ℕ) → f x ≡ g x) → (xs : List ℕ) → map f xs ≡ map g xs
map_same f g h [] = refl
map_same f g h (x ∷ xs) = ap (λ y. y ∷ map f xs) (h x) ∙ ap (λ (ys : List ℕ). g x ∷ ys) (map_same f g h xs)

-- there are as many steps as instructions
pub same_count : (f : FunctionValue) → length (steps_of f) ≡ length f.insns
unfolding steps_of
same_count f = steps_long f.vars (patterns_of f.vars f.insns) [] f.insns

-- the largest need of a step is that of an instruction
pub same_widest : (f : FunctionValue) → widest (steps_of f) ≡ largest_need f
same_widest f =
    ap (λ n. fold max 0 (map (need_in (steps_of f)) (range_with_len 0 n))) (same_count f)
    ∙ ap (fold max 0) (map_same (need_in (steps_of f)) (need_of f.vars f.insns) (same_need f) (range_with_len 0 (length f.insns)))

-- the same as the code has it
pub widest_is : (f : FunctionValue) (core : List Step) (n : ℕ) → n ≡ widest core → core ≡ steps_of f → n ≡ largest_need f
widest_is f core n is same = is ∙ ap widest same ∙ same_widest f

nowhere : (at : List ℕ) (v : ℕ) → length at ≤ v → slice_index at v ≡ 0
nowhere [] v l = refl
nowhere (p ∷ ps) zero l = absurd (omega (arith, l))
nowhere (p ∷ ps) (suc v) l = nowhere ps v (omega (arith, l))

-- where a value has a place that is no register, some instruction needs more values than there are registers
pub only_spilled : (f : FunctionValue) (at : List ℕ) → GoodPlaces (steps_of f) at → (v : ℕ) → registers ≤ slice_index at v → spills f ≡ true
only_spilled f at good v far = go (cases_lt registers (largest_need f)) (cases_lt v (length at))
  where
    go : (registers < largest_need f) ⊎ (largest_need f ≤ registers) → (v < length at) ⊎ (length at ≤ v) → spills f ≡ true
    go (inl h) there = grind (arith, nat_tests, h)
    go (inr h) (inl l) = absurd (omega (arith, far, good.near (omega (arith, h, same_widest f)) v l))
    go (inr h) (inr l) = absurd (omega (arith, far, nowhere at v l))

lines_after : (vars : List Var) (known : List Pattern) (temps : List ℕ) (insns : List Insn) → map (λ (s : Step). s.line) (steps_after vars known temps insns) ≡ map (λ (i : Insn). i.line) insns
lines_after vars known temps [] = refl
lines_after vars known temps (insn ∷ insns) = ap (λ (ns : List ℕ). insn.line ∷ ns) (lines_after vars known (temps ++ made_by vars insn) insns)

-- the line of a step is that of its instruction
pub same_line : (f : FunctionValue) (j : ℕ) → line_at (steps_of f) j ≡ slice_index (map (λ (i : Insn). i.line) f.insns) j
unfolding steps_of
same_line f j = ap (λ (ns : List ℕ). slice_index ns j) (lines_after f.vars (patterns_of f.vars f.insns) [] f.insns)
