-- Temps stand in the places of their last values.
use Rattle.std.proofs.Common.{◌≡◌, ◌≢◌, ℕ, zero, suc, ◌+◌, ◌<◌, ◌≤◌, ◌⊎◌, inl, inr, Bool, true, false, not, ◌||◌, ◌&&◌, ◌==◌, nat_lt, List, [], ◌∷◌, ◌++◌, refl, sym, ap, ◌∙◌, subst, arith, length, map, filter, take, drop, slice_index, if◌then◌else◌, append_assoc, append-nil, length-append, true≢false}
use Rattle.std.specs.List.{list_all, range_with_len}
use Rattle.std.proofs.lemmas.Bool.{or_cases}
use Rattle.std.proofs.lemmas.Bool.Decides.{nat_tests}
use Rattle.std.proofs.lemmas.Grind.{flat_map-append}
use Rattle.std.proofs.lemmas.List.Folds.{list_any-append}
use Rattle.std.proofs.lemmas.List.FromFn.{length-range_with_len}
use Rattle.orc_program.specs.declared.program.Var.{Var}
use Rattle.orc_program.specs.declared.program.Insn.{Insn}
use Rattle.orc_program.specs.declared.program.Pattern.{Pattern}
use Rattle.orc_program.specs.Program.{FunctionValue}
use Rattle.orc_program.specs.Checks.{insn_fault, patterns_of}
use Rattle.orc_program.specs.Kept.{is_function, all_pass, is_shaped, has_no_fault}
use Rattle.orc_program.specs.Need.{is_in, made_by, read_by, places}
use Rattle.orc_program.proofs.Sizes.{both, kept_of}
use Rattle.orc_plan.specs.declared.steps.Step.{Step}
use Rattle.orc_plan.specs.Core as core
use Rattle.orc_plan.specs.Core.{made_in}
use Rattle.orc_plan.specs.Need.{is_read_in, made_at, counted}
use Rattle.orc_plan.specs.Places.{GoodPlaces}
use Rattle.orc_plan.specs.Lowered.{temps_made, last_value, step_of, steps_after, steps_of}
use Rattle.orc_plan.specs.Standing.{Stands, later_steps, StandAt, AllStand}
use Rattle.orc_plan.proofs.Holding.{is_same, same_is, other_is, in_more}
use Rattle.orc_plan.proofs.Last.{last_below}
use Rattle.orc_plan.proofs.Numbered.{results_made, sources_read, reads_made, sources_pass, one_more}

-- ---- elements of lists

or_left : (a b : Bool) → a ≡ true → (a || b) ≡ true
or_left true b h = refl
or_left false b h = absurd (true≢false (sym h))

or_right : (a b : Bool) → b ≡ true → (a || b) ≡ true
or_right true b h = refl
or_right false b h = h

or_none : (a : Bool) → (a || false) ≡ a
or_none true = refl
or_none false = refl

in_left : (v : ℕ) (xs ys : List ℕ) → is_in v xs ≡ true → is_in v (xs ++ ys) ≡ true
in_left v xs ys h = list_any-append (λ q. v == q) xs ys ∙ or_left (is_in v xs) (is_in v ys) h

in_right : (v : ℕ) (xs ys : List ℕ) → is_in v ys ≡ true → is_in v (xs ++ ys) ≡ true
in_right v xs ys h = list_any-append (λ q. v == q) xs ys ∙ or_right (is_in v xs) (is_in v ys) h

in_range : (v a m : ℕ) → a ≤ v → v < a + m → is_in v (range_with_len a m) ≡ true
in_range v a zero l h = absurd (omega arith)
in_range v a (suc m) l h = go (v == a) refl (in_range v (a + 1) m)
  where
    go : (b : Bool) → v == a ≡ b → (a + 1 ≤ v → v < a + 1 + m → is_in v (range_with_len (a + 1) m) ≡ true) → (b || is_in v (range_with_len (a + 1) m)) ≡ true
    go true e later = refl
    go false e later =
        let other : v ≢ a = λ s. true≢false (sym (is_same v a s) ∙ e) in
        later (omega arith) (omega arith)

in_filter : (p : ℕ → Bool) (xs : List ℕ) (v : ℕ) → is_in v xs ≡ true → p v ≡ true → is_in v (filter p xs) ≡ true
in_filter p [] v h e = h
in_filter p (x ∷ xs) v h e = go (p x) refl (or_cases (v == x) (is_in v xs) h) (λ s. in_filter p xs v s e)
  where
    go : (b : Bool) → p x ≡ b → (v == x ≡ true) ⊎ (is_in v xs ≡ true) → (is_in v xs ≡ true → is_in v (filter p xs) ≡ true) → is_in v (if b then x ∷ filter p xs else filter p xs) ≡ true
    go true k (inl s) later = or_left (v == x) (is_in v (filter p xs)) s
    go true k (inr s) later = or_right (v == x) (is_in v (filter p xs)) (later s)
    go false k (inl s) later = absurd (true≢false (sym e ∙ ap p (same_is v x s) ∙ k))
    go false k (inr s) later = later s

in_map : (f : ℕ → ℕ) (xs : List ℕ) (x : ℕ) → is_in x xs ≡ true → is_in (f x) (map f xs) ≡ true
in_map f [] x h = h
in_map f (y ∷ ys) x h = go (or_cases (x == y) (is_in x ys) h) (in_map f ys x)
  where
    go : (x == y ≡ true) ⊎ (is_in x ys ≡ true) → (is_in x ys ≡ true → is_in (f x) (map f ys) ≡ true) → (f x == f y || is_in (f x) (map f ys)) ≡ true
    go (inl s) later = or_left (f x == f y) (is_in (f x) (map f ys)) (is_same (f x) (f y) (ap f (same_is x y s)))
    go (inr s) later = or_right (f x == f y) (is_in (f x) (map f ys)) (later s)

of_all : (p : ℕ → Bool) (xs : List ℕ) (x : ℕ) → list_all p xs ≡ true → is_in x xs ≡ true → p x ≡ true
of_all p [] x a h = absurd (true≢false (sym h))
of_all p (y ∷ ys) x a h = go (both (p y) (list_all p ys) a) (or_cases (x == y) (is_in x ys) h) (of_all p ys x)
  where
    go : (p y ≡ true) × (list_all p ys ≡ true) → (x == y ≡ true) ⊎ (is_in x ys ≡ true) → (list_all p ys ≡ true → is_in x ys ≡ true → p x ≡ true) → p x ≡ true
    go t (inl s) later = ap p (same_is x y s) ∙ t.0
    go t (inr s) later = later t.1 s

-- ---- one more value

last_new : (temps : List ℕ) (y x : ℕ) → x ≡ y → last_value (temps ++ y ∷ []) x ≡ length temps
unfolding last_value
last_new [] y x e = ap (λ b. if b && true then 0 else 1) (is_same x y e)
last_new (q ∷ qs) y x e =
    ap (λ b. if x == q && not b then 0 else suc (last_value (qs ++ y ∷ []) x)) (in_right x qs (y ∷ []) (or_left (x == y) false (is_same x y e)))
    ∙ past (x == q) (suc (last_value (qs ++ y ∷ []) x))
    ∙ ap suc (last_new qs y x e)
  where
    past : (b : Bool) (n : ℕ) → (if b && false then 0 else n) ≡ n
    past true n = refl
    past false n = refl

last_other : (temps : List ℕ) (y x : ℕ) → x ≢ y → is_in x temps ≡ true → last_value (temps ++ y ∷ []) x ≡ last_value temps x
unfolding last_value
last_other [] y x other h = absurd (true≢false (sym h))
last_other (q ∷ qs) y x other h =
    ap (λ b. if x == q && not b then 0 else suc (last_value (qs ++ y ∷ []) x)) (list_any-append (λ t. x == t) qs (y ∷ []) ∙ ap (λ b. is_in x qs || (b || false)) (other_is x y other) ∙ or_none (is_in x qs))
    ∙ go (x == q) (is_in x qs) h (last_other qs y x other)
  where
    go : (a b : Bool) → (a || b) ≡ true → (b ≡ true → last_value (qs ++ y ∷ []) x ≡ last_value qs x)
        → (if a && not b then 0 else suc (last_value (qs ++ y ∷ []) x)) ≡ (if a && not b then 0 else suc (last_value qs x))
    go true true s later = ap suc (later refl)
    go true false s later = refl
    go false true s later = ap suc (later refl)
    go false false s later = absurd (true≢false (sym s))

-- what stands with one more value is that value, or stood without it
stood : (at temps : List ℕ) (steps : List Step) (y x p : ℕ) → Stands at (temps ++ y ∷ []) steps x p → ((x ≡ y) × (p ≡ slice_index at (length temps))) ⊎ ((x ≢ y) × Stands at temps steps x p)
stood at temps steps y x p s = go (x == y) refl
  where
    old : x ≢ y → (is_in x temps ≡ true) ⊎ (x ≡ y) → ((x ≡ y) × (p ≡ slice_index at (length temps))) ⊎ ((x ≢ y) × Stands at temps steps x p)
    old other (inl i) =
        let same = last_other temps y x other i in
        inr (other, (i, sym (ap (is_read_in steps) same) ∙ s.1, sym (ap (slice_index at) same) ∙ s.2))
    old other (inr t) = absurd (other t)

    go : (b : Bool) → x == y ≡ b → ((x ≡ y) × (p ≡ slice_index at (length temps))) ⊎ ((x ≢ y) × Stands at temps steps x p)
    go true e = inl (same_is x y e, sym s.2 ∙ ap (slice_index at) (last_new temps y x (same_is x y e)))
    go false e = old (λ t. true≢false (sym (is_same x y t) ∙ e)) (in_more temps y x s.0)

-- ---- values that count at a step

took : (before steps : List Step) → take (length before) (before ++ steps) ≡ before
took [] steps = refl
took (s ∷ ss) steps = ap (λ (ts : List Step). s ∷ ts) (took ss steps)

dropped : (before steps : List Step) → drop (length before) (before ++ steps) ≡ steps
dropped [] steps = refl
dropped (s ∷ ss) steps = dropped ss steps

made_after : (before : List Step) (step : Step) (later : List Step) → made_at (before ++ step ∷ later) (length before) ≡ core.made_by step
made_after [] step later = refl
made_after (s ∷ ss) step later = made_after ss step later

counted_after : (before : List Step) (step : Step) (later : List Step) → counted (before ++ step ∷ later) (length before) ≡ filter (is_read_in (step ∷ later)) (made_in before) ++ core.made_by step
counted_after before step later =
    ap (λ (ss : List Step). filter (is_read_in ss) (made_in (take (length before) (before ++ step ∷ later))) ++ made_at (before ++ step ∷ later) (length before)) (dropped before (step ∷ later))
    ∙ ap (λ (ss : List Step). filter (is_read_in (step ∷ later)) (made_in ss) ++ made_at (before ++ step ∷ later) (length before)) (took before (step ∷ later))
    ∙ ap (λ (vs : List ℕ). filter (is_read_in (step ∷ later)) (made_in before) ++ vs) (made_after before step later)

-- steps that make the values below n
record Makes (steps : List Step) (n : ℕ) : Type 0 where
  pub has : (v : ℕ) → v < n → is_in v (made_in steps) ≡ true
  pub long : length (made_in steps) ≡ n

less_other : (v w : ℕ) → v < w → v ≢ w
less_other v w l s = omega arith

low_or_not : (v n : ℕ) → (v < n) ⊎ (n ≤ v)
low_or_not v n = go (nat_lt v n) refl
  where
    go : (b : Bool) → nat_lt v n ≡ b → (v < n) ⊎ (n ≤ v)
    go true e = inl (grind (arith, nat_tests, e))
    go false e = inr (grind (arith, nat_tests, e))

module _ (vars : List Var) (known : List Pattern) (at temps : List ℕ) (insn : Insn) (rest : List Insn) (before : List Step) where
  abbrev step : Step
  step = step_of vars known temps insn

  abbrev later : List Step
  later = later_steps vars known temps insn rest

  abbrev here : List Step
  here = step ∷ later

  abbrev n : ℕ
  n = length temps

  abbrev m : ℕ
  m = length (made_by vars insn)

  step_makes : core.made_by step ≡ range_with_len n m
  step_makes = results_made vars n insn.results.items

  step_long : length (core.made_by step) ≡ m
  step_long = ap length step_makes ∙ length-range_with_len n m

  makes_new : (v : ℕ) → n ≤ v → v < n + m → is_in v (core.made_by step) ≡ true
  makes_new v l h = ap (is_in v) step_makes ∙ in_range v n m l h

  -- with the step, all values of its instruction are made
  makes_more : Makes before n → Makes (before ++ step ∷ []) (length (temps ++ made_by vars insn))
  makes_more past = record {
    has = λ v l. ap (is_in v) parts ∙ go v (omega (arith, l, length-append temps (made_by vars insn))) (low_or_not v n);
    long = omega (arith, ap length parts, length-append (made_in before) (core.made_by step), past.long, step_long, length-append temps (made_by vars insn));
  }
    where
      parts : made_in (before ++ step ∷ []) ≡ made_in before ++ core.made_by step
      parts = flat_map-append core.made_by before (step ∷ []) ∙ ap (λ (vs : List ℕ). made_in before ++ vs) (append-nil (core.made_by step))

      go : (v : ℕ) → v < n + m → (v < n) ⊎ (n ≤ v) → is_in v (made_in before ++ core.made_by step) ≡ true
      go v l (inl h) = in_left v (made_in before) (core.made_by step) (past.has v h)
      go v l (inr h) = in_right v (made_in before) (core.made_by step) (makes_new v h l)

  -- ---- values that count

  abbrev Counts : ℕ → Type 0
  Counts v = is_in v (counted (before ++ here) (length before)) ≡ true

  old_counts : Makes before n → (v : ℕ) → v < n → is_read_in here v ≡ true → Counts v
  old_counts past v l r =
      ap (is_in v) (counted_after before step later)
      ∙ in_left v (filter (is_read_in here) (made_in before)) (core.made_by step) (in_filter (is_read_in here) (made_in before) v (past.has v l) r)

  new_counts : (v : ℕ) → n ≤ v → v < n + m → Counts v
  new_counts v l h = ap (is_in v) (counted_after before step later) ∙ in_right v (filter (is_read_in here) (made_in before)) (core.made_by step) (makes_new v l h)

  differ : GoodPlaces (before ++ here) at → (v w : ℕ) → Counts v → Counts w → v < w → slice_index at v ≢ slice_index at w
  differ good v w x y l s = less_other v w l (good.apart (length before) (omega (arith, length-append before here)) v w x y s)

  -- ---- what the instruction reads

  read_here : (x : ℕ) → is_in x (read_by vars insn) ≡ true → is_read_in here (last_value temps x) ≡ true
  read_here x h =
      let v = last_value temps x in
      or_left (is_in v (core.read_by step)) (is_read_in later v) (ap (is_in v) (sources_read vars known temps insn.op 0 insn.sources.items) ∙ in_map (last_value temps) (read_by vars insn) x h)

  read_later : (v : ℕ) → is_read_in later v ≡ true → is_read_in here v ≡ true
  read_later v h = or_right (is_in v (core.read_by step)) (is_read_in later v) h

  stays : (x p : ℕ) → Stands at temps later x p → Stands at temps here x p
  stays x p s = (s.0, read_later (last_value temps x) s.1, s.2)

  below_all : Makes before n → GoodPlaces (before ++ here) at → (v : ℕ) → v < length (temps ++ made_by vars insn) → slice_index at v < places
  below_all past good v l =
      let whole : length (made_in (before ++ here)) ≡ length (made_in before) + (length (core.made_by step) + length (made_in later)) =
      ap length (flat_map-append core.made_by before here) ∙ length-append (made_in before) (made_in here) ∙ ap (λ k. length (made_in before) + k) (length-append (core.made_by step) (made_in later)) in
      good.below v (omega (arith, l, good.one_each, whole, past.long, step_long, length-append temps (made_by vars insn)))

  -- ---- its results

  first_of_it : Makes before n → GoodPlaces (before ++ here) at → (y : ℕ) (more : List ℕ) → made_by vars insn ≡ y ∷ more → (x p : ℕ) → Stands at (temps ++ y ∷ []) later x p
      → ((x ≡ y) × (p ≡ slice_index at n)) ⊎ ((x ≢ y) × (p ≢ slice_index at n) × Stands at temps here x p)
  first_of_it past good y more e x p s = go (stood at temps later y x p s)
    where
      elsewhere : Stands at temps later x p → p ≢ slice_index at n
      elsewhere t q =
          let v = last_value temps x in
          let low = last_below temps x t.0 in
          differ good v n (old_counts past v low (read_later v t.1)) (new_counts n (omega arith) (omega (arith, ap length e))) low (t.2 ∙ q)

      go : ((x ≡ y) × (p ≡ slice_index at n)) ⊎ ((x ≢ y) × Stands at temps later x p) → ((x ≡ y) × (p ≡ slice_index at n)) ⊎ ((x ≢ y) × (p ≢ slice_index at n) × Stands at temps here x p)
      go (inl t) = inl t
      go (inr t) = inr (t.0, elsewhere t.1, stays x p t.1)

  second_of_it : Makes before n → GoodPlaces (before ++ here) at → (y z : ℕ) → made_by vars insn ≡ y ∷ z ∷ [] → (x p : ℕ) → Stands at (temps ++ y ∷ z ∷ []) later x p
      → ((x ≡ z) × (p ≡ slice_index at (n + 1))) ⊎ ((x ≢ z) × (p ≢ slice_index at (n + 1)) × Stands at (temps ++ y ∷ []) later x p)
  second_of_it past good y z e x p s = go (stood at (temps ++ y ∷ []) later z x p (subst (λ (ts : List ℕ). Stands at ts later x p) (sym (append_assoc temps (y ∷ []) (z ∷ []))) s))
    where
      two_made : m ≡ 2
      two_made = ap length e

      long : length (temps ++ y ∷ []) ≡ n + 1
      long = length-append temps (y ∷ [])

      counts : (v : ℕ) → v < n + 1 → is_read_in later v ≡ true → (v < n) ⊎ (n ≤ v) → Counts v
      counts v l r (inl h) = old_counts past v h (read_later v r)
      counts v l r (inr h) = new_counts v h (omega (arith, two_made))

      elsewhere : Stands at (temps ++ y ∷ []) later x p → p ≢ slice_index at (n + 1)
      elsewhere t q =
          let v = last_value (temps ++ y ∷ []) x in
          let low : v < n + 1 = omega (arith, last_below (temps ++ y ∷ []) x t.0, long) in
          differ good v (n + 1) (counts v low t.1 (low_or_not v n)) (new_counts (n + 1) (omega arith) (omega (arith, two_made))) low (t.2 ∙ q)

      go : ((x ≡ z) × (p ≡ slice_index at (length (temps ++ y ∷ [])))) ⊎ ((x ≢ z) × Stands at (temps ++ y ∷ []) later x p)
          → ((x ≡ z) × (p ≡ slice_index at (n + 1))) ⊎ ((x ≢ z) × (p ≢ slice_index at (n + 1)) × Stands at (temps ++ y ∷ []) later x p)
      go (inl t) = inl (t.0, t.1 ∙ ap (slice_index at) long)
      go (inr t) = inr (t.0, elsewhere t.1, t.1)

  -- ---- all of it

  stand_at : Makes before n → GoodPlaces (before ++ here) at → ((x : ℕ) → is_in x (read_by vars insn) ≡ true → is_in x temps ≡ true) → StandAt vars known at temps insn rest
  stand_at past good made = record {
    reads = λ x h. (made x h, read_here x h, refl);
    below = below_all past good;
    none = stays;
    first = first_of_it past good;
    second = second_of_it past good;
    apart = λ x h k l.
        let v = last_value temps x in
        let low = last_below temps x (made x h) in
        differ good v (n + k) (old_counts past v low (read_here x h)) (new_counts (n + k) (omega arith) (omega arith)) (omega arith);
    two = λ e. differ good n (n + 1) (new_counts n (omega arith) (omega arith)) (new_counts (n + 1) (omega arith) (omega arith)) (omega arith);
  }

-- ---- all instructions

all_stand_after : (vars : List Var) (known : List Pattern) (at temps : List ℕ) (earlier insns : List Insn) (before : List Step) → temps ≡ temps_made vars earlier → all_pass vars earlier insns ≡ true
    → Makes before (length temps) → GoodPlaces (before ++ steps_after vars known temps insns) at → AllStand vars known at temps insns
all_stand_after vars known at temps earlier [] before same h past good = tt
all_stand_after vars known at temps earlier (insn ∷ insns) before same h past good =
    let a = both (is_shaped vars insn) (has_no_fault (insn_fault vars earlier insn) && all_pass vars (earlier ++ insn ∷ []) insns) h in
    let b = both (has_no_fault (insn_fault vars earlier insn)) (all_pass vars (earlier ++ insn ∷ []) insns) a.1 in
    let step = step_of vars known temps insn in
    let later = steps_after vars known (temps ++ made_by vars insn) insns in
    let all = reads_made vars earlier insn.op insn.prefix 0 insn.sources.items (sources_pass vars earlier insn b.0) in (
      stand_at vars known at temps insn insns before past good (λ x r. ap (is_in x) same ∙ of_all (λ t. is_in t (temps_made vars earlier)) (read_by vars insn) x all r),
      all_stand_after vars known at (temps ++ made_by vars insn) (earlier ++ insn ∷ []) insns (before ++ step ∷ []) (ap (λ (ts : List ℕ). ts ++ made_by vars insn) same ∙ sym (one_more vars earlier insn)) b.1
          (makes_more vars known at temps insn insns before past) (subst (λ (ss : List Step). GoodPlaces ss at) (sym (append_assoc before (step ∷ []) later)) good),
    )

-- at each instruction of a function
pub all_stand : (f : FunctionValue) → is_function f ≡ true → (at : List ℕ) → GoodPlaces (steps_of f) at → AllStand f.vars (patterns_of f.vars f.insns) at [] f.insns
unfolding steps_of
all_stand f h at good =
    all_stand_after f.vars (patterns_of f.vars f.insns) at [] [] f.insns [] refl (kept_of f h).insns (record { has = λ v l. absurd (omega arith); long = refl }) good
