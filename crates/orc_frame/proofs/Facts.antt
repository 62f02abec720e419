-- What holds of the layout of a function: its numbers are known, its sums are of 2 or 4 bytes, its slots are where they are.
use Rattle.std.proofs.Common.{◌≡◌, ◌≢◌, ℕ, zero, suc, ◌+◌, ◌^◌, ◌<◌, ◌≤◌, ◌==◌, ◌&&◌, ◌||◌, not, nat_lt, pos, Bool, true, false, true≢false, cond, if◌then◌else◌, List, [], ◌∷◌, ◌++◌, length, get_or, map, Some, None, refl, sym, subst, arith, fold, ◌⊎◌, ⊎_elim}
use Rattle.std.specs.Prelude.{◌≤ℤ◌}
use Rattle.std.specs.List.{filter, range_with_len, list_all, list_any, cons_option}
use Rattle.std.proofs.lemmas.Bool.{cases_eq}
use Rattle.std.proofs.lemmas.Bool.Decides.{nat_tests}
use Rattle.std.proofs.lemmas.List.FromFn.{get_or-map-range_with_len}
use Rattle.orc_bits.proofs.LaneLaws.{eq_true}
use Rattle.orc_ops.specs.declared.opcode.Op.{Op}
use Rattle.orc_program.specs.declared.program.Var.{Var}
use Rattle.orc_program.specs.declared.program.VarKind.{VarKind}
use Rattle.orc_program.specs.declared.program.VarKind.TheVariants as kind
use Rattle.orc_program.specs.declared.program.Operand.{Operand}
use Rattle.orc_program.specs.declared.program.Operand.TheVariants as operand
use Rattle.orc_program.specs.declared.program.Insn.{Insn}
use Rattle.orc_program.specs.declared.program.Pattern.{Pattern}
use Rattle.orc_program.specs.Program.{FunctionValue, var_at, is_array, is_of, same_kind, places_of}
use Rattle.orc_program.specs.Checks.{number_in, way_of, pattern_with, uses_from, same_pattern, add_pattern, add_patterns, patterns_of, insn_fault}
use Rattle.orc_program.specs.Kept.{is_function, is_var, is_size_for, is_in_range, is_shaped, all_pass, has_no_fault, has_none, result_count, source_count}
use Rattle.orc_program.specs.Words.{is_name, is_word}
use Rattle.orc_program.specs.Notes.{ends_in_align, has_bad_align}
use Rattle.orc_program.proofs.Sizes.{both, kept_of}
use Rattle.x86_ins.specs.Way.{Each}
use Rattle.x86_flow.proofs.Spelled.{each_both}
use Rattle.orc_frame.specs.declared.frame.Layout.{Layout}
use Rattle.orc_frame.specs.Layout.{pattern_slot, sum_slot, saved_slot, block_slot, acc_sizes_of, layout_of, displacements, index_in, frame_size}
use Rattle.orc_frame.specs.Frame.{IsLayout, pattern_at, no_pattern, acc_size}
use Rattle.orc_frame.specs.Code.{nth, IsWhole}
use Rattle.orc_program.proofs.Places.{length-places_of}
use Rattle.orc_frame.proofs.Places.{limits, displacements_count}
use Rattle.orc_frame.proofs.Apart.{length-acc_sizes_of, low}
use Rattle.orc_frame.proofs.Fills.{IsKnown}

each_at : {A : Type 0} (P : A → Type 0) (xs : List A) (k : ℕ) (d : A) → k < length xs → Each P xs → P (get_or xs k d)
each_at P [] k d l h = absurd (omega (arith, l))
each_at P (x ∷ xs) zero d l h = h.0
each_at P (x ∷ xs) (suc k) d l h = each_at P xs k d (omega (arith, l)) h.1

each_mapped : {A B : Type 0} (P : B → Type 0) (g : A → B) (xs : List A) → Each (λ x. P (g x)) xs → Each P (map g xs)
each_mapped P g [] h = tt
each_mapped P g (x ∷ xs) h = (h.0, each_mapped P g xs h.1)

pub below : (n m : ℕ) → nat_lt n m ≡ true → n < m
below n m h = grind (arith, nat_tests, h)

-- ---- places that pass a test

filter_each : (t : ℕ → Bool) (m a n : ℕ) → a + n ≤ m → Each (λ p. (p < m) × (t p ≡ true)) (filter t (range_with_len a n))
filter_each t m a zero l = tt
filter_each t m a (suc n) l = go (filter_each t m (a + 1) n (omega (arith, l))) (t a) refl
  where
    rest : List ℕ
    rest = filter t (range_with_len (a + 1) n)

    go : Each (λ p. (p < m) × (t p ≡ true)) rest → (b : Bool) → t a ≡ b → Each (λ p. (p < m) × (t p ≡ true)) (cond b (a ∷ rest) rest)
    go h true e = ((omega (arith, l), e), h)
    go h false e = h

index_found : (t : ℕ → Bool) (p a n : ℕ) → a ≤ p → p < a + n → t p ≡ true → index_in (filter t (range_with_len a n)) p < length (filter t (range_with_len a n))
index_found t p a zero l h e = absurd (omega (arith, l, h))
index_found t p a (suc n) l h e = ⊎_elim here (there (λ ne. index_found t p (a + 1) n (omega (arith, l, ne)) (omega (arith, h)) e)) (cases_eq a p)
  where
    rest : List ℕ
    rest = filter t (range_with_len (a + 1) n)

    at_once : (b : Bool) → b ≡ true → index_in (cond b (p ∷ rest) rest) p < length (cond b (p ∷ rest) rest)
    at_once true q = subst (λ c. (if c then 0 else 1 + index_in rest p) < suc (length rest)) (sym (eq_true p)) (omega arith)
    at_once false q = absurd (true≢false (sym q))

    here : a ≡ p → index_in (cond (t a) (a ∷ rest) rest) p < length (cond (t a) (a ∷ rest) rest)
    here q = subst (λ x. index_in (cond (t x) (x ∷ rest) rest) p < length (cond (t x) (x ∷ rest) rest)) (sym q) (at_once (t p) e)

    later : (b c : Bool) → index_in rest p < length rest → (let k : ℕ = if c then 0 else 1 + index_in rest p in k) < suc (length rest)
    later b true i = omega arith
    later b false i = omega (arith, i)

    behind : (b : Bool) → index_in rest p < length rest → index_in (cond b (a ∷ rest) rest) p < length (cond b (a ∷ rest) rest)
    behind true i = later true (a == p) i
    behind false i = i

    there : (a ≢ p → index_in rest p < length rest) → a ≢ p → index_in (cond (t a) (a ∷ rest) rest) p < length (cond (t a) (a ∷ rest) rest)
    there found ne = behind (t a) (found ne)

-- ---- variables

var_kept : (vars : List Var) (p : ℕ) → list_all is_var vars ≡ true → p < length vars → is_var (var_at vars p) ≡ true
var_kept [] p h l = absurd (omega (arith, l))
var_kept (v ∷ vars) zero h l = (both (is_var v) (list_all is_var vars) h).0
var_kept (v ∷ vars) (suc p) h l = var_kept vars p (both (is_var v) (list_all is_var vars) h).1 (omega (arith, l))

sum_size : (k : VarKind) (n : ℕ) → same_kind kind.Accumulator k ≡ true → is_size_for k n ≡ true → (n ≡ 2) ⊎ (n ≡ 4)
sum_size kind.Accumulator n h g = grind (arith, nat_tests, g)
sum_size kind.Source n h g = absurd (true≢false (sym h))
sum_size kind.Dest n h g = absurd (true≢false (sym h))
sum_size kind.Param n h g = absurd (true≢false (sym h))
sum_size kind.Const n h g = absurd (true≢false (sym h))
sum_size kind.Temp n h g = absurd (true≢false (sym h))

pub sizes_are : (f : FunctionValue) → is_function f ≡ true → Each (λ n. (n ≡ 2) ⊎ (n ≡ 4)) (acc_sizes_of f.vars)
sizes_are f is =
    let t : ℕ → Bool = λ p. is_of kind.Accumulator (var_at f.vars p) in
    each_mapped (λ n. (n ≡ 2) ⊎ (n ≡ 4)) (λ p. (var_at f.vars p).size) (places_of kind.Accumulator f.vars)
    (sized (places_of kind.Accumulator f.vars) (filter_each t (length f.vars) 0 (length f.vars) (omega arith)))
  where
    sized : (ps : List ℕ) → Each (λ p. (p < length f.vars) × (is_of kind.Accumulator (var_at f.vars p) ≡ true)) ps → Each (λ p. ((var_at f.vars p).size ≡ 2) ⊎ ((var_at f.vars p).size ≡ 4)) ps
    sized [] h = tt
    sized (p ∷ ps) h =
        let v = var_at f.vars p in
        (sum_size v.kind v.size h.0.1 (both (is_size_for v.kind v.size) _ (var_kept f.vars p (kept_of f is).vars h.0.0)).0, sized ps h.1)

-- ---- patterns

-- the pattern's number is known
abbrev Known : List Var → Pattern → Type 0
Known vars p = IsKnown (places_of kind.Param vars) (length (places_of kind.Param vars)) p.number

module _ (vars : List Var) (kept : list_all is_var vars ≡ true) where
  const_small : (v : Var) → is_of kind.Const v ≡ true → is_var v ≡ true → v.number < 2 ^ 64
  const_small v c h =
      let value = if is_of kind.Const v then has_none v.words else v.number == 0 in
      let words = list_all is_word v.words in
      let align = not (is_array v) || not (ends_in_align v.words || has_bad_align v.words) in
      let name = is_name v.name in
      let small = nat_lt v.number (2 ^ 64) in
      let a = both (is_size_for v.kind v.size) (value && (words && (align && (name && small)))) h in
      let b = both value (words && (align && (name && small))) a.1 in
      let d = both words (align && (name && small)) b.1 in
      let e = both align (name && small) d.1 in
      let g = both name small e.1 in
      below v.number (2 ^ 64) g.1

  var_known : (p way : ℕ) → p < length vars → (param constant : Bool) → is_of kind.Param (var_at vars p) ≡ param → is_of kind.Const (var_at vars p) ≡ constant → (rest : List Pattern) → Each (Known vars) rest
      → Each (Known vars) (cons_option (pattern_with way (if param then Some (operand.Var p) else (if constant then Some (operand.Number (var_at vars p).number) else None))) rest)
  var_known p way l true constant e c rest h = (index_found (λ q. is_of kind.Param (var_at vars q)) p 0 (length vars) (omega arith) (omega (arith, l)) e, h)
  var_known p way l false true e c rest h = (const_small (var_at vars p) c (var_kept vars p kept l), h)
  var_known p way l false false e c rest h = h

  one_known : (o : Operand) (way : ℕ) → is_in_range vars o ≡ true → (rest : List Pattern) → Each (Known vars) rest → Each (Known vars) (cons_option (pattern_with way (number_in vars o)) rest)
  one_known (operand.Number n) way i rest h = (below n (2 ^ 64) i, h)
  one_known (operand.Var p) way i rest h = var_known p way (below p (length vars) i) (is_of kind.Param (var_at vars p)) (is_of kind.Const (var_at vars p)) refl refl rest h

  uses_known : (op : Op) (position : ℕ) (os : List Operand) → list_all (is_in_range vars) os ≡ true → Each (Known vars) (uses_from vars op position os)
  uses_known op position [] h = tt
  uses_known op position (o ∷ os) h =
      let a = both (is_in_range vars o) (list_all (is_in_range vars) os) h in
      one_known o (way_of op position) a.0 (uses_from vars op (position + 1) os) (uses_known op (position + 1) os a.1)

  add_known : (known : List Pattern) (p : Pattern) → Each (Known vars) known → Known vars p → Each (Known vars) (add_pattern known p)
  add_known known p h k = go (list_any (same_pattern p) known)
    where
      go : (b : Bool) → Each (Known vars) (if b then known else known ++ p ∷ [])
      go true = h
      go false = each_both (Known vars) known (p ∷ []) h (k, tt)

  folded_known : (known uses : List Pattern) → Each (Known vars) known → Each (Known vars) uses → Each (Known vars) (fold add_pattern known uses)
  folded_known known [] h u = h
  folded_known known (p ∷ uses) h u = folded_known (add_pattern known p) uses (add_known known p h u.0) u.1

  sources_in : (insn : Insn) → is_shaped vars insn ≡ true → list_all (is_in_range vars) insn.sources.items ≡ true
  sources_in insn h =
      let a = both _ _ h in
      let b = both (length insn.results.items == result_count insn.op) _ a.1 in
      let c = both (length insn.sources.items == source_count insn.op) _ b.1 in
      let d = both (list_all (is_in_range vars) insn.results.items) _ c.1 in
      (both (list_all (is_in_range vars) insn.sources.items) _ d.1).0

  insns_known : (earlier insns : List Insn) (known : List Pattern) → all_pass vars earlier insns ≡ true → Each (Known vars) known → Each (Known vars) (fold (add_patterns vars) known insns)
  insns_known earlier [] known h k = k
  insns_known earlier (insn ∷ insns) known h k =
      let a = both (is_shaped vars insn) _ h in
      let b = both (has_no_fault (insn_fault vars earlier insn)) _ a.1 in
      insns_known (earlier ++ insn ∷ []) insns (add_patterns vars known insn) b.1 (folded_known known (uses_from vars insn.op 0 insn.sources.items) k (uses_known insn.op 0 insn.sources.items (sources_in insn a.0)))

patterns_known : (f : FunctionValue) → is_function f ≡ true → Each (Known f.vars) (patterns_of f.vars f.insns)
unfolding patterns_of
patterns_known f is = insns_known f.vars (kept_of f is).vars [] f.insns [] (kept_of f is).insns tt

-- ---- the layout of a function

pub record Facts (l : Layout) : Type 0 where
  pub few_patterns : length l.patterns.items ≤ 48
  pub few_sums : length l.acc_sizes.items ≤ 4
  pub few_params : length l.params.items ≤ 8
  pub patterns : length l.pattern_at.items ≡ length l.patterns.items
  pub sums : length l.sum_at.items ≡ length l.acc_sizes.items
  pub pattern_slots : (k : ℕ) → k < length l.patterns.items → nth l.pattern_at.items k ≡ pos (pattern_slot k)
  pub sum_slots : (g : ℕ) → g < length l.acc_sizes.items → nth l.sum_at.items g ≡ pos (sum_slot g)
  pub saved_slots : (j : ℕ) → j < 6 → nth l.saved_at j ≡ pos (saved_slot j)
  pub block_word : l.block_at ≡ pos block_slot
  pub known : (k : ℕ) → k < length l.patterns.items → IsKnown l.params.items (length l.params.items) (pattern_at l k).number
  pub sizes : (g : ℕ) → g < length l.acc_sizes.items → (acc_size l g ≡ 2) ⊎ (acc_size l g ≡ 4)

displaced : (slot : ℕ → ℕ) (n k : ℕ) → k < n → nth (displacements slot n) k ≡ pos (slot k)
displaced slot n k l = get_or-map-range_with_len (λ k. pos (slot k)) 0 n k k (pos 0) l (omega arith)

facts_of : (f : FunctionValue) → is_function f ≡ true → Facts (layout_of f)
unfolding layout_of
facts_of f is =
    let few = limits f is in
    let ps : List Pattern = patterns_of f.vars f.insns in
    let sizes : List ℕ = acc_sizes_of f.vars in
    record {
      few_patterns = few.patterns;
      few_sums = omega (arith, length-acc_sizes_of f, few.accs);
      few_params = omega (arith, length-places_of kind.Param f.vars, few.params);
      patterns = displacements_count pattern_slot (length ps);
      sums = displacements_count sum_slot (length sizes);
      pattern_slots = λ k l. displaced pattern_slot (length ps) k l;
      sum_slots = λ g l. displaced sum_slot (length sizes) g l;
      saved_slots = λ j l. displaced saved_slot 6 j l;
      block_word = refl;
      known = λ k l. each_at (Known f.vars) ps k no_pattern l (patterns_known f is);
      sizes = λ g l. each_at (λ n. (n ≡ 2) ⊎ (n ≡ 4)) sizes g 0 l (sizes_are f is);
    }

pub facts : (l : Layout) → IsLayout l → Facts l
facts l h = subst Facts (sym h.2) (facts_of h.0 h.1)

pub whole : (l : Layout) → IsLayout l → IsWhole l
whole l h =
    let x = facts l h in
    record {
      patterns = x.patterns;
      sums = x.sums;
      pattern_low = λ k i. subst (λ z. z ≤ℤ pos frame_size) (sym (x.pattern_slots k i)) (low (pattern_slot k) frame_size (omega (arith, i, x.few_patterns)));
      sum_low = λ g i. subst (λ z. z ≤ℤ pos frame_size) (sym (x.sum_slots g i)) (low (sum_slot g) frame_size (omega (arith, i, x.few_sums)));
      params = x.few_params;
      accs = x.few_sums;
    }
