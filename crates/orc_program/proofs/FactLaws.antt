-- What is stated of a function's calls: some count meets it, and it is as a type keeps it.
use Rattle.std.proofs.Common.{◌≡◌, ℕ, zero, suc, add-one, ◌+◌, ◌-◌, ◌/◌, ◌%◌, ◌≤◌, Bool, true, false, ◌&&◌, ◌||◌, ◌==◌, nat_le, List, [], ◌∷◌, ◌++◌, Option, Some, None, length, ap, refl, ◌∙◌, arith, inl, inr, if◌then◌else◌}
use Rattle.std.specs.List.{list_all, fold}
use Rattle.std.specs.Prelude.{filter, map, unwrap_or}
use Rattle.std.proofs.lemmas.Bool.{cases_Bool, cases_lt, lt-ltb, le-leb, le-ltb, eq-eqb, leb-true, eqb-true}
use Rattle.std.proofs.lemmas.Bool.Decides.{nat_tests}
use Rattle.std.proofs.lemmas.List.{length-map, length-append}
use Rattle.std.proofs.lemmas.List.Sums.{length-filter}
use Rattle.std.proofs.Math.Nat.{mul-mod_right}
use Rattle.orc_program.specs.declared.program.Var.{Var}
use Rattle.orc_program.specs.declared.program.VarKind.{VarKind}
use Rattle.orc_program.specs.declared.program.VarKind.TheVariants as kind
use Rattle.orc_program.specs.declared.known.CountFacts.{CountFacts}
use Rattle.orc_program.specs.declared.known.Facts.{Facts}
use Rattle.orc_program.specs.declared.stated.Claim.TheVariants as claim
use Rattle.orc_program.specs.Words.{Word, number_of}
use Rattle.orc_program.specs.Notes.{is_align_number}
use Rattle.orc_program.specs.Program.{FunctionValue, is_of, count_of, array_count}
use Rattle.orc_program.specs.Kept.{is_function}
use Rattle.orc_program.specs.Facts.{most_count, free, meets, least_multiple, is_unbounded, is_count_facts, counted, stated, last_of, within, exactly_or, line_states, note_states, align_number, align_words, align_of, aligns_among, facts_of, is_free_count, is_align_value, is_facts, ones, free_facts, is_free}
use Rattle.orc_program.proofs.Sizes.{both, kept_of}
use Rattle.orc_program.proofs.Counts.{few_vars}
use Rattle.orc_program.proofs.Declared.{both_hold}

-- ---- the least multiple

pub above_least : (m n : ℕ) → 1 ≤ m → n ≤ least_multiple m n
above_least m n some = omega arith

pub least_divided : (m n : ℕ) → least_multiple m n % m ≡ 0
least_divided m n = mul-mod_right m ((n + (m - 1)) / m)

-- ---- what a count meets

abbrev facts_with : ℕ → ℕ → ℕ → ℕ → CountFacts
facts_with exact mult least greatest = record { exact = exact; mult = mult; min = least; max = greatest }

-- the tests of a count, one by one
pub meets_by : (exact mult least greatest c : ℕ) → (exact == 0 || exact == c ≡ true) → c % mult ≡ 0 → least ≤ c → c ≤ greatest → meets (facts_with exact mult least greatest) c ≡ true
meets_by exact mult least greatest c e d low high =
    both_hold (exact == 0 || exact == c) (c % mult == 0 && (nat_le least c && nat_le c greatest)) e
    (both_hold (c % mult == 0) (nat_le least c && nat_le c greatest) (eq-eqb _ _ d)
    (both_hold (nat_le least c) (nat_le c greatest) (le-leb _ _ low) (le-leb _ _ high)))

-- what a type keeps, test by test
pub kept_by : (exact mult least greatest : ℕ) → exact ≤ most_count → 1 ≤ mult → mult ≤ most_count → least ≤ most_count → greatest ≤ most_count → least_multiple mult least ≤ greatest → (exact == 0 || is_unbounded (facts_with exact mult least greatest) ≡ true)
    → is_count_facts (facts_with exact mult least greatest) ≡ true
kept_by exact mult least greatest a b c d e g h = rw (le-leb exact most_count a, le-leb 1 mult b, le-leb mult most_count c, le-leb least most_count d, le-leb greatest most_count e, le-leb (least_multiple mult least) greatest g, h) refl

-- and back
pub record KeptCount (c : CountFacts) : Type 0 where
  pub exact : c.exact ≤ most_count
  pub some : 1 ≤ c.mult
  pub mult : c.mult ≤ most_count
  pub least : c.min ≤ most_count
  pub greatest : c.max ≤ most_count
  pub room : least_multiple c.mult c.min ≤ c.max
  pub free : c.exact == 0 || is_unbounded c ≡ true

pub kept_count : (c : CountFacts) → is_count_facts c ≡ true → KeptCount c
kept_count c h =
    let free = c.exact == 0 || is_unbounded c in
    let room = nat_le (least_multiple c.mult c.min) c.max in
    let a = both (nat_le c.exact most_count) (nat_le 1 c.mult && (nat_le c.mult most_count && (nat_le c.min most_count && (nat_le c.max most_count && (room && free))))) h in
    let b = both (nat_le 1 c.mult) (nat_le c.mult most_count && (nat_le c.min most_count && (nat_le c.max most_count && (room && free)))) a.1 in
    let d = both (nat_le c.mult most_count) (nat_le c.min most_count && (nat_le c.max most_count && (room && free))) b.1 in
    let e = both (nat_le c.min most_count) (nat_le c.max most_count && (room && free)) d.1 in
    let g = both (nat_le c.max most_count) (room && free) e.1 in
    let k = both room free g.1 in
    record {
      exact = leb-true _ _ a.0;
      some = leb-true _ _ b.0;
      mult = leb-true _ _ d.0;
      least = leb-true _ _ e.0;
      greatest = leb-true _ _ g.0;
      room = leb-true _ _ k.0;
      free = k.1;
    }

-- a divisor and bounds that state nothing are these
pub record Unbounded (c : CountFacts) : Type 0 where
  pub mult : c.mult ≡ 1
  pub least : c.min ≡ 0
  pub greatest : c.max ≡ most_count

pub unbounded : (c : CountFacts) → is_unbounded c ≡ true → Unbounded c
unbounded c h =
    let a = both (c.mult == 1) (c.min == 0 && c.max == most_count) h in
    let b = both (c.min == 0) (c.max == most_count) a.1 in
    record { mult = eqb-true _ _ a.0; least = eqb-true _ _ b.0; greatest = eqb-true _ _ b.1 }

-- nothing is stated of a count where the facts are these
pub free_count : (c : CountFacts) → is_free_count c ≡ true → (c.exact ≡ 0) × Unbounded c
free_count c h = let a = both (c.exact == 0) (is_unbounded c) h in (eqb-true _ _ a.0, unbounded c a.1)

-- what a type keeps of a function's facts, one by one
pub record KeptFacts (two_d : Bool) (arrays : ℕ) (facts : Facts) : Type 0 where
  pub n : is_count_facts facts.n ≡ true
  pub m : is_count_facts facts.m ≡ true
  pub rows : two_d || is_free_count facts.m ≡ true
  pub count : length facts.aligns.items ≡ arrays
  pub aligns : list_all is_align_value facts.aligns.items ≡ true

pub kept_facts : (two_d : Bool) (arrays : ℕ) (facts : Facts) → is_facts two_d arrays facts ≡ true → KeptFacts two_d arrays facts
kept_facts two_d arrays facts h =
    let rows = two_d || is_free_count facts.m in
    let count = length facts.aligns.items == arrays in
    let all = list_all is_align_value facts.aligns.items in
    let a = both (is_count_facts facts.n) (is_count_facts facts.m && (rows && (count && all))) h in
    let b = both (is_count_facts facts.m) (rows && (count && all)) a.1 in
    let c = both rows (count && all) b.1 in
    let d = both count all c.1 in
    record { n = a.0; m = b.0; rows = c.0; count = eqb-true _ _ d.0; aligns = d.1 }

-- facts as a type keeps them, which some count meets
pub record Sound (facts : CountFacts) : Type 0 where
  pub count : ℕ
  pub met : meets facts count ≡ true
  pub kept : is_count_facts facts ≡ true

pub free_sound : Sound free
free_sound = record { count = 0; met = refl; kept = refl }

exact_sound : (n : ℕ) → 1 ≤ n → n ≤ most_count → Sound (facts_with n 1 0 most_count)
exact_sound n some few =
    let same : n == n ≡ true = eq-eqb n n refl in
    record {
      count = n;
      met = meets_by n 1 0 most_count n (or_right (n == 0) (n == n) same) (omega arith) (omega arith) few;
      kept = kept_by n 1 0 most_count few (omega arith) (omega arith) (omega arith) (omega arith) (omega arith) (or_right (n == 0) true refl);
    }
  where
    or_right : (a b : Bool) → b ≡ true → a || b ≡ true
    or_right true b h = refl
    or_right false b h = h

within_sound : (mult least greatest : ℕ) → 1 ≤ mult → mult ≤ most_count → least ≤ most_count → greatest ≤ most_count → Sound (within mult least greatest)
within_sound mult least greatest some a b c =
    elim (cases_lt greatest (least_multiple mult least)) [
      | inl lt ↦ rw (lt-ltb _ _ lt) free_sound
      | inr le ↦ rw (le-ltb _ _ le) record {
        count = least_multiple mult least;
        met = meets_by 0 mult least greatest (least_multiple mult least) refl (least_divided mult least) (above_least mult least some) le;
        kept = kept_by 0 mult least greatest (omega arith) some a b c le refl;
      }
    ]

-- ---- what a line states

pub record Between (low d : ℕ) (o : Option ℕ) : Type 0 where
  pub least : low ≤ unwrap_or o d
  pub most : unwrap_or o d ≤ most_count

counted_between : (low d : ℕ) (o : Option ℕ) → low ≤ 1 → low ≤ d → d ≤ most_count → Between low d (counted o)
counted_between low d None a b c = record { least = b; most = c }
counted_between low d (Some n) a b c = grind (arith, nat_tests)

in_range : (n : ℕ) → nat_le 1 n && nat_le n most_count ≡ true → (1 ≤ n) × (n ≤ most_count)
in_range n h = let two = both (nat_le 1 n) (nat_le n most_count) h in (leb-true _ _ two.0, leb-true _ _ two.1)

exactly_sound : (facts : CountFacts) → Sound facts → (o : Option ℕ) → Sound (exactly_or facts (counted o))
exactly_sound facts s None = s
exactly_sound facts s (Some n) =
    elim (cases_Bool (nat_le 1 n && nat_le n most_count)) [
      | inl t ↦ rw t (let r = in_range n t in exact_sound n r.0 r.1)
      | inr f ↦ rw f s
    ]

line_sound : (ws : List Word) → Sound (line_states ws)
line_sound ws =
    let mult = counted_between 1 1 (last_of claim.Multiple ws) (omega arith) (omega arith) (omega arith) in
    let least = counted_between 0 0 (last_of claim.Least ws) (omega arith) (omega arith) (omega arith) in
    let greatest = counted_between 1 most_count (last_of claim.Greatest ws) (omega arith) (omega arith) (omega arith) in
    exactly_sound _ (within_sound (unwrap_or (stated claim.Multiple ws) 1) (unwrap_or (stated claim.Least ws) 0) (unwrap_or (stated claim.Greatest ws) most_count) mult.least mult.most least.most greatest.most) (last_of claim.Exact ws)

pub note_sound : (o : Option (List Word)) → Sound (note_states o)
note_sound None = free_sound
note_sound (Some ws) = line_sound ws

-- ---- aligns

pub aligns_count : (k : VarKind) (vars : List Var) → length (aligns_among k vars) ≡ count_of k vars
aligns_count k vars = length-map (filter (is_of k) vars) (λ v. align_of v.words) ∙ length-filter (is_of k) vars

pub aligns_few : (f : FunctionValue) → is_function f ≡ true → count_of kind.Dest f.vars + count_of kind.Source f.vars ≤ 12
aligns_few f h = let few = few_vars f.vars (kept_of f h).limits in omega (arith, few.dests, few.sources)

align_power : (o : Option ℕ) → is_align_value (align_number o) ≡ true
align_power None = refl
align_power (Some n) =
    elim (cases_Bool (is_align_number (Some n))) [
      | inl t ↦ rw t t
      | inr f ↦ rw f refl
    ]

folded_power : (last : ℕ) (ws : List Word) → is_align_value last ≡ true → is_align_value (fold (λ last w. align_number (number_of w)) last ws) ≡ true
folded_power last [] h = h
folded_power last (w ∷ ws) h = folded_power (align_number (number_of w)) ws (align_power (number_of w))

pub align_allowed : (ws : List Word) → is_align_value (align_of ws) ≡ true
align_allowed ws = folded_power 1 (align_words ws) refl

all_allowed : (vs : List Var) → list_all is_align_value (map (λ v. align_of v.words) vs) ≡ true
all_allowed [] = refl
all_allowed (v ∷ vs) = both_hold (is_align_value (align_of v.words)) (list_all is_align_value (map (λ w. align_of w.words) vs)) (align_allowed v.words) (all_allowed vs)

-- ---- the facts of a function

rows_kept : (two_d : Bool) (o : Option (List Word)) → (is_count_facts (if two_d then note_states o else free) ≡ true) × (two_d || is_free_count (if two_d then note_states o else free) ≡ true)
rows_kept true o = ((note_sound o).kept, refl)
rows_kept false o = (refl, refl)

pub facts_kept : (f : FunctionValue) → is_facts f.two_d (array_count f.vars) (facts_of f) ≡ true
unfolding facts_of
facts_kept f =
    let dests = aligns_among kind.Dest f.vars in
    let sources = aligns_among kind.Source f.vars in
    let rows = rows_kept f.two_d f.notes.m in
    let count : length (dests ++ sources) ≡ array_count f.vars = omega (arith, length-append dests sources, aligns_count kind.Dest f.vars, aligns_count kind.Source f.vars) in
    let all : list_all is_align_value (dests ++ sources) ≡ true = all_append is_align_value dests sources (all_allowed (filter (is_of kind.Dest) f.vars)) (all_allowed (filter (is_of kind.Source) f.vars)) in
    rw ((note_sound f.notes.n).kept, rows.0, rows.1, eq-eqb _ _ count, all) refl
  where
    all_append : (p : ℕ → Bool) (xs ys : List ℕ) → list_all p xs ≡ true → list_all p ys ≡ true → list_all p (xs ++ ys) ≡ true
    all_append p [] ys h k = k
    all_append p (x ∷ xs) ys h k = let two = both (p x) (list_all p xs) h in both_hold (p x) (list_all p (xs ++ ys)) two.0 (all_append p xs ys two.1 k)

-- ---- aligns of 1

pub ones_length : (n : ℕ) → length (ones n) ≡ n
ones_length zero = refl
ones_length (suc n) = omega (arith, ones_length n)

ones_pushed : (n : ℕ) → ones (suc n) ≡ ones n ++ 1 ∷ []
ones_pushed zero = refl
ones_pushed (suc n) = ap (λ xs. 1 ∷ xs) (ones_pushed n)

pub ones_more : (n : ℕ) → ones (n + 1) ≡ ones n ++ 1 ∷ []
ones_more n = rw add-one (ones_pushed n)

ones_allowed : (n : ℕ) → list_all is_align_value (ones n) ≡ true
ones_allowed zero = refl
ones_allowed (suc n) = ones_allowed n

ones_free : (n : ℕ) → list_all (λ a. a == 1) (ones n) ≡ true
ones_free zero = refl
ones_free (suc n) = ones_free n

-- facts that state nothing are as a type keeps them
pub free_kept : (two_d : Bool) (arrays : ℕ) → is_facts two_d arrays (free_facts arrays) ≡ true
free_kept two_d arrays = rw (or_true two_d, eq-eqb _ _ (ones_length arrays), ones_allowed arrays) refl
  where
    or_true : (b : Bool) → b || true ≡ true
    or_true true = refl
    or_true false = refl

pub free_free : (arrays : ℕ) → is_free (free_facts arrays) ≡ true
free_free arrays = ones_free arrays
