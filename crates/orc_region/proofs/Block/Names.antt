-- The names of a rule's registers.
use Rattle.std.proofs.Common.{◌≡◌, ℕ, ◌+◌, ◌<◌, ◌≤◌, Bool, true, false, List, [], ◌∷◌, length, map, take, get_or, refl, sym, ap, ◌∙◌, subst, arith}
use Rattle.std.specs.List.{range_with_len}
use Rattle.std.proofs.lemmas.List.{take_all}
use Rattle.std.proofs.lemmas.List.FromFn.{get_or-map-range_with_len}
use Rattle.x86_ins.specs.Renaming.{renaming, IsPermutation}
use Rattle.x86_ins.specs.Way.{Each}
use Rattle.orc_program.specs.Need.{registers}
use Rattle.orc_region.specs.Code.{Source, FromArray, FromPattern, FromResident, FromPlace, FromSlot, FromFar, exchange, own_names, exchanged, take_names, source_names}
use Rattle.orc_region.proofs.Block.RuleRegisters.{exchange_one, exchange_small}

module _ (first second sum : ℕ) (names : List ℕ) (r : ℕ) (last : 16 ≤ r) (long : length names ≡ 16) (filled : take r names ≡ map (λ k. exchange 0 first (exchange 1 second (exchange 2 sum k))) (range_with_len 0 r)) where
  abbrev name : ℕ → ℕ
  name k = exchange 0 first (exchange 1 second (exchange 2 sum k))

  whole : names ≡ map name (range_with_len 0 r)
  whole = sym (take_all r names (omega (arith, last, long))) ∙ filled

  pub named : (k : ℕ) → k < 16 → renaming names k ≡ name k
  named k l = ap (λ xs. get_or xs k k) whole ∙ get_or-map-range_with_len name 0 r k k k (omega (arith, l, last)) (omega arith)

  pub permutes : first < 16 → second < 16 → sum < 16 → IsPermutation names
  permutes lf ls lt = record {
    size = long;
    below = λ k l. subst (λ n. n < 16) (sym (named k l)) (exchange_small 0 first (exchange 1 second (exchange 2 sum k)) (omega arith) lf (exchange_small 1 second (exchange 2 sum k) (omega arith) ls (exchange_small 2 sum k (omega arith) lt l)));
    apart = λ j k lj lk e. exchange_one 2 sum j k (exchange_one 1 second (exchange 2 sum j) (exchange 2 sum k) (exchange_one 0 first (exchange 1 second (exchange 2 sum j)) (exchange 1 second (exchange 2 sum k)) (sym (named j lj) ∙ e ∙ named k lk)));
  }

-- ---- names by a function

-- sixteen that were filled in one by one
pub filled_whole : (f : ℕ → ℕ) (names : List ℕ) (r : ℕ) → r ≡ 16 → length names ≡ 16 → take r names ≡ map f (range_with_len 0 r) → names ≡ map f (range_with_len 0 16)
filled_whole f names r e long filled = sym (take_all r names (omega (arith, e, long))) ∙ filled ∙ ap (λ n. map f (range_with_len 0 n)) e

module _ (f : ℕ → ℕ) where
  pub name_is : (r : ℕ) → r < 16 → renaming (map f (range_with_len 0 16)) r ≡ f r
  name_is r l = get_or-map-range_with_len f 0 16 r r r (omega (arith, l)) (omega arith)

  permutes_by : ((r : ℕ) → r < 16 → f r < 16) → ((x y : ℕ) → x < 16 → y < 16 → f x ≡ f y → x ≡ y) → IsPermutation (map f (range_with_len 0 16))
  permutes_by below one = record {
    size = refl;
    below = λ r l. subst (λ n. n < 16) (sym (name_is r l)) (below r l);
    apart = λ x y lx ly e. one x y lx ly (sym (name_is x lx) ∙ e ∙ name_is y ly);
  }

pub own_permutes : IsPermutation own_names
own_permutes = permutes_by (λ r. r) (λ r l. l) (λ x y lx ly e. e)

pub own_name : (r : ℕ) → r < 16 → renaming own_names r ≡ r
own_name = name_is (λ r. r)

-- ---- names that two registers exchange

pub exchanged_name : (a b : ℕ) (names : List ℕ) (r : ℕ) → r < 16 → renaming (exchanged a b names) r ≡ renaming names (exchange a b r)
exchanged_name a b names = name_is (λ r. renaming names (exchange a b r))

pub exchanged_permutes : (a b : ℕ) (names : List ℕ) → a < 16 → b < 16 → IsPermutation names → IsPermutation (exchanged a b names)
exchanged_permutes a b names la lb p = permutes_by (λ r. renaming names (exchange a b r))
    (λ r l. p.below (exchange a b r) (exchange_small a b r la lb l))
    (λ x y lx ly e. exchange_one a b x y (p.apart (exchange a b x) (exchange a b y) (exchange_small a b x la lb lx) (exchange_small a b y la lb ly) e))

-- a source's register is there
abbrev pub IsSmall : Source → Type 0
IsSmall (FromArray k) = Unit {0}
IsSmall (FromPattern j) = Unit {0}
IsSmall (FromResident j g) = Unit {0}
IsSmall (FromPlace p) = p < registers
IsSmall (FromFar load array js) = Unit {0}
IsSmall (FromSlot k) = Unit {0}

pub take_permutes : (one : Bool) (x : ℕ) (s : Source) (names : List ℕ) → x < 16 → IsSmall s → IsPermutation names → IsPermutation (take_names one x s names)
take_permutes true x (FromPlace q) names l h p = exchanged_permutes x (6 + q) names l (omega (arith, h)) p
take_permutes true x (FromArray k) names l h p = p
take_permutes true x (FromPattern j) names l h p = p
take_permutes true x (FromResident j g) names l h p = p
take_permutes true x (FromFar load array js) names l h p = p
take_permutes true x (FromSlot k) names l h p = p
take_permutes false x (FromPlace q) names l h p = p
take_permutes false x (FromArray k) names l h p = p
take_permutes false x (FromPattern j) names l h p = p
take_permutes false x (FromResident j g) names l h p = p
take_permutes false x (FromFar load array js) names l h p = p
take_permutes false x (FromSlot k) names l h p = p

pub source_permutes : (one two : Bool) (x y : ℕ) (ss : List Source) (names : List ℕ) → x < 16 → y < 16 → Each IsSmall ss → IsPermutation names → IsPermutation (source_names one two x y ss names)
source_permutes one two x y [] names lx ly h p = p
source_permutes one two x y (s ∷ []) names lx ly h p = take_permutes one x s names lx h.0 p
source_permutes one two x y (s ∷ t ∷ more) names lx ly h p = take_permutes two y t (take_names one x s names) ly h.1.0 (take_permutes one x s names lx h.0 p)
