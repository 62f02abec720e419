-- Where each argument stands.
use Rattle.std.proofs.Common.{◌≡◌, ℕ, ◌+◌, ◌*◌, ◌==◌, Bool, true, false, if◌then◌else◌, List, [], ◌∷◌, ◌++◌, Some, length, map, slice_get, refl, ap, arith}
use Rattle.std.specs.List.{flat_map, range_with_len}
use Rattle.std.proofs.lemmas.List.FromFn.{length-map-range_with_len}
use Rattle.orc_prototype.specs.declared.arguments.Argument.{Argument}
use Rattle.orc_prototype.specs.declared.arguments.Argument.TheVariants as argument
use Rattle.orc_prototype.specs.declared.arguments.Shape.{Shape}
use Rattle.orc_prototype.specs.Arguments.{dest_arguments, source_arguments, width, dest_argument, sum_argument, source_argument, param_argument, elements_argument, rows_argument, has_rows_argument}
use Rattle.orc_prototype.specs.Laws.{AreCounted, Stands, AreNumbered}
use Rattle.orc_prototype.proofs.Pieces.{get_left, get_right, length_append, pieces_length, piece_at, single_at}

-- ---- one array

dest_width : (two_d : Bool) (k : ℕ) → length (dest_arguments two_d k) ≡ (if two_d then 2 else 1)
dest_width true k = refl
dest_width false k = refl

source_width : (two_d : Bool) (k : ℕ) → length (source_arguments two_d k) ≡ (if two_d then 2 else 1)
source_width true k = refl
source_width false k = refl

dest_first : (two_d : Bool) (k : ℕ) → slice_get (dest_arguments two_d k) 0 ≡ Some (argument.Dest k)
dest_first two_d k = refl

dest_second : (two_d : Bool) (k : ℕ) → two_d ≡ true → slice_get (dest_arguments two_d k) 1 ≡ Some (argument.DestStride k)
dest_second two_d k e = ap (λ b. slice_get (dest_arguments b k) 1) e

source_first : (two_d : Bool) (k : ℕ) → slice_get (source_arguments two_d k) 0 ≡ Some (argument.Source k)
source_first two_d k = refl

source_second : (two_d : Bool) (k : ℕ) → two_d ≡ true → slice_get (source_arguments two_d k) 1 ≡ Some (argument.SourceStride k)
source_second two_d k e = ap (λ b. slice_get (source_arguments b k) 1) e

one_length : {A : Type 0} (b : Bool) (x : A) → length (if b then x ∷ [] else []) ≡ (if b then 1 else 0)
one_length true x = refl
one_length false x = refl

one_there : {A : Type 0} (b : Bool) (x : A) → b ≡ true → slice_get (if b then x ∷ [] else []) 0 ≡ Some x
one_there b x e = ap (λ t. slice_get (if t then x ∷ [] else []) 0) e

is_zero : (n : ℕ) → n ≡ 0 → (n == 0) ≡ true
is_zero n e = ap (λ k. k == 0) e

distributed : (w a b : ℕ) → w * (a + b) ≡ w * a + w * b
distributed w a b = grind arith

-- ---- the parts of the list

module _ (s : Shape) where
  abbrev dests : List Argument
  dests = flat_map (dest_arguments s.two_d) (range_with_len 0 s.dests)

  abbrev sums : List Argument
  sums = map argument.Sum (range_with_len 0 s.sums)

  abbrev sources : List Argument
  sources = flat_map (source_arguments s.two_d) (range_with_len 0 s.sources)

  abbrev params : List Argument
  params = map argument.Param (range_with_len 0 s.params)

  abbrev elements : List Argument
  elements = if s.elements == 0 then argument.Elements ∷ [] else []

  abbrev rows : List Argument
  rows = if has_rows_argument s then argument.Rows ∷ [] else []

  dests_length : length dests ≡ width s * s.dests
  dests_length = pieces_length (dest_arguments s.two_d) (width s) (dest_width s.two_d) 0 s.dests

  sums_length : length sums ≡ s.sums
  sums_length = length-map-range_with_len argument.Sum 0 s.sums

  sources_length : length sources ≡ width s * s.sources
  sources_length = pieces_length (source_arguments s.two_d) (width s) (source_width s.two_d) 0 s.sources

  params_length : length params ≡ s.params
  params_length = length-map-range_with_len argument.Param 0 s.params

  elements_length : length elements ≡ (if s.elements == 0 then 1 else 0)
  elements_length = one_length (s.elements == 0) argument.Elements

  rows_length : length rows ≡ (if has_rows_argument s then 1 else 0)
  rows_length = one_length (has_rows_argument s) argument.Rows

  pub are_counted : AreCounted s
  are_counted =
      let a = length_append dests (sums ++ (sources ++ (params ++ (elements ++ rows)))) in
      let b = length_append sums (sources ++ (params ++ (elements ++ rows))) in
      let c = length_append sources (params ++ (elements ++ rows)) in
      let d = length_append params (elements ++ rows) in
      let e = length_append elements rows in
      omega (arith, a, b, c, d, e, dests_length, sums_length, sources_length, params_length, elements_length, rows_length, distributed (width s) s.dests s.sources)

  -- ---- places

  among_dests : (i : ℕ) (x : Argument) → slice_get dests i ≡ Some x → Stands s i x
  among_dests i x e = get_left dests (sums ++ (sources ++ (params ++ (elements ++ rows)))) i x e

  behind_dests : (i j : ℕ) (x : Argument) → width s * s.dests + j ≡ i → slice_get (sums ++ (sources ++ (params ++ (elements ++ rows)))) j ≡ Some x → Stands s i x
  behind_dests i j x place e = get_right dests (sums ++ (sources ++ (params ++ (elements ++ rows)))) (width s * s.dests) i j x dests_length place e

  behind_sums : (i j : ℕ) (x : Argument) → width s * s.dests + s.sums + j ≡ i → slice_get (sources ++ (params ++ (elements ++ rows))) j ≡ Some x → Stands s i x
  behind_sums i j x place e =
      behind_dests i (s.sums + j) x (omega (arith, place)) (get_right sums (sources ++ (params ++ (elements ++ rows))) s.sums (s.sums + j) j x sums_length refl e)

  behind_sources : (i j : ℕ) (x : Argument) → width s * (s.dests + s.sources) + s.sums + j ≡ i → slice_get (params ++ (elements ++ rows)) j ≡ Some x → Stands s i x
  behind_sources i j x place e =
      behind_sums i (width s * s.sources + j) x (omega (arith, place, distributed (width s) s.dests s.sources))
      (get_right sources (params ++ (elements ++ rows)) (width s * s.sources) (width s * s.sources + j) j x sources_length refl e)

  behind_params : (i j : ℕ) (x : Argument) → elements_argument s + j ≡ i → slice_get (elements ++ rows) j ≡ Some x → Stands s i x
  behind_params i j x place e =
      behind_sources i (s.params + j) x (omega (arith, place)) (get_right params (elements ++ rows) s.params (s.params + j) j x params_length refl e)

  pub are_numbered : AreNumbered s
  are_numbered = record {
    dest = λ k low. among_dests (dest_argument s k) (argument.Dest k) (piece_at (dest_arguments s.two_d) (width s) (dest_width s.two_d) 0 s.dests k k (dest_argument s k) 0 (argument.Dest k) low (omega arith) (omega arith) (dest_first s.two_d k));
    dest_stride = λ two_d k low. among_dests (dest_argument s k + 1) (argument.DestStride k) (piece_at (dest_arguments s.two_d) (width s) (dest_width s.two_d) 0 s.dests k k (dest_argument s k + 1) 1 (argument.DestStride k) low (omega arith) (omega arith) (dest_second s.two_d k two_d));
    sum = λ g low. behind_dests (sum_argument s g) g (argument.Sum g) refl (get_left sums (sources ++ (params ++ (elements ++ rows))) g (argument.Sum g) (single_at argument.Sum 0 s.sums g g low (omega arith)));
    source = λ k low. behind_sums (source_argument s k) (width s * k) (argument.Source k) refl (get_left sources (params ++ (elements ++ rows)) (width s * k) (argument.Source k) (piece_at (source_arguments s.two_d) (width s) (source_width s.two_d) 0 s.sources k k (width s * k) 0 (argument.Source k) low (omega arith) (omega arith) (source_first s.two_d k)));
    source_stride = λ two_d k low. behind_sums (source_argument s k + 1) (width s * k + 1) (argument.SourceStride k) (omega arith) (get_left sources (params ++ (elements ++ rows)) (width s * k + 1) (argument.SourceStride k) (piece_at (source_arguments s.two_d) (width s) (source_width s.two_d) 0 s.sources k k (width s * k + 1) 1 (argument.SourceStride k) low (omega arith) (omega arith) (source_second s.two_d k two_d)));
    param = λ j low. behind_sources (param_argument s j) j (argument.Param j) refl (get_left params (elements ++ rows) j (argument.Param j) (single_at argument.Param 0 s.params j j low (omega arith)));
    elements = λ free. behind_params (elements_argument s) 0 argument.Elements (omega arith) (get_left elements rows 0 argument.Elements (one_there (s.elements == 0) argument.Elements (is_zero s.elements free)));
    rows = λ there. behind_params (rows_argument s) (if s.elements == 0 then 1 else 0) argument.Rows refl (get_right elements rows (if s.elements == 0 then 1 else 0) (if s.elements == 0 then 1 else 0) 0 argument.Rows elements_length (omega arith) (one_there (has_rows_argument s) argument.Rows there));
  }
