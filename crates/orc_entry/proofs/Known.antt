-- The words that a function's entry fills come from arguments that the function has, and from numbers of 32 bits.
use Rattle.std.proofs.Common.{◌≡◌, ℕ, zero, suc, ◌+◌, ◌-◌, ◌*◌, ◌^◌, ◌<◌, ◌≤◌, ◌++◌, ◌==◌, Bool, true, false, nat_lt, if◌then◌else◌, List, [], ◌∷◌, refl, sym, ap, ◌∙◌, subst, arith}
use Rattle.orc_program.specs.Program.{FunctionValue}
use Rattle.orc_frame.specs.Parts.{param_word}
use Rattle.orc_prototype.specs.declared.arguments.Class.TheVariants as class
use Rattle.orc_prototype.specs.declared.arguments.Shape.{Shape}
use Rattle.orc_prototype.specs.Arguments.{IsSmall, shape_of, width, dest_argument, sum_argument, source_argument, elements_argument, rows_argument, has_rows_argument, argument_count}
use Rattle.orc_entry.specs.declared.sources.Source.{Source}
use Rattle.orc_entry.specs.declared.sources.Source.TheVariants as source
use Rattle.orc_entry.specs.Arguments.{argument, elements_source, rows_source, stride_of, base_argument, param_source}
use Rattle.orc_entry.specs.Code.{block_at, pointer_at, joined_fills, array_fills, fills_of}

-- one of so many arguments, or a number of 32 bits
abbrev pub Known : ℕ → Source → Type 0
Known count (source.Argument k i) = i < count
Known count (source.Number n) = n < 2 ^ 32

abbrev pub AllKnown : ℕ → List (Source × ℕ) → Type 0
AllKnown count [] = Unit {0}
AllKnown count (x ∷ xs) = Known count x.0 × AllKnown count xs

known_both : (count : ℕ) (xs ys : List (Source × ℕ)) → AllKnown count xs → AllKnown count ys → AllKnown count (xs ++ ys)
known_both count [] ys h k = k
known_both count (x ∷ xs) ys h k = (h.0, known_both count xs ys h.1 k)

known_joined : (count : ℕ) (g : ℕ → List (Source × ℕ)) (n : ℕ) → ((k : ℕ) → k < n → AllKnown count (g k)) → AllKnown count (joined_fills g n)
known_joined count g zero h = tt
known_joined count g (suc n) h = known_both count (joined_fills g n) (g n) (known_joined count g n (λ k l. h k (omega (arith, l)))) (h n (omega arith))

-- ---- the arguments of a shape

module _ (s : Shape) where
  by_width : (P : ℕ → Type 0) → P 1 → P 2 → P (width s)
  by_width P one two = go s.two_d
    where
      go : (b : Bool) → P (if b then 2 else 1)
      go true = two
      go false = one

  enough : elements_argument s ≤ argument_count s
  enough = omega arith

  dest_room : (k : ℕ) → k < s.dests → dest_argument s k + width s ≤ argument_count s
  dest_room k l = omega (arith, enough, by_width (λ w. w * k + w ≤ w * (s.dests + s.sources)) (omega (arith, l)) (omega (arith, l)))

  source_room : (k : ℕ) → k < s.sources → source_argument s k + width s ≤ argument_count s
  source_room k l = omega (arith, enough, by_width (λ w. w * s.dests + w * k + w ≤ w * (s.dests + s.sources)) (omega (arith, l)) (omega (arith, l)))

  sum_room : (g : ℕ) → g < s.sums → sum_argument s g < argument_count s
  sum_room g l = omega (arith, l, enough, by_width (λ w. w * s.dests ≤ w * (s.dests + s.sources)) (omega arith) (omega arith))

  -- there are few arguments
  pub count_few : IsSmall s → argument_count s < 64
  count_few small =
      let most : width s * (s.dests + s.sources) ≤ 24 = by_width (λ w. w * (s.dests + s.sources) ≤ 24) (omega (arith, small.dests, small.sources)) (omega (arith, small.dests, small.sources)) in
      let one : (b : Bool) → (if b then 1 else 0) ≤ 1 = one_most in
      omega (arith, most, small.sums, small.params, one (s.elements == 0), one (has_rows_argument s))
    where
      one_most : (b : Bool) → (if b then 1 else 0) ≤ 1
      one_most true = omega arith
      one_most false = omega arith

  pub base_dest : (k : ℕ) → k < 4 → base_argument s k ≡ dest_argument s k
  base_dest k l = ap (λ b. if b then dest_argument s k else source_argument s (k - 4)) (let t : nat_lt k 4 ≡ true = grind (arith) in t)

  pub base_behind : (k : ℕ) → base_argument s (4 + k) ≡ source_argument s k
  base_behind k =
      ap (λ b. if b then dest_argument s (4 + k) else source_argument s (4 + k - 4)) (let t : nat_lt (4 + k) 4 ≡ false = grind (arith) in t)
      ∙ ap (λ j. source_argument s j) (let t : 4 + k - 4 ≡ k = omega arith in t)

  known_stride : (i : ℕ) → i + width s ≤ argument_count s → Known (argument_count s) (stride_of s i)
  known_stride i l = go s.two_d refl
    where
      go : (b : Bool) → s.two_d ≡ b → Known (argument_count s) (if b then argument class.Int (i + 1) else source.Number 0)
      go true e = let two : width s ≡ 2 = ap (λ b. if b then 2 else 1) e in omega (arith, l, two)
      go false e = omega arith

  known_array : (k i : ℕ) → base_argument s k ≡ i → i + width s ≤ argument_count s → AllKnown (argument_count s) (array_fills s k)
  known_array k i e l =
      let there : base_argument s k + width s ≤ argument_count s = subst (λ j. j + width s ≤ argument_count s) (sym e) l in
      let some : 0 < width s = by_width (λ w. 0 < w) (omega arith) (omega arith) in
      (omega (arith, there, some), (known_stride (base_argument s k) there, tt))

  known_elements : s.elements < 2 ^ 32 → Known (argument_count s) (elements_source s)
  known_elements small = go (s.elements == 0) refl
    where
      go : (b : Bool) → (s.elements == 0) ≡ b → Known (argument_count s) (if b then argument class.Count (elements_argument s) else source.Number s.elements)
      go true e = let r : rows_argument s ≡ elements_argument s + 1 = ap (λ b. elements_argument s + (if b then 1 else 0)) e in omega (arith, r)
      go false e = small

  known_rows : (s.two_d ≡ true → s.rows < 2 ^ 32) → Known (argument_count s) (rows_source s)
  known_rows small = go s.two_d (s.rows == 0) refl refl
    where
      go : (b c : Bool) → s.two_d ≡ b → (s.rows == 0) ≡ c → Known (argument_count s) (if b then (if c then argument class.Count (rows_argument s) else source.Number s.rows) else source.Number 1)
      go false c e h = omega arith
      go true false e h = small e
      go true true e h =
          let yes : has_rows_argument s ≡ true = ap (λ b. if b then s.rows == 0 else false) e ∙ h in
          let more : argument_count s ≡ rows_argument s + 1 = ap (λ b. rows_argument s + (if b then 1 else 0)) yes in
          omega (arith, more)

pub fills_known : (f : FunctionValue) (longs : List Bool) → IsSmall (shape_of f) → (shape_of f).elements < 2 ^ 32 → ((shape_of f).two_d ≡ true → (shape_of f).rows < 2 ^ 32) → AllKnown (argument_count (shape_of f)) (fills_of f longs)
fills_known f longs small elements rows =
    let s = shape_of f in
    let n = argument_count s in
    let dests = joined_fills (array_fills s) s.dests in
    let sources = joined_fills (λ k. array_fills s (4 + k)) s.sources in
    let params = joined_fills (λ j. (param_source f longs j, block_at + param_word j) ∷ []) s.params in
    let sums = joined_fills (λ g. (argument class.Word (sum_argument s g), pointer_at g) ∷ []) s.sums in
    let one : AllKnown n dests = known_joined n (array_fills s) s.dests (λ k l. known_array s k (dest_argument s k) (base_dest s k (omega (arith, l, small.dests))) (dest_room s k l)) in
    let two : AllKnown n sources = known_joined n (λ k. array_fills s (4 + k)) s.sources (λ k l. known_array s (4 + k) (source_argument s k) (base_behind s k) (source_room s k l)) in
    let three : AllKnown n params = known_joined n (λ j. (param_source f longs j, block_at + param_word j) ∷ []) s.params (λ j l. (omega (arith, l, enough s), tt)) in
    let four : AllKnown n sums = known_joined n (λ g. (argument class.Word (sum_argument s g), pointer_at g) ∷ []) s.sums (λ g l. (sum_room s g l, tt)) in
    (known_elements s elements, (known_rows s rows, known_both n dests (sources ++ (params ++ sums)) one (known_both n sources (params ++ sums) two (known_both n params sums three four))))
