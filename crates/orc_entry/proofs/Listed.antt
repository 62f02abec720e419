-- The instructions of the list before a function's code: they are allowed and few, none is a movdqu store, and they touch the entry's own words and the arguments behind the return word alone.
use Rattle.std.proofs.Common.{◌≡◌, ℕ, zero, suc, ◌+◌, ◌-◌, ◌*◌, ◌^◌, ◌<◌, ◌≤◌, ◌⊎◌, Bool, true, false, nat_lt, if◌then◌else◌, pos, List, [], ◌∷◌, ◌++◌, length, Some, refl, ap, ◌∙◌, arith, inl, inr, length-append}
use Rattle.orc_program.specs.Program.{FunctionValue}
use Rattle.x86_ins.specs.declared.ins.AluOp.TheVariants.{Sub}
use Rattle.x86_ins.specs.declared.ins.Ins.{Ins}
use Rattle.x86_ins.specs.declared.ins.Ins.TheVariants.{Move, Load, Store, AluImm, Lea}
use Rattle.x86_ins.specs.Machine.{Core, span, address}
use Rattle.x86_ins.specs.Spelling.{IsAllowed}
use Rattle.x86_ins.specs.Way.{Each}
use Rattle.x86_flow.specs.Moves.{away}
use Rattle.x86_flow.specs.Touching.{base_of}
use Rattle.x86_flow.proofs.Spelled.{fits_up, each_both}
use Rattle.orc_frame.specs.Parts.{elements_word, rows_word, base_word, stride_word, param_word}
use Rattle.orc_region.specs.Stores.{IsMovdquStore}
use Rattle.orc_prototype.specs.declared.arguments.Class.{Class}
use Rattle.orc_prototype.specs.declared.arguments.Class.TheVariants as class
use Rattle.orc_prototype.specs.declared.arguments.Shape.{Shape}
use Rattle.orc_prototype.specs.Arguments.{shape_of, sum_argument, param_argument, class_of, is_long}
use Rattle.orc_entry.specs.declared.sources.Source.{Source}
use Rattle.orc_entry.specs.declared.sources.Source.TheVariants as source
use Rattle.orc_entry.specs.Arguments.{in_registers, register_of, stack_word, argument, elements_source, rows_source, stride_of, base_argument, param_source}
use Rattle.orc_entry.specs.Code.{fetch_code, class_code, source_code, fill_code, fills_code, Ascend, stack_size, block_at, pointer_at, joined_fills, array_fills, fills_of, entry_code}
use Rattle.orc_entry.proofs.Known.{Known, AllKnown}

-- where the words are that are touched, from the lowered RSP on: the entry's own, and where there are so many arguments those behind the return word
abbrev pub IsTouched : ℕ → ℕ → Type 0
IsTouched count d = (d + 8 ≤ stack_size) ⊎ ((stack_size + 8 ≤ d) × (d ≤ stack_size + 8 * (count - in_registers)))

pub record IsListed (count : ℕ) (i : Ins) : Type 0 where
  pub allowed : IsAllowed i
  pub plain : IsMovdquStore i → ⊥
  -- it touches nothing, or one such word
  pub touches : ((u : Core) → (span i u).1 ≡ 0) ⊎ ((d : ℕ) × IsTouched count d × (base_of i ≡ Some 4) × ((u : Core) → span i u ≡ (address u (away 4 d), 8)))

-- ---- one word

module _ (count : ℕ) where
  move_listed : (d s : ℕ) → d < 16 → s < 16 → IsListed count (Move d s)
  move_listed d s h g = record { allowed = ((h, g), refl); plain = λ x. x; touches = inl (λ u. refl) }

  load_listed : (d at : ℕ) → d < 16 → at < 2 ^ 31 → IsTouched count at → IsListed count (Load d (away 4 at))
  load_listed d at h l t = record { allowed = ((h, ((let r : 4 < 16 = omega arith in r), fits_up at l)), refl); plain = λ x. x; touches = inr (at, t, refl, λ u. refl) }

  store_listed : (s at : ℕ) → s < 16 → at < 2 ^ 31 → IsTouched count at → IsListed count (Store s (away 4 at))
  store_listed s at h l t = record { allowed = ((h, ((let r : 4 < 16 = omega arith in r), fits_up at l)), refl); plain = λ x. x; touches = inr (at, t, refl, λ u. refl) }

  class_listed : (k : Class) → Each (IsListed count) (class_code k)
  class_listed class.Word = tt
  class_listed class.Int = (
    record { allowed = ((omega arith, omega arith), refl); plain = λ x. x; touches = inl (λ u. refl) },
    (record { allowed = ((omega arith, omega arith), refl); plain = λ x. x; touches = inl (λ u. refl) }, tt),
  )
  class_listed class.Count = (
    record { allowed = ((omega arith, omega arith), refl); plain = λ x. x; touches = inl (λ u. refl) },
    (
      move_listed 11 0 (omega arith) (omega arith),
      (
        record { allowed = ((omega arith, omega arith), refl); plain = λ x. x; touches = inl (λ u. refl) },
        (
          record { allowed = ((omega arith, omega arith), refl); plain = λ x. x; touches = inl (λ u. refl) },
          (
            record { allowed = ((omega arith, fits_up 1 (omega arith)), refl); plain = λ x. x; touches = inl (λ u. refl) },
            (record { allowed = ((omega arith, omega arith), refl); plain = λ x. x; touches = inl (λ u. refl) }, tt),
          ),
        ),
      ),
    ),
  )

  register_few : (i : ℕ) → register_of i < 16
  register_few zero = omega arith
  register_few (suc zero) = omega arith
  register_few (suc (suc zero)) = omega arith
  register_few (suc (suc (suc zero))) = omega arith
  register_few (suc (suc (suc (suc zero)))) = omega arith
  register_few (suc (suc (suc (suc (suc i))))) = omega arith

  fetch_listed : (i : ℕ) → i < count → count < 64 → Each (IsListed count) (fetch_code i)
  fetch_listed i l few = go (nat_lt i in_registers) refl
    where
      go : (b : Bool) → nat_lt i in_registers ≡ b → Each (IsListed count) (if b then Move 0 (register_of i) ∷ [] else Load 0 (away 4 (stack_size + stack_word i)) ∷ [])
      go true e = (move_listed 0 (register_of i) (omega arith) (register_few i), tt)
      go false e =
          let high : 6 ≤ i = grind (arith) in
          (load_listed 0 (stack_size + stack_word i) (omega arith) (omega (arith, l, few)) (inr (omega arith, omega (arith, high, l))), tt)

  source_listed : (from : Source) → Known count from → count < 64 → Each (IsListed count) (source_code from)
  source_listed (source.Argument k i) h few = each_both (IsListed count) (fetch_code i) (class_code k) (fetch_listed i h few) (class_listed k)
  source_listed (source.Number n) h few = (record { allowed = ((omega arith, omega (arith, h)), refl); plain = λ x. x; touches = inl (λ u. refl) }, tt)

  fill_listed : (from : Source) (to : ℕ) → Known count from → count < 64 → to + 8 ≤ stack_size → Each (IsListed count) (fill_code from to)
  fill_listed from to h few room = each_both (IsListed count) (source_code from) (Store 0 (away 4 to) ∷ []) (source_listed from h few) (store_listed 0 to (omega arith) (omega (arith, room)) (inl room), tt)

  -- ---- words one after another

  ends_low : (from : ℕ) (xs : List (Source × ℕ)) → Ascend from xs → from ≤ stack_size
  ends_low from [] h = h
  ends_low from (x ∷ xs) h = omega (arith, h.0, ends_low (x.1 + 8) xs h.1)

  fills_listed : (from : ℕ) (xs : List (Source × ℕ)) → Ascend from xs → AllKnown count xs → count < 64 → Each (IsListed count) (fills_code xs)
  fills_listed from [] up h few = tt
  fills_listed from (x ∷ xs) up h few =
      each_both (IsListed count) (fill_code x.0 x.1) (fills_code xs) (fill_listed x.0 x.1 h.0 few (ends_low (x.1 + 8) xs up.1)) (fills_listed (x.1 + 8) xs up.1 h.1 few)

  pub entry_listed : (f : FunctionValue) (longs : List Bool) → Ascend 0 (fills_of f longs) → AllKnown count (fills_of f longs) → count < 64 → Each (IsListed count) (entry_code f longs)
  entry_listed f longs up h few = (
    record { allowed = ((omega arith, fits_up stack_size (omega arith)), refl); plain = λ x. x; touches = inl (λ u. refl) },
    each_both (IsListed count) (fills_code (fills_of f longs)) (Lea 7 (away 4 block_at) ∷ []) (fills_listed 0 (fills_of f longs) up h few)
        (record { allowed = ((omega arith, (omega arith, fits_up block_at (omega arith))), refl); plain = λ x. x; touches = inl (λ u. refl) }, tt),
  )

pub listed_allowed : (count : ℕ) (list : List Ins) → Each (IsListed count) list → Each IsAllowed list
listed_allowed count [] h = tt
listed_allowed count (i ∷ list) h = (h.0.allowed, listed_allowed count list h.1)

-- ---- how many they are

class_few : (k : Class) → length (class_code k) ≤ 6
class_few class.Word = omega arith
class_few class.Int = omega arith
class_few class.Count = omega arith

fetch_one : (i : ℕ) → length (fetch_code i) ≡ 1
fetch_one i = go (nat_lt i in_registers)
  where
    go : (b : Bool) → length (if b then Move 0 (register_of i) ∷ [] else Load 0 (away 4 (stack_size + stack_word i)) ∷ []) ≡ 1
    go true = refl
    go false = refl

argument_length : (k : Class) (i to : ℕ) → length (fill_code (argument k i) to) ≡ 2 + length (class_code k)
argument_length k i to = omega (arith, fetch_one i, length-append (fetch_code i) (class_code k), length-append (fetch_code i ++ class_code k) (Store 0 (away 4 to) ∷ []))

number_length : (n to : ℕ) → length (fill_code (source.Number n) to) ≡ 2
number_length n to = refl

fill_most : (from : Source) (to : ℕ) → length (fill_code from to) ≤ 8
fill_most (source.Argument k i) to = omega (arith, argument_length k i to, class_few k)
fill_most (source.Number n) to = omega (arith, number_length n to)

fills_append : (xs ys : List (Source × ℕ)) → length (fills_code (xs ++ ys)) ≡ length (fills_code xs) + length (fills_code ys)
fills_append [] ys = omega arith
fills_append (x ∷ xs) ys = omega (arith, fills_append xs ys, length-append (fill_code x.0 x.1) (fills_code (xs ++ ys)), length-append (fill_code x.0 x.1) (fills_code xs))

joined_length : (w : ℕ) (g : ℕ → List (Source × ℕ)) → ((k : ℕ) → length (fills_code (g k)) ≤ w) → (n : ℕ) → length (fills_code (joined_fills g n)) ≤ w * n
joined_length w g h zero = omega arith
joined_length w g h (suc n) =
    let more : w * suc n ≡ w * n + w = grind (arith) in
    omega (arith, more, h n, joined_length w g h n, fills_append (joined_fills g n) (g n))

one_length : (x : Source × ℕ) → length (fills_code (x ∷ [])) ≡ length (fill_code x.0 x.1)
one_length x = omega (arith, length-append (fill_code x.0 x.1) [])

stride_length : (s : Shape) (i to : ℕ) → length (fill_code (stride_of s i) to) ≤ 4
stride_length s i to = go s.two_d
  where
    go : (b : Bool) → length (fill_code (if b then argument class.Int (i + 1) else source.Number 0) to) ≤ 4
    go true = omega (arith, argument_length class.Int (i + 1) to)
    go false = omega arith

long_length : (b : Bool) (i to : ℕ) → length (fill_code (argument (class_of b) i) to) ≤ 4
long_length true i to = omega (arith, argument_length class.Word i to)
long_length false i to = omega (arith, argument_length class.Int i to)

two_length : (x y : Source × ℕ) → length (fills_code (x ∷ y ∷ [])) ≡ length (fill_code x.0 x.1) + length (fill_code y.0 y.1)
two_length x y = omega (arith, length-append (fill_code x.0 x.1) (fills_code (y ∷ [])), one_length y)

array_length : (s : Shape) (k : ℕ) → length (fills_code (array_fills s k)) ≤ 6
array_length s k =
    let i = base_argument s k in
    omega (arith, two_length (argument class.Word i, block_at + base_word k) (stride_of s i, block_at + stride_word k), argument_length class.Word i (block_at + base_word k), stride_length s i (block_at + stride_word k))

front_length : (x y : Source × ℕ) (xs : List (Source × ℕ)) (n : ℕ) → length (fills_code xs) ≤ n → (i j : Ins) → length (i ∷ (fills_code (x ∷ y ∷ xs) ++ j ∷ [])) ≤ 18 + n
front_length x y xs n h i j =
    omega (arith, h, fill_most x.0 x.1, fill_most y.0 y.1, length-append (fill_code x.0 x.1) (fills_code (y ∷ xs)), length-append (fill_code y.0 y.1) (fills_code xs), length-append (fills_code (x ∷ y ∷ xs)) (j ∷ []))

pub entry_length : (f : FunctionValue) (longs : List Bool) → length (entry_code f longs) ≤ 18 + 6 * ((shape_of f).dests + (shape_of f).sources) + 4 * (shape_of f).params + 2 * (shape_of f).sums
entry_length f longs =
    let s = shape_of f in
    let dests = joined_fills (array_fills s) s.dests in
    let sources = joined_fills (λ k. array_fills s (4 + k)) s.sources in
    let params = joined_fills (λ j. (param_source f longs j, block_at + param_word j) ∷ []) s.params in
    let sums = joined_fills (λ g. (argument class.Word (sum_argument s g), pointer_at g) ∷ []) s.sums in
    let one : length (fills_code dests) ≤ 6 * s.dests = joined_length 6 (array_fills s) (array_length s) s.dests in
    let two : length (fills_code sources) ≤ 6 * s.sources = joined_length 6 (λ k. array_fills s (4 + k)) (λ k. array_length s (4 + k)) s.sources in
    let three : length (fills_code params) ≤ 4 * s.params = joined_length 4 (λ j. (param_source f longs j, block_at + param_word j) ∷ []) (λ j. omega (arith, one_length (param_source f longs j, block_at + param_word j), long_length (is_long longs j) (param_argument s j) (block_at + param_word j))) s.params in
    let four : length (fills_code sums) ≤ 2 * s.sums = joined_length 2 (λ g. (argument class.Word (sum_argument s g), pointer_at g) ∷ []) (λ g. omega (arith, one_length (argument class.Word (sum_argument s g), pointer_at g), argument_length class.Word (sum_argument s g) (pointer_at g))) s.sums in
    let all : length (fills_code (dests ++ (sources ++ (params ++ sums)))) ≤ 6 * (s.dests + s.sources) + 4 * s.params + 2 * s.sums = sum_up (length (fills_code dests)) (length (fills_code sources)) (length (fills_code params)) (length (fills_code sums)) _ s.dests s.sources s.params s.sums one two three four (fills_append dests (sources ++ (params ++ sums)) ∙ ap (λ n. length (fills_code dests) + n) (fills_append sources (params ++ sums) ∙ ap (λ n. length (fills_code sources) + n) (fills_append params sums))) in
    let whole = front_length (elements_source s, block_at + elements_word) (rows_source s, block_at + rows_word) (dests ++ (sources ++ (params ++ sums))) _ all (AluImm Sub 4 (pos stack_size)) (Lea 7 (away 4 block_at)) in
    last_step (length (entry_code f longs)) s.dests s.sources s.params s.sums whole
  where
    sum_up : (a b c d all k l m n : ℕ) → a ≤ 6 * k → b ≤ 6 * l → c ≤ 4 * m → d ≤ 2 * n → all ≡ a + (b + (c + d)) → all ≤ 6 * (k + l) + 4 * m + 2 * n
    sum_up a b c d all k l m n h i j o e = omega (arith, h, i, j, o, e)

    last_step : (x k l m n : ℕ) → x ≤ 18 + (6 * (k + l) + 4 * m + 2 * n) → x ≤ 18 + 6 * (k + l) + 4 * m + 2 * n
    last_step x k l m n h = omega (arith, h)
