-- The words that a function's entry fills lie in ascending order within the entry's bytes.
use Rattle.std.proofs.Common.{ℕ, zero, suc, ◌+◌, ◌*◌, ◌≤◌, ◌++◌, Bool, List, [], ◌∷◌, arith}
use Rattle.orc_program.specs.Program.{FunctionValue}
use Rattle.orc_frame.specs.Parts.{param_word}
use Rattle.orc_prototype.specs.declared.arguments.Class.TheVariants as class
use Rattle.orc_entry.specs.declared.sources.Source.{Source}
use Rattle.orc_prototype.specs.Arguments.{IsSmall, shape_of, sum_argument}
use Rattle.orc_entry.specs.Arguments.{argument, param_source}
use Rattle.orc_entry.specs.Code.{Ascend, stack_size, block_at, pointer_at, joined_fills, array_fills, fills_of}

-- from one place to another
abbrev Spans : ℕ → ℕ → List (Source × ℕ) → Type 0
Spans low high [] = low ≤ high
Spans low high (x ∷ xs) = (low ≤ x.1) × Spans (x.1 + 8) high xs

spans_from : (a b c : ℕ) (xs : List (Source × ℕ)) → a ≤ b → Spans b c xs → Spans a c xs
spans_from a b c [] l h = omega (arith, l, h)
spans_from a b c (x ∷ xs) l h = (omega (arith, l, h.0), h.1)

spans_both : (a b c : ℕ) (xs ys : List (Source × ℕ)) → Spans a b xs → Spans b c ys → Spans a c (xs ++ ys)
spans_both a b c [] ys h k = spans_from a b c ys h k
spans_both a b c (x ∷ xs) ys h k = (h.0, spans_both (x.1 + 8) b c xs ys h.1 k)

spans_joined : (a w : ℕ) (g : ℕ → List (Source × ℕ)) → ((k : ℕ) → Spans (a + w * k) (a + w * suc k) (g k)) → (n : ℕ) → Spans a (a + w * n) (joined_fills g n)
spans_joined a w g h zero = omega arith
spans_joined a w g h (suc n) = spans_both a (a + w * n) (a + w * suc n) (joined_fills g n) (g n) (spans_joined a w g h n) (h n)

spans_to : (a b c : ℕ) (xs : List (Source × ℕ)) → b ≤ c → Spans a b xs → Spans a c xs
spans_to a b c [] l h = omega (arith, l, h)
spans_to a b c (x ∷ xs) l h = (h.0, spans_to (x.1 + 8) b c xs l h.1)

ascends : (a : ℕ) (xs : List (Source × ℕ)) → Spans a stack_size xs → Ascend a xs
ascends a [] h = h
ascends a (x ∷ xs) h = (h.0, ascends (x.1 + 8) xs h.1)

pub fills_ascend : (f : FunctionValue) (longs : List Bool) → IsSmall (shape_of f) → Ascend 0 (fills_of f longs)
fills_ascend f longs small =
    let s = shape_of f in
    let dests = joined_fills (array_fills s) s.dests in
    let sources = joined_fills (λ k. array_fills s (4 + k)) s.sources in
    let params = joined_fills (λ j. (param_source f longs j, block_at + param_word j) ∷ []) s.params in
    let sums = joined_fills (λ g. (argument class.Word (sum_argument s g), pointer_at g) ∷ []) s.sums in
    let one : Spans 24 88 dests = spans_to 24 (24 + 16 * s.dests) 88 dests (omega (arith, small.dests)) (spans_joined 24 16 (array_fills s) (λ k. (omega arith, (omega arith, omega arith))) s.dests) in
    let two : Spans 88 216 sources = spans_to 88 (88 + 16 * s.sources) 216 sources (omega (arith, small.sources)) (spans_joined 88 16 (λ k. array_fills s (4 + k)) (λ k. (omega arith, (omega arith, omega arith))) s.sources) in
    let three : Spans 216 312 params = spans_to 216 (216 + 8 * s.params) 312 params (omega (arith, small.params)) (spans_joined 216 8 (λ j. (param_source f longs j, block_at + param_word j) ∷ []) (λ j. (omega arith, omega arith)) s.params) in
    let four : Spans 312 344 sums = spans_to 312 (312 + 8 * s.sums) 344 sums (omega (arith, small.sums)) (spans_joined 312 8 (λ g. (argument class.Word (sum_argument s g), pointer_at g) ∷ []) (λ g. (omega arith, omega arith)) s.sums) in
    let rest = spans_both 24 88 344 dests (sources ++ (params ++ sums)) one (spans_both 88 216 344 sources (params ++ sums) two (spans_both 216 312 344 params sums three four)) in
    ascends 0 (fills_of f longs) (omega arith, (omega arith, rest))
