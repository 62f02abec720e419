-- The words of the block and of the accumulators' pointers, when all are filled.
use Rattle.std.proofs.Common.{◌≡◌, ℕ, zero, suc, ◌+◌, ◌-◌, ◌<◌, ◌++◌, Bool, List, [], ◌∷◌, Some, sym, subst, arith, inl, inr, ⊎_elim}
use Rattle.std.proofs.lemmas.Bool.{cases_eq}
use Rattle.orc_bits.specs.Memory.{Memory, word}
use Rattle.orc_program.specs.Program.{FunctionValue}
use Rattle.orc_frame.specs.Parts.{elements_word, rows_word, base_word, stride_word, param_word}
use Rattle.orc_frame.specs.Subject.{IsArray}
use Rattle.orc_frame.specs.Function.{subject_of}
use Rattle.orc_prototype.specs.declared.arguments.Class.TheVariants as class
use Rattle.orc_prototype.specs.declared.arguments.Shape.{Shape}
use Rattle.orc_prototype.specs.Arguments.{shape_of, sum_argument}
use Rattle.orc_entry.specs.declared.sources.Source.{Source}
use Rattle.orc_entry.specs.Arguments.{argument, param_source, call_by}
use Rattle.orc_entry.specs.Code.{block_at, pointer_at, joined_fills, array_fills, fills_of}
use Rattle.orc_entry.proofs.Fills.{AllFilled}

module _ (rsp : ℕ) (arg : ℕ → ℕ) (mem : Memory) where
  filled_front : (xs ys : List (Source × ℕ)) → AllFilled rsp arg mem (xs ++ ys) → AllFilled rsp arg mem xs
  filled_front [] ys h = tt
  filled_front (x ∷ xs) ys h = (h.0, filled_front xs ys h.1)

  filled_back : (xs ys : List (Source × ℕ)) → AllFilled rsp arg mem (xs ++ ys) → AllFilled rsp arg mem ys
  filled_back [] ys h = h
  filled_back (x ∷ xs) ys h = filled_back xs ys h.1

  filled_joined : (g : ℕ → List (Source × ℕ)) (n k : ℕ) → k < n → AllFilled rsp arg mem (joined_fills g n) → AllFilled rsp arg mem (g k)
  filled_joined g zero k l h = absurd (omega (arith, l))
  filled_joined g (suc n) k l h = ⊎_elim
      (λ e. subst (λ j. AllFilled rsp arg mem (g j)) (sym e) (filled_back (joined_fills g n) (g n) h))
      (λ ne. filled_joined g n k (omega (arith, l, ne)) (filled_front (joined_fills g n) (g n) h))
      (cases_eq k n)

-- the words that are so far above RSP
pub record Holding (f : FunctionValue) (longs : List Bool) (rsp : ℕ) (arg : ℕ → ℕ) (mem : Memory) : Type 0 where
  pub n : word mem (rsp + (block_at + elements_word)) ≡ Some (call_by f longs arg).n
  pub m : word mem (rsp + (block_at + rows_word)) ≡ Some (call_by f longs arg).m
  pub bases : (k : ℕ) → IsArray (subject_of f) k → word mem (rsp + (block_at + base_word k)) ≡ Some ((call_by f longs arg).base k)
  pub strides : (k : ℕ) → IsArray (subject_of f) k → word mem (rsp + (block_at + stride_word k)) ≡ Some ((call_by f longs arg).stride k)
  pub params : (j : ℕ) → j < (shape_of f).params → word mem (rsp + (block_at + param_word j)) ≡ Some ((call_by f longs arg).param j)
  pub sums : (g : ℕ) → g < (shape_of f).sums → word mem (rsp + pointer_at g) ≡ Some (arg (sum_argument (shape_of f) g))

module _ (f : FunctionValue) (longs : List Bool) (rsp : ℕ) (arg : ℕ → ℕ) (mem : Memory) (h : AllFilled rsp arg mem (fills_of f longs)) where
  abbrev s : Shape
  s = shape_of f

  abbrev param : ℕ → List (Source × ℕ)
  param j = (param_source f longs j, block_at + param_word j) ∷ []

  abbrev sum : ℕ → List (Source × ℕ)
  sum g = (argument class.Word (sum_argument s g), pointer_at g) ∷ []

  abbrev behind : ℕ → List (Source × ℕ)
  behind k = array_fills s (4 + k)

  abbrev dests : List (Source × ℕ)
  dests = joined_fills (array_fills s) s.dests

  abbrev sources : List (Source × ℕ)
  sources = joined_fills behind s.sources

  abbrev params : List (Source × ℕ)
  params = joined_fills param s.params

  abbrev sums : List (Source × ℕ)
  sums = joined_fills sum s.sums

  arrays : AllFilled rsp arg mem (sources ++ (params ++ sums))
  arrays = filled_back rsp arg mem dests (sources ++ (params ++ sums)) h.1.1

  rest : AllFilled rsp arg mem (params ++ sums)
  rest = filled_back rsp arg mem sources (params ++ sums) arrays

  array : (k : ℕ) → IsArray (subject_of f) k → AllFilled rsp arg mem (array_fills s k)
  array k (inl l) = filled_joined rsp arg mem (array_fills s) s.dests k l (filled_front rsp arg mem dests (sources ++ (params ++ sums)) h.1.1)
  array k (inr l) =
      let e : 4 + (k - 4) ≡ k = omega (arith, l.0) in
      subst (λ j. AllFilled rsp arg mem (array_fills s j)) e (filled_joined rsp arg mem behind s.sources (k - 4) (omega (arith, l.0, l.1)) (filled_front rsp arg mem sources (params ++ sums) arrays))

  pub holding : Holding f longs rsp arg mem
  holding = record {
    n = h.0;
    m = h.1.0;
    bases = λ k is. (array k is).0;
    strides = λ k is. (array k is).1.0;
    params = λ j l. (filled_joined rsp arg mem param s.params j l (filled_front rsp arg mem params sums rest)).0;
    sums = λ g l. (filled_joined rsp arg mem sum s.sums g l (filled_back rsp arg mem params sums rest)).0;
  }
