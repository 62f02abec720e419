-- Laws of the list of arguments: how many there are, and where each stands.
use Rattle.std.specs.Prelude.{◌≡◌, ◌<◌, ℕ, ◌+◌, true, Some, length, slice_get}
use Rattle.orc_prototype.specs.declared.arguments.Argument.{Argument}
use Rattle.orc_prototype.specs.declared.arguments.Argument.TheVariants as argument
use Rattle.orc_prototype.specs.declared.arguments.Shape.{Shape}
use Rattle.orc_prototype.specs.Arguments.{arguments, dest_argument, sum_argument, source_argument, param_argument, elements_argument, rows_argument, has_rows_argument, argument_count}

-- There are `argument_count` arguments.
abbrev pub AreCounted : Shape → Type 0
AreCounted s = length (arguments s) ≡ argument_count s

-- argument number i is this one
abbrev pub Stands : Shape → ℕ → Argument → Type 0
Stands s i a = slice_get (arguments s) i ≡ Some a

-- Each argument stands where its number says.
pub record AreNumbered (s : Shape) : Type 0 where
  pub dest : (k : ℕ) → k < s.dests → Stands s (dest_argument s k) (argument.Dest k)
  pub dest_stride : s.two_d ≡ true → (k : ℕ) → k < s.dests → Stands s (dest_argument s k + 1) (argument.DestStride k)
  pub sum : (g : ℕ) → g < s.sums → Stands s (sum_argument s g) (argument.Sum g)
  pub source : (k : ℕ) → k < s.sources → Stands s (source_argument s k) (argument.Source k)
  pub source_stride : s.two_d ≡ true → (k : ℕ) → k < s.sources → Stands s (source_argument s k + 1) (argument.SourceStride k)
  pub param : (j : ℕ) → j < s.params → Stands s (param_argument s j) (argument.Param j)
  pub elements : s.elements ≡ 0 → Stands s (elements_argument s) argument.Elements
  pub rows : has_rows_argument s ≡ true → Stands s (rows_argument s) argument.Rows
