-- What the reader holds between two lines.
use Rattle.std.specs.Prelude.{◌≡◌, ℕ, ◌<◌, ◌==◌, ◌||◌, Bool, false, List, ◌++◌, Option, Some, None, length, map, option_map, option_to_list}
use Rattle.std.specs.List.{list_any}
use Rattle.std.specs.Str.{bytes_eq}
use Rattle.orc_program.specs.Words.{Word}
use Rattle.orc_program.specs.Program.{FunctionValue}
use Rattle.orc_program.specs.Kept.{most_functions}
use Rattle.orc_text.specs.declared.state.State.{State}
use Rattle.orc_text.specs.declared.state.Current.{Current}
use Rattle.orc_text.specs.Said.{Said}

-- the function that the next line is a part of
abbrev pub function_in : Option Current → Option FunctionValue
function_in current = option_map (λ c. c.function) current

-- it is what the lines so far say
abbrev pub said_of : State → Said
said_of s = record { lines = s.lines; init = s.program.init; over = s.program.functions; current = function_in s.current }

-- a function of this name may be added to those that are over
abbrev pub HasPlace : List FunctionValue → Option Word → Type 0
HasPlace over None = Unit {0}
HasPlace over (Some name) = (list_any (bytes_eq name) (map (λ f. f.name) over) ≡ false) × (length over < most_functions)

-- the current function's name
abbrev pub current_name : State → Option Word
current_name s = option_map (λ c. c.function.name) s.current

-- it has the names of the functions in order, and the current one may be added to those that are over
pub record Holds (s : State) : Type 0 where
  pub named : s.names ≡ map (λ f. f.name) s.program.functions ++ option_to_list (current_name s)
  pub place : HasPlace s.program.functions (current_name s)

-- a prefix, where 1 is none
abbrev pub is_prefix : ℕ → Bool
is_prefix k = k == 1 || (k == 2 || k == 4)
