-- Which parameters of a function a text declares by `.longparam`. The program that a text reads as has parameters of one kind.
use Rattle.std.specs.Prelude.{ℕ, Bool, true, false, ◌&&◌, List, [], ◌∷◌, ◌++◌, Option, Some, None, option_to_list, if◌then◌else◌, codes}
use Rattle.std.specs.Str.{bytes_eq}
use Rattle.orc_program.specs.Words.{Word}
use Rattle.orc_words.specs.Text.{lines, content, words, word}

-- the first word of a line is this one
abbrev pub begins_with : Word → List ℕ → Bool
begins_with w line = bytes_eq (word (words (content line)) 0) w

-- a function of this name starts at a line
abbrev pub starts : Word → List ℕ → Bool
starts name line = begins_with (codes ".function") line && bytes_eq (word (words (content line)) 1) name

-- where a line declares a parameter: whether by `.longparam`
abbrev pub long_said : List ℕ → Option Bool
long_said line = if begins_with (codes ".longparam") line then Some true else (if begins_with (codes ".param") line then Some false else None)

-- so for each parameter that lines declare, up to the start of the next function
abbrev pub params_in : List (List ℕ) → List Bool
params_in [] = []
params_in (line ∷ more) = if begins_with (codes ".function") line then [] else option_to_list (long_said line) ++ params_in more

-- so behind the line at which the function of this name starts
abbrev pub params_behind : Word → List (List ℕ) → List Bool
params_behind name [] = []
params_behind name (line ∷ more) = if starts name line then params_in more else params_behind name more

-- For each parameter of the first function of this name in a text, in order of declaration: whether it is declared by `.longparam`.
unfoldable pub long_params : List ℕ → Word → List Bool
long_params text name = params_behind name (lines text)
