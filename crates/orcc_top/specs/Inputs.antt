-- The parts of an input that has a text and a job.
use Rattle.std.specs.Prelude.{ℕ, Bool, ◌||◌, ◌==◌, List, [], ◌∷◌, ◌++◌, codes, if◌then◌else◌}
use Rattle.std.specs.List.{concat, onto_first}
use Rattle.std.specs.Str.{bytes_eq}

-- the lines, each with its byte 10 at its end; the last one may have none
abbrev pub whole_lines : List ℕ → List (List ℕ)
whole_lines [] = []
whole_lines (b ∷ bytes) = if b == 10 then (b ∷ []) ∷ whole_lines bytes else onto_first b (whole_lines bytes)

-- the line whose bytes are exactly `%%`
abbrev pub is_separator : List ℕ → Bool
is_separator line = bytes_eq line (codes "%%") || bytes_eq line (codes "%%" ++ 10 ∷ [])

-- the lines before the first separator, or all where there is none
abbrev pub before_separator : List (List ℕ) → List ℕ
before_separator [] = []
before_separator (line ∷ lines) = if is_separator line then [] else line ++ before_separator lines

-- the lines behind the first separator; none where there is none
abbrev pub behind_separator : List (List ℕ) → List ℕ
behind_separator [] = []
behind_separator (line ∷ lines) = if is_separator line then concat lines else behind_separator lines

-- an input's text
unfoldable pub text_in : List ℕ → List ℕ
text_in input = before_separator (whole_lines input)

-- an input's job
unfoldable pub job_in : List ℕ → List ℕ
job_in input = behind_separator (whole_lines input)
