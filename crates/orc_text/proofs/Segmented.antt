-- A text without a fault reads as what its segments say.
use Rattle.std.proofs.Common.{◌≡◌, ℕ, suc, ◌+◌, Bool, true, false, not, List, [], ◌∷◌, ◌++◌, Option, Some, None, option_to_list, if◌then◌else◌, filter, filter_map, fold, refl, sym, ap, ◌∙◌, subst, append-nil, append_assoc, arith, true≢false, inl, inr}
use Rattle.std.specs.List.{cons_option, before_first, prefix_len}
use Rattle.std.proofs.lemmas.Bool.{cases_Bool}
use Rattle.orc_program.specs.Words.{Word}
use Rattle.orc_program.specs.Program.{FunctionValue}
use Rattle.orc_words.specs.Text.{lines, content, words, word, starts_with_dot}
use Rattle.orc_text.specs.declared.directive.Directive.{Directive}
use Rattle.orc_text.specs.declared.directive.Directive.TheVariants as directive
use Rattle.orc_text.specs.Each.{OneForEach}
use Rattle.orc_text.specs.Faults.{words_fault, line_fault}
use Rattle.orc_text.specs.Reads.{first_fault, text_fault, text_program}
use Rattle.orc_text.specs.Said.{Said, functions_of, nothing_said, new_function, directive_of, say, say_words, said_by, counted, program_of}
use Rattle.orc_text.specs.Segments.{TextLine, numbered, directive_in, are_insn, starts_function, is_start, after_init, segments, declares, SaysFunction, SaysProgram, ReadsAreSegments}
use Rattle.orc_text.proofs.Directives.{within}
use Rattle.orc_text.proofs.Lines.{none_both}
use Rattle.orc_text.proofs.LineSteps.{words_step, outside, words_outside}
use Rattle.orc_text.proofs.MoreLines.{grown, names_declared}

-- ---- lists

-- lists up to the first item of a kind
stop_here : {A : Type 0} (p : A → Bool) (x : A) (xs : List A) → p x ≡ true → before_first p (x ∷ xs) ≡ []
stop_here p x xs h = rw h refl

go_on : {A : Type 0} (p : A → Bool) (x : A) (xs : List A) → p x ≡ false → before_first p (x ∷ xs) ≡ x ∷ before_first p xs
go_on p x xs h = let e : 1 + prefix_len (λ y. not (p y)) xs ≡ suc (prefix_len (λ y. not (p y)) xs) = omega arith in rw (h, e) refl

one_first : {A : Type 0} (x : Option A) (xs : List A) → cons_option x [] ++ xs ≡ cons_option x xs
one_first None xs = refl
one_first (Some a) xs = refl

-- ---- a `.function` line

function_there : (d : Option Directive) → starts_function d ≡ true → d ≡ Some directive.Function
function_there None h = absurd (true≢false (sym h))
function_there (Some directive.Function) h = refl
function_there (Some directive.Init) h = absurd (true≢false (sym h))
function_there (Some directive.Flags) h = absurd (true≢false (sym h))
function_there (Some directive.CountN) h = absurd (true≢false (sym h))
function_there (Some directive.CountM) h = absurd (true≢false (sym h))
function_there (Some directive.Backup) h = absurd (true≢false (sym h))
function_there (Some (directive.Variable k)) h = absurd (true≢false (sym h))
function_there (Some directive.Float) h = absurd (true≢false (sym h))

record Starts (s : Said) (ws : List Word) : Type 0 where
  insn : are_insn ws ≡ false
  said : say_words s ws ≡ within s.lines s.init (functions_of s) (new_function (word ws 1))

starts : (s : Said) (ws : List Word) → directive_in ws ≡ Some directive.Function → Starts s ws
starts s [] e = absurd (let c : ⊥ = cc in c)
starts s (w ∷ ws) e = go (starts_with_dot w) refl e
  where
    go : (b : Bool) → starts_with_dot w ≡ b → (if b then directive_of w else None) ≡ Some directive.Function → Starts s (w ∷ ws)
    go true t h = record { insn = rw t refl; said = rw (t, h) refl }
    go false t h = absurd (let c : ⊥ = cc in c)

begun : (line : TextLine) → directive_in line.words ≡ Some directive.Function → are_insn line.words ≡ false → SaysFunction (line ∷ []) (new_function (word line.words 1))
begun line e i = record {
  name = refl;
  two_d = rw e refl;
  vars = rw e tt;
  distinct = rw e refl;
  insns = rw i tt;
  n = rw e refl;
  m = rw e refl;
  backup = rw e refl;
}

-- ---- all lines

abbrev noted_in : TextLine → Option Word
noted_in line = after_init (directive_in line.words) line.words

-- what is said after lines: more functions, and perhaps the name after `.init`
record Run (init : Option Word) (over : List FunctionValue) (segs : List (List TextLine)) (ls : List TextLine) (end : Said) : Type 0 where
  functions : (fs : List FunctionValue) × (functions_of end ≡ over ++ fs) × OneForEach SaysFunction segs fs
  noted : option_to_list end.init ≡ option_to_list init ++ filter_map noted_in ls

noted_more : (init to last : Option Word) (line : TextLine) (more : List TextLine) → option_to_list to ≡ option_to_list init ++ cons_option (noted_in line) [] → option_to_list last ≡ option_to_list to ++ filter_map noted_in more
    → option_to_list last ≡ option_to_list init ++ filter_map noted_in (line ∷ more)
noted_more init to last line more here later =
    later
    ∙ ap (λ ws. ws ++ filter_map noted_in more) here
    ∙ append_assoc (option_to_list init) (cons_option (noted_in line) []) (filter_map noted_in more)
    ∙ ap (λ ws. option_to_list init ++ ws) (one_first (noted_in line) (filter_map noted_in more))

retold : (init : Option Word) (over : List FunctionValue) (segs others : List (List TextLine)) (ls : List TextLine) (end : Said) → others ≡ segs → Run init over segs ls end → Run init over others ls end
retold init over segs others ls end e r = subst (λ (x : List (List TextLine)). Run init over x ls end) (sym e) r

-- one more function before those that follow
one_before : (init : Option Word) (over : List FunctionValue) (f : FunctionValue) (segment : List TextLine) (segs : List (List TextLine)) (ls : List TextLine) (end : Said) → SaysFunction segment f → Run init (over ++ f ∷ []) segs ls end → Run init over (segment ∷ segs) ls end
one_before init over f segment segs ls end s r = record {
  functions = (f ∷ r.functions.0, r.functions.1 ∙ append_assoc over (f ∷ []) r.functions.0, (s, r.functions.2));
  noted = r.noted;
}

-- a line that starts a function
step_start : (s : Said) (bytes : List ℕ) → directive_in (words (content bytes)) ≡ Some directive.Function → say s bytes ≡ within (s.lines + 1) s.init (functions_of s) (new_function (word (words (content bytes)) 1))
unfolding say
step_start s bytes e = ap (counted (s.lines + 1)) (starts s (words (content bytes)) e).said

step_other : (s after : Said) (bytes : List ℕ) → say_words s (words (content bytes)) ≡ after → say s bytes ≡ counted (s.lines + 1) after
unfolding say
step_other s after bytes e = ap (counted (s.lines + 1)) e

-- a line that starts a function says nothing of `.init`
not_noted : (init : Option Word) (line : TextLine) → directive_in line.words ≡ Some directive.Function → option_to_list init ≡ option_to_list init ++ cons_option (noted_in line) []
not_noted init line e = rw e (sym (append-nil (option_to_list init)))

start_segment : (line : TextLine) (more : List TextLine) → is_start line ≡ true → segments (line ∷ more) ≡ (line ∷ before_first is_start more) ∷ segments more
start_segment line more h = rw h refl

not_start : (line : TextLine) (more : List TextLine) → is_start line ≡ false → segments (line ∷ more) ≡ segments more
not_start line more h = rw h refl

-- the line's own step, and then the others
noted_then : (init to : Option Word) (over : List FunctionValue) (segs : List (List TextLine)) (line : TextLine) (more : List TextLine) (end : Said) → option_to_list to ≡ option_to_list init ++ cons_option (noted_in line) [] → Run to over segs more end → Run init over segs (line ∷ more) end
noted_then init to over segs line more end here r = record { functions = r.functions; noted = noted_more init to end.init line more here r.noted }

fault_here : (s : Said) (bytes : List ℕ) → line_fault s (content bytes) ≡ None → words_fault s (content bytes) (words (content bytes)) ≡ None
unfolding line_fault
fault_here s bytes h = h

abbrev line_of : ℕ → List ℕ → TextLine
line_of n bytes = record { number = n + 1; words = words (content bytes) }

-- what is said while a function isn't over, and before the first one
abbrev RunsWithin : List (List ℕ) → Type 0
RunsWithin all = (n : ℕ) (init : Option Word) (over : List FunctionValue) (first : TextLine) (rest : List TextLine) (f : FunctionValue) → SaysFunction (first ∷ rest) f → first_fault (within n init over f) all ≡ None
    → Run init over ((first ∷ (rest ++ before_first is_start (numbered (n + 1) all))) ∷ segments (numbered (n + 1) all)) (numbered (n + 1) all) (fold say (within n init over f) all)

abbrev RunsOutside : List (List ℕ) → Type 0
RunsOutside all = (n : ℕ) (init : Option Word) (over : List FunctionValue) → first_fault (outside n init over) all ≡ None
    → Run init over (segments (numbered (n + 1) all)) (numbered (n + 1) all) (fold say (outside n init over) all)

module _ (bytes : List ℕ) (all : List (List ℕ)) (later : RunsWithin all) where
  -- a `.function` line, after functions that are over
  start_next : (s : Said) → is_start (line_of s.lines bytes) ≡ true → first_fault (say s bytes) all ≡ None
      → Run s.init (functions_of s) (segments (line_of s.lines bytes ∷ numbered (s.lines + 1 + 1) all)) (line_of s.lines bytes ∷ numbered (s.lines + 1 + 1) all) (fold say (say s bytes) all)
  start_next s t h =
      let line = line_of s.lines bytes in
      let more = numbered (s.lines + 1 + 1) all in
      let e = function_there (directive_in line.words) t in
      let f = new_function (word line.words 1) in
      let next = within (s.lines + 1) s.init (functions_of s) f in
      let is = step_start s bytes e in
      let run = later (s.lines + 1) s.init (functions_of s) line [] f (begun line e (starts s line.words e).insn) (subst (λ (x : Said). first_fault x all ≡ None) is h) in
      let there = noted_then s.init s.init (functions_of s) ((line ∷ before_first is_start more) ∷ segments more) line more (fold say next all) (not_noted s.init line e) run in
      subst (λ (x : Said). Run s.init (functions_of s) (segments (line ∷ more)) (line ∷ more) (fold say x all)) (sym is)
      (retold s.init (functions_of s) ((line ∷ before_first is_start more) ∷ segments more) (segments (line ∷ more)) (line ∷ more) (fold say next all) (start_segment line more t) there)

  -- another line of the current function
  within_next : (n : ℕ) (init : Option Word) (over : List FunctionValue) (first : TextLine) (rest : List TextLine) (f : FunctionValue) → SaysFunction (first ∷ rest) f → is_start (line_of n bytes) ≡ false
      → line_fault (within n init over f) (content bytes) ≡ None → first_fault (say (within n init over f) bytes) all ≡ None
      → Run init over ((first ∷ (rest ++ (line_of n bytes ∷ before_first is_start (numbered (n + 1 + 1) all)))) ∷ segments (numbered (n + 1 + 1) all)) (line_of n bytes ∷ numbered (n + 1 + 1) all) (fold say (say (within n init over f) bytes) all)
  within_next n init over first rest f s t fine h =
      let line = line_of n bytes in
      let more = numbered (n + 1 + 1) all in
      let now = within n init over f in
      let named = sym (names_declared (filter declares (first ∷ rest)) f.vars s.vars) in
      let step = words_step n init over (first ∷ rest) f s.distinct named (content bytes) line.words t (fault_here now bytes fine) in
      let next = within (n + 1) step.to over step.function in
      let is : say now bytes ≡ next = step_other now (within n step.to over step.function) bytes step.is in
      let run = later (n + 1) step.to over first (rest ++ line ∷ []) step.function (grown first line rest f step.function s step.adds) (subst (λ (x : Said). first_fault x all ≡ None) is h) in
      let there = noted_then init step.to over ((first ∷ ((rest ++ line ∷ []) ++ before_first is_start more)) ∷ segments more) line more (fold say next all) step.noted run in
      subst (λ (x : Said). Run init over ((first ∷ (rest ++ (line ∷ before_first is_start more))) ∷ segments more) (line ∷ more) (fold say x all)) (sym is)
      (subst (λ (xs : List TextLine). Run init over ((first ∷ xs) ∷ segments more) (line ∷ more) (fold say next all)) (append_assoc rest (line ∷ []) (before_first is_start more)) there)

run_within : (all : List (List ℕ)) → RunsWithin all
run_within [] n init over first rest f s h = record {
  functions = (f ∷ [], refl, (subst (λ (xs : List TextLine). SaysFunction (first ∷ xs) f) (sym (append-nil rest)) s, tt));
  noted = sym (append-nil (option_to_list init));
}
run_within (bytes ∷ all) n init over first rest f s h =
    let line = line_of n bytes in
    let more = numbered (n + 1 + 1) all in
    let now = within n init over f in
    let end = fold say (say now bytes) all in
    let two = none_both (n + 1) (line_fault now (content bytes)) (first_fault (say now bytes) all) h in
    elim (cases_Bool (is_start line)) [
      | inl t ↦
          let run = start_next bytes all (run_within all) now t two.1 in
          let whole : first ∷ (rest ++ before_first is_start (line ∷ more)) ≡ first ∷ rest = ap (λ (xs : List TextLine). first ∷ (rest ++ xs)) (stop_here is_start line more t) ∙ ap (λ (xs : List TextLine). first ∷ xs) (append-nil rest) in
          subst (λ (x : List TextLine). Run init over (x ∷ segments (line ∷ more)) (line ∷ more) end) (sym whole) (one_before init over f (first ∷ rest) (segments (line ∷ more)) (line ∷ more) end s run)
      | inr o ↦
          let run = within_next bytes all (run_within all) n init over first rest f s o two.0 two.1 in
          subst (λ (x : List (List TextLine)). Run init over ((first ∷ (rest ++ before_first is_start (line ∷ more))) ∷ x) (line ∷ more) end) (sym (not_start line more o))
          (subst (λ (x : List TextLine). Run init over ((first ∷ (rest ++ x)) ∷ segments more) (line ∷ more) end) (sym (go_on is_start line more o)) run)
    ]

-- another line before the first function
outside_next : (bytes : List ℕ) (all : List (List ℕ)) → RunsOutside all → (n : ℕ) (init : Option Word) (over : List FunctionValue) → is_start (line_of n bytes) ≡ false
    → line_fault (outside n init over) (content bytes) ≡ None → first_fault (say (outside n init over) bytes) all ≡ None
    → Run init over (segments (numbered (n + 1 + 1) all)) (line_of n bytes ∷ numbered (n + 1 + 1) all) (fold say (say (outside n init over) bytes) all)
outside_next bytes all later n init over t fine h =
    let line = line_of n bytes in
    let more = numbered (n + 1 + 1) all in
    let now = outside n init over in
    let step = words_outside n init over (content bytes) line.words t (fault_here now bytes fine) in
    let next = outside (n + 1) step.to over in
    let is : say now bytes ≡ next = step_other now (outside n step.to over) bytes step.is in
    let run = later (n + 1) step.to over (subst (λ (x : Said). first_fault x all ≡ None) is h) in
    subst (λ (x : Said). Run init over (segments more) (line ∷ more) (fold say x all)) (sym is) (noted_then init step.to over (segments more) line more (fold say next all) step.noted run)

run_outside : (all : List (List ℕ)) → RunsOutside all
run_outside [] n init over h = record { functions = ([], refl, tt); noted = sym (append-nil (option_to_list init)) }
run_outside (bytes ∷ all) n init over h =
    let line = line_of n bytes in
    let more = numbered (n + 1 + 1) all in
    let now = outside n init over in
    let end = fold say (say now bytes) all in
    let two = none_both (n + 1) (line_fault now (content bytes)) (first_fault (say now bytes) all) h in
    elim (cases_Bool (is_start line)) [
      | inl t ↦
          subst (λ (x : List FunctionValue). Run init x (segments (line ∷ more)) (line ∷ more) end) (append-nil over) (start_next bytes all (run_within all) now t two.1)
      | inr o ↦
          subst (λ (x : List (List TextLine)). Run init over x (line ∷ more) end) (sym (not_start line more o)) (outside_next bytes all (run_outside all) n init over o two.0 two.1)
    ]

-- ---- texts

-- lines without a fault say the program of their segments
pub lines_said : (all : List (List ℕ)) → first_fault nothing_said all ≡ None → SaysProgram (numbered 1 all) (program_of (said_by all))
lines_said all h =
    let run = run_outside all 0 None [] h in
    record {
      functions = subst (λ (fs : List FunctionValue). OneForEach SaysFunction (segments (numbered 1 all)) fs) (sym run.functions.1) run.functions.2;
      init = run.noted;
    }

pub reads_are_segments : ReadsAreSegments
unfolding text_fault text_program
reads_are_segments text h = lines_said (lines text) h
