-- A text's first fault is that of the least line that has one.
use Rattle.std.proofs.Common.{◌≡◌, ◌⊎◌, ℕ, suc, ◌+◌, ◌<◌, ◌||◌, Bool, true, false, List, [], ◌∷◌, ◌++◌, Option, Some, None, is_some, option_map, option_to_list, if◌then◌else◌, length, take, drop, fold, get_or, refl, sym, ap, ◌∙◌, subst, inl, inr, arith, append-nil, append_assoc, length-append, true≢false}
use Rattle.std.specs.List.{list_any}
use Rattle.std.proofs.Math.Seq.{take-append_seam, get_or-append_seam}
use Rattle.orc_ops.specs.declared.lookup.Found.{Found}
use Rattle.orc_ops.specs.declared.lookup.Found.TheVariants as found
use Rattle.orc_ops.specs.Names.{find_op}
use Rattle.orc_program.specs.declared.fault.Fault.{Fault}
use Rattle.orc_program.specs.Words.{Word}
use Rattle.orc_program.specs.Program.{FunctionValue, ProgramValue}
use Rattle.orc_words.specs.Text.{lines, content, words, word, starts_with_dot}
use Rattle.orc_text.specs.declared.directive.Directive.{Directive}
use Rattle.orc_text.specs.declared.directive.Directive.TheVariants as directive
use Rattle.orc_text.specs.Faults.{line_fault}
use Rattle.orc_text.specs.FirstFault.{IsBefore, FaultAt, IsFirstFault, LeastLineFaults, OneFault}
use Rattle.orc_text.specs.Reads.{found_or, first_fault, text_fault}
use Rattle.orc_text.specs.Said.{Said, nothing_said, directive_of, split_prefix, program_of, say, said_by, say_words, say_if, say_directive, say_found, say_insn}
use Rattle.orc_text.specs.Segments.{TextLine, numbered, directive_in, starts_function, is_start}
use Rattle.orc_text.proofs.Lines.{said_more, said_counts, fault_there}
use Rattle.orc_text.proofs.OneProgram.{says_one}
use Rattle.orc_text.proofs.Segmented.{lines_said}

-- ---- where there is a current function

kept : {A : Type 0} (change : A → A) (c : Option A) → is_some (option_map change c) ≡ is_some c
kept change None = refl
kept change (Some a) = refl

directive_kept : (s : Said) (ws : List Word) (d : Directive) → is_some (say_directive s ws d).current ≡ starts_function (Some d) || is_some s.current
directive_kept s ws directive.Function = refl
directive_kept s ws directive.Init = refl
directive_kept s ws directive.Flags = kept _ s.current
directive_kept s ws directive.CountN = kept _ s.current
directive_kept s ws directive.CountM = kept _ s.current
directive_kept s ws directive.Backup = kept _ s.current
directive_kept s ws (directive.Variable k) = kept _ s.current
directive_kept s ws directive.Float = refl

if_kept : (s : Said) (ws : List Word) (x : Option Directive) → is_some (say_if s ws x).current ≡ starts_function x || is_some s.current
if_kept s ws None = refl
if_kept s ws (Some d) = directive_kept s ws d

found_kept : (s : Said) (prefix : ℕ) (ws : List Word) (x : Found) → is_some (say_found s prefix ws x).current ≡ is_some s.current
found_kept s prefix ws (found.Yes op) = kept _ s.current
found_kept s prefix ws found.Unsupported = refl
found_kept s prefix ws found.Unknown = refl

words_kept : (s : Said) (ws : List Word) → is_some (say_words s ws).current ≡ starts_function (directive_in ws) || is_some s.current
words_kept s [] = refl
words_kept s (w ∷ ws) = go (starts_with_dot w)
  where
    go : (dot : Bool) → is_some (if dot then say_if s (w ∷ ws) (directive_of w) else say_insn s (split_prefix (w ∷ ws))).current ≡ starts_function (if dot then directive_of w else None) || is_some s.current
    go true = if_kept s (w ∷ ws) (directive_of w)
    go false = found_kept s (split_prefix (w ∷ ws)).0 (drop 1 (split_prefix (w ∷ ws)).1) (find_op (word (split_prefix (w ∷ ws)).1 0))

say_kept : (s : Said) (bytes : List ℕ) → is_some (say s bytes).current ≡ starts_function (directive_in (words (content bytes))) || is_some s.current
unfolding say
say_kept s bytes = words_kept s (words (content bytes))

any_order : (a b c : Bool) → (a || b) || c ≡ b || (a || c)
any_order true true c = refl
any_order true false c = refl
any_order false b c = refl

none_or : (b : Bool) → b ≡ b || false
none_or true = refl
none_or false = refl

lines_kept : (n : ℕ) (s : Said) (all : List (List ℕ)) → is_some (fold say s all).current ≡ is_some s.current || list_any is_start (numbered n all)
lines_kept n s [] = none_or (is_some s.current)
lines_kept n s (bytes ∷ all) =
    lines_kept (n + 1) (say s bytes) all
    ∙ ap (λ b. b || list_any is_start (numbered (n + 1) all)) (say_kept s bytes)
    ∙ any_order (starts_function (directive_in (words (content bytes)))) (is_some s.current) (list_any is_start (numbered (n + 1) all))

numbered_length : (n : ℕ) (all : List (List ℕ)) → length (numbered n all) ≡ length all
numbered_length n [] = refl
numbered_length n (bytes ∷ all) = ap suc (numbered_length (n + 1) all)

-- what lines without a fault say is what a line after them is checked with
before_next : (done : List (List ℕ)) → first_fault nothing_said done ≡ None → IsBefore (numbered 1 done) (said_by done)
before_next done h = record {
  lines = said_counts done ∙ sym (numbered_length 1 done);
  program = lines_said done h;
  current = lines_kept 1 nothing_said done;
}

-- ---- the least line

fault_next : (done : List (List ℕ)) (bytes : List ℕ) (all : List (List ℕ)) (x : Option Fault) → first_fault nothing_said done ≡ None → line_fault (said_by done) (content bytes) ≡ x → FaultAt (done ++ bytes ∷ all) (length done) x
fault_next done bytes all x h e = record {
  said = said_by done;
  before = subst (λ (ls : List (List ℕ)). IsBefore (numbered 1 ls) (said_by done)) (sym (take-append_seam done (bytes ∷ all))) (before_next done h);
  fault = ap (λ (b : List ℕ). line_fault (said_by done) (content b)) (get_or-append_seam done bytes all []) ∙ e;
}

one_fewer : (j n : ℕ) → j < n + 1 → (j < n) ⊎ (j ≡ n)
one_fewer j n h = grind arith

module _ (done : List (List ℕ)) (bytes : List ℕ) (all : List (List ℕ)) (h : first_fault nothing_said done ≡ None) (before : (j : ℕ) → j < length done → FaultAt (done ++ bytes ∷ all) j None) where
  least_next : (first_fault nothing_said (done ++ bytes ∷ []) ≡ None → ((j : ℕ) → j < length (done ++ bytes ∷ []) → FaultAt ((done ++ bytes ∷ []) ++ all) j None) → IsFirstFault ((done ++ bytes ∷ []) ++ all) (first_fault (said_by (done ++ bytes ∷ [])) all))
      → (x : Option Fault) → line_fault (said_by done) (content bytes) ≡ x → IsFirstFault (done ++ bytes ∷ all) (found_or ((said_by done).lines + 1) x (first_fault (say (said_by done) bytes) all))
  least_next later None e =
      let fine : first_fault nothing_said (done ++ bytes ∷ []) ≡ None = fault_there done bytes [] h ∙ ap (λ (y : Option Fault). found_or (length done + 1) y None) e in
      let whole : (done ++ bytes ∷ []) ++ all ≡ done ++ bytes ∷ all = append_assoc done (bytes ∷ []) all in
      let here = fault_next done bytes all None h e in
      let none = λ (j : ℕ) (l : j < length (done ++ bytes ∷ [])). subst (λ (ls : List (List ℕ)). FaultAt ls j None) (sym whole) (none_at j (omega (arith, l, length-append done (bytes ∷ []))) here) in
      subst (λ (ls : List (List ℕ)). IsFirstFault ls (first_fault (say (said_by done) bytes) all)) whole
      (subst (λ (s : Said). IsFirstFault ((done ++ bytes ∷ []) ++ all) (first_fault s all)) (said_more done bytes) (later fine none))
    where
      none_at : (j : ℕ) → j < length done + 1 → FaultAt (done ++ bytes ∷ all) (length done) None → FaultAt (done ++ bytes ∷ all) j None
      none_at j l here =
          elim (one_fewer j (length done) l) [
            | inl a ↦ before j a
            | inr same ↦ subst (λ (i : ℕ). FaultAt (done ++ bytes ∷ all) i None) (sym same) here
          ]
  least_next later (Some f) e = (
    length done,
    ap (λ (m : ℕ). m + 1) (said_counts done),
    record {
      there = omega (arith, length-append done (bytes ∷ all));
      fault = fault_next done bytes all (Some f) h e;
      before = before;
    },
  )

least_from : (done all : List (List ℕ)) → first_fault nothing_said done ≡ None → ((j : ℕ) → j < length done → FaultAt (done ++ all) j None) → IsFirstFault (done ++ all) (first_fault (said_by done) all)
least_from done [] h before = λ k l. before k (omega (arith, l, ap length (append-nil done)))
least_from done (bytes ∷ all) h before = least_next done bytes all h before (least_from (done ++ bytes ∷ []) all) (line_fault (said_by done) (content bytes)) refl

pub least_line_faults : LeastLineFaults
unfolding text_fault
least_line_faults text = least_from [] (lines text) refl (λ j l. absurd (omega (arith, l)))

-- ---- one fault

last_one : {A : Type 0} (xs ys : List A) (a b : A) → xs ++ a ∷ [] ≡ ys ++ b ∷ [] → (xs ≡ ys) × (a ≡ b)
last_one [] [] a b e = (refl, cc)
last_one [] (y ∷ ys) a b e = absurd (let l : length (a ∷ []) ≡ length (y ∷ (ys ++ b ∷ [])) = ap length e in omega (arith, l, length-append ys (b ∷ [])))
last_one (x ∷ xs) [] a b e = absurd (let l : length (x ∷ (xs ++ a ∷ [])) ≡ length (b ∷ []) = ap length e in omega (arith, l, length-append xs (a ∷ [])))
last_one (x ∷ xs) (y ∷ ys) a b e =
    let tail : xs ++ a ∷ [] ≡ ys ++ b ∷ [] = cc in
    let head : x ≡ y = cc in
    let rest = last_one xs ys a b tail in
    let same : x ∷ xs ≡ y ∷ ys = cc (head, rest.0) in
    (same, rest.1)

over_one : (xs ys : List FunctionValue) (c d : Option FunctionValue) → xs ++ option_to_list c ≡ ys ++ option_to_list d → is_some c ≡ is_some d → (xs ≡ ys) × (c ≡ d)
over_one xs ys None None e same = (sym (append-nil xs) ∙ e ∙ append-nil ys, refl)
over_one xs ys None (Some g) e same = absurd (true≢false (sym same))
over_one xs ys (Some f) None e same = absurd (true≢false same)
over_one xs ys (Some f) (Some g) e same = let l = last_one xs ys f g e in (l.0, ap (λ (x : FunctionValue). Some x) l.1)

same_said : (m n : ℕ) (a b : Option Word) (xs ys : List FunctionValue) (c d : Option FunctionValue) → m ≡ n → a ≡ b → xs ≡ ys → c ≡ d
    → ◌≡◌ {A = Said} (record { lines = m; init = a; over = xs; current = c }) (record { lines = n; init = b; over = ys; current = d })
same_said m n a b xs ys c d e f g h = rw (e, f, g, h) refl

before_one : (earlier : List TextLine) (s t : Said) → IsBefore earlier s → IsBefore earlier t → s ≡ t
before_one earlier s t h k =
    let program = says_one earlier (program_of s) (program_of t) h.program k.program in
    let two = over_one s.over t.over s.current t.current (ap (λ (p : ProgramValue). p.functions) program) (h.current ∙ sym k.current) in
    same_said s.lines t.lines s.init t.init s.over t.over s.current t.current (h.lines ∙ sym k.lines) (ap (λ (p : ProgramValue). p.init) program) two.0 two.1

pub one_fault : OneFault
one_fault all k x y h j =
    let same = before_one (numbered 1 (take k all)) h.said j.said h.before j.before in
    sym h.fault ∙ ap (λ (s : Said). line_fault s (content (get_or all k []))) same ∙ j.fault
