-- The checks look at the lines before alone.
use Rattle.std.proofs.Common.{◌≡◌, ℕ, ◌+◌, ◌||◌, Bool, true, false, nat_le, List, [], ◌∷◌, ◌++◌, Option, Some, None, is_some, option_to_list, if◌then◌else◌, map, length, filter, filter_map, refl, sym, ap, ◌∙◌, subst, ◌<◌, get_or, arith}
use Rattle.std.specs.List.{list_any, count_by, cons_option}
use Rattle.std.specs.Str.{bytes_eq}
use Rattle.std.proofs.lemmas.List.Sums.{sum_by-cons}
use Rattle.orc_program.specs.declared.program.Var.{Var}
use Rattle.orc_program.specs.declared.program.VarKind.{VarKind}
use Rattle.orc_program.specs.Checks.{is_set}
use Rattle.orc_program.specs.Kept.{most_of, most_functions}
use Rattle.orc_program.specs.Program.{FunctionValue, is_of, count_of, place_of}
use Rattle.orc_program.specs.Words.{Word}
use Rattle.orc_words.specs.Text.{word}
use Rattle.orc_words.proofs.Clean.{neither}
use Rattle.orc_text.specs.declared.directive.Directive.{Directive}
use Rattle.orc_text.specs.declared.directive.Directive.TheVariants as directive
use Rattle.orc_text.specs.Each.{OneForEach}
use Rattle.orc_text.specs.Faults.{has_n, has_m, has_backup, is_duplicate, is_full}
use Rattle.orc_text.specs.FirstFault.{IsBefore, last_segment, is_said_before, is_result_of, is_of_kind, are_many_before, ChecksLook}
use Rattle.orc_text.specs.Said.{Said, functions_of, vars_in, insns_in}
use Rattle.orc_text.specs.Segments.{TextLine, directive_in, after_init, after_n, after_m, after_backup, is_start, declares, segments, name_in, declared_names, insn_lines, Declares, Instructs, SaysFunction}
use Rattle.orc_text.proofs.Each.{count_kept}
use Rattle.orc_text.proofs.MoreLines.{names_declared}
use Rattle.orc_text.proofs.Named.{known_named}
use Rattle.orc_text.proofs.Setting.{set_same}

-- ---- one for each

last_each : (segs : List (List TextLine)) (fs : List FunctionValue) (f : FunctionValue) → OneForEach SaysFunction segs (fs ++ f ∷ []) → SaysFunction (last_segment segs) f
last_each [] [] f h = absurd h
last_each [] (g ∷ fs) f h = absurd h
last_each (s ∷ []) [] f h = h.0
last_each (s ∷ t ∷ segs) [] f h = absurd h.1
last_each (s ∷ []) (g ∷ []) f h = absurd h.1
last_each (s ∷ []) (g ∷ e ∷ fs) f h = absurd h.1
last_each (s ∷ t ∷ segs) (g ∷ fs) f h = last_each (t ∷ segs) fs f h.1

function_names : (segs : List (List TextLine)) (fs : List FunctionValue) → OneForEach SaysFunction segs fs → map (λ (f : FunctionValue). f.name) fs ≡ map name_in segs
function_names [] [] h = refl
function_names [] (f ∷ fs) h = absurd h
function_names (s ∷ segs) [] h = absurd h
function_names (s ∷ segs) (f ∷ fs) h = ap (λ (w : Word). w ∷ map (λ (g : FunctionValue). g.name) fs) h.0.name ∙ ap (λ (ws : List Word). name_in s ∷ ws) (function_names segs fs h.1)

kinds_counted : (k : VarKind) (ls : List TextLine) (vs : List Var) → OneForEach Declares ls vs → count_of k vs ≡ count_by (λ (line : TextLine). is_of_kind k (directive_in line.words)) ls
kinds_counted k [] [] h = refl
kinds_counted k [] (v ∷ vs) h = absurd h
kinds_counted k (l ∷ ls) [] h = absurd h
kinds_counted k (l ∷ ls) (v ∷ vs) h =
    let one : is_of k v ≡ is_of_kind k (directive_in l.words) = sym (ap (is_of_kind k) h.0.kind) in
    sum_by-cons (λ (w : Var). if is_of k w then 1 else 0) v vs
    ∙ ap (λ (b : Bool). (if b then 1 else 0) + count_of k vs) one
    ∙ ap (λ (n : ℕ). (if is_of_kind k (directive_in l.words) then 1 else 0) + n) (kinds_counted k ls vs h.1)
    ∙ sym (sum_by-cons (λ (line : TextLine). if is_of_kind k (directive_in line.words) then 1 else 0) l ls)

-- ---- at most one

some_there : {A : Type 0} → List A → Bool
some_there [] = false
some_there (x ∷ xs) = true

some_first : {A : Type 0} (x : Option A) → is_some x ≡ some_there (option_to_list x)
unfolding some_there
some_first None = refl
some_first (Some a) = refl

first_listed : {A : Type 0} (x : Option A) (xs : List A) → some_there (cons_option x xs) ≡ is_some x || some_there xs
unfolding some_there
first_listed None xs = refl
first_listed (Some a) xs = refl

all_listed : {A : Type 0} (h : TextLine → Option A) (ls : List TextLine) → some_there (filter_map h ls) ≡ list_any (λ l. is_some (h l)) ls
unfolding some_there
all_listed h [] = refl
all_listed h (l ∷ ls) = first_listed (h l) (filter_map h ls) ∙ ap (λ (b : Bool). is_some (h l) || b) (all_listed h ls)

some_listed : {A : Type 0} (h : TextLine → Option A) (ls : List TextLine) (x : Option A) → option_to_list x ≡ filter_map h ls → is_some x ≡ list_any (λ l. is_some (h l)) ls
some_listed h ls x e = some_first x ∙ ap some_there e ∙ all_listed h ls

-- ---- the current function

record CurrentLooks (segment : List TextLine) (c : Option FunctionValue) : Type 0 where
  n : has_n c ≡ list_any (λ line. is_some (after_n (directive_in line.words) line.words)) segment
  m : has_m c ≡ list_any (λ line. is_some (after_m (directive_in line.words) line.words)) segment
  backup : has_backup c ≡ list_any (λ line. is_some (after_backup (directive_in line.words) line.words)) segment
  named : (w : Word) → is_some (place_of w (vars_in c)) ≡ list_any (bytes_eq w) (declared_names segment)
  vars : OneForEach Declares (filter declares segment) (vars_in c)
  insns : OneForEach Instructs (insn_lines segment) (insns_in c)
  set : (p : ℕ) → p < length (declared_names segment) → is_set (insns_in c) p ≡ list_any (λ x. is_result_of (get_or (declared_names segment) p []) x.line.words) (insn_lines segment)

none_looks : CurrentLooks [] None
none_looks = record { n = refl; m = refl; backup = refl; named = λ w. refl; vars = tt; insns = tt; set = λ p l. absurd (omega (arith, l)) }

some_looks : (segment : List TextLine) (f : FunctionValue) → SaysFunction segment f → CurrentLooks segment (Some f)
some_looks segment f s = record {
  n = some_listed (λ line. after_n (directive_in line.words) line.words) segment f.notes.n s.n;
  m = some_listed (λ line. after_m (directive_in line.words) line.words) segment f.notes.m s.m;
  backup = some_listed (λ line. after_backup (directive_in line.words) line.words) segment f.notes.backup s.backup;
  named = λ w. sym (known_named w f.vars (declared_names segment) (names_declared (filter declares segment) f.vars s.vars));
  vars = s.vars;
  insns = s.insns;
  set = λ p l. set_same segment s.distinct p l f.insns s.insns;
}

no_segments : (ls : List TextLine) → list_any is_start ls ≡ false → segments ls ≡ []
no_segments [] h = refl
no_segments (l ∷ ls) h = let two = neither (is_start l) (list_any is_start ls) h in rw two.0 (no_segments ls two.1)

current_looks : (earlier : List TextLine) (over : List FunctionValue) (c : Option FunctionValue) → OneForEach SaysFunction (segments earlier) (over ++ option_to_list c) → is_some c ≡ list_any is_start earlier → CurrentLooks (last_segment (segments earlier)) c
current_looks earlier over None h e = subst (λ (segs : List (List TextLine)). CurrentLooks (last_segment segs) None) (sym (no_segments earlier (sym e))) none_looks
current_looks earlier over (Some f) h e = some_looks (last_segment (segments earlier)) f (last_each (segments earlier) over f h)

-- ---- the checks

module _ (earlier : List TextLine) (said : Said) (b : IsBefore earlier said) where
  looks : CurrentLooks (last_segment (segments earlier)) said.current
  looks = current_looks earlier said.over said.current b.program.functions b.current

  duplicate_looks : (d : Directive) (ws : List Word) → is_duplicate said d ws ≡ is_said_before earlier d ws
  duplicate_looks directive.Function ws = ap (list_any (bytes_eq (word ws 1))) (function_names (segments earlier) (functions_of said) b.program.functions)
  duplicate_looks directive.Init ws = some_listed (λ line. after_init (directive_in line.words) line.words) earlier said.init b.program.init
  duplicate_looks directive.Backup ws = looks.backup
  duplicate_looks directive.Flags ws = refl
  duplicate_looks directive.CountN ws = looks.n
  duplicate_looks directive.CountM ws = looks.m
  duplicate_looks (directive.Variable k) ws = looks.named (word ws 2)
  duplicate_looks directive.Float ws = refl

  many_look : (d : Directive) → is_full said d ≡ are_many_before earlier d
  many_look directive.Function = ap (nat_le most_functions) (count_kept SaysFunction (segments earlier) (functions_of said) b.program.functions)
  many_look directive.Init = refl
  many_look directive.Backup = refl
  many_look directive.Flags = refl
  many_look directive.CountN = refl
  many_look directive.CountM = refl
  many_look (directive.Variable k) = ap (nat_le (most_of k)) (kinds_counted k (filter declares (last_segment (segments earlier))) (vars_in said.current) looks.vars)
  many_look directive.Float = refl

pub checks_look : ChecksLook
checks_look earlier said b = record {
  current = b.current;
  duplicate = duplicate_looks earlier said b;
  many = many_look earlier said b;
  known = (looks earlier said b).named;
  vars = (looks earlier said b).vars;
  insns = (looks earlier said b).insns;
  set = (looks earlier said b).set;
}
