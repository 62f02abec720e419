-- What functions and programs keep as they are built.
use Rattle.std.proofs.Common.{◌≡◌, ◌&&◌, ◌||◌, Bool, true, false, List, [], ◌∷◌, ◌++◌, Option, Some, None, refl, sym, ap, ◌∙◌, subst, append-nil, append_assoc, ℕ, map, Result, Ok, Err, OnOk, OnErr, ◌<◌, ◌≤◌, nat_le, nat_eq, length, arith, length-append}
use Rattle.std.specs.List.{list_all, list_any}
use Rattle.std.specs.Str.{bytes_eq}
use Rattle.std.proofs.lemmas.Bool.Decides.{nat_tests}
use Rattle.std.proofs.lemmas.List.{map-append}
use Rattle.std.proofs.lemmas.List.Folds.{list_all-append}
use Rattle.orc_program.specs.declared.program.Notes.{Notes}
use Rattle.orc_program.specs.declared.program.Var.{Var}
use Rattle.orc_program.specs.declared.program.Insn.{Insn}
use Rattle.orc_program.specs.Program.{FunctionValue, ProgramValue, count_of, place_of}
use Rattle.orc_program.specs.Checks.{insn_fault}
use Rattle.orc_program.specs.Kept.{all_pass, is_shaped, has_no_fault, is_function, is_program, is_var, is_note, is_count_note, is_name_or_none, all_distinct, keeps_limits, most_of, most_functions}
use Rattle.orc_program.specs.Words.{Word, is_name}
use Rattle.orc_program.proofs.Sizes.{both, KeptFunction, kept_of}
use Rattle.orc_program.proofs.Declared.{both_hold, all_pass_same, names_more, limits_more, distinct_more}

-- ---- functions

-- what `kept_of` gives is all that a function keeps
pub kept_from : (f : FunctionValue) → KeptFunction f → is_function f ≡ true
unfolding is_function
kept_from f k =
    let vars = list_all is_var f.vars in
    let insns = all_pass f.vars [] f.insns in
    let n = is_note f.notes.n in
    let m = is_note f.notes.m in
    let name = is_name f.name in
    let backup = is_name_or_none f.notes.backup in
    both_hold (all_distinct (map (λ (v : Var). v.name) f.vars)) (keeps_limits f.vars && (vars && (insns && (n && (m && (name && backup)))))) k.names
    (both_hold (keeps_limits f.vars) (vars && (insns && (n && (m && (name && backup))))) k.limits
    (both_hold vars (insns && (n && (m && (name && backup)))) k.vars
    (both_hold insns (n && (m && (name && backup))) k.insns
    (both_hold n (m && (name && backup)) k.n
    (both_hold m (name && backup) k.m
    (both_hold name backup k.name k.backup))))))

pub all_pass_more : (vars : List Var) (earlier insns : List Insn) (insn : Insn) → all_pass vars earlier insns ≡ true → is_shaped vars insn ≡ true → insn_fault vars (earlier ++ insns) insn ≡ None → all_pass vars earlier (insns ++ insn ∷ []) ≡ true
all_pass_more vars earlier [] insn h shaped passes =
    let e : insn_fault vars earlier insn ≡ None = ap (λ (xs : List Insn). insn_fault vars xs insn) (sym (append-nil earlier)) ∙ passes in
    both_hold (is_shaped vars insn) (has_no_fault (insn_fault vars earlier insn) && true) shaped (both_hold (has_no_fault (insn_fault vars earlier insn)) true (ap has_no_fault e) refl)
all_pass_more vars earlier (x ∷ xs) insn h shaped passes =
    let a = both (is_shaped vars x) (has_no_fault (insn_fault vars earlier x) && all_pass vars (earlier ++ x ∷ []) xs) h in
    let b = both (has_no_fault (insn_fault vars earlier x)) (all_pass vars (earlier ++ x ∷ []) xs) a.1 in
    let e : insn_fault vars ((earlier ++ x ∷ []) ++ xs) insn ≡ None = ap (λ (ys : List Insn). insn_fault vars ys insn) (append_assoc earlier (x ∷ []) xs) ∙ passes in
    both_hold (is_shaped vars x) (has_no_fault (insn_fault vars earlier x) && all_pass vars (earlier ++ x ∷ []) (xs ++ insn ∷ [])) a.0
    (both_hold (has_no_fault (insn_fault vars earlier x)) (all_pass vars (earlier ++ x ∷ []) (xs ++ insn ∷ [])) b.0 (all_pass_more vars (earlier ++ x ∷ []) xs insn b.1 shaped e))

-- a function with one more instruction
pub insn_added : (f : FunctionValue) (insn : Insn) → is_function f ≡ true → is_shaped f.vars insn ≡ true → insn_fault f.vars f.insns insn ≡ None → is_function (record f { insns = f.insns ++ insn ∷ [] }) ≡ true
insn_added f insn h shaped passes =
    let k = kept_of f h in
    kept_from (record f { insns = f.insns ++ insn ∷ [] }) (record { names = k.names; limits = k.limits; vars = k.vars; insns = all_pass_more f.vars [] f.insns insn k.insns shaped passes; n = k.n; m = k.m; name = k.name; backup = k.backup })

-- a function with one more variable
pub var_added : (f : FunctionValue) (v : Var) → is_function f ≡ true → is_var v ≡ true → place_of v.name f.vars ≡ None → count_of v.kind f.vars < most_of v.kind → is_function (record f { vars = f.vars ++ v ∷ [] }) ≡ true
var_added f v h fine new room =
    let k = kept_of f h in
    kept_from (record f { vars = f.vars ++ v ∷ [] }) (record {
      names = names_more f.vars v k.names new;
      limits = limits_more f.vars v room k.limits;
      vars = list_all-append is_var f.vars (v ∷ []) ∙ both_hold (list_all is_var f.vars) (list_all is_var (v ∷ [])) k.vars (both_hold (is_var v) true fine refl);
      insns = all_pass_same f.vars (v ∷ []) [] f.insns refl k.insns;
      n = k.n;
      m = k.m;
      name = k.name;
      backup = k.backup;
    })

abbrev whole : List ℕ → Bool → List Var → List Insn → Notes → FunctionValue
whole name two_d vars insns notes = record { name = name; two_d = two_d; vars = vars; insns = insns; notes = notes }

-- a function with other notes
pub noted : (name : List ℕ) (two_d : Bool) (vars : List Var) (insns : List Insn) (old notes : Notes) → is_function (whole name two_d vars insns old) ≡ true → is_note notes.n ≡ true → is_note notes.m ≡ true → is_name_or_none notes.backup ≡ true → is_function (whole name two_d vars insns notes) ≡ true
noted name two_d vars insns old notes h n m backup =
    let k = kept_of (whole name two_d vars insns old) h in
    kept_from (whole name two_d vars insns notes) (record { names = k.names; limits = k.limits; vars = k.vars; insns = k.insns; n = n; m = m; name = k.name; backup = backup })

pub n_noted : (name : List ℕ) (two_d : Bool) (vars : List Var) (insns : List Insn) (old : Notes) (words : List Word) → is_function (whole name two_d vars insns old) ≡ true → is_count_note words ≡ true → is_function (whole name two_d vars insns (record old { n = Some words })) ≡ true
n_noted name two_d vars insns old words h fine =
    let k = kept_of (whole name two_d vars insns old) h in
    noted name two_d vars insns old (record old { n = Some words }) h fine k.m k.backup

pub m_noted : (name : List ℕ) (two_d : Bool) (vars : List Var) (insns : List Insn) (old : Notes) (words : List Word) → is_function (whole name two_d vars insns old) ≡ true → is_count_note words ≡ true → is_function (whole name two_d vars insns (record old { m = Some words })) ≡ true
m_noted name two_d vars insns old words h fine =
    let k = kept_of (whole name two_d vars insns old) h in
    noted name two_d vars insns old (record old { m = Some words }) h k.n fine k.backup

pub backup_noted : (name : List ℕ) (two_d : Bool) (vars : List Var) (insns : List Insn) (old : Notes) (backup : Word) → is_function (whole name two_d vars insns old) ≡ true → is_name backup ≡ true → is_function (whole name two_d vars insns (record old { backup = Some backup })) ≡ true
backup_noted name two_d vars insns old backup h fine =
    let k = kept_of (whole name two_d vars insns old) h in
    noted name two_d vars insns old (record old { backup = Some backup }) h k.n k.m fine

-- ---- a push, with its answer

pub insn_pushed : (name : List ℕ) (two_d : Bool) (vars : List Var) (insns after : List Insn) (notes : Notes) (insn : Insn) {E : Type 0} (r : Result Unit E) → is_function (whole name two_d vars insns notes) ≡ true → is_shaped vars insn ≡ true → insn_fault vars insns insn ≡ None
    → OnOk r (after ≡ insns ++ insn ∷ []) → OnErr r (after ≡ insns)
    → is_function (whole name two_d vars after notes) ≡ true
insn_pushed name two_d vars insns after notes insn (Ok x) h shaped passes ok err = ap (λ (xs : List Insn). is_function (whole name two_d vars xs notes)) ok ∙ insn_added (whole name two_d vars insns notes) insn h shaped passes
insn_pushed name two_d vars insns after notes insn (Err e) h shaped passes ok err = ap (λ (xs : List Insn). is_function (whole name two_d vars xs notes)) err ∙ h

pub var_pushed : (name : List ℕ) (two_d : Bool) (vars after : List Var) (insns : List Insn) (notes : Notes) (v : Var) {E : Type 0} (r : Result Unit E) → is_function (whole name two_d vars insns notes) ≡ true → is_var v ≡ true → place_of v.name vars ≡ None → count_of v.kind vars < most_of v.kind
    → OnOk r (after ≡ vars ++ v ∷ []) → OnErr r (after ≡ vars)
    → is_function (whole name two_d after insns notes) ≡ true
var_pushed name two_d vars after insns notes v (Ok x) h fine new room ok err = ap (λ (xs : List Var). is_function (whole name two_d xs insns notes)) ok ∙ var_added (whole name two_d vars insns notes) v h fine new room
var_pushed name two_d vars after insns notes v (Err e) h fine new room ok err = ap (λ (xs : List Var). is_function (whole name two_d xs insns notes)) err ∙ h

-- ---- programs

bytes_eq-swap : (a b : Word) → bytes_eq a b ≡ bytes_eq b a
bytes_eq-swap [] [] = refl
bytes_eq-swap [] (y ∷ ys) = refl
bytes_eq-swap (x ∷ xs) [] = refl
bytes_eq-swap (x ∷ xs) (y ∷ ys) = ap (λ b. b && bytes_eq xs ys) (same x y) ∙ ap (λ b. nat_eq y x && b) (bytes_eq-swap xs ys)
  where
    same : (m n : ℕ) → nat_eq m n ≡ nat_eq n m
    same m n = grind (arith, nat_tests)

any_swapped : (w : Word) (ws : List Word) → list_any (λ x. bytes_eq x w) ws ≡ list_any (bytes_eq w) ws
any_swapped w [] = refl
any_swapped w (x ∷ ws) = ap (λ b. b || list_any (λ y. bytes_eq y w) ws) (bytes_eq-swap x w) ∙ ap (λ b. bytes_eq w x || b) (any_swapped w ws)

-- what a program keeps, one by one
pub record KeptProgram (p : ProgramValue) : Type 0 where
  pub names : all_distinct (map (λ f. f.name) p.functions) ≡ true
  pub few : nat_le (length p.functions) most_functions ≡ true
  pub all : list_all is_function p.functions ≡ true
  pub init : is_name_or_none p.init ≡ true

pub kept_program : (p : ProgramValue) → is_program p ≡ true → KeptProgram p
unfolding is_program
kept_program p h =
    let few = nat_le (length p.functions) most_functions in
    let all = list_all is_function p.functions in
    let a = both (all_distinct (map (λ (f : FunctionValue). f.name) p.functions)) (few && (all && is_name_or_none p.init)) h in
    let b = both few (all && is_name_or_none p.init) a.1 in
    let c = both all (is_name_or_none p.init) b.1 in
    record { names = a.0; few = b.0; all = c.0; init = c.1 }

pub program_from : (p : ProgramValue) → KeptProgram p → is_program p ≡ true
unfolding is_program
program_from p k =
    let few = nat_le (length p.functions) most_functions in
    let all = list_all is_function p.functions in
    both_hold (all_distinct (map (λ (f : FunctionValue). f.name) p.functions)) (few && (all && is_name_or_none p.init)) k.names
    (both_hold few (all && is_name_or_none p.init) k.few
    (both_hold all (is_name_or_none p.init) k.all k.init))

abbrev names : List FunctionValue → List Word
names fs = map (λ (f : FunctionValue). f.name) fs

-- a program with one more function
pub function_added : (init : Option Word) (fs : List FunctionValue) (f : FunctionValue) → is_program (record { init = init; functions = fs }) ≡ true → is_function f ≡ true → list_any (bytes_eq f.name) (names fs) ≡ false → length fs < most_functions → is_program (record { init = init; functions = fs ++ f ∷ [] }) ≡ true
function_added init fs f h fine new room =
    let k = kept_program (record { init = init; functions = fs }) h in
    let l : length (fs ++ f ∷ []) ≤ most_functions = omega (arith, length-append fs (f ∷ [])) in
    program_from (record { init = init; functions = fs ++ f ∷ [] }) (record {
      names = subst (λ (ws : List Word). all_distinct ws ≡ true) (sym (map-append (λ (g : FunctionValue). g.name) fs (f ∷ []))) (distinct_more (names fs) f.name k.names (any_swapped f.name (names fs) ∙ new));
      few = grind (arith, nat_tests, l);
      all = list_all-append is_function fs (f ∷ []) ∙ both_hold (list_all is_function fs) (list_all is_function (f ∷ [])) k.all (both_hold (is_function f) true fine refl);
      init = k.init;
    })

pub function_pushed : (init : Option Word) (fs after : List FunctionValue) (f : FunctionValue) {E : Type 0} (r : Result Unit E) → is_program (record { init = init; functions = fs }) ≡ true → is_function f ≡ true → list_any (bytes_eq f.name) (names fs) ≡ false → length fs < most_functions
    → OnOk r (after ≡ fs ++ f ∷ []) → OnErr r (after ≡ fs)
    → is_program (record { init = init; functions = after }) ≡ true
function_pushed init fs after f (Ok x) h fine new room ok err = ap (λ (xs : List FunctionValue). is_program (record { init = init; functions = xs })) ok ∙ function_added init fs f h fine new room
function_pushed init fs after f (Err e) h fine new room ok err = ap (λ (xs : List FunctionValue). is_program (record { init = init; functions = xs })) err ∙ h

-- a program with a name after `.init`
pub init_set : (old : Option Word) (fs : List FunctionValue) (name : Word) → is_program (record { init = old; functions = fs }) ≡ true → is_name name ≡ true → is_program (record { init = Some name; functions = fs }) ≡ true
init_set old fs name h fine =
    let k = kept_program (record { init = old; functions = fs }) h in
    program_from (record { init = Some name; functions = fs }) (record { names = k.names; few = k.few; all = k.all; init = fine })
