-- Patterns are added and never taken away, so those of a kept function are few.
use Rattle.std.proofs.Common.{◌≡◌, ℕ, ◌≤◌, ◌<◌, Bool, true, false, ◌||◌, ◌&&◌, List, [], ◌∷◌, ◌++◌, Option, Some, None, Result, Ok, Err, is_err, length, refl, sym, ap, ◌∙◌, subst, arith, length-append, append-nil, append_assoc, fold, if◌then◌else◌, nat_lt, nat_le, true≢false}
use Rattle.std.specs.List.{list_any}
use Rattle.std.proofs.lemmas.Bool.Decides.{nat_tests}
use Rattle.std.proofs.lemmas.List.Sums.{fold-append}
use Rattle.orc_program.specs.declared.program.Var.{Var}
use Rattle.orc_program.specs.declared.program.Pattern.{Pattern}
use Rattle.orc_program.specs.declared.program.Insn.{Insn}
use Rattle.orc_program.specs.declared.fault.Fault.{Fault}
use Rattle.orc_program.specs.declared.fault.Fault.TheVariants as fault
use Rattle.orc_program.specs.Program.{FunctionValue}
use Rattle.orc_program.specs.Checks.{check, or_else, add_pattern, add_patterns, same_pattern, uses_from, patterns_of, most_patterns, AddsUnlessMany, most_insns, insn_fault, is_too_many, is_bad_prefix, results_fault, sources_fault}
use Rattle.orc_program.specs.Kept.{all_pass, is_shaped, has_no_fault, is_function}
use Rattle.orc_program.proofs.Sizes.{both, kept_of}

-- ---- growth

pub add_pattern_grows : (known : List Pattern) (p : Pattern) → length known ≤ length (add_pattern known p)
add_pattern_grows known p = go (list_any (same_pattern p) known)
  where
    go : (b : Bool) → length known ≤ length (if b then known else known ++ p ∷ [])
    go true = omega arith
    go false = omega (arith, length-append known (p ∷ []))

pub uses_grow : (known uses : List Pattern) → length known ≤ length (fold add_pattern known uses)
uses_grow known [] = omega arith
uses_grow known (p ∷ uses) = omega (arith, add_pattern_grows known p, uses_grow (add_pattern known p) uses)

pub insns_grow : (vars : List Var) (known : List Pattern) (insns : List Insn) → length known ≤ length (fold (add_patterns vars) known insns)
insns_grow vars known [] = omega arith
insns_grow vars known (insn ∷ insns) = omega (arith, uses_grow known (uses_from vars insn.op 0 insn.sources.items), insns_grow vars (add_patterns vars known insn) insns)

-- the patterns with one more instruction
pub patterns_more : (vars : List Var) (earlier : List Insn) (insn : Insn) → patterns_of vars (earlier ++ insn ∷ []) ≡ add_patterns vars (patterns_of vars earlier) insn
unfolding patterns_of
patterns_more vars earlier insn = fold-append (add_patterns vars) [] earlier (insn ∷ [])

-- ---- an instruction without a fault passes no limit

later_none : (x y : Option Fault) → has_no_fault (or_else x y) ≡ true → has_no_fault y ≡ true
later_none None y h = h
later_none (Some f) y h = absurd (true≢false (sym h))

unmet : (b : Bool) (f : Fault) → has_no_fault (or_else (check b f) None) ≡ true → b ≡ false
unmet true f h = absurd (true≢false (sym h))
unmet false f h = refl

pub room_kept : (vars : List Var) (earlier : List Insn) (insn : Insn) → has_no_fault (insn_fault vars earlier insn) ≡ true → is_too_many vars earlier insn ≡ false
unfolding insn_fault
room_kept vars earlier insn h =
    let last = or_else (check (is_too_many vars earlier insn) fault.TooMany) None in
    let sources = sources_fault vars earlier insn.op insn.prefix 0 insn.sources.items in
    let results = results_fault vars insn.op insn.prefix 0 insn.results.items in
    let prefix = check (is_bad_prefix insn.op insn.prefix) fault.BadPrefix in
    unmet (is_too_many vars earlier insn) fault.TooMany (later_none sources last (later_none results (or_else sources last) (later_none prefix (or_else results (or_else sources last)) h)))

-- and has no bad prefix
pub prefix_kept : (vars : List Var) (earlier : List Insn) (insn : Insn) → has_no_fault (insn_fault vars earlier insn) ≡ true → is_bad_prefix insn.op insn.prefix ≡ false
unfolding insn_fault
prefix_kept vars earlier insn h = go (is_bad_prefix insn.op insn.prefix) h
  where
    go : (b : Bool) → has_no_fault (or_else (check b fault.BadPrefix) (or_else (results_fault vars insn.op insn.prefix 0 insn.results.items) (or_else (sources_fault vars earlier insn.op insn.prefix 0 insn.sources.items) (or_else (check (is_too_many vars earlier insn) fault.TooMany) None)))) ≡ true → b ≡ false
    go true h = absurd (true≢false (sym h))
    go false h = refl

or_false : (a b : Bool) → a || b ≡ false → (a ≡ false) × (b ≡ false)
or_false true b h = absurd (true≢false h)
or_false false b h = (refl, h)

few : (m n : ℕ) → nat_lt m n ≡ false → n ≤ m
few m n h = grind (arith, nat_tests, h)

less : (m n : ℕ) → nat_le m n ≡ false → n < m
less m n h = grind (arith, nat_tests, h)

-- ---- a function whose instructions all pass has few of them, and few patterns

pub insns_few_after : (vars : List Var) (earlier insns : List Insn) → all_pass vars earlier insns ≡ true → length earlier ≤ most_insns → length (earlier ++ insns) ≤ most_insns
insns_few_after vars earlier [] h l = subst (λ (ys : List Insn). length ys ≤ most_insns) (sym (append-nil earlier)) l
insns_few_after vars earlier (x ∷ xs) h l =
    let a = both (is_shaped vars x) (has_no_fault (insn_fault vars earlier x) && all_pass vars (earlier ++ x ∷ []) xs) h in
    let b = both (has_no_fault (insn_fault vars earlier x)) (all_pass vars (earlier ++ x ∷ []) xs) a.1 in
    let c = or_false (nat_le most_insns (length earlier)) (nat_lt most_patterns (length (patterns_of vars (earlier ++ x ∷ [])))) (room_kept vars earlier x b.0) in
    let d = less most_insns (length earlier) c.0 in
    let room : length (earlier ++ x ∷ []) ≤ most_insns = omega (arith, length-append earlier (x ∷ []), d) in
    subst (λ (ys : List Insn). length ys ≤ most_insns) (append_assoc earlier (x ∷ []) xs) (insns_few_after vars (earlier ++ x ∷ []) xs b.1 room)

pub patterns_few_after : (vars : List Var) (earlier insns : List Insn) → all_pass vars earlier insns ≡ true → length (patterns_of vars earlier) ≤ most_patterns → length (patterns_of vars (earlier ++ insns)) ≤ most_patterns
patterns_few_after vars earlier [] h l = subst (λ (ys : List Insn). length (patterns_of vars ys) ≤ most_patterns) (sym (append-nil earlier)) l
patterns_few_after vars earlier (x ∷ xs) h l =
    let a = both (is_shaped vars x) (has_no_fault (insn_fault vars earlier x) && all_pass vars (earlier ++ x ∷ []) xs) h in
    let b = both (has_no_fault (insn_fault vars earlier x)) (all_pass vars (earlier ++ x ∷ []) xs) a.1 in
    let c = or_false (nat_le most_insns (length earlier)) (nat_lt most_patterns (length (patterns_of vars (earlier ++ x ∷ [])))) (room_kept vars earlier x b.0) in
    subst (λ (ys : List Insn). length (patterns_of vars ys) ≤ most_patterns) (append_assoc earlier (x ∷ []) xs)
    (patterns_few_after vars (earlier ++ x ∷ []) xs b.1 (few most_patterns (length (patterns_of vars (earlier ++ x ∷ []))) c.1))

-- a function has at most 100 instructions
pub insns_few : (f : FunctionValue) → is_function f ≡ true → length f.insns ≤ most_insns
insns_few f h = insns_few_after f.vars [] f.insns (kept_of f h).insns (omega arith)

-- a function has at most 48 patterns
pub patterns_few : (f : FunctionValue) → is_function f ≡ true → length (patterns_of f.vars f.insns) ≤ most_patterns
unfolding patterns_of
patterns_few f h = patterns_few_after f.vars [] f.insns (kept_of f h).insns (omega arith)

-- whether one more instruction is too many, from what adding its patterns said
pub too_many_more : (vars : List Var) (earlier : List Insn) (insn : Insn) (known after : List Pattern) (r : Result Unit Fault) (b : Bool)
    → length earlier < most_insns → known ≡ patterns_of vars earlier
    → AddsUnlessMany r after (add_patterns vars known insn)
    → length after ≤ most_patterns → b ≡ is_err r → b ≡ is_too_many vars earlier insn
too_many_more vars earlier insn known after r b room e found few is =
    let same : patterns_of vars (earlier ++ insn ∷ []) ≡ add_patterns vars known insn = patterns_more vars earlier insn ∙ ap (λ (ps : List Pattern). add_patterns vars ps insn) (sym e) in
    let first : nat_le most_insns (length earlier) ≡ false = grind (arith, nat_tests, room) in
    is ∙ go r found ∙ sym (ap (λ c. c || nat_lt most_patterns (length (patterns_of vars (earlier ++ insn ∷ [])))) first ∙ ap (λ (ps : List Pattern). nat_lt most_patterns (length ps)) same)
  where
    go : (r : Result Unit Fault) → AddsUnlessMany r after (add_patterns vars known insn) → is_err r ≡ nat_lt most_patterns (length (add_patterns vars known insn))
    go (Ok x) h = let l : length (add_patterns vars known insn) ≤ most_patterns = subst (λ (ps : List Pattern). length ps ≤ most_patterns) h few in grind (arith, nat_tests, l)
    go (Err x) h = let l = h.1 in grind (arith, nat_tests, l)
