-- Values of a function's steps have the right numbers.
use Rattle.std.proofs.Common.{◌≡◌, ℕ, zero, suc, ◌+◌, ◌*◌, ◌⊎◌, inl, inr, Bool, true, false, not, ◌||◌, ◌&&◌, ◌==◌, nat_lt, List, [], ◌∷◌, ◌++◌, Option, Some, None, refl, sym, ap, ◌∙◌, arith, length, map, append-nil, length-append, if◌then◌else◌, true≢false}
use Rattle.std.specs.List.{list_any, list_all, range_with_len}
use Rattle.std.proofs.lemmas.Grind.{flat_map-append}
use Rattle.std.proofs.lemmas.Bool.{or_cases}
use Rattle.std.proofs.lemmas.Bool.Decides.{nat_tests}
use Rattle.std.proofs.lemmas.List.FromFn.{length-range_with_len}
use Rattle.std.proofs.lemmas.List.Folds.{list_any-append}
use Rattle.orc_ops.specs.declared.opcode.Op.{Op}
use Rattle.orc_ops.specs.Table.{row, size_of_source}
use Rattle.orc_program.specs.declared.program.Var.{Var}
use Rattle.orc_program.specs.declared.program.VarKind.{VarKind}
use Rattle.orc_program.specs.declared.program.VarKind.TheVariants as kind
use Rattle.orc_program.specs.declared.program.Operand.{Operand}
use Rattle.orc_program.specs.declared.program.Operand.TheVariants as operand
use Rattle.orc_program.specs.declared.program.Insn.{Insn}
use Rattle.orc_program.specs.declared.program.Pattern.{Pattern}
use Rattle.orc_program.specs.declared.fault.Fault.{Fault}
use Rattle.orc_program.specs.declared.fault.Fault.TheVariants as fault
use Rattle.orc_program.specs.Program.{FunctionValue, same_kind, is_of, var_at, is_place, temps_among, operand_kind}
use Rattle.orc_program.specs.Checks as checks
use Rattle.orc_program.specs.Checks.{check, or_else, is_set, is_unset, sources_fault, source_fault, insn_fault, patterns_of}
use Rattle.orc_program.specs.Kept.{is_function, all_pass, is_shaped, has_no_fault}
use Rattle.orc_program.specs.Need.{is_in, made_by}
use Rattle.orc_program.specs.Slots.{slot_of}
use Rattle.orc_program.proofs.Sizes.{both, kept_of}
use Rattle.orc_plan.specs.declared.steps.Step.{Step}
use Rattle.orc_plan.specs.declared.steps.Item.{Item}
use Rattle.orc_plan.specs.declared.steps.Item.TheVariants as item
use Rattle.orc_plan.specs.Core as core
use Rattle.orc_plan.specs.Core.{values_among, read_by, counts_from, is_numbered}
use Rattle.orc_plan.specs.Lowered.{temps_made, last_value, acc_item, result_item, result_items, var_item, source_items, step_of, steps_after, steps_of}
use Rattle.orc_plan.proofs.Last.{last_below}
use Rattle.orc_plan.proofs.Holding.{is_same, same_is}

-- ---- what a step makes and reads

pub results_made : (vars : List Var) (n : ℕ) (os : List Operand) → values_among (result_items vars n os) ≡ range_with_len n (length (temps_among vars os))
results_made vars n [] = refl
results_made vars n (operand.Number m ∷ os) = results_made vars n os
results_made vars n (operand.Var p ∷ os) = go (is_of kind.Temp (var_at vars p)) (results_made vars (n + 1) os) (results_made vars n os)
  where
    plain : (b : Bool) (items : List Item) → values_among ((if b then acc_item vars p else item.Array (slot_of vars p)) ∷ items) ≡ values_among items
    plain true items = refl
    plain false items = refl

    go : (b : Bool) → values_among (result_items vars (n + 1) os) ≡ range_with_len (n + 1) (length (temps_among vars os)) → values_among (result_items vars n os) ≡ range_with_len n (length (temps_among vars os))
        → values_among (if b then item.Value n ∷ result_items vars (n + 1) os else result_item vars (operand.Var p) ∷ result_items vars n os) ≡ range_with_len n (length (if b then p ∷ temps_among vars os else temps_among vars os))
    go true next same = ap (λ (vs : List ℕ). n ∷ vs) next
    go false next same = plain (is_of kind.Accumulator (var_at vars p)) (result_items vars n os) ∙ same

var_read : (vars : List Var) (known : List Pattern) (temps : List ℕ) (way p : ℕ) (k : VarKind) (items : List Item) (ts : List ℕ)
    → values_among items ≡ map (last_value temps) ts → values_among (var_item vars known temps way p k ∷ items) ≡ map (last_value temps) (if same_kind kind.Temp k then p ∷ ts else ts)
var_read vars known temps way p kind.Temp items ts h = ap (λ (vs : List ℕ). last_value temps p ∷ vs) h
var_read vars known temps way p kind.Source items ts h = h
var_read vars known temps way p kind.Dest items ts h = h
var_read vars known temps way p kind.Accumulator items ts h = h
var_read vars known temps way p kind.Param items ts h = h
var_read vars known temps way p kind.Const items ts h = h

pub sources_read : (vars : List Var) (known : List Pattern) (temps : List ℕ) (op : Op) (position : ℕ) (os : List Operand) → values_among (source_items vars known temps op position os) ≡ map (last_value temps) (temps_among vars os)
sources_read vars known temps op position [] = refl
sources_read vars known temps op position (operand.Number n ∷ os) = sources_read vars known temps op (position + 1) os
sources_read vars known temps op position (operand.Var p ∷ os) =
    var_read vars known temps (checks.way_of op position) p (var_at vars p).kind (source_items vars known temps op (position + 1) os) (temps_among vars os) (sources_read vars known temps op (position + 1) os)

counts_range : (n m : ℕ) → counts_from n (range_with_len n m) ≡ true
counts_range n zero = refl
counts_range n (suc m) = ap (λ b. b && counts_from (n + 1) (range_with_len (n + 1) m)) (is_same n n refl) ∙ counts_range (n + 1) m

-- ---- each temp that is read was made

or_left : (a b : Bool) → a ≡ true → (a || b) ≡ true
or_left true b h = refl
or_left false b h = absurd (true≢false (sym h))

placed_here : (vars : List Var) (p : ℕ) → is_of kind.Temp (var_at vars p) ≡ true → (os : List Operand) → list_any (is_place p) os ≡ true → is_in p (temps_among vars os) ≡ true
placed_here vars p temp [] h = h
placed_here vars p temp (operand.Number n ∷ os) h = placed_here vars p temp os h
placed_here vars p temp (operand.Var q ∷ os) h = go (is_of kind.Temp (var_at vars q)) refl (or_cases (p == q) (list_any (is_place p) os) h) (placed_here vars p temp os)
  where
    later : (a b : Bool) → b ≡ true → (a || b) ≡ true
    later true b h = refl
    later false b h = h

    go : (b : Bool) → is_of kind.Temp (var_at vars q) ≡ b → (p == q ≡ true) ⊎ (list_any (is_place p) os ≡ true) → (list_any (is_place p) os ≡ true → is_in p (temps_among vars os) ≡ true)
        → is_in p (if b then q ∷ temps_among vars os else temps_among vars os) ≡ true
    go true e (inl s) f = or_left (p == q) (is_in p (temps_among vars os)) s
    go true e (inr s) f = later (p == q) (is_in p (temps_among vars os)) (f s)
    go false e (inl s) f = absurd (true≢false (sym temp ∙ ap (λ n. is_of kind.Temp (var_at vars n)) (same_is p q s) ∙ e))
    go false e (inr s) f = f s

made_before : (vars : List Var) (p : ℕ) → is_of kind.Temp (var_at vars p) ≡ true → (earlier : List Insn) → is_set earlier p ≡ true → is_in p (temps_made vars earlier) ≡ true
made_before vars p temp [] h = h
made_before vars p temp (insn ∷ insns) h =
    list_any-append (λ q. p == q) (made_by vars insn) (temps_made vars insns) ∙ go (or_cases (list_any (is_place p) insn.results.items) (is_set insns p) h) (made_before vars p temp insns)
  where
    later : (a b : Bool) → b ≡ true → (a || b) ≡ true
    later true b h = refl
    later false b h = h

    go : (list_any (is_place p) insn.results.items ≡ true) ⊎ (is_set insns p ≡ true) → (is_set insns p ≡ true → is_in p (temps_made vars insns) ≡ true) → (is_in p (made_by vars insn) || is_in p (temps_made vars insns)) ≡ true
    go (inl s) f = or_left (is_in p (made_by vars insn)) (is_in p (temps_made vars insns)) (placed_here vars p temp insn.results.items s)
    go (inr s) f = later (is_in p (made_by vars insn)) (is_in p (temps_made vars insns)) (f s)

first_none : (x y : Option Fault) → has_no_fault (or_else x y) ≡ true → has_no_fault x ≡ true
first_none None y h = refl
first_none (Some f) y h = absurd (true≢false (sym h))

later_none : (x y : Option Fault) → has_no_fault (or_else x y) ≡ true → has_no_fault y ≡ true
later_none None y h = h
later_none (Some f) y h = absurd (true≢false (sym h))

unmet : (b : Bool) (f : Fault) → has_no_fault (check b f) ≡ true → b ≡ false
unmet true f h = absurd (true≢false (sym h))
unmet false f h = refl

not_unset : (vars : List Var) (earlier : List Insn) (op : Op) (prefix position : ℕ) (o : Operand) → has_no_fault (source_fault vars earlier op prefix position o) ≡ true → is_unset vars earlier o ≡ false
not_unset vars earlier op prefix position o h =
    let kinds = checks.source_kind_fault (row op).kind position (operand_kind vars o) in
    let size = check (checks.is_wrong_size vars (size_of_source op position * prefix) o) fault.SizeMismatch in
    let unset = check (is_unset vars earlier o) fault.Unset in
    unmet (is_unset vars earlier o) fault.Unset (later_none size unset (later_none kinds (or_else size unset) h))

pub reads_made : (vars : List Var) (earlier : List Insn) (op : Op) (prefix position : ℕ) (os : List Operand) → has_no_fault (sources_fault vars earlier op prefix position os) ≡ true
    → list_all (λ p. is_in p (temps_made vars earlier)) (temps_among vars os) ≡ true
reads_made vars earlier op prefix position [] h = refl
reads_made vars earlier op prefix position (operand.Number n ∷ os) h =
    reads_made vars earlier op prefix (position + 1) os (later_none (source_fault vars earlier op prefix position (operand.Number n)) (sources_fault vars earlier op prefix (position + 1) os) h)
reads_made vars earlier op prefix position (operand.Var p ∷ os) h =
    let one = source_fault vars earlier op prefix position (operand.Var p) in
    let rest = sources_fault vars earlier op prefix (position + 1) os in
    go (is_of kind.Temp (var_at vars p)) (is_set earlier p) refl refl (not_unset vars earlier op prefix position (operand.Var p) (first_none one rest h)) (reads_made vars earlier op prefix (position + 1) os (later_none one rest h))
  where
    go : (b s : Bool) → is_of kind.Temp (var_at vars p) ≡ b → is_set earlier p ≡ s → (b && not s) ≡ false → list_all (λ q. is_in q (temps_made vars earlier)) (temps_among vars os) ≡ true
        → list_all (λ q. is_in q (temps_made vars earlier)) (if b then p ∷ temps_among vars os else temps_among vars os) ≡ true
    go true true e i u f = ap (λ b. b && list_all (λ q. is_in q (temps_made vars earlier)) (temps_among vars os)) (made_before vars p e earlier i) ∙ f
    go true false e i u f = absurd (true≢false u)
    go false s e i u f = f

below_all : (temps ps : List ℕ) → list_all (λ p. is_in p temps) ps ≡ true → list_all (λ v. nat_lt v (length temps)) (map (last_value temps) ps) ≡ true
below_all temps [] h = refl
below_all temps (p ∷ ps) h =
    let x = both (is_in p temps) (list_all (λ q. is_in q temps) ps) h in
    let low = last_below temps p x.0 in
    let first : nat_lt (last_value temps p) (length temps) ≡ true = grind (arith, nat_tests, low) in
    ap (λ b. b && list_all (λ v. nat_lt v (length temps)) (map (last_value temps) ps)) first ∙ below_all temps ps x.1

pub sources_pass : (vars : List Var) (earlier : List Insn) (insn : Insn) → has_no_fault (insn_fault vars earlier insn) ≡ true → has_no_fault (sources_fault vars earlier insn.op insn.prefix 0 insn.sources.items) ≡ true
unfolding insn_fault
sources_pass vars earlier insn h =
    let last = or_else (check (checks.is_too_many vars earlier insn) fault.TooMany) None in
    let sources = sources_fault vars earlier insn.op insn.prefix 0 insn.sources.items in
    let results = checks.results_fault vars insn.op insn.prefix 0 insn.results.items in
    let prefix = check (checks.is_bad_prefix insn.op insn.prefix) fault.BadPrefix in
    first_none sources last (later_none results (or_else sources last) (later_none prefix (or_else results (or_else sources last)) h))

-- ---- all steps

all_true : (a b c : Bool) → a ≡ true → b ≡ true → c ≡ true → (a && (b && c)) ≡ true
all_true true true true x y z = refl
all_true true true false x y z = z
all_true true false c x y z = y
all_true false b c x y z = x

pub one_more : (vars : List Var) (earlier : List Insn) (insn : Insn) → temps_made vars (earlier ++ insn ∷ []) ≡ temps_made vars earlier ++ made_by vars insn
one_more vars earlier insn = flat_map-append (made_by vars) earlier (insn ∷ []) ∙ ap (λ (ts : List ℕ). temps_made vars earlier ++ ts) (append-nil (made_by vars insn))

pub numbered_after : (vars : List Var) (known : List Pattern) (earlier insns : List Insn) → all_pass vars earlier insns ≡ true → is_numbered (length (temps_made vars earlier)) (steps_after vars known (temps_made vars earlier) insns) ≡ true
numbered_after vars known earlier [] h = refl
numbered_after vars known earlier (insn ∷ insns) h =
    let a = both (is_shaped vars insn) (has_no_fault (insn_fault vars earlier insn) && all_pass vars (earlier ++ insn ∷ []) insns) h in
    let b = both (has_no_fault (insn_fault vars earlier insn)) (all_pass vars (earlier ++ insn ∷ []) insns) a.1 in
    let temps = temps_made vars earlier in
    let n = length temps in
    let step = step_of vars known temps insn in
    let rest = steps_after vars known (temps ++ made_by vars insn) insns in
    let made = results_made vars n insn.results.items in
    let reads : list_all (λ v. nat_lt v n) (read_by step) ≡ true =
    ap (list_all (λ v. nat_lt v n)) (sources_read vars known temps insn.op 0 insn.sources.items)
    ∙ below_all temps (temps_among vars insn.sources.items) (reads_made vars earlier insn.op insn.prefix 0 insn.sources.items (sources_pass vars earlier insn b.0)) in
    let counts : counts_from n (core.made_by step) ≡ true = ap (counts_from n) made ∙ counts_range n (length (made_by vars insn)) in
    let long : n + length (core.made_by step) ≡ length (temps ++ made_by vars insn) =
    omega (arith, ap length made, length-range_with_len n (length (made_by vars insn)), length-append temps (made_by vars insn)) in
    let later : is_numbered (n + length (core.made_by step)) rest ≡ true =
    ap (λ k. is_numbered k rest) long
    ∙ ap (λ (ts : List ℕ). is_numbered (length ts) (steps_after vars known ts insns)) (sym (one_more vars earlier insn))
    ∙ numbered_after vars known (earlier ++ insn ∷ []) insns b.1 in
    all_true (list_all (λ v. nat_lt v n) (read_by step)) (counts_from n (core.made_by step)) (is_numbered (n + length (core.made_by step)) rest) reads counts later

-- the steps of a function are numbered
pub numbered_of : (f : FunctionValue) → is_function f ≡ true → is_numbered 0 (steps_of f) ≡ true
unfolding steps_of
numbered_of f h = numbered_after f.vars (patterns_of f.vars f.insns) [] f.insns (kept_of f h).insns

-- ---- the steps of a function, as the code has them

pub lowered : (f : FunctionValue) (vars : List Var) (known : List Pattern) (insns : List Insn) (temps : List ℕ) (old new : List Step) → vars ≡ f.vars → known ≡ patterns_of f.vars f.insns → insns ≡ f.insns → temps ≡ [] → old ≡ []
    → new ≡ old ++ steps_after vars known temps insns → new ≡ steps_of f
unfolding steps_of
lowered f vars known insns temps old new v k i t o n =
    n ∙ ap (λ (ss : List Step). ss ++ steps_after vars known temps insns) o
    ∙ ap (λ (vs : List Var). steps_after vs known temps insns) v
    ∙ ap (λ (ps : List Pattern). steps_after f.vars ps temps insns) k
    ∙ ap (λ (ts : List ℕ). steps_after f.vars (patterns_of f.vars f.insns) ts insns) t
    ∙ ap (λ (is : List Insn). steps_after f.vars (patterns_of f.vars f.insns) [] is) i
