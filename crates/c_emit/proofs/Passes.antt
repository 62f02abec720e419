-- What a function's checks say of an instruction after those before it.
use Rattle.std.proofs.Common.{◌≡◌, ℕ, zero, suc, ◌+◌, ◌*◌, ◌<◌, ◌≤◌, ◌^◌, ◌&&◌, ◌||◌, ◌==◌, ◌⊎◌, inl, inr, not, nat_lt, Bool, true, false, if◌then◌else◌, List, [], ◌∷◌, length, Option, Some, None, refl, sym, ap, ◌∙◌, subst, arith, true≢false}
use Rattle.std.specs.List.{list_all, list_any}
use Rattle.std.proofs.lemmas.Bool.Decides.{nat_tests}
use Rattle.std.proofs.lemmas.Bool.{or_parts}
use Rattle.std.proofs.Math.Nat.{mul-le-mul_left}
use Rattle.orc_ops.specs.declared.opcode.Op.{Op}
use Rattle.orc_ops.specs.declared.opcode.Op.TheVariants as op
use Rattle.orc_ops.specs.declared.opcode.Kind.{Kind}
use Rattle.orc_ops.specs.declared.opcode.Kind.TheVariants as ops
use Rattle.orc_ops.specs.Table.{row, size_of_result, size_of_source}
use Rattle.orc_program.specs.declared.program.Var.{Var}
use Rattle.orc_program.specs.declared.program.VarKind.{VarKind}
use Rattle.orc_program.specs.declared.program.VarKind.TheVariants as kind
use Rattle.orc_program.specs.declared.program.Operand.{Operand}
use Rattle.orc_program.specs.declared.program.Operand.TheVariants as operand
use Rattle.orc_program.specs.declared.program.Insn.{Insn}
use Rattle.orc_program.specs.declared.fault.Fault.{Fault}
use Rattle.orc_program.specs.declared.fault.Fault.TheVariants as fault
use Rattle.orc_program.specs.Program.{var_at, same_kind, operand_kind, is_far}
use Rattle.orc_program.specs.Kept.{is_shaped, is_in_range, has_no_fault, result_count, source_count}
use Rattle.orc_program.specs.Checks.{insn_fault, check, or_else, first_of, is_bad_prefix, takes_no_prefix, is_shift_kind, is_count, is_set, is_unset, is_wrong_size, operand_sizes, is_scalar, source_kind_fault, source_fault, sources_fault, result_kind_fault, result_fault, results_fault, is_too_many}
use Rattle.orc_program.proofs.Sizes.{both}
use Rattle.orc_emul.proofs.Functions as emulated
use Rattle.c_emit.proofs.Opcodes.{has_lanes}

-- ---- faults that aren't there

none_left : (a b : Option Fault) → has_no_fault (or_else a b) ≡ true → (has_no_fault a ≡ true) × (has_no_fault b ≡ true)
none_left None b h = (refl, h)
none_left (Some f) b h = absurd (true≢false (sym h))

unchecked : (c : Bool) (f : Fault) → has_no_fault (check c f) ≡ true → c ≡ false
unchecked true f h = absurd (true≢false (sym h))
unchecked false f h = refl

-- ---- sizes under a prefix

sub_lanes : (s k q : ℕ) → (k ≡ 1) ⊎ (s * k ≤ 8) → q < k → 8 * s * q < 64
sub_lanes s k q (inl e) l = let z : q ≡ 0 = omega (arith, e, l) in subst (λ q. 8 * s * q < 64) (sym z) (let t : 8 * s * 0 ≡ 0 = omega arith in omega (arith, t))
sub_lanes s k q (inr h) l =
    let m : s * (q + 1) ≤ s * k = mul-le-mul_left s (omega (arith, l)) in
    let e : s * (q + 1) ≡ s * q + s = grind arith in
    let n : 8 * s * q ≡ 8 * (s * q) = grind arith in
    some (⊎_cases s) m e n
  where
    ⊎_cases : (s : ℕ) → (s ≡ 0) ⊎ (0 < s)
    ⊎_cases zero = inl refl
    ⊎_cases (suc s) = inr (omega arith)

    some : (s ≡ 0) ⊎ (0 < s) → s * (q + 1) ≤ s * k → s * (q + 1) ≡ s * q + s → 8 * s * q ≡ 8 * (s * q) → 8 * s * q < 64
    some (inl z) m e n = let t : s * q ≡ 0 * q = ap (λ s. s * q) z in let u : 0 * q ≡ 0 = omega arith in omega (arith, n, t, u)
    some (inr p) m e n = omega (arith, h, m, e, n, p)

-- the sources of an opcode, each but a count within 8 bytes
record Sources (o : Op) (k : ℕ) : Type 0 where
  first : (k ≡ 1) ⊎ (size_of_source o 0 * k ≤ 8)
  second : is_count o 1 ≡ false → (k ≡ 1) ⊎ (size_of_source o 1 * k ≤ 8)

source_cases : (o : Op) (k : ℕ) → is_bad_prefix o k ≡ false → Sources o k
source_cases o k e = go (k == 1) refl e
  where
    few : (n : ℕ) → nat_lt 8 n ≡ false → n ≤ 8
    few n e = grind (arith, nat_tests, e)

    go : (t : Bool) → (k == 1) ≡ t → not t && (takes_no_prefix (row o).kind || list_any (λ size. nat_lt 8 (size * k)) (operand_sizes o)) ≡ false → Sources o k
    go true q e = let one : k ≡ 1 = grind (arith, nat_tests, q) in record { first = inl one; second = λ c. inl one }
    go false q e =
        let a = or_parts (takes_no_prefix (row o).kind) _ e in
        let r0 = or_parts (nat_lt 8 (size_of_result o 0 * k)) _ a.1 in
        let r1 = or_parts (nat_lt 8 (size_of_result o 1 * k)) _ r0.1 in
        let s0 = or_parts (nat_lt 8 (size_of_source o 0 * k)) _ r1.1 in
        let s1 = or_parts (nat_lt 8 ((if is_count o 1 then 0 else size_of_source o 1) * k)) _ s0.1 in
        record {
          first = inr (few (size_of_source o 0 * k) s0.0);
          second = λ c. inr (few (size_of_source o 1 * k) (ap (λ b. nat_lt 8 ((if b then 0 else size_of_source o 1) * k)) (sym c) ∙ s1.0));
        }

-- ---- sources

-- what is known of a source at a position
abbrev pub IsRead : List Var → List Insn → Op → ℕ → ℕ → Operand → Type 0
IsRead vars earlier o prefix k (operand.Var p) = (p < length vars) × ((q : ℕ) → q < prefix → has_lanes (var_at vars p).kind ≡ true → 8 * size_of_source o k * q < 64) × ((var_at vars p).kind ≡ kind.Temp → is_set earlier p ≡ true) × (has_lanes (var_at vars p).kind ≡ true → (var_at vars p).size ≡ size_of_source o k * prefix)
IsRead vars earlier o prefix k (operand.Number n) = Unit {0}

abbrev pub AreRead : List Var → List Insn → Op → ℕ → List Operand → Type 0
AreRead vars earlier o prefix [] = Unit {0}
AreRead vars earlier o prefix (x ∷ []) = IsRead vars earlier o prefix 0 x
AreRead vars earlier o prefix (x ∷ y ∷ more) = IsRead vars earlier o prefix 0 x × IsRead vars earlier o prefix 1 y

-- the count of a shift has no sub-lanes
count_scalar : (o : Kind) (k : VarKind) → is_shift_kind o ≡ true → has_no_fault (source_kind_fault o 1 (Some k)) ≡ true → has_lanes k ≡ false
count_scalar ops.Shift kind.Param s h = refl
count_scalar ops.Shift kind.Const s h = refl
count_scalar ops.Shift kind.Accumulator s h = refl
count_scalar ops.Shift kind.Source s h = absurd (true≢false (sym h))
count_scalar ops.Shift kind.Dest s h = absurd (true≢false (sym h))
count_scalar ops.Shift kind.Temp s h = absurd (true≢false (sym h))
count_scalar o k s h = absurd (true≢false (sym s))

set_earlier : (vars : List Var) (earlier : List Insn) (p : ℕ) → is_unset vars earlier (operand.Var p) ≡ false → (var_at vars p).kind ≡ kind.Temp → is_set earlier p ≡ true
set_earlier vars earlier p h t = go (is_set earlier p) (sym (ap (λ b. b && not (is_set earlier p)) (ap (same_kind kind.Temp) t)) ∙ h)
  where
    go : (b : Bool) → true && not b ≡ false → b ≡ true
    go true e = refl
    go false e = absurd (true≢false e)

-- what has sub-lanes has the size of the opcode's, under the prefix
right_size : (k : VarKind) (m n : ℕ) → has_lanes k ≡ true → not (is_scalar (Some k)) && not (m == n) ≡ false → m ≡ n
right_size kind.Source m n t h = grind (arith, nat_tests, h)
right_size kind.Dest m n t h = grind (arith, nat_tests, h)
right_size kind.Temp m n t h = grind (arith, nat_tests, h)
right_size kind.Param m n t h = absurd (true≢false (sym t))
right_size kind.Const m n t h = absurd (true≢false (sym t))
right_size kind.Accumulator m n t h = absurd (true≢false (sym t))

module _ (vars : List Var) (earlier : List Insn) (o : Op) (prefix : ℕ) (z : Sources o prefix) where
  -- the sizes of a source that has sub-lanes
  fits_at : (k : ℕ) → k < 2 → (v : VarKind) → has_no_fault (source_kind_fault (row o).kind k (Some v)) ≡ true → has_lanes v ≡ true → (prefix ≡ 1) ⊎ (size_of_source o k * prefix ≤ 8)
  fits_at zero l v h t = z.first
  fits_at (suc zero) l v h t = go (is_shift_kind (row o).kind) refl
    where
      go : (b : Bool) → is_shift_kind (row o).kind ≡ b → (prefix ≡ 1) ⊎ (size_of_source o 1 * prefix ≤ 8)
      go true e = absurd (true≢false (sym t ∙ count_scalar (row o).kind v e h))
      go false e = z.second (ap (λ b. b && true) e)
  fits_at (suc (suc k)) l v h t = absurd (omega (arith, l))

  read_one : (k : ℕ) → k < 2 → (x : Operand) → is_in_range vars x ≡ true → has_no_fault (source_fault vars earlier o prefix k x) ≡ true → IsRead vars earlier o prefix k x
  read_one k l (operand.Number n) r h = tt
  read_one k l (operand.Var p) r h =
      let a = none_left (source_kind_fault (row o).kind k (Some (var_at vars p).kind)) (or_else (check (is_wrong_size vars (size_of_source o k * prefix) (operand.Var p)) fault.SizeMismatch) (check (is_unset vars earlier (operand.Var p)) fault.Unset)) h in
      let b = none_left (check (is_wrong_size vars (size_of_source o k * prefix) (operand.Var p)) fault.SizeMismatch) (check (is_unset vars earlier (operand.Var p)) fault.Unset) a.1 in (
        grind (arith, nat_tests, r),
        λ q i t. sub_lanes (size_of_source o k) prefix q (fits_at k l (var_at vars p).kind a.0 t) i,
        set_earlier vars earlier p (unchecked (is_unset vars earlier (operand.Var p)) fault.Unset b.1),
        λ t. right_size (var_at vars p).kind (var_at vars p).size (size_of_source o k * prefix) t (unchecked (is_wrong_size vars (size_of_source o k * prefix) (operand.Var p)) fault.SizeMismatch b.0),
      )

  read_all : (xs : List Operand) → list_all (is_in_range vars) xs ≡ true → has_no_fault (sources_fault vars earlier o prefix 0 xs) ≡ true → AreRead vars earlier o prefix xs
  read_all [] r h = tt
  read_all (x ∷ []) r h =
      let a = both (is_in_range vars x) true r in
      let b = none_left (source_fault vars earlier o prefix 0 x) None h in
      read_one 0 (omega arith) x a.0 b.0
  read_all (x ∷ y ∷ more) r h =
      let a = both (is_in_range vars x) (is_in_range vars y && list_all (is_in_range vars) more) r in
      let c = both (is_in_range vars y) (list_all (is_in_range vars) more) a.1 in
      let b = none_left (source_fault vars earlier o prefix 0 x) (or_else (source_fault vars earlier o prefix 1 y) (sources_fault vars earlier o prefix 2 more)) h in
      let d = none_left (source_fault vars earlier o prefix 1 y) (sources_fault vars earlier o prefix 2 more) b.1 in
      (read_one 0 (omega arith) x a.0 b.0, read_one 1 (omega arith) y c.0 d.0)

-- ---- results

first_table : (o : Op) → nat_lt 0 (size_of_result o 0) ≡ true
first_table op.Absb = refl
first_table o = refl

one_or_none : (t : Bool) (b : ℕ) → 1 < (if t then 0 else (if b == 0 then 1 else 2)) → 0 < b
one_or_none true b h = absurd (omega (arith, h))
one_or_none false zero h = absurd (omega (arith, h))
one_or_none false (suc b) h = omega arith

two_at_most : (s t : Bool) → (if s then 0 else (if t then 1 else 2)) ≤ 2
two_at_most true t = omega arith
two_at_most false true = omega arith
two_at_most false false = omega arith

-- a result that is a temp has the size of the opcode's, under the prefix
abbrev pub IsSized : List Var → ℕ → Operand → Type 0
IsSized vars n (operand.Var p) = (var_at vars p).kind ≡ kind.Temp → (var_at vars p).size ≡ n
IsSized vars n (operand.Number k) = Unit {0}

abbrev pub AreSized : List Var → Op → ℕ → ℕ → List Operand → Type 0
AreSized vars o prefix k [] = Unit {0}
AreSized vars o prefix k (x ∷ xs) = IsSized vars (size_of_result o k * prefix) x × AreSized vars o prefix (k + 1) xs

sized_one : (vars : List Var) (o : Op) (prefix k : ℕ) (x : Operand) → has_no_fault (result_fault vars o prefix k x) ≡ true → IsSized vars (size_of_result o k * prefix) x
sized_one vars o prefix k (operand.Number n) h = tt
sized_one vars o prefix k (operand.Var p) h =
    let n : ℕ = size_of_result o k * prefix in
    let a = none_left (result_kind_fault (row o).kind (operand_kind vars (operand.Var p))) (check (is_wrong_size vars n (operand.Var p)) fault.SizeMismatch) h in
    let u = unchecked (is_wrong_size vars n (operand.Var p)) fault.SizeMismatch a.1 in
    λ t. equal (var_at vars p).size n (sym (ap (λ (k : VarKind). not (is_scalar (Some k)) && not ((var_at vars p).size == n)) t) ∙ u)
  where
    equal : (m n : ℕ) → true && not (m == n) ≡ false → m ≡ n
    equal m n h = grind (arith, nat_tests, h)

sized_all : (vars : List Var) (o : Op) (prefix k : ℕ) (xs : List Operand) → has_no_fault (results_fault vars o prefix k xs) ≡ true → AreSized vars o prefix k xs
sized_all vars o prefix k [] h = tt
sized_all vars o prefix k (x ∷ xs) h =
    let a = none_left (result_fault vars o prefix k x) (results_fault vars o prefix (k + 1) xs) h in
    (sized_one vars o prefix k x a.0, sized_all vars o prefix (k + 1) xs a.1)

-- ---- the whole

pub record IsChecked (vars : List Var) (earlier : List Insn) (insn : Insn) : Type 0 where
  pub some : 0 < insn.prefix
  pub first : 0 < size_of_result insn.op 0
  pub first_fits : 8 * size_of_result insn.op 0 * insn.prefix ≤ 64
  pub second : 1 < length insn.results.items → 0 < size_of_result insn.op 1
  pub second_fits : 8 * size_of_result insn.op 1 * insn.prefix ≤ 64
  pub results : list_all (is_in_range vars) insn.results.items ≡ true
  pub sizes : AreSized vars insn.op insn.prefix 0 insn.results.items
  pub reads : AreRead vars earlier insn.op insn.prefix insn.sources.items
  pub few : length insn.results.items ≤ 2
  pub near : is_far insn ≡ false

pub checked : (vars : List Var) (earlier : List Insn) (insn : Insn) → is_far insn ≡ false → is_shaped vars insn ≡ true → has_no_fault (insn_fault vars earlier insn) ≡ true → IsChecked vars earlier insn
unfolding insn_fault
checked vars earlier insn near shaped h =
    let none = emulated.no_fault (insn_fault vars earlier insn) h in
    let fits = emulated.fits_of vars earlier insn shaped none in
    let a = both (insn.prefix == 1 || (insn.prefix == 2 || insn.prefix == 4)) (length insn.results.items == result_count insn.op && (length insn.sources.items == source_count insn.op && (list_all (is_in_range vars) insn.results.items && (list_all (is_in_range vars) insn.sources.items && nat_lt insn.line (2 ^ 32))))) shaped in
    let b = both (length insn.results.items == result_count insn.op) (length insn.sources.items == source_count insn.op && (list_all (is_in_range vars) insn.results.items && (list_all (is_in_range vars) insn.sources.items && nat_lt insn.line (2 ^ 32)))) a.1 in
    let p = a.0 in
    let n = b.0 in
    let many : length insn.results.items ≡ result_count insn.op = grind (arith, nat_tests, n) in
    let first = first_table insn.op in
    let results = results_fault vars insn.op insn.prefix 0 insn.results.items in
    let sources = sources_fault vars earlier insn.op insn.prefix 0 insn.sources.items in
    let few = check (is_too_many vars earlier insn) fault.TooMany in
    let c = none_left (check (is_bad_prefix insn.op insn.prefix) fault.BadPrefix) (first_of (results ∷ sources ∷ few ∷ [])) h in
    let d = none_left results (first_of (sources ∷ few ∷ [])) c.1 in
    let e = none_left sources (first_of (few ∷ [])) d.1 in
    record {
      some = grind (arith, nat_tests, p);
      first = grind (arith, nat_tests, first);
      first_fits = fits.first;
      second = λ l. one_or_none (size_of_result insn.op 0 == 0) (size_of_result insn.op 1) (subst (λ n. 1 < n) many l);
      second_fits = fits.second;
      results = fits.results;
      sizes = sized_all vars insn.op insn.prefix 0 insn.results.items d.0;
      reads = read_all vars earlier insn.op insn.prefix (source_cases insn.op insn.prefix (unchecked (is_bad_prefix insn.op insn.prefix) fault.BadPrefix c.0)) insn.sources.items fits.sources e.0;
      few = (let t = two_at_most (size_of_result insn.op 0 == 0) (size_of_result insn.op 1 == 0) in omega (arith, many, t));
      near = near;
    }
