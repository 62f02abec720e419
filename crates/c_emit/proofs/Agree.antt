-- The state in C and the state of emulation between instructions.
use Rattle.std.proofs.Common.{◌≡◌, ◌≢◌, ℕ, zero, suc, ◌+◌, ◌*◌, ◌/◌, ◌%◌, ◌^◌, ◌<◌, ◌≤◌, ⊎_elim, nat_lt, if◌then◌else◌, Bool, true, false, List, [], ◌∷◌, length, take, Some, None, refl, sym, ap, ◌∙◌, subst, arith}
use Rattle.std.proofs.lemmas.Bool.{cases_lt}
use Rattle.std.proofs.Math.Pow.{pow_mono}
use Rattle.orc_bits.specs.Memory.{Memory, put, fill, store, all_mapped}
use Rattle.orc_bits.specs.Lanes.{change, byte_of}
use Rattle.orc_bits.proofs.LaneLaws.{pow256, eq_false, eq_true}
use Rattle.orc_bits.proofs.Memories.{Bytewide, none_some}
use Rattle.orc_ops.specs.declared.opcode.Op.{Op}
use Rattle.orc_ops.specs.Table.{size_of_result}
use Rattle.orc_ops.specs.Formula.{formula}
use Rattle.orc_ops.proofs.Bounds.{formula_below}
use Rattle.orc_program.specs.declared.program.Var.{Var}
use Rattle.orc_program.specs.declared.program.VarKind.{VarKind}
use Rattle.orc_program.specs.declared.program.VarKind.TheVariants as kind
use Rattle.orc_program.specs.Program.{FunctionValue, var_at, same_kind, count_before}
use Rattle.orc_program.specs.Meaning.{State, lanewise}
use Rattle.orc_program.proofs.Counts.{count_cons}
use Rattle.orc_emul.proofs.Packed.{pack_below}
use Rattle.orc_emul.proofs.Functions.{before_all}
use Rattle.c_run.specs.Meaning.{CState}
use Rattle.c_emit.specs.Body.{temp_of, first_free}
use Rattle.c_emit.proofs.Doing.{counting, with_v}

-- ---- one place changed

pub change_same : {A : Type 0} (g : ℕ → A) (i : ℕ) (v : A) → change g i v i ≡ v
change_same g i v = ap (λ b. if b then v else g i) (eq_true i)

pub change_other : {A : Type 0} (g : ℕ → A) (i x : ℕ) (v : A) → x ≢ i → change g i v x ≡ g x
change_other g i x v ne = ap (λ b. if b then v else g x) (eq_false x i ne)

-- ---- variables of a kind have numbers of their own

before_less : (k : VarKind) (vars : List Var) (p q : ℕ) → p < length vars → p < q → same_kind k (var_at vars p).kind ≡ true → count_before k vars p < count_before k vars q
before_less k [] p q l m e = absurd (omega (arith, l))
before_less k (v ∷ vars) p zero l m e = absurd (omega (arith, m))
before_less k (v ∷ vars) zero (suc q) l m e =
    let z : count_before k (v ∷ vars) 0 ≡ 0 = refl in
    let c : count_before k (v ∷ vars) (suc q) ≡ (if same_kind k v.kind then 1 else 0) + count_before k vars q = count_cons k v (take q vars) in
    let unit : ℕ = 1 in
    let one : (if same_kind k v.kind then 1 else 0) ≡ unit = ap (λ t. if t then 1 else 0) e in
    omega (arith, z, c, one)
before_less k (v ∷ vars) (suc p) (suc q) l m e =
    let r = before_less k vars p q (omega (arith, l)) (omega (arith, m)) e in
    let b : count_before k (v ∷ vars) (suc p) ≡ (if same_kind k v.kind then 1 else 0) + count_before k vars p = count_cons k v (take p vars) in
    let c : count_before k (v ∷ vars) (suc q) ≡ (if same_kind k v.kind then 1 else 0) + count_before k vars q = count_cons k v (take q vars) in
    omega (arith, r, b, c)

pub numbers_apart : (k : VarKind) (vars : List Var) (p q : ℕ) → p < length vars → q < length vars → same_kind k (var_at vars p).kind ≡ true → same_kind k (var_at vars q).kind ≡ true → p ≢ q → count_before k vars p ≢ count_before k vars q
numbers_apart k vars p q l m a b ne = λ e. ⊎_elim
    (λ h. absurd (let r = before_less k vars p q l h a in omega (arith, r, e)))
    (λ h. absurd (let r = before_less k vars q p m (omega (arith, h, ne)) b in omega (arith, r, e)))
    (cases_lt p q)

-- ---- the relation

-- the same memory of bytes; each temp that was made, and each sum, has its number
pub record Agrees (f : FunctionValue) (made : ℕ → Bool) (s : CState) (e : State) : Type 0 where
  pub memory : s.memory ≡ e.memory
  pub bytes : Bytewide e.memory
  pub temps : (p : ℕ) → p < length f.vars → (var_at f.vars p).kind ≡ kind.Temp → made p ≡ true → (s.v (temp_of f.vars p) ≡ Some (e.temps p)) × (e.temps p < 2 ^ (8 * (var_at f.vars p).size))
  pub sums : (p : ℕ) → p < length f.vars → (var_at f.vars p).kind ≡ kind.Accumulator → (s.w (count_before kind.Accumulator f.vars p) ≡ Some (e.sums p)) × (e.sums p < 2 ^ 64)
  pub g : s.g ≡ []

-- fewer temps
pub agrees_less : {f : FunctionValue} {made : ℕ → Bool} {s : CState} {e : State} (fewer : ℕ → Bool) → ((p : ℕ) → (var_at f.vars p).kind ≡ kind.Temp → fewer p ≡ true → made p ≡ true) → Agrees f made s e → Agrees f fewer s e
agrees_less fewer h a = record { memory = a.memory; bytes = a.bytes; temps = λ p l k m. a.temps p l k (h p k m); sums = a.sums; g = a.g }

-- a variable behind those of the temps is set
pub agrees_v : {f : FunctionValue} {made : ℕ → Bool} {s : CState} {e : State} (d x : ℕ) → first_free f.vars ≤ d → Agrees f made s e → Agrees f made (counting (with_v s d x)) e
agrees_v {f} {made} {s} {e} d x l a = record {
  memory = a.memory;
  bytes = a.bytes;
  temps = λ p i k m. (change_other s.v d (temp_of f.vars p) (Some x) (λ z. let b = before_all kind.Temp f.vars p i (ap (same_kind kind.Temp) k) in omega (arith, z, l, b)) ∙ (a.temps p i k m).0, (a.temps p i k m).1);
  sums = a.sums;
  g = a.g;
}

-- ---- memory

-- only the bytes that are written count
pub fill_same : (n : ℕ) (mem : Memory) (a : ℕ) (g h : ℕ → ℕ) → ((j : ℕ) → j < n → g j ≡ h j) → fill n mem a g ≡ fill n mem a h
unfolding fill
fill_same zero mem a g h e = refl
fill_same (suc n) mem a g h e = ap (λ (m : Memory). put m ((a + n) % 2 ^ 64) (g n)) (fill_same n mem a g h (λ j l. e j (omega (arith, l)))) ∙ ap (put (fill n mem a h) ((a + n) % 2 ^ 64)) (e n (omega arith))

pub store_maps : (n : ℕ) (mem : Memory) (a : ℕ) (g : ℕ → ℕ) (end : Memory) → store n mem a g ≡ Some end → all_mapped n mem a ≡ true
store_maps n mem a g end e = go (all_mapped n mem a) e
  where
    go : (t : Bool) → (if t then Some (fill n mem a g) else None) ≡ Some end → t ≡ true
    go true e = refl
    go false e = absurd (none_some e)

pub byte_small : (n v j : ℕ) → byte_of n v j < 256
byte_small n v j = go (nat_lt j n)
  where
    go : (b : Bool) → (if b then v / 256 ^ j % 256 else 0) < 256
    go true = omega arith
    go false = omega arith

pub bytes_low : (n : ℕ) → n ≤ 8 → 256 ^ n ≤ 2 ^ 64
bytes_low n h = subst (λ k. k ≤ 2 ^ 64) (sym (pow256 n)) (pow_mono {i = 8 * n} {j = 64} (omega (arith, h)))

-- ---- results

pub lanewise_fits : (o : Op) (k : ℕ) (a b : ℕ → ℕ) → (lanewise o k a b).0 < 2 ^ (8 * size_of_result o 0 * k)
lanewise_fits o k a b = pack_below (8 * size_of_result o 0) k (λ q. (formula o (a q) (b q)).0) (λ q. (formula_below o (a q) (b q)).0)

pub lanewise_second_fits : (o : Op) (k : ℕ) (a b : ℕ → ℕ) → (lanewise o k a b).1 < 2 ^ (8 * size_of_result o 1 * k)
lanewise_second_fits o k a b = pack_below (8 * size_of_result o 1) k (λ q. (formula o (a q) (b q)).1) (λ q. (formula_below o (a q) (b q)).1)
