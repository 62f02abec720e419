-- The registers in which an action's rule works: its results are made where they go.
use Rattle.std.proofs.Common.{◌≡◌, ◌≢◌, ℕ, ◌<◌, ◌≤◌, ◌==◌, if◌then◌else◌, List, [], ◌∷◌, map, refl, sym, ap, ◌∙◌, arith, ◌⊎◌, inl, inr, ⊎_elim}
use Rattle.std.proofs.lemmas.Bool.{cases_eq}
use Rattle.orc_bits.proofs.LaneLaws.{eq_true, eq_false}
use Rattle.orc_ops.specs.declared.opcode.Op.{Op}
use Rattle.orc_ops.specs.Table.{size_of_result, to}
use Rattle.orc_bits.specs.Numbers.{cut}
use Rattle.x86_ins.specs.declared.ins.Ins.{Ins}
use Rattle.x86_ins.specs.Vectors.{after}
use Rattle.x86_ins.specs.Renaming.{renamed}
use Rattle.x86_ins.proofs.Renamed.{after_same, after_renamed, simd_renamed}
use Rattle.sse_acc.specs.Sums.{AddsUp, sum_of}
use Rattle.orc_region.specs.Code.{Target, ToArray, ToSum, ToResident, ToPlace, ToSlot, place_register, resident_register, first_register, second_register, third_register, exchange, rule_register}

-- ---- two registers change places

-- what becomes of a register
record Exchanged (a b r s : ℕ) : Type 0 where
  cases : ((r ≡ a) × (s ≡ b)) ⊎ (((r ≢ a) × (r ≡ b) × (s ≡ a)) ⊎ ((r ≢ a) × (r ≢ b) × (s ≡ r)))

exchanged : (a b r : ℕ) → Exchanged a b r (exchange a b r)
exchanged a b r = ⊎_elim
    (λ e. record { cases = inl (e, ap (λ t. if t then b else (if r == b then a else r)) (ap (λ x. r == x) (sym e) ∙ eq_true r)) })
    (λ ne. ⊎_elim
    (λ e. record { cases = inr (inl (ne, e, ap (λ t. if t then b else (if r == b then a else r)) (eq_false r a ne) ∙ ap (λ t. if t then a else r) (ap (λ x. r == x) (sym e) ∙ eq_true r))) })
    (λ nb. record { cases = inr (inr (ne, nb, ap (λ t. if t then b else (if r == b then a else r)) (eq_false r a ne) ∙ ap (λ t. if t then a else r) (eq_false r b nb))) })
    (cases_eq r b))
    (cases_eq r a)

pub exchange_one : (a b x y : ℕ) → exchange a b x ≡ exchange a b y → x ≡ y
exchange_one a b x y e = go (exchanged a b x).cases (exchanged a b y).cases
  where
    Cases : ℕ → ℕ → Type 0
    Cases r s = ((r ≡ a) × (s ≡ b)) ⊎ (((r ≢ a) × (r ≡ b) × (s ≡ a)) ⊎ ((r ≢ a) × (r ≢ b) × (s ≡ r)))

    go : Cases x (exchange a b x) → Cases y (exchange a b y) → x ≡ y
    go (inl u) (inl v) = omega (arith, u.0, v.0)
    go (inl u) (inr (inl v)) = omega (arith, e, u.0, u.1, v.1, v.2)
    go (inl u) (inr (inr v)) = absurd (v.1 (omega (arith, e, u.1, v.2)))
    go (inr (inl u)) (inl v) = omega (arith, e, v.0, v.1, u.1, u.2)
    go (inr (inl u)) (inr (inl v)) = omega (arith, u.1, v.1)
    go (inr (inl u)) (inr (inr v)) = absurd (v.0 (omega (arith, e, u.2, v.2)))
    go (inr (inr u)) (inl v) = absurd (u.1 (omega (arith, e, v.1, u.2)))
    go (inr (inr u)) (inr (inl v)) = absurd (u.0 (omega (arith, e, v.2, u.2)))
    go (inr (inr u)) (inr (inr v)) = omega (arith, e, u.2, v.2)

-- a third one stays
pub exchange_other : (a b r : ℕ) → r ≢ a → r ≢ b → exchange a b r ≡ r
exchange_other a b r ne nb = ap (λ t. if t then b else (if r == b then a else r)) (eq_false r a ne) ∙ ap (λ t. if t then a else r) (eq_false r b nb)

pub exchange_first : (a b : ℕ) → exchange a b a ≡ b
exchange_first a b = ap (λ t. if t then b else (if a == b then a else a)) (eq_true a)

exchange_itself : (a r : ℕ) → exchange a a r ≡ r
exchange_itself a r = ⊎_elim
    (λ e. ap (λ t. if t then a else (if r == a then a else r)) (ap (λ x. r == x) (sym e) ∙ eq_true r) ∙ sym e)
    (λ ne. exchange_other a a r ne ne)
    (cases_eq r a)

-- ---- the registers of results

first_is : (ts : List Target) → (first_register ts ≡ 0) ⊎ (6 ≤ first_register ts)
first_is [] = inl refl
first_is (ToArray k ∷ more) = inl refl
first_is (ToSum g ∷ more) = inl refl
first_is (ToResident g ∷ more) = inl refl
first_is (ToPlace p ∷ more) = inr (omega arith)
first_is (ToSlot k ∷ more) = inl refl

second_is : (ts : List Target) → (second_register ts ≡ 1) ⊎ (6 ≤ second_register ts)
second_is [] = inl refl
second_is (t ∷ []) = inl refl
second_is (t ∷ ToArray k ∷ more) = inl refl
second_is (t ∷ ToSum g ∷ more) = inl refl
second_is (t ∷ ToResident g ∷ more) = inl refl
second_is (t ∷ ToPlace p ∷ more) = inr (omega arith)
second_is (t ∷ ToSlot k ∷ more) = inl refl

third_is : (ts : List Target) → (third_register ts ≡ 2) ⊎ (6 ≤ third_register ts)
third_is [] = inl refl
third_is (ToArray k ∷ more) = inl refl
third_is (ToSum g ∷ more) = inl refl
third_is (ToResident g ∷ more) = inr (omega arith)
third_is (ToPlace p ∷ more) = inl refl
third_is (ToSlot k ∷ more) = inl refl

second_not_0 : (ts : List Target) → 0 ≢ second_register ts
second_not_0 ts e = ⊎_elim (λ x. omega (arith, e, x)) (λ l. omega (arith, e, l)) (second_is ts)

first_not_1 : (ts : List Target) → 1 ≢ first_register ts
first_not_1 ts e = ⊎_elim (λ x. omega (arith, e, x)) (λ l. omega (arith, e, l)) (first_is ts)

-- a register below 2 is none of a running sum
below_sum : (ts : List Target) (r : ℕ) → r < 2 → exchange 2 (third_register ts) r ≡ r
below_sum ts r l = exchange_other 2 (third_register ts) r (λ e. omega (arith, e, l)) (λ e. ⊎_elim (λ x. omega (arith, e, x, l)) (λ x. omega (arith, e, x, l)) (third_is ts))

pub register_0 : (ts : List Target) → rule_register ts 0 ≡ first_register ts
register_0 ts =
    ap (λ r. exchange 0 (first_register ts) (exchange 1 (second_register ts) r)) (below_sum ts 0 (omega arith))
    ∙ ap (exchange 0 (first_register ts)) (exchange_other 1 (second_register ts) 0 (λ e. omega (arith, e)) (second_not_0 ts)) ∙ exchange_first 0 (first_register ts)

pub register_1 : (ts : List Target) → first_register ts ≢ second_register ts → rule_register ts 1 ≡ second_register ts
register_1 ts ne =
    ap (λ r. exchange 0 (first_register ts) (exchange 1 (second_register ts) r)) (below_sum ts 1 (omega arith))
    ∙ ap (exchange 0 (first_register ts)) (exchange_first 1 (second_register ts)) ∙ exchange_other 0 (first_register ts) (second_register ts) (λ e. second_not_0 ts (sym e)) (λ e. ne (sym e))

-- the register of a place in which no result is made
pub register_place : (ts : List Target) (p : ℕ) → first_register ts ≢ place_register p → second_register ts ≢ place_register p → third_register ts ≢ place_register p → rule_register ts (place_register p) ≡ place_register p
register_place ts p nf ns nt =
    ap (λ r. exchange 0 (first_register ts) (exchange 1 (second_register ts) r)) (exchange_other 2 (third_register ts) (place_register p) (λ e. omega (arith, e)) (λ e. nt (sym e)))
    ∙ ap (exchange 0 (first_register ts)) (exchange_other 1 (second_register ts) (place_register p) (λ e. omega (arith, e)) (λ e. ns (sym e)))
    ∙ exchange_other 0 (first_register ts) (place_register p) (λ e. omega (arith, e)) (λ e. nf (sym e))

-- no two registers become one
pub register_one : (ts : List Target) (x y : ℕ) → rule_register ts x ≡ rule_register ts y → x ≡ y
register_one ts x y e =
    let x' = exchange 2 (third_register ts) x in
    let y' = exchange 2 (third_register ts) y in
    exchange_one 2 (third_register ts) x y (exchange_one 1 (second_register ts) x' y' (exchange_one 0 (first_register ts) (exchange 1 (second_register ts) x') (exchange 1 (second_register ts) y') e))

pub exchange_small : (a b r : ℕ) → a < 16 → b < 16 → r < 16 → exchange a b r < 16
exchange_small a b r la lb lr = go (exchanged a b r).cases
  where
    go : ((r ≡ a) × (exchange a b r ≡ b)) ⊎ (((r ≢ a) × (r ≡ b) × (exchange a b r ≡ a)) ⊎ ((r ≢ a) × (r ≢ b) × (exchange a b r ≡ r))) → exchange a b r < 16
    go (inl u) = omega (arith, u.1, lb)
    go (inr (inl u)) = omega (arith, u.2, la)
    go (inr (inr u)) = omega (arith, u.2, lr)

pub register_small : (ts : List Target) → first_register ts < 16 → second_register ts < 16 → third_register ts < 16 → (r : ℕ) → r < 16 → rule_register ts r < 16
register_small ts lf ls lt r l =
    let inner = exchange_small 2 (third_register ts) r (omega arith) lt l in
    exchange_small 0 (first_register ts) (exchange 1 (second_register ts) (exchange 2 (third_register ts) r)) (omega arith) lf (exchange_small 1 (second_register ts) (exchange 2 (third_register ts) r) (omega arith) ls inner)

-- ---- the rule of a running sum of the frame keeps its registers

same_register : (g r : ℕ) → rule_register (ToSum g ∷ []) r ≡ r
same_register g r = ap (λ r. exchange 0 0 (exchange 1 1 r)) (exchange_itself 2 r) ∙ ap (exchange 0 0) (exchange_itself 1 r) ∙ exchange_itself 0 r

sum_after : (g : ℕ) (rule : List Ins) (x : ℕ → List ℕ) (r : ℕ) → after (map (renamed (rule_register (ToSum g ∷ []))) rule) x r ≡ after rule x r
sum_after g rule x r =
    let f : ℕ → ℕ = rule_register (ToSum g ∷ []) in
    ap (after (map (renamed f) rule) x) (sym (same_register g r)) ∙ after_renamed f (register_one (ToSum g ∷ [])) rule x r ∙ after_same rule (λ s. x (f s)) x (λ s. ap x (same_register g s)) r

pub adds_renamed : (g : ℕ) (op : Op) (count : ℕ) (rule : List Ins) → AddsUp op count rule → AddsUp op count (map (renamed (rule_register (ToSum g ∷ []))) rule)
adds_renamed g op count rule h = record {
  vectors = simd_renamed (rule_register (ToSum g ∷ [])) rule ∙ h.vectors;
  grows = λ x small. ap (λ y. cut (to op) (sum_of (size_of_result op 0) y)) (sum_after g rule x 2) ∙ h.grows x small;
  keeps = λ x r l. sum_after g rule x r ∙ h.keeps x r l;
}

-- ---- that of a running sum in a register has the sum there

module _ (g : ℕ) where
  abbrev pub adding_register : ℕ → ℕ
  adding_register = rule_register (ToResident g ∷ [])

  swapped : (r : ℕ) → adding_register r ≡ exchange 2 (resident_register g) r
  swapped r = ap (exchange 0 0) (exchange_itself 1 (exchange 2 (resident_register g) r)) ∙ exchange_itself 0 (exchange 2 (resident_register g) r)

  pub resident_0 : adding_register 0 ≡ 0
  resident_0 = swapped 0 ∙ below_sum (ToResident g ∷ []) 0 (omega arith)

  pub resident_1 : adding_register 1 ≡ 1
  resident_1 = swapped 1 ∙ below_sum (ToResident g ∷ []) 1 (omega arith)

  pub resident_2 : adding_register 2 ≡ resident_register g
  resident_2 = swapped 2 ∙ exchange_first 2 (resident_register g)

  pub resident_other : (r : ℕ) → 6 ≤ r → r ≢ resident_register g → adding_register r ≡ r
  resident_other r l ne = swapped r ∙ exchange_other 2 (resident_register g) r (λ e. omega (arith, e, l)) ne

  module _ (rule : List Ins) (x : ℕ → List ℕ) where
    -- the registers as the rule's own names have them
    abbrev pub seen : ℕ → List ℕ
    seen r = x (adding_register r)

    after_seen : (r : ℕ) → after (map (renamed adding_register) rule) x (adding_register r) ≡ after rule seen r
    after_seen r = after_renamed adding_register (register_one (ToResident g ∷ [])) rule x r

    pub resident_grown : after (map (renamed adding_register) rule) x (resident_register g) ≡ after rule seen 2
    resident_grown = ap (after (map (renamed adding_register) rule) x) (sym resident_2) ∙ after_seen 2

    pub resident_kept : ((y : ℕ → List ℕ) (r : ℕ) → 6 ≤ r → after rule y r ≡ y r) → (r : ℕ) → 6 ≤ r → r ≢ resident_register g → after (map (renamed adding_register) rule) x r ≡ x r
    resident_kept keeps r l ne =
        let e = resident_other r l ne in
        ap (after (map (renamed adding_register) rule) x) (sym e) ∙ after_seen r ∙ keeps seen r l ∙ ap x e
