-- The lines of the table of far loads.
use Rattle.std.proofs.Common.{◌≡◌, ℕ, zero, suc, ◌+◌, ◌-◌, ◌*◌, ◌/◌, ◌%◌, ◌^◌, ◌<◌, ◌≤◌, ◌==◌, ℤ, pos, negsuc, ◌+ℤ◌, if◌then◌else◌, Option, Some, None, refl, sym, ap, subst, ◌∙◌, arith, pow-suc, mul_comm}
use Rattle.std.specs.Prelude.{bit_and}
use Rattle.std.specs.Int.{int_shr}
use Rattle.std.proofs.lemmas.Nat.{and_mask}
use Rattle.std.proofs.Math.Nat.{mul-le-mul_left, div-div-eq-div-mul}
use Rattle.orc_bits.specs.Numbers.{wrap}
use Rattle.orc_ops.specs.declared.opcode.Op.{Op}
use Rattle.orc_ops.specs.declared.opcode.Op.TheVariants as op
use Rattle.orc_ops.specs.declared.opcode.Kind.TheVariants as kind
use Rattle.orc_ops.specs.declared.stem.Stem.TheVariants as stem
use Rattle.orc_ops.specs.declared.far.Far.{Far}
use Rattle.orc_ops.specs.declared.far.Far.TheVariants.{Loadupib}
use Rattle.orc_ops.specs.Table.{row, row_of}
use Rattle.orc_ops.specs.Far.{far_of, far_name, far_size, far_value, other, place, fraction, mixed, mixed_bytes}
use Rattle.orc_ops.specs.FarLines.{byte, AreLines, scalar_size, HaveRows}

-- ---- the fraction

low_byte : (z : ℤ) → wrap 8 z ≡ wrap 64 z % 2 ^ 8
low_byte (pos n) = omega arith
low_byte (negsuc n) = omega arith

share : (i p q : ℕ) → fraction i p q ≡ bit_and (wrap 64 (int_shr (place i p q) 8)) 255
share i p q = low_byte (int_shr (place i p q) 8) ∙ sym (and_mask (wrap 64 (int_shr (place i p q) 8)) 8)

fraction_small : (i p q : ℕ) → fraction i p q < 256
fraction_small i p q = go (int_shr (place i p q) 8)
  where
    go : (z : ℤ) → wrap 8 z < 256
    go (pos n) = omega arith
    go (negsuc n) = omega arith

-- ---- the mix of bytes

mixed_small : (part x y : ℕ) → part < 256 → x < 256 → y < 256 → mixed part x y < 256
mixed_small part x y l a b = go (256 - part) (omega (arith, l))
  where
    go : (r : ℕ) → r + part ≡ 256 → (r * x + part * y) / 2 ^ 8 < 256
    go r e =
        let one : r * x ≤ r * 255 = mul-le-mul_left r (omega (arith, a)) in
        let two : part * y ≤ part * 255 = mul-le-mul_left part (omega (arith, b)) in
        omega (arith, one, two, e)

next : (v j : ℕ) → v / 256 ^ suc j ≡ v / 256 / 256 ^ j
next v j = ap (λ d. v / d) (pow-suc 256 j ∙ mul_comm (256 ^ j) 256) ∙ sym (div-div-eq-div-mul v 256 (256 ^ j))

each_byte : (n part x y : ℕ) → part < 256 → (mixed_bytes n part x y < 256 ^ n) × ((j : ℕ) → j < n → byte (mixed_bytes n part x y) j ≡ mixed part (byte x j) (byte y j))
each_byte zero part x y l = (omega arith, λ j m. absurd (omega (arith, m)))
each_byte (suc n) part x y l =
    let h = each_byte n part (x / 256) (y / 256) l in
    let r = mixed_bytes n part (x / 256) (y / 256) in
    let m = mixed part (x % 256) (y % 256) in
    let s : m < 256 = mixed_small part (x % 256) (y % 256) l (omega arith) (omega arith) in
    let e : 256 ^ suc n ≡ 256 ^ n * 256 = pow-suc 256 n in
    let rest : (m + 256 * r) / 256 ≡ r = omega (arith, s) in
    (omega (arith, h.0, s, e), bytes h.1 m s refl rest)
  where
    bytes : ((j : ℕ) → j < n → byte (mixed_bytes n part (x / 256) (y / 256)) j ≡ mixed part (byte (x / 256) j) (byte (y / 256) j)) → (m : ℕ) → m < 256 → m ≡ mixed part (x % 256) (y % 256) → (m + 256 * mixed_bytes n part (x / 256) (y / 256)) / 256 ≡ mixed_bytes n part (x / 256) (y / 256)
        → (j : ℕ) → j < suc n → byte (m + 256 * mixed_bytes n part (x / 256) (y / 256)) j ≡ mixed part (byte x j) (byte y j)
    bytes h m s e rest zero k =
        let r = mixed_bytes n part (x / 256) (y / 256) in
        (let q : (m + 256 * r) / 256 ^ 0 % 256 ≡ m = omega (arith, s) in q) ∙ e
        ∙ ap (λ u. mixed part u (y % 256)) (let q : x % 256 ≡ x / 256 ^ 0 % 256 = omega arith in q) ∙ ap (mixed part (x / 256 ^ 0 % 256)) (let q : y % 256 ≡ y / 256 ^ 0 % 256 = omega arith in q)
    bytes h m s e rest (suc j) k =
        let r = mixed_bytes n part (x / 256) (y / 256) in
        ap (λ u. u % 256) (next (m + 256 * r) j ∙ ap (λ u. u / 256 ^ j) rest) ∙ h j (omega (arith, k))
        ∙ ap (λ u. mixed part (u % 256) (byte (y / 256) j)) (sym (next x j)) ∙ ap (λ u. mixed part (byte x (suc j)) (u % 256)) (sym (next y j))

-- ---- the average

even : (a : ℤ → ℕ) (i p q : ℕ) → i % 2 ≡ 0 → far_value Loadupib a i p q ≡ a (pos (i / 2))
even a i p q e =
    let x = a (pos (i / 2)) in
    ap (λ r. (x + a (other (pos (i / 2)) (if r == 0 then None else Some (pos (i / 2 + 1)))) + 1) / 2) e ∙ (let q : (x + x + 1) / 2 ≡ x = omega arith in q)

odd : (a : ℤ → ℕ) (i p q : ℕ) → i % 2 ≡ 1 → far_value Loadupib a i p q ≡ (a (pos (i / 2)) + a (pos (i / 2 + 1)) + 1) / 2
odd a i p q e = ap (λ r. (a (pos (i / 2)) + a (other (pos (i / 2)) (if r == 0 then None else Some (pos (i / 2 + 1)))) + 1) / 2) e

pub lines : AreLines
lines = record {
  loadoffb = λ a i o q. refl;
  loadoffw = λ a i o q. refl;
  loadoffl = λ a i o q. refl;
  loadupdb = λ a i p q. refl;
  loadupib_even = even;
  loadupib_odd = odd;
  ldresnearb = λ a i p q. refl;
  ldresnearl = λ a i p q. refl;
  ldreslinb = λ a i p q. each_byte 1 (fraction i p q) (a (int_shr (place i p q) 16)) (a (int_shr (place i p q) 16 +ℤ pos 1)) (fraction_small i p q);
  ldreslinl = λ a i p q. each_byte 4 (fraction i p q) (a (int_shr (place i p q) 16)) (a (int_shr (place i p q) 16 +ℤ pos 1)) (fraction_small i p q);
  share = share;
}

-- ---- the table of opcodes

abbrev HasRow : Op → Option Far → Type 0
HasRow o None = Unit {0}
HasRow o (Some far) = row o ≡ row_of (far_name far) (far_size far) 0 (far_size far) (scalar_size far 1) (scalar_size far 2) kind.Far 0 stem.Copy

-- computed at each opcode
has_row : (o : Op) → HasRow o (far_of o)
has_row op.Loadoffb = refl
has_row op.Loadoffw = refl
has_row op.Loadoffl = refl
has_row op.Loadupdb = refl
has_row op.Loadupib = refl
has_row op.Ldresnearb = refl
has_row op.Ldresnearl = refl
has_row op.Ldreslinb = refl
has_row op.Ldreslinl = refl
has_row o = tt

pub rows : HaveRows
rows o far e = subst (HasRow o) e (has_row o)
