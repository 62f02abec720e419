-- What holds of every row of the table.
use Rattle.std.proofs.Common.{◌≡◌, ℕ, ◌+◌, ◌*◌, ◌%◌, ◌^◌, ◌<◌, ◌&&◌, ◌||◌, ◌==◌, ◌⊎◌, inl, inr, ⊎_elim, nat_lt, nat_le, ◌≤◌, Bool, true, false, Option, Some, None, refl, sym, subst, arith}
use Rattle.std.specs.Prelude.{is_some}
use Rattle.std.proofs.lemmas.Nat.{pow_pos}
use Rattle.std.proofs.lemmas.Bool.Decides.{nat_tests}
use Rattle.std.proofs.Math.Nat.{mod-lt}
use Rattle.orc_bits.specs.Widths.{IsWidth}
use Rattle.orc_ops.specs.declared.opcode.Op.{Op}
use Rattle.orc_ops.specs.declared.opcode.Op.TheVariants as op
use Rattle.orc_ops.specs.declared.stem.Stem.{Stem}
use Rattle.orc_ops.specs.declared.stem.Stem.TheVariants as stem
use Rattle.orc_ops.specs.Table.{row, wide, to, size_of_source}
use Rattle.orc_ops.specs.declared.far.Far.{Far}
use Rattle.orc_ops.specs.Far.{far_of}
use Rattle.orc_ops.specs.Widths.{Takes, TakesSecond, IsSize}
use Rattle.orc_ops.specs.Formula.{source_of}

-- ---- each fact as a test, which computes at every row

abbrev is_width : ℕ → Bool
is_width n = n == 8 || (n == 16 || (n == 32 || n == 64))

abbrev is_size : ℕ → Bool
is_size n = n == 0 || (n == 1 || (n == 2 || (n == 4 || n == 8)))

abbrev takes : Stem → ℕ → ℕ → Bool
takes stem.Div255 w t = w == 16
takes stem.Exchange w t = nat_lt 16 w
takes stem.High w t = nat_lt t w
takes stem.Merge w t = w + w == t
takes stem.Splat w t = w == 8 && nat_le t 32
takes stem.Split w t = nat_lt t w
takes stem.Swap w t = nat_lt 8 w
takes other w t = true

-- n and m are the bytes of the two sources
abbrev takes_second : Stem → ℕ → ℕ → Bool
takes_second stem.Shl n m = true
takes_second stem.Shrs n m = true
takes_second stem.Shru n m = true
takes_second other n m = m == 0 || m == n

abbrev fits : Op → Bool
fits o =
    is_width (wide o) && (is_width (to o) && (is_size (size_of_source o 1) &&
    (takes (row o).stem (wide o) (to o) && (is_some (far_of o) || takes_second (row o).stem (size_of_source o 0) (size_of_source o 1)))))

all_fit : (o : Op) → fits o ≡ true
all_fit op.Absb = refl
all_fit o = refl

-- ---- the facts

pub both : (a b : Bool) → a && b ≡ true → (a ≡ true) × (b ≡ true)
both true b e = (refl, e)
both false b e = absurd (let f : ⊥ = cc in f)

pub either : (a b : Bool) → a || b ≡ true → (a ≡ true) ⊎ (b ≡ true)
either true b e = inl refl
either false b e = inr e

pub same : (m n : ℕ) → (m == n) ≡ true → m ≡ n
same m n e = grind (arith, nat_tests, e)

less : (m n : ℕ) → nat_lt m n ≡ true → m < n
less m n e = grind (arith, nat_tests, e)

at_most : (m n : ℕ) → nat_le m n ≡ true → m ≤ n
at_most m n e = grind (arith, nat_tests, e)

width_of_test : (n : ℕ) → is_width n ≡ true → IsWidth n
width_of_test n e =
    ⊎_elim (λ a. inl (same n 8 a)) (λ r.
    ⊎_elim (λ a. inr (inl (same n 16 a))) (λ r.
    ⊎_elim (λ a. inr (inr (inl (same n 32 a)))) (λ a. inr (inr (inr (same n 64 a)))) (either (n == 32) _ r)) (either (n == 16) _ r)) (either (n == 8) _ e)

size_of_test : (n : ℕ) → is_size n ≡ true → IsSize n
size_of_test n e =
    ⊎_elim (λ a. inl (same n 0 a)) (λ r.
    ⊎_elim (λ a. inr (inl (same n 1 a))) (λ r.
    ⊎_elim (λ a. inr (inr (inl (same n 2 a)))) (λ r.
    ⊎_elim (λ a. inr (inr (inr (inl (same n 4 a))))) (λ a. inr (inr (inr (inr (same n 8 a))))) (either (n == 4) _ r)) (either (n == 2) _ r)) (either (n == 1) _ r)) (either (n == 0) _ e)

takes_of_test : (s : Stem) (w t : ℕ) → takes s w t ≡ true → Takes s w t
takes_of_test stem.Div255 w t e = same w 16 e
takes_of_test stem.Exchange w t e = less 16 w e
takes_of_test stem.High w t e = less t w e
takes_of_test stem.Merge w t e = same (w + w) t e
takes_of_test stem.Splat w t e = let h = both (w == 8) (nat_le t 32) e in (same w 8 h.0, at_most t 32 h.1)
takes_of_test stem.Split w t e = less t w e
takes_of_test stem.Swap w t e = less 8 w e
takes_of_test other w t e = tt

-- a source of m bytes, where there is none or m is the first one's size
cut_below : (n m v : ℕ) → m == 0 || m == n ≡ true → v % 2 ^ (8 * m) < 2 ^ (8 * n)
cut_below n m v e = ⊎_elim (λ a. none (same m 0 a)) (λ a. there (same m n a)) (either (m == 0) _ e)
  where
    none : m ≡ 0 → v % 2 ^ (8 * m) < 2 ^ (8 * n)
    none e = subst (λ k. v % 2 ^ (8 * k) < 2 ^ (8 * n)) (sym e) (let p = pow_pos (8 * n) in omega (arith, p))

    there : m ≡ n → v % 2 ^ (8 * m) < 2 ^ (8 * n)
    there e = subst (λ k. v % 2 ^ (8 * m) < 2 ^ (8 * k)) e (mod-lt v (pow_pos (8 * m)))

second_of_test : (s : Stem) (n m v : ℕ) → takes_second s n m ≡ true → TakesSecond s (8 * n) (v % 2 ^ (8 * m))
second_of_test stem.Shl n m v e = tt
second_of_test stem.Shrs n m v e = tt
second_of_test stem.Shru n m v e = tt
second_of_test other n m v e = cut_below n m v e

pub record Fits (o : Op) : Type 0 where
  pub first : IsWidth (wide o)
  pub result : IsWidth (to o)
  pub size : IsSize (size_of_source o 1)
  pub takes : Takes (row o).stem (wide o) (to o)
  pub second : far_of o ≡ None → (v : ℕ) → TakesSecond (row o).stem (wide o) (source_of o 1 v)

without_far : (f : Option Far) → f ≡ None → (b : Bool) → is_some f || b ≡ true → b ≡ true
without_far None e b h = h
without_far (Some far) e b h = absurd (let q : ⊥ = cc in q)

pub row_fits : (o : Op) → Fits o
row_fits o =
    let a = both (is_width (wide o)) _ (all_fit o) in
    let b = both (is_width (to o)) _ a.1 in
    let c = both (is_size (size_of_source o 1)) _ b.1 in
    let d = both (takes (row o).stem (wide o) (to o)) _ c.1 in
    record {
      first = width_of_test (wide o) a.0;
      result = width_of_test (to o) b.0;
      size = size_of_test (size_of_source o 1) c.0;
      takes = takes_of_test (row o).stem (wide o) (to o) d.0;
      second = λ near v. second_of_test (row o).stem (size_of_source o 0) (size_of_source o 1) v (without_far (far_of o) near _ d.1);
    }
