-- What is guessed is within the limits of the grammar.
use Rattle.std.proofs.Common.{◌≡◌, ℕ, zero, suc, ◌-◌, ◌^◌, ◌≤◌, ◌<◌, ◌==◌, ◌&&◌, ◌||◌, not, nat_le, nat_lt, Bool, true, false, List, drop, length, refl, sym, subst, ◌∙◌, inl, inr, arith, true≢false}
use Rattle.std.proofs.lemmas.Bool.{cases_Bool}
use Rattle.std.proofs.lemmas.Bool.Decides.{nat_tests}
use Rattle.c_run.specs.declared.tree.COp.{COp}
use Rattle.c_run.specs.declared.tree.CCmp.{CCmp}
use Rattle.c_run.specs.declared.tree.CIndex.{CIndex}
use Rattle.c_run.specs.declared.tree.CExpr.{CExpr}
use Rattle.c_run.specs.declared.tree.CExpr.TheVariants.{Number, V, W, P, Byte, Two, Test, Choose}
use Rattle.c_run.specs.Whole.{is_number}
use Rattle.c_emit.specs.Text.{op_text, cmp_text}
use Rattle.c_read.specs.Limits.{has_limits, is_size, is_place, IsExpr}
use Rattle.c_read.specs.Guess.{head, number_at, size_of, size_at, index_at, byte_at, op_of, cmp_of, Guess, two_at, choose_at, after_first, pair_at, compared_at, test_at, constant_at, cast_at, paren_at, level_at, expr_at}
use Rattle.c_read.proofs.Numbers.{number_within}
use Rattle.c_read.proofs.Trees.{depth_number, depth_v, depth_w, depth_p, depth_byte, depth_two, depth_test, depth_choose, limits_number, limits_v, limits_w, limits_p, limits_byte, limits_two, limits_test, limits_choose}
use Rattle.c_read.proofs.Exprs.{Fits, byte_yes, test_yes, number_yes, paren_yes, paren_no, after_yes, after_no}

and : (a b : Bool) → a ≡ true → b ≡ true → (a && b) ≡ true
and a b h k = rw (h, k) refl

small : (d : ℕ) → d ≤ 255 → is_number d ≡ true
small d h = grind (arith, nat_tests, h)

-- ---- kinds

fits_number : (n k : ℕ) → k ≤ 2 ^ 64 - 1 → Fits (suc n) (Number k)
fits_number n k h = let t : nat_lt k (2 ^ 64) ≡ true = grind (arith, nat_tests, h) in record { limits = limits_number k ∙ t; below = subst (λ (x : ℕ). x < suc n) (sym (depth_number k)) (omega arith) }

fits_v : (n d : ℕ) → d ≤ 255 → Fits (suc n) (V d)
fits_v n d h = record { limits = limits_v d ∙ small d h; below = subst (λ (x : ℕ). x < suc n) (sym (depth_v d)) (omega arith) }

fits_w : (n d : ℕ) → d ≤ 255 → Fits (suc n) (W d)
fits_w n d h = record { limits = limits_w d ∙ small d h; below = subst (λ (x : ℕ). x < suc n) (sym (depth_w d)) (omega arith) }

fits_p : (n d : ℕ) → d ≤ 255 → Fits (suc n) (P d)
fits_p n d h = record { limits = limits_p d ∙ small d h; below = subst (λ (x : ℕ). x < suc n) (sym (depth_p d)) (omega arith) }

fits_byte : (n d : ℕ) (x : CIndex) → d ≤ 255 → is_place x ≡ true → Fits (suc n) (Byte d x)
fits_byte n d x h t = record { limits = limits_byte d x ∙ and (is_number d) (is_place x) (small d h) t; below = subst (λ (y : ℕ). y < suc n) (sym (depth_byte d x)) (omega arith) }

fits_two : (n : ℕ) (o : COp) (a b : CExpr) → Fits n a → Fits n b → Fits (suc n) (Two o a b)
fits_two n o a b h k = record { limits = limits_two o a b ∙ and (has_limits a) (has_limits b) h.limits k.limits; below = subst (λ (x : ℕ). x < suc n) (sym (depth_two o a b)) (omega (arith, h.below, k.below)) }

fits_test : (n : ℕ) (c : CCmp) (a b : CExpr) → Fits n a → Fits n b → Fits (suc n) (Test c a b)
fits_test n c a b h k = record { limits = limits_test c a b ∙ and (has_limits a) (has_limits b) h.limits k.limits; below = subst (λ (x : ℕ). x < suc n) (sym (depth_test c a b)) (omega (arith, h.below, k.below)) }

fits_choose : (n : ℕ) (c a b : CExpr) → Fits n c → Fits n a → Fits n b → Fits (suc n) (Choose c a b)
fits_choose n c a b h k l = record {
  limits = limits_choose c a b ∙ and (has_limits c) (has_limits a && has_limits b) h.limits (and (has_limits a) (has_limits b) k.limits l.limits);
  below = subst (λ (x : ℕ). x < suc n) (sym (depth_choose c a b)) (omega (arith, h.below, k.below, l.below));
}

-- ---- indexes

size_fine : (b : ℕ) → is_size (size_of b) ≡ true
size_fine b =
    elim (cases_Bool (b == 50)) [
      | inl t ↦ rw t refl
      | inr f ↦ elim (cases_Bool (b == 52)) [
        | inl t ↦ rw (f, t) refl
        | inr g ↦ elim (cases_Bool (b == 56)) [
          | inl t ↦ rw (f, g, t) refl
          | inr h ↦ rw (f, g, h) refl
        ]
      ]
    ]

pub index_fine : (b : List ℕ) → is_place (index_at b).0 ≡ true
unfolding index_at size_at
index_fine b =
    let size = drop 9 (number_at 255 (drop 6 b)).1 in
    let k = (number_at 7 (drop 4 (drop 1 size))).0 in
    let h : k ≤ 7 = number_within 7 (drop 4 (drop 1 size)) in
    let t : nat_le k 7 ≡ true = grind (arith, nat_tests, h) in
    and (is_number (number_at 255 (drop 6 b)).0) (is_size (size_of (head size)) && nat_le k 7) (small _ (number_within 255 (drop 6 b))) (and (is_size (size_of (head size))) (nat_le k 7) (size_fine (head size)) t)

pub byte_fine : (b : List ℕ) → ((byte_at b).0.0 ≤ 255) × (is_place (byte_at b).0.1 ≡ true)
unfolding byte_at
byte_fine b = (number_within 255 b, index_fine (drop 1 (number_at 255 b).1))

-- ---- one level

module _ (n : ℕ) (inner : Guess) (fine : (b : List ℕ) → Fits n (inner b).0) where
  two_fine : (o : COp) (a : CExpr) (b : List ℕ) → Fits n a → Fits (suc n) (two_at inner o a b).0
  unfolding two_at
  two_fine o a b h = fits_two n o a _ h (fine (drop 1 (drop (length (op_text o)) b)))

  choose_fine : (c : CExpr) (b : List ℕ) → Fits n c → Fits (suc n) (choose_at inner c b).0
  unfolding choose_at
  choose_fine c b h = fits_choose n c _ _ h (fine (drop 2 b)) (fine (drop 3 (inner (drop 2 b)).1))

  after_fine : (a : CExpr) (b : List ℕ) → Fits n a → Fits (suc n) (after_first inner a b).0
  after_fine a b h =
      elim (cases_Bool (head b == 63)) [
        | inl t ↦ subst (λ (x : CExpr × List ℕ). Fits (suc n) x.0) (sym (after_yes inner a b t)) (choose_fine a b h)
        | inr f ↦ subst (λ (x : CExpr × List ℕ). Fits (suc n) x.0) (sym (after_no inner a b f)) (two_fine (op_of (head b)) a b h)
      ]

  pair_fine : (b : List ℕ) → Fits (suc n) (pair_at inner b).0
  unfolding pair_at
  pair_fine b = after_fine (inner b).0 (drop 1 (inner b).1) (fine b)

  test_fine : (b : List ℕ) → Fits (suc n) (test_at inner b).0
  unfolding test_at compared_at
  test_fine b = fits_test n _ (inner b).0 _ (fine b) (fine (drop 1 (drop (length (cmp_text (cmp_of (head (drop 1 (inner b).1))))) (drop 1 (inner b).1))))

-- what the code reads where nothing can be inside has no use of `inner`
constant_fine : (n : ℕ) (b : List ℕ) → Fits (suc n) (constant_at b).0
unfolding constant_at
constant_fine n b = fits_number n _ (number_within (2 ^ 64 - 1) b)

module _ (n : ℕ) (inner : Guess) (fine : 0 < n → (b : List ℕ) → Fits n (inner b).0) where
  some : nat_lt 0 n ≡ true → 0 < n
  some t = grind (arith, nat_tests, t)

  cast_fine : (b : List ℕ) → Fits (suc n) (cast_at (nat_lt 0 n) inner b).0
  cast_fine b =
      elim (cases_Bool (head b == 97)) [
        | inl t ↦ subst (λ (x : CExpr × List ℕ). Fits (suc n) x.0) (sym (byte_yes inner (nat_lt 0 n) b t)) (fits_byte n _ _ (byte_fine (drop 1 b)).0 (byte_fine (drop 1 b)).1)
        | inr f ↦ elim (cases_Bool (head b == 40 && nat_lt 0 n)) [
          | inl t ↦ subst (λ (x : CExpr × List ℕ). Fits (suc n) x.0) (sym (test_yes inner (nat_lt 0 n) b f t)) (test_fine n inner (fine (some (second (head b == 40) (nat_lt 0 n) t))) (drop 1 b))
          | inr g ↦ subst (λ (x : CExpr × List ℕ). Fits (suc n) x.0) (sym (number_yes inner (nat_lt 0 n) b f g)) (constant_fine n b)
        ]
      ]
    where
      second : (a c : Bool) → (a && c) ≡ true → c ≡ true
      second true c e = e
      second false c e = absurd (true≢false (sym e))

  paren_fine : (b : List ℕ) → Fits (suc n) (paren_at (nat_lt 0 n) inner b).0
  paren_fine b =
      elim (cases_Bool (head b == 117 || not (nat_lt 0 n))) [
        | inl t ↦ subst (λ (x : CExpr × List ℕ). Fits (suc n) x.0) (sym (paren_yes inner (nat_lt 0 n) b t)) (cast_fine (drop 9 b))
        | inr f ↦ subst (λ (x : CExpr × List ℕ). Fits (suc n) x.0) (sym (paren_no inner (nat_lt 0 n) b f)) (pair_fine n inner (fine (some (deep (head b == 117) (nat_lt 0 n) f))) b)
      ]
    where
      deep : (a c : Bool) → (a || not c) ≡ false → c ≡ true
      deep true c e = absurd (true≢false e)
      deep false true e = refl
      deep false false e = absurd (true≢false e)

  level_fine : (b : List ℕ) → Fits (suc n) (level_at (nat_lt 0 n) inner b).0
  unfolding level_at
  level_fine b =
      elim (cases_Bool (head b == 118)) [
        | inl t ↦ rw t (fits_v n _ (number_within 255 (drop 1 b)))
        | inr f ↦ elim (cases_Bool (head b == 119)) [
          | inl t ↦ rw (f, t) (fits_w n _ (number_within 255 (drop 1 b)))
          | inr g ↦ elim (cases_Bool (head b == 112)) [
            | inl t ↦ rw (f, g, t) (fits_p n _ (number_within 255 (drop 1 b)))
            | inr h ↦ elim (cases_Bool (head b == 40)) [
              | inl t ↦ rw (f, g, h, t) (paren_fine (drop 1 b))
              | inr i ↦ rw (f, g, h, i) (fits_v n 0 (omega arith))
            ]
          ]
        ]
      ]

all_fine : (n : ℕ) → 0 < n → (b : List ℕ) → Fits n (expr_at n b).0
all_fine zero h b = absurd (omega (arith, h))
all_fine (suc n) h b = level_fine n (expr_at n) (all_fine n) b

pub expr_fine : (n : ℕ) (b : List ℕ) → IsExpr n (expr_at (suc n) b).0
expr_fine n b = let h = all_fine (suc n) (omega arith) b in record { limits = h.limits; depth = omega (arith, h.below) }
