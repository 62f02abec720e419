-- The registers that point at cells.
use Rattle.std.proofs.Common.{◌≡◌, ◌≢◌, ℕ, zero, suc, ◌+◌, ◌<◌, arith, refl, sym, ap, ◌∙◌, ◌⊎◌, inl, inr}
use Rattle.orc_region.specs.Code.{pointer}

pub pointer_small : (k : ℕ) → k < 12 → pointer k < 16
pointer_small zero h = omega arith
pointer_small (suc zero) h = omega arith
pointer_small (suc (suc zero)) h = omega arith
pointer_small (suc (suc (suc zero))) h = omega arith
pointer_small (suc (suc (suc (suc k)))) h = omega (arith, h)

-- RAX, RCX, RSP and RDI point at no cell
abbrev pub IsKept : ℕ → Type 0
IsKept r = (r ≡ 0) ⊎ ((r ≡ 1) ⊎ ((r ≡ 4) ⊎ (r ≡ 7)))

pub pointer_apart : (k r : ℕ) → IsKept r → pointer k ≢ r
pointer_apart zero r h e = grind (arith)
pointer_apart (suc zero) r h e = grind (arith)
pointer_apart (suc (suc zero)) r h e = grind (arith)
pointer_apart (suc (suc (suc zero))) r h e = grind (arith)
pointer_apart (suc (suc (suc (suc k)))) r h e = grind (arith)

pub not_0 : (k : ℕ) → pointer k ≢ 0
not_0 k = pointer_apart k 0 (inl refl)

pub not_1 : (k : ℕ) → pointer k ≢ 1
not_1 k = pointer_apart k 1 (inr (inl refl))

pub not_4 : (k : ℕ) → pointer k ≢ 4
not_4 k = pointer_apart k 4 (inr (inr (inl refl)))

pub not_7 : (k : ℕ) → pointer k ≢ 7
not_7 k = pointer_apart k 7 (inr (inr (inr refl)))

-- the slot of a pointer
abbrev slot : ℕ → ℕ
slot (suc (suc zero)) = 0
slot (suc (suc (suc zero))) = 1
slot (suc (suc (suc (suc (suc zero))))) = 2
slot (suc (suc (suc (suc (suc (suc zero)))))) = 3
slot (suc (suc (suc (suc (suc (suc (suc (suc k)))))))) = suc (suc (suc (suc k)))
slot other = 0

slot_is : (k : ℕ) → slot (pointer k) ≡ k
slot_is zero = refl
slot_is (suc zero) = refl
slot_is (suc (suc zero)) = refl
slot_is (suc (suc (suc zero))) = refl
slot_is (suc (suc (suc (suc k)))) = eight (8 + k) k (omega arith)
  where
    eight : (r k : ℕ) → r ≡ suc (suc (suc (suc (suc (suc (suc (suc k))))))) → slot r ≡ suc (suc (suc (suc k)))
    eight r k e = ap slot e

pub pointer_one : (k l : ℕ) → pointer k ≡ pointer l → k ≡ l
pointer_one k l e = sym (slot_is k) ∙ ap slot e ∙ slot_is l
