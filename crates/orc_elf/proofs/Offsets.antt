-- Numbers and parts at offsets of bytes that are made of others.
use Rattle.std.proofs.Common.{◌≡◌, ℕ, ◌+◌, ◌^◌, ◌<◌, ◌≤◌, true, List, ◌++◌, length, take, drop, None, refl, sym, ap, ◌∙◌, arith}
use Rattle.std.specs.Int.{w16, w32, w64, to_le_bytes}
use Rattle.std.proofs.lemmas.Bool.{eq-eqb, le-leb}
use Rattle.std.proofs.lemmas.List.{take_at, drop_at, drop-drop}
use Rattle.std.proofs.lemmas.Nat.{from_le_bytes-to_le_bytes_2, from_le_bytes-to_le_bytes_4, from_le_bytes-to_le_bytes_8}
use Rattle.orc_bits.specs.Memory.{number}
use Rattle.orc_elf.proofs.Refusals.{good_refuses}
use Rattle.orc_elf.specs.Fields.{Field, part, number_at, exact, up_to, refused}

-- ---- numbers

pub number_2 : (n : ℕ) → n < 2 ^ 16 → number (to_le_bytes w16 n) ≡ n
number_2 n h = let e = from_le_bytes-to_le_bytes_2 n h in omega arith

pub number_4 : (n : ℕ) → n < 2 ^ 32 → number (to_le_bytes w32 n) ≡ n
number_4 n h = let e = from_le_bytes-to_le_bytes_4 n h in omega arith

pub number_8 : (n : ℕ) → n < 2 ^ 64 → number (to_le_bytes w64 n) ≡ n
number_8 n h = let e = from_le_bytes-to_le_bytes_8 n h in omega arith

-- ---- parts

pub part_after : (xs ys : List ℕ) (k n : ℕ) → part (xs ++ ys) (length xs + k) n ≡ part ys k n
part_after xs ys k n = ap (take n) (sym (drop-drop k (length xs) (xs ++ ys)) ∙ ap (drop k) (drop_at xs ys (length xs) refl))

pub part_here : (bytes pre xs post : List ℕ) (at n : ℕ) → bytes ≡ pre ++ (xs ++ post) → at ≡ length pre → n ≡ length xs → part bytes at n ≡ xs
part_here bytes pre xs post at n e a l =
    ap (λ b. part b at n) e ∙ ap (take n) (drop_at pre (xs ++ post) at (sym a)) ∙ take_at xs post n (sym l)

pub number_after : (bytes xs ys : List ℕ) (at k n : ℕ) → bytes ≡ xs ++ ys → at ≡ length xs → number_at bytes (at + k) n ≡ number_at ys k n
unfolding number_at
number_after bytes xs ys at k n e a = ap (λ b. number (part b (at + k) n)) e ∙ ap (λ m. number (part (xs ++ ys) (m + k) n)) a ∙ ap number (part_after xs ys k n)

pub number_here : (bytes xs ys : List ℕ) (at n : ℕ) → bytes ≡ xs ++ ys → at ≡ length xs → number_at bytes at n ≡ number_at ys 0 n
unfolding number_at
number_here bytes xs ys at n e a = ap (λ b. number (part b at n)) e ∙ ap (λ t. number (take n t)) (drop_at xs ys at (sym a))

-- ---- fields that are there and allowed

pub good : (bytes : List ℕ) (f : Field) → f.at + f.size ≤ length bytes → f.allowed ≡ true → refused bytes f ≡ None
good bytes f there allowed = good_refuses bytes f (record { there = there; holds = allowed })

pub exact_good : (bytes : List ℕ) (at size n : ℕ) → at + size ≤ length bytes → number_at bytes at size ≡ n → refused bytes (exact bytes at size n) ≡ None
exact_good bytes at size n there is = good bytes (exact bytes at size n) there (eq-eqb (number_at bytes at size) n is)

pub up_to_good : (bytes : List ℕ) (at size most n : ℕ) → at + size ≤ length bytes → number_at bytes at size ≡ n → n ≤ most → refused bytes (up_to bytes at size most) ≡ None
up_to_good bytes at size most n there is few = good bytes (up_to bytes at size most) there (le-leb (number_at bytes at size) most (omega arith))
