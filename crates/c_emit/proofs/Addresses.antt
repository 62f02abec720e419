-- Addresses of bytes, by exact integers.
use Rattle.std.proofs.Common.{◌≡◌, ℕ, ◌+◌, ◌*◌, ◌^◌, ◌<◌, nat_lt, if◌then◌else◌, true, Option, Some, None, ap, ◌∙◌, arith}
use Rattle.std.specs.Prelude.{ℤ, pos, negsuc, ◌+ℤ◌, ◌-ℤ◌, ◌*ℤ◌}
use Rattle.std.proofs.lemmas.Int.{ints}
use Rattle.std.proofs.lemmas.Bool.Decides.{nat_tests}
use Rattle.orc_bits.specs.Memory.{bind}
use Rattle.c_run.specs.declared.tree.CIndex.{CIndex}
use Rattle.c_run.specs.Meaning.{Turn, int64, address, index_by}

-- an integer between -2 ^ 63 and 2 ^ 63 is an int64_t
int64_is : (z : ℤ) (k m : ℕ) → z ≡ pos k -ℤ pos m → k < 2 ^ 63 → m < 2 ^ 63 → int64 z ≡ Some z
int64_is (pos n) k m e p q = let l : n < 2 ^ 63 = omega (arith, ints, e, p) in let t : nat_lt n (2 ^ 63) ≡ true = grind (arith, nat_tests) in ap (λ b. if b then Some (pos n) else None) t
int64_is (negsuc n) k m e p q = let l : n < 2 ^ 63 = omega (arith, ints, e, q) in let t : nat_lt n (2 ^ 63) ≡ true = grind (arith, nat_tests) in ap (λ b. if b then Some (negsuc n) else None) t

address_is : (z : ℤ) (a : ℕ) → z ≡ pos a → a < 2 ^ 64 → address z ≡ Some a
address_is z a e l = ap address e ∙ (let t : nat_lt a (2 ^ 64) ≡ true = grind (arith, nat_tests) in ap (λ b. if b then Some a else None) t)

-- the row's distance is k less m, and no step of the sum leaves an int64_t
pub byte_at_is : (t : Turn) (x : CIndex) (base : ℕ) (stride : ℤ) (k m a : ℕ) → pos t.row *ℤ stride ≡ pos k -ℤ pos m → pos t.element *ℤ pos x.size ≡ pos (t.element * x.size) → k < 2 ^ 47 → m < 2 ^ 47 → t.element * x.size < 2 ^ 47 → x.offset < 2 ^ 8 → a + m ≡ base + k + t.element * x.size + x.offset → a < 2 ^ 47
    → bind (index_by t x (record { base = base; stride = stride })) (λ z. address (pos base +ℤ z)) ≡ Some a
byte_at_is t x base stride k m a r s hk hm he ho e l =
    let w : ℤ = pos t.row *ℤ stride in
    let u : ℤ = pos t.element *ℤ pos x.size in
    let n : ℕ = t.element * x.size in
    let end : ℤ → Option ℕ = λ z. address (pos base +ℤ z) in
    let i1 : int64 w ≡ Some w = int64_is w k m r (omega (arith, hk)) (omega (arith, hm)) in
    let i2 : int64 u ≡ Some u = int64_is u n 0 (s ∙ (omega (arith, ints))) (omega (arith, he)) (omega arith) in
    let i3 : int64 (w +ℤ u) ≡ Some (w +ℤ u) = int64_is (w +ℤ u) (k + n) m (omega (arith, ints, r, s)) (omega (arith, hk, he)) (omega (arith, hm)) in
    let i4 : int64 (w +ℤ u +ℤ pos x.offset) ≡ Some (w +ℤ u +ℤ pos x.offset) = int64_is (w +ℤ u +ℤ pos x.offset) (k + n + x.offset) m (omega (arith, ints, r, s)) (omega (arith, hk, he, ho)) (omega (arith, hm)) in
    ap (λ (o : Option ℤ). bind (bind o (λ row. bind (int64 u) (λ element. bind (int64 (row +ℤ element)) (λ sum. int64 (sum +ℤ pos x.offset))))) end) i1
    ∙ ap (λ (o : Option ℤ). bind (bind o (λ element. bind (int64 (w +ℤ element)) (λ sum. int64 (sum +ℤ pos x.offset)))) end) i2
    ∙ ap (λ (o : Option ℤ). bind (bind o (λ sum. int64 (sum +ℤ pos x.offset))) end) i3
    ∙ ap (λ (o : Option ℤ). bind o end) i4
    ∙ address_is (pos base +ℤ (w +ℤ u +ℤ pos x.offset)) a (omega (arith, ints, r, s, e)) (omega (arith, l))
