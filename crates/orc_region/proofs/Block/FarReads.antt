-- What far loads read in emulation: elements of bytes, and values that the copy of their size gives again.
use Rattle.std.proofs.Common.{◌≡◌, ℕ, zero, suc, ◌+◌, ◌*◌, ◌/◌, ◌%◌, ◌^◌, ◌<◌, ℤ, List, [], ◌∷◌, Option, Some, None, refl, sym, ap, ◌∙◌, subst, arith, inl, inr}
use Rattle.std.proofs.Math.Nat.{pow-succ'}
use Rattle.orc_bits.specs.Memory.{Memory, bind, read, number, value}
use Rattle.orc_ops.specs.declared.opcode.Op.TheVariants as opcode
use Rattle.orc_ops.specs.declared.far.Far.{Far}
use Rattle.orc_ops.specs.declared.far.Far.TheVariants.{Loadoffb, Loadoffw, Loadoffl, Loadupdb, Loadupib, Ldresnearb, Ldresnearl, Ldreslinb, Ldreslinl}
use Rattle.orc_ops.specs.Far.{far_size, far_first, far_second, far_value, other}
use Rattle.orc_ops.specs.Table.{size_of_source}
use Rattle.orc_ops.specs.Formula.{formula}
use Rattle.orc_ops.proofs.FarLaws.{lines}
use Rattle.orc_program.specs.Meaning.{sub_lane, lanewise}
use Rattle.orc_resample.specs.Ready.{Source, cell, element, some_or_zero, IsRead, value_at}
use Rattle.orc_resample.proofs.Brought.{value_same}
use Rattle.orc_resample.proofs.Brought.{value_alike as bytes_alike}
use Rattle.orc_region.specs.Code.{copy_of}
use Rattle.orc_region.proofs.Block.Fars.{HasByte}

-- ---- numbers of bytes

one_more : (b m p : ℕ) → b < 256 → m < p → b + 256 * m < 256 * p
one_more b m p l h = omega (arith, l, h)

read_small : (n : ℕ) (mem : Memory) (a : ℕ) → ((j : ℕ) → j < n → HasByte mem ((a + j) % 2 ^ 64)) → (bs : List ℕ) × (read n mem a ≡ Some bs) × (number bs < 256 ^ n)
read_small zero mem a h = ([], refl, omega arith)
read_small (suc n) mem a h =
    let first : HasByte mem (a % 2 ^ 64) = subst (λ x. HasByte mem (x % 2 ^ 64)) (let q : a + 0 ≡ a = omega arith in q) (h 0 (omega arith)) in
    let rest = read_small n mem (a + 1) (λ j l. subst (λ x. HasByte mem (x % 2 ^ 64)) (let q : a + suc j ≡ a + 1 + j = omega arith in q) (h (suc j) (omega (arith, l)))) in (
      first.0 ∷ rest.0,
      ap (λ o. bind o (λ b. bind (read n mem (a + 1)) (λ bs. Some (b ∷ bs)))) first.1 ∙ ap (λ o. bind o (λ bs. Some (first.0 ∷ bs))) rest.1,
      subst (λ m. first.0 + 256 * number rest.0 < m) (sym (pow-succ' 256 n)) (one_more first.0 (number rest.0) (256 ^ n) first.2 rest.2),
    )

-- the number of bytes that are there
pub value_known : (n : ℕ) (mem : Memory) (a : ℕ) → ((j : ℕ) → j < n → HasByte mem ((a + j) % 2 ^ 64)) → (v : ℕ) × (value n mem a ≡ Some v) × (v < 256 ^ n)
value_known n mem a h =
    let x = read_small n mem a h in
    (number x.0, ap (λ o. bind o (λ bs. Some (number bs))) x.1, x.2)

-- ---- elements

-- all bytes that a far load reads for this element are there
abbrev pub ReadsBytes : Far → Source → ℕ → Memory → Type 0
ReadsBytes load s i mem = (k : ℤ) → IsRead load s i k → (j : ℕ) → j < far_size load → HasByte mem ((cell load s.base k + j) % 2 ^ 64)

pub element_known : (load : Far) (s : Source) (i : ℕ) (mem : Memory) → ReadsBytes load s i mem → (k : ℤ) → IsRead load s i k → (value (far_size load) mem (cell load s.base k) ≡ Some (element load mem s.base k)) × (element load mem s.base k < 256 ^ far_size load)
element_known load s i mem h k r =
    let x = value_known (far_size load) mem (cell load s.base k) (h k r) in
    let is : element load mem s.base k ≡ x.0 = ap some_or_zero x.1 in
    (x.1 ∙ ap Some (sym is), subst (λ v. v < 256 ^ far_size load) (sym is) x.2)

-- the second element where there is one, else the first
pub other_read : (load : Far) (s : Source) (i : ℕ) → IsRead load s i (other (far_first load i s.p s.q) (far_second load i s.p s.q))
other_read load s i = go (far_second load i s.p s.q) refl
  where
    go : (o : Option ℤ) → o ≡ far_second load i s.p s.q → IsRead load s i (other (far_first load i s.p s.q) o)
    go None e = inl refl
    go (Some z) e = inr e

-- ---- values

average_small : (x y : ℕ) → x < 256 → y < 256 → (x + y + 1) / 2 < 256
average_small x y h l = omega (arith, h, l)

value_small : (load : Far) (a : ℤ → ℕ) (i p q : ℕ) → a (far_first load i p q) < 256 ^ far_size load → a (other (far_first load i p q) (far_second load i p q)) < 256 ^ far_size load → far_value load a i p q < 256 ^ far_size load
value_small Loadoffb a i p q h l = h
value_small Loadoffw a i p q h l = h
value_small Loadoffl a i p q h l = h
value_small Loadupdb a i p q h l = h
value_small Loadupib a i p q h l = average_small _ _ h l
value_small Ldresnearb a i p q h l = h
value_small Ldresnearl a i p q h l = h
value_small Ldreslinb a i p q h l = (lines.ldreslinb a i p q).0
value_small Ldreslinl a i p q h l = (lines.ldreslinl a i p q).0

-- a value has no more bytes than its load says
pub small_value : (load : Far) (s : Source) (i : ℕ) (mem : Memory) → ReadsBytes load s i mem → value_at load s mem i < 256 ^ far_size load
small_value load s i mem h =
    value_small load (element load mem s.base) i s.p s.q (element_known load s i mem h (far_first load i s.p s.q) (inl refl)).1 (element_known load s i mem h _ (other_read load s i)).1

-- the copy of a far load's size
abbrev pub copied : Far → ℕ → ℕ × ℕ
copied load v = lanewise (copy_of (far_size load)) 1 (sub_lane (8 * size_of_source (copy_of (far_size load)) 0) v) (λ p. 0)

copied_byte : (v : ℕ) → v < 256 → lanewise opcode.Copyb 1 (sub_lane 8 v) (λ p. 0) ≡ (v, 0)
unfolding formula
copied_byte v l = ap (λ x. (x, 0)) (let q : 0 + v / 2 ^ (8 * 0) % 2 ^ 8 % 2 ^ 8 * 2 ^ (8 * 0) ≡ v = omega (arith, l) in q)

copied_word : (v : ℕ) → v < 256 ^ 2 → lanewise opcode.Copyw 1 (sub_lane 16 v) (λ p. 0) ≡ (v, 0)
unfolding formula
copied_word v l = ap (λ x. (x, 0)) (let q : 0 + v / 2 ^ (16 * 0) % 2 ^ 16 % 2 ^ 16 * 2 ^ (16 * 0) ≡ v = omega (arith, l) in q)

copied_long : (v : ℕ) → v < 256 ^ 4 → lanewise opcode.Copyl 1 (sub_lane 32 v) (λ p. 0) ≡ (v, 0)
unfolding formula
copied_long v l = ap (λ x. (x, 0)) (let q : 0 + v / 2 ^ (32 * 0) % 2 ^ 32 % 2 ^ 32 * 2 ^ (32 * 0) ≡ v = omega (arith, l) in q)

-- gives such a value again
pub copy_is : (load : Far) (v : ℕ) → v < 256 ^ far_size load → copied load v ≡ (v, 0)
copy_is Loadoffb v l = copied_byte v l
copy_is Loadoffw v l = copied_word v l
copy_is Loadoffl v l = copied_long v l
copy_is Loadupdb v l = copied_byte v l
copy_is Loadupib v l = copied_byte v l
copy_is Ldresnearb v l = copied_byte v l
copy_is Ldresnearl v l = copied_long v l
copy_is Ldreslinb v l = copied_byte v l
copy_is Ldreslinl v l = copied_long v l

-- ---- memories that agree on what is read

pub value_alike : (load : Far) (s : Source) (i : ℕ) (m e : Memory) → ((k : ℤ) → IsRead load s i k → (j : ℕ) → j < far_size load → m ((cell load s.base k + j) % 2 ^ 64) ≡ e ((cell load s.base k + j) % 2 ^ 64)) → value_at load s m i ≡ value_at load s e i
value_alike load s i m e h = value_same load s m e i (λ k is. ap some_or_zero (bytes_alike (far_size load) m e (cell load s.base k) (h k is)))
