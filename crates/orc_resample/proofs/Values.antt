-- On what the values depend: the elements that are read, and the low 32 bits of the scalars that there are.
use Rattle.std.proofs.Common.{◌≡◌, ℕ, ◌+◌, ◌%◌, ◌^◌, ◌<◌, ℤ, pos, ◌+ℤ◌, ◌*ℤ◌, Some, refl, ap, ◌∙◌, subst, arith, inl, inr}
use Rattle.std.specs.Int.{int_shr}
use Rattle.orc_bits.specs.Memory.{Memory}
use Rattle.orc_bits.specs.Numbers.{cut, signed, wrap}
use Rattle.orc_ops.specs.declared.far.Far.{Far}
use Rattle.orc_ops.specs.declared.far.Far.TheVariants.{Loadoffb, Loadoffw, Loadoffl, Loadupdb, Loadupib, Ldresnearb, Ldresnearl, Ldreslinb, Ldreslinl}
use Rattle.orc_ops.specs.Far.{far_size, far_scalars, far_first, far_second, far_part, far_blend, far_value, other, scalar, place, fraction}
use Rattle.orc_resample.specs.Ready.{Source, AmongCells, cell, element, some_or_zero, IsRead, value_at}
use Rattle.orc_resample.proofs.Brought.{value_alike, value_same}

-- memories that agree on the elements that are read for one have the same value
pub value_kept : (far : Far) (s : Source) (m e : Memory) (i : ℕ) → ((x : ℕ) → AmongCells far 1 (record s { first = i }) x → m x ≡ e x) → value_at far s m i ≡ value_at far s e i
value_kept far s m e i h = value_same far s m e i same
  where
    same : (k : ℤ) → IsRead far s i k → element far m s.base k ≡ element far e s.base k
    same k r =
        let a = cell far s.base k in
        let only : IsRead far s (i + 0) k = subst (λ n. IsRead far s n k) (let q : i ≡ i + 0 = omega arith in q) r in
        ap some_or_zero (value_alike (far_size far) m e a (λ j l. h ((a + j) % 2 ^ 64) (0, omega arith, (k, only, (j, l, refl)))))

-- ---- scalars

sum_same : (i p t : ℕ) → cut 32 p ≡ cut 32 t → pos i +ℤ scalar p ≡ pos i +ℤ scalar t
sum_same i p t h = ap (λ x. pos i +ℤ signed 32 x) h

place_same : (i p q t v : ℕ) → cut 32 p ≡ cut 32 t → cut 32 q ≡ cut 32 v → place i p q ≡ place i t v
place_same i p q t v h k = ap (λ x. signed 32 x +ℤ pos i *ℤ scalar q) h ∙ ap (λ y. scalar t +ℤ pos i *ℤ signed 32 y) k

floor_same : (i p q t v : ℕ) → cut 32 p ≡ cut 32 t → cut 32 q ≡ cut 32 v → int_shr (place i p q) 16 ≡ int_shr (place i t v) 16
floor_same i p q t v h k = ap (λ x. int_shr x 16) (place_same i p q t v h k)

next_same : (i p q t v : ℕ) → cut 32 p ≡ cut 32 t → cut 32 q ≡ cut 32 v → Some (int_shr (place i p q) 16 +ℤ pos 1) ≡ Some (int_shr (place i t v) 16 +ℤ pos 1)
next_same i p q t v h k = ap (λ x. Some (int_shr x 16 +ℤ pos 1)) (place_same i p q t v h k)

fraction_same : (i p q t v : ℕ) → cut 32 p ≡ cut 32 t → cut 32 q ≡ cut 32 v → fraction i p q ≡ fraction i t v
fraction_same i p q t v h k = ap (λ x. wrap 8 (int_shr x 8)) (place_same i p q t v h k)

first_same : (far : Far) (i p q t v : ℕ) → (0 < far_scalars far → cut 32 p ≡ cut 32 t) → (1 < far_scalars far → cut 32 q ≡ cut 32 v) → far_first far i p q ≡ far_first far i t v
first_same Loadoffb i p q t v h k = sum_same i p t (h (omega arith))
first_same Loadoffw i p q t v h k = sum_same i p t (h (omega arith))
first_same Loadoffl i p q t v h k = sum_same i p t (h (omega arith))
first_same Loadupdb i p q t v h k = refl
first_same Loadupib i p q t v h k = refl
first_same Ldresnearb i p q t v h k = floor_same i p q t v (h (omega arith)) (k (omega arith))
first_same Ldresnearl i p q t v h k = floor_same i p q t v (h (omega arith)) (k (omega arith))
first_same Ldreslinb i p q t v h k = floor_same i p q t v (h (omega arith)) (k (omega arith))
first_same Ldreslinl i p q t v h k = floor_same i p q t v (h (omega arith)) (k (omega arith))

second_same : (far : Far) (i p q t v : ℕ) → (0 < far_scalars far → cut 32 p ≡ cut 32 t) → (1 < far_scalars far → cut 32 q ≡ cut 32 v) → far_second far i p q ≡ far_second far i t v
second_same Loadoffb i p q t v h k = refl
second_same Loadoffw i p q t v h k = refl
second_same Loadoffl i p q t v h k = refl
second_same Loadupdb i p q t v h k = refl
second_same Loadupib i p q t v h k = refl
second_same Ldresnearb i p q t v h k = refl
second_same Ldresnearl i p q t v h k = refl
second_same Ldreslinb i p q t v h k = next_same i p q t v (h (omega arith)) (k (omega arith))
second_same Ldreslinl i p q t v h k = next_same i p q t v (h (omega arith)) (k (omega arith))

part_same : (far : Far) (i p q t v : ℕ) → (0 < far_scalars far → cut 32 p ≡ cut 32 t) → (1 < far_scalars far → cut 32 q ≡ cut 32 v) → far_part far i p q ≡ far_part far i t v
part_same Loadoffb i p q t v h k = refl
part_same Loadoffw i p q t v h k = refl
part_same Loadoffl i p q t v h k = refl
part_same Loadupdb i p q t v h k = refl
part_same Loadupib i p q t v h k = refl
part_same Ldresnearb i p q t v h k = refl
part_same Ldresnearl i p q t v h k = refl
part_same Ldreslinb i p q t v h k = fraction_same i p q t v (h (omega arith)) (k (omega arith))
part_same Ldreslinl i p q t v h k = fraction_same i p q t v (h (omega arith)) (k (omega arith))

-- scalars with the same low 32 bits lead to the same value
pub value_scalars : (far : Far) (s t : Source) → s.base ≡ t.base → (0 < far_scalars far → cut 32 s.p ≡ cut 32 t.p) → (1 < far_scalars far → cut 32 s.q ≡ cut 32 t.q) → (mem : Memory) (i : ℕ) → value_at far s mem i ≡ value_at far t mem i
value_scalars far s t base h k mem i =
    let a = element far mem t.base in
    let first = far_first far i t.p t.q in
    ap (λ b. far_value far (element far mem b) i s.p s.q) base
    ∙ ap (λ x. far_blend far (a x) (a (other x (far_second far i s.p s.q))) (far_part far i s.p s.q)) (first_same far i s.p s.q t.p t.q h k)
    ∙ ap (λ o. far_blend far (a first) (a (other first o)) (far_part far i s.p s.q)) (second_same far i s.p s.q t.p t.q h k)
    ∙ ap (λ part. far_blend far (a first) (a (other first (far_second far i t.p t.q))) part) (part_same far i s.p s.q t.p t.q h k)

-- and to the same elements
pub reads_scalars : (far : Far) (s t : Source) → (0 < far_scalars far → cut 32 s.p ≡ cut 32 t.p) → (1 < far_scalars far → cut 32 s.q ≡ cut 32 t.q) → (i : ℕ) (k : ℤ) → IsRead far s i k → IsRead far t i k
reads_scalars far s t h g i k (inl e) = inl (e ∙ first_same far i s.p s.q t.p t.q h g)
reads_scalars far s t h g i k (inr e) = inr (e ∙ second_same far i s.p s.q t.p t.q h g)
