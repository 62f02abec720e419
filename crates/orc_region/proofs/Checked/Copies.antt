-- The opcodes that far loads are, and the copies that stand for them.
use Rattle.std.proofs.Common.{◌≡◌, ℕ, zero, suc, ◌*◌, ◌<◌, ◌≤◌, nat_le, true, false, Option, Some, None, refl, sym, ap, subst, arith}
use Rattle.std.proofs.lemmas.Bool.{leb-true}
use Rattle.orc_bits.proofs.Memories.{none_some, some_one}
use Rattle.orc_ops.specs.declared.far.Far.{Far}
use Rattle.orc_ops.specs.declared.far.Far.TheVariants.{Loadoffb, Loadoffw, Loadoffl, Loadupdb, Loadupib, Ldresnearb, Ldresnearl, Ldreslinb, Ldreslinl}
use Rattle.orc_ops.specs.declared.opcode.Op.{Op}
use Rattle.orc_ops.specs.declared.opcode.Op.TheVariants as op
use Rattle.orc_ops.specs.declared.opcode.Kind.TheVariants as kind
use Rattle.orc_ops.specs.declared.target.Target.{Target as CodeTarget}
use Rattle.orc_ops.specs.declared.target.Target.TheVariants as target
use Rattle.orc_ops.specs.Far.{far_of, far_size, far_scalars}
use Rattle.orc_ops.specs.Table.{row, size_of_result, size_of_source}
use Rattle.orc_ops.specs.Targets.{class_for}
use Rattle.orc_program.specs.Checks.{takes_no_prefix, way_of}
use Rattle.orc_program.specs.Kept.{count_sizes, source_count}
use Rattle.sse_laws.specs.Meets.{is_sum, widest}
use Rattle.sse_shift.specs.Shifts.{has_shift}
use Rattle.orc_region.specs.Code.{computed_by, computed_op}
use Rattle.orc_region.proofs.Sizes.Cost.{far_length}
use Rattle.orc_region.proofs.Checked.Sized.{HasPrefix}

-- scalars are used as patterns of four bytes
abbrev AreFour : (ℕ → ℕ) → ℕ → Type 0
AreFour way n = (i : ℕ) → 1 ≤ i → i < suc n → way i ≡ 4

four_none : (way : ℕ → ℕ) → AreFour way 0
four_none way i l m = absurd (omega (arith, l, m))

four_one : (way : ℕ → ℕ) → way 1 ≡ 4 → AreFour way 1
four_one way a zero l m = absurd (omega (arith, l))
four_one way a (suc zero) l m = a
four_one way a (suc (suc i)) l m = absurd (omega (arith, m))

four_two : (way : ℕ → ℕ) → way 1 ≡ 4 → way 2 ≡ 4 → AreFour way 2
four_two way a b zero l m = absurd (omega (arith, l))
four_two way a b (suc zero) l m = a
four_two way a b (suc (suc zero)) l m = b
four_two way a b (suc (suc (suc i))) l m = absurd (omega (arith, m))

no_class : (o : Op) → class_for o target.Sse2 ≡ 0 → class_for o target.Sse41 ≡ 0 → (t : CodeTarget) → class_for o t ≡ 0
no_class o a b target.Sse2 = a
no_class o a b target.Sse41 = b

-- an opcode is this far load, and its code is that of a copy
pub record IsCopied (o : Op) (load : Far) : Type 0 where
  pub kind : (row o).kind ≡ kind.Far
  pub result : size_of_result o 0 ≡ far_size load
  pub second : size_of_result o 1 ≡ 0
  pub source : size_of_source o 0 ≡ far_size load
  pub count : source_count o ≡ suc (far_scalars load)
  pub ways : AreFour (way_of o) (far_scalars load)
  pub class : (t : CodeTarget) → class_for o t ≡ 0
  -- so many elements of it, of which a register holds all scalars too, are few
  pub few : (count : ℕ) → count ≤ 16 → count * widest o ≤ 16 → far_length load count ≤ 313
  -- no shift, so no count that a rule has in itself
  pub plain : has_shift o ≡ false
  -- the copy
  pub to : size_of_result (computed_op o) 0 ≡ far_size load
  pub no_second : size_of_result (computed_op o) 1 ≡ 0
  pub from : size_of_source (computed_op o) 0 ≡ far_size load
  pub no_other : size_of_source (computed_op o) 1 ≡ 0
  pub no_sum : is_sum (row (computed_op o)).kind ≡ false
  pub small : widest (computed_op o) ≤ 8

-- by what the table says of an opcode and of its copy
tabled : (o : Op) (load : Far) → (row o).kind ≡ kind.Far → (size_of_result o 0 ≡ far_size load) × (size_of_result o 1 ≡ 0) × (size_of_source o 0 ≡ far_size load) × (source_count o ≡ suc (far_scalars load)) → AreFour (way_of o) (far_scalars load)
    → (class_for o target.Sse2 ≡ 0) × (class_for o target.Sse41 ≡ 0) × (has_shift o ≡ false) → ((count : ℕ) → count ≤ 16 → count * widest o ≤ 16 → far_length load count ≤ 313)
    → (size_of_result (computed_op o) 0 ≡ far_size load) × (size_of_result (computed_op o) 1 ≡ 0) × (size_of_source (computed_op o) 0 ≡ far_size load) × (size_of_source (computed_op o) 1 ≡ 0) × (is_sum (row (computed_op o)).kind ≡ false) × (widest (computed_op o) ≤ 8) → IsCopied o load
tabled o load kind sizes ways plain few copy = record {
  kind = kind;
  result = sizes.0;
  second = sizes.1;
  source = sizes.2;
  count = sizes.3;
  ways = ways;
  class = no_class o plain.0 plain.1;
  few = few;
  plain = plain.2;
  to = copy.0;
  no_second = copy.1;
  from = copy.2;
  no_other = copy.3;
  no_sum = copy.4;
  small = copy.5;
}

-- with scalars of four bytes, at most four elements are done at once
with_scalars : (load : Far) → ((n : ℕ) → n ≤ 4 → far_length load n ≤ 313) → (count : ℕ) → count ≤ 16 → count * 4 ≤ 16 → far_length load count ≤ 313
with_scalars load few count most h = few count (omega (arith, h))

pub copied : (o : Op) (load : Far) → far_of o ≡ Some load → IsCopied o load
copied op.Loadoffb load e = subst (IsCopied op.Loadoffb) (some_one Loadoffb load e) (tabled op.Loadoffb Loadoffb refl (refl, refl, refl, refl) (four_one (way_of op.Loadoffb) refl) (refl, refl, refl) (λ n m h. omega arith) (refl, refl, refl, refl, refl, omega arith))
copied op.Loadoffw load e = subst (IsCopied op.Loadoffw) (some_one Loadoffw load e) (tabled op.Loadoffw Loadoffw refl (refl, refl, refl, refl) (four_one (way_of op.Loadoffw) refl) (refl, refl, refl) (λ n m h. omega arith) (refl, refl, refl, refl, refl, omega arith))
copied op.Loadoffl load e = subst (IsCopied op.Loadoffl) (some_one Loadoffl load e) (tabled op.Loadoffl Loadoffl refl (refl, refl, refl, refl) (four_one (way_of op.Loadoffl) refl) (refl, refl, refl) (λ n m h. omega arith) (refl, refl, refl, refl, refl, omega arith))
copied op.Loadupdb load e = subst (IsCopied op.Loadupdb) (some_one Loadupdb load e) (tabled op.Loadupdb Loadupdb refl (refl, refl, refl, refl) (four_none (way_of op.Loadupdb)) (refl, refl, refl) (λ n m h. omega (arith, m)) (refl, refl, refl, refl, refl, omega arith))
copied op.Loadupib load e = subst (IsCopied op.Loadupib) (some_one Loadupib load e) (tabled op.Loadupib Loadupib refl (refl, refl, refl, refl) (four_none (way_of op.Loadupib)) (refl, refl, refl) (λ n m h. omega (arith, m)) (refl, refl, refl, refl, refl, omega arith))
copied op.Ldresnearb load e = subst (IsCopied op.Ldresnearb) (some_one Ldresnearb load e) (tabled op.Ldresnearb Ldresnearb refl (refl, refl, refl, refl) (four_two (way_of op.Ldresnearb) refl refl) (refl, refl, refl) (with_scalars Ldresnearb (λ n m. omega (arith, m))) (refl, refl, refl, refl, refl, omega arith))
copied op.Ldresnearl load e = subst (IsCopied op.Ldresnearl) (some_one Ldresnearl load e) (tabled op.Ldresnearl Ldresnearl refl (refl, refl, refl, refl) (four_two (way_of op.Ldresnearl) refl refl) (refl, refl, refl) (with_scalars Ldresnearl (λ n m. omega (arith, m))) (refl, refl, refl, refl, refl, omega arith))
copied op.Ldreslinb load e = subst (IsCopied op.Ldreslinb) (some_one Ldreslinb load e) (tabled op.Ldreslinb Ldreslinb refl (refl, refl, refl, refl) (four_two (way_of op.Ldreslinb) refl refl) (refl, refl, refl) (with_scalars Ldreslinb (λ n m. omega (arith, m))) (refl, refl, refl, refl, refl, omega arith))
copied op.Ldreslinl load e = subst (IsCopied op.Ldreslinl) (some_one Ldreslinl load e) (tabled op.Ldreslinl Ldreslinl refl (refl, refl, refl, refl) (four_two (way_of op.Ldreslinl) refl refl) (refl, refl, refl) (with_scalars Ldreslinl (λ n m. omega (arith, m))) (refl, refl, refl, refl, refl, omega arith))
copied other load e = absurd (none_some e)

-- the computed opcode has no larger operand
computed_table : (o : Op) → nat_le (widest (computed_op o)) (widest o) ≡ true
computed_table op.Absb = refl
computed_table other = refl

pub computed_widest : (o : Op) → widest (computed_op o) ≤ widest o
computed_widest o = leb-true (widest (computed_op o)) (widest o) (computed_table o)

-- a prefix that is fine for a far load is 1, which is fine for the copy
pub computed_prefix : (o : Op) (prefix : ℕ) → HasPrefix o prefix → HasPrefix (computed_op o) prefix
computed_prefix o prefix h = go (far_of o) refl
  where
    go : (load : Option Far) → far_of o ≡ load → HasPrefix (computed_op o) prefix
    go None e = subst (λ p. HasPrefix p prefix) (sym (ap (computed_by o) e)) h
    go (Some load) e =
        let about = copied o load e in
        let one : prefix ≡ 1 = h.alone (ap takes_no_prefix about.kind) in
        record { few = subst (λ k. widest (computed_op o) * k ≤ 8) (sym one) (let l = about.small in omega (arith, l)); one = λ s. one; alone = λ s. one }

-- a far load has one result
pub one_result : (load : Far) → count_sizes (far_size load) 0 ≡ 1
one_result Loadoffb = refl
one_result Loadoffw = refl
one_result Loadoffl = refl
one_result Loadupdb = refl
one_result Loadupib = refl
one_result Ldresnearb = refl
one_result Ldresnearl = refl
one_result Ldreslinb = refl
one_result Ldreslinl = refl
