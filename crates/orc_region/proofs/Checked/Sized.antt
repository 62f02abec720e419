-- The sizes of opcodes' operands.
use Rattle.std.proofs.Common.{◌≡◌, ◌≢◌, ℕ, ◌*◌, ◌/◌, ◌<◌, ◌≤◌, ◌==◌, ◌&&◌, ◌||◌, not, max, nat_lt, nat_le, Bool, true, false, if◌then◌else◌, is_some, None, refl, sym, ap, ◌∙◌, subst, arith, ◌⊎◌, inl, inr, ⊎_elim}
use Rattle.std.specs.List.{list_any}
use Rattle.std.proofs.lemmas.Bool.{true≢false, cases_lt, eqb-true, ltb-true, ltb-false, leb-true, or_parts}
use Rattle.orc_bits.proofs.LaneLaws.{eq_false}
use Rattle.orc_ops.specs.declared.opcode.Op.{Op}
use Rattle.orc_ops.specs.declared.opcode.Op.TheVariants as op
use Rattle.orc_ops.specs.declared.opcode.Kind.{Kind}
use Rattle.orc_ops.specs.declared.opcode.Kind.TheVariants as kind
use Rattle.orc_ops.specs.Table.{row, size_of_result, size_of_source}
use Rattle.orc_ops.specs.Far.{far_of}
use Rattle.orc_program.specs.Kept.{count_sizes, source_count}
use Rattle.orc_program.specs.Checks.{takes_no_prefix, is_shift_kind, is_count, operand_sizes, is_bad_prefix, way_of}
use Rattle.orc_program.proofs.Sizes.{both}
use Rattle.orc_frame.specs.Frame.{period}
use Rattle.sse_laws.specs.Meets.{is_shift, is_sum, size_beside, widest}

-- a shift has two sources
pub shift_two : (o : Op) → is_shift (row o).kind ≡ true → size_of_source o 1 ≡ 8
shift_two op.Shlb h = refl
shift_two op.Shlw h = refl
shift_two op.Shll h = refl
shift_two op.Shlq h = refl
shift_two op.Shrsb h = refl
shift_two op.Shrsw h = refl
shift_two op.Shrsl h = refl
shift_two op.Shrsq h = refl
shift_two op.Shrub h = refl
shift_two op.Shruw h = refl
shift_two op.Shrul h = refl
shift_two op.Shruq h = refl
shift_two other h = absurd (true≢false (sym h))

pub one_shift : (o : Op) → size_of_source o 1 ≡ 0 → is_shift (row o).kind ≡ false
one_shift o e = go (is_shift (row o).kind) refl
  where
    go : (b : Bool) → is_shift (row o).kind ≡ b → b ≡ false
    go false q = refl
    go true q = absurd (omega (arith, e, shift_two o q))

-- how many there are of two sizes
pub some_sizes : (a b : ℕ) → a ≢ 0 → (count_sizes a b ≡ 1) × (b ≡ 0) ⊎ (count_sizes a b ≡ 2) × (b ≢ 0)
some_sizes a b ne = go (b == 0) refl
  where
    first : count_sizes a b ≡ (if b == 0 then 1 else 2)
    first = ap (λ t. if t then 0 else (if b == 0 then 1 else 2)) (eq_false a 0 ne)

    go : (t : Bool) → (b == 0) ≡ t → (count_sizes a b ≡ 1) × (b ≡ 0) ⊎ (count_sizes a b ≡ 2) × (b ≢ 0)
    go true e = inl (first ∙ ap (λ t. if t then 1 else 2) e, eqb-true b 0 e)
    go false e = inr (first ∙ ap (λ t. if t then 1 else 2) e, λ z. true≢false (sym (ap (λ x. x == 0) z) ∙ e))

-- only far loads have a third source
third_table : (o : Op) → is_some (far_of o) || size_of_source o 2 == 0 ≡ true
third_table op.Absb = refl
third_table other = refl

pub near_count : (o : Op) → far_of o ≡ None → source_count o ≡ count_sizes (size_of_source o 0) (size_of_source o 1)
near_count o e =
    let none : (size_of_source o 2 == 0) ≡ true = sym (ap (λ f. is_some f || size_of_source o 2 == 0) e) ∙ third_table o in
    ap (λ b. if b then count_sizes (size_of_source o 0) (size_of_source o 1) else 3) none

-- each opcode has a result and a source
table : (o : Op) → nat_lt 0 (size_of_result o 0) && nat_lt 0 (size_of_source o 0) ≡ true
table op.Absb = refl
table other = refl

pub record HasSizes (o : Op) : Type 0 where
  pub result : 0 < size_of_result o 0
  pub source : 0 < size_of_source o 0

pub has_sizes : (o : Op) → HasSizes o
has_sizes o =
    let a = both (nat_lt 0 (size_of_result o 0)) (nat_lt 0 (size_of_source o 0)) (table o) in
    record { result = ltb-true _ _ a.0; source = ltb-true _ _ a.1 }

-- ---- prefixes

same_shift : (k : Kind) → is_shift_kind k ≡ is_shift k
same_shift kind.Shift = refl
same_shift other = refl

sum_alone : (k : Kind) → is_sum k ≡ true → takes_no_prefix k ≡ true
sum_alone kind.Sum h = refl
sum_alone other h = absurd (true≢false (sym h))

widest_table : (o : Op) → nat_le (widest o) 8 ≡ true
widest_table op.Absb = refl
widest_table other = refl

and_true : (b : Bool) → b && true ≡ b
and_true true = refl
and_true false = refl

beside_is : (o : Op) → (if is_count o 1 then 0 else size_of_source o 1) ≡ size_beside o
beside_is o = ap (λ b. if b then 0 else size_of_source o 1) (and_true (is_shift_kind (row o).kind) ∙ same_shift (row o).kind)

most_times : (a b k : ℕ) → a * k ≤ 8 → b * k ≤ 8 → max a b * k ≤ 8
most_times a b k h g = ⊎_elim
    (λ l. subst (λ m. m * k ≤ 8) (let e : b ≡ max a b = omega (arith, l) in e) g)
    (λ l. subst (λ m. m * k ≤ 8) (let e : a ≡ max a b = omega (arith, l) in e) h)
    (cases_lt a b)

-- a prefix that is not bad
pub record HasPrefix (o : Op) (prefix : ℕ) : Type 0 where
  pub few : widest o * prefix ≤ 8
  pub one : is_sum (row o).kind ≡ true → prefix ≡ 1
  pub alone : takes_no_prefix (row o).kind ≡ true → prefix ≡ 1

pub prefix_ok : (o : Op) (prefix : ℕ) → is_bad_prefix o prefix ≡ false → HasPrefix o prefix
prefix_ok o prefix h = go (prefix == 1) refl h
  where
    go : (b : Bool) → (prefix == 1) ≡ b → (not b && (takes_no_prefix (row o).kind || list_any (λ size. nat_lt 8 (size * prefix)) (operand_sizes o))) ≡ false → HasPrefix o prefix
    go true e h =
        let one : prefix ≡ 1 = eqb-true prefix 1 e in
        record { few = subst (λ p. widest o * p ≤ 8) (sym one) (let l : widest o ≤ 8 = leb-true (widest o) 8 (widest_table o) in omega (arith, l)); one = λ s. one; alone = λ s. one }
    go false e h =
        let a = or_parts (takes_no_prefix (row o).kind) _ h in
        let r0 = or_parts (nat_lt 8 (size_of_result o 0 * prefix)) _ a.1 in
        let r1 = or_parts (nat_lt 8 (size_of_result o 1 * prefix)) _ r0.1 in
        let s0 = or_parts (nat_lt 8 (size_of_source o 0 * prefix)) _ r1.1 in
        let s1 = or_parts (nat_lt 8 ((if is_count o 1 then 0 else size_of_source o 1) * prefix)) _ s0.1 in
        record {
          few = most_times (max (size_of_result o 0) (size_of_result o 1)) (max (size_of_source o 0) (size_beside o)) prefix
              (most_times (size_of_result o 0) (size_of_result o 1) prefix (ltb-false 8 (size_of_result o 0 * prefix) r0.0) (ltb-false 8 (size_of_result o 1 * prefix) r1.0))
              (most_times (size_of_source o 0) (size_beside o) prefix (ltb-false 8 (size_of_source o 0 * prefix) s0.0) (subst (λ n. n * prefix ≤ 8) (beside_is o) (ltb-false 8 ((if is_count o 1 then 0 else size_of_source o 1) * prefix) s1.0)));
          one = λ s. absurd (true≢false (sym (sum_alone (row o).kind s) ∙ a.0));
          alone = λ s. absurd (true≢false (sym s ∙ a.0));
        }

-- ---- ways and periods

first_table : (o : Op) → (period (way_of o 0) == size_of_source o 0) ≡ true
first_table op.Absb = refl
first_table other = refl

second_table : (o : Op) → (size_of_source o 1 == 0 || period (way_of o 1) == size_of_source o 1) ≡ true
second_table op.Absb = refl
second_table other = refl

pub first_period : (o : Op) → period (way_of o 0) ≡ size_of_source o 0
first_period o = eqb-true _ _ (first_table o)

pub second_period : (o : Op) → size_of_source o 1 ≢ 0 → period (way_of o 1) ≡ size_of_source o 1
second_period o ne = eqb-true _ _ (sym (ap (λ b. b || period (way_of o 1) == size_of_source o 1) (eq_false (size_of_source o 1) 0 ne)) ∙ second_table o)

-- ---- sums

-- an opcode that adds to an accumulator has one result, of which a running sum has more than one lane
pub record HasSum (o : Op) : Type 0 where
  pub no_second : size_of_result o 1 ≡ 0
  pub some : 1 ≤ 16 / size_of_result o 0

pub sum_ok : (o : Op) → is_sum (row o).kind ≡ true → HasSum o
sum_ok op.Accw h = record { no_second = refl; some = omega arith }
sum_ok op.Accl h = record { no_second = refl; some = omega arith }
sum_ok op.Accsadubl h = record { no_second = refl; some = omega arith }
sum_ok other h = absurd (true≢false (sym h))
