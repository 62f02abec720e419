-- A far load that passes the checks: its array, and the patterns of its scalars.
use Rattle.std.proofs.Common.{◌≡◌, ℕ, suc, ◌+◌, ◌*◌, ◌<◌, ◌≤◌, ◌==◌, ◌&&◌, ◌||◌, not, Bool, true, false, if◌then◌else◌, List, [], ◌∷◌, ◌++◌, length, map, Option, Some, None, refl, sym, ap, ◌∙◌, subst, arith, true≢false}
use Rattle.std.specs.Prelude.{Contains}
use Rattle.std.specs.List.{list_any, list_all, cons_option, sum_by}
use Rattle.std.proofs.lemmas.Bool.{ltb-true}
use Rattle.std.proofs.lemmas.List.Elements.{Contains-append_right}
use Rattle.std.proofs.lemmas.List.Sums.{sum_by-cons}
use Rattle.orc_bits.proofs.LaneLaws.{eq_false}
use Rattle.orc_ops.specs.declared.far.Far.{Far}
use Rattle.orc_ops.specs.declared.opcode.Op.{Op}
use Rattle.orc_ops.specs.declared.opcode.Kind.TheVariants as opkind
use Rattle.orc_ops.specs.Far.{far_of, far_size, far_scalars}
use Rattle.orc_ops.specs.Table.{row, size_of_source}
use Rattle.orc_program.specs.declared.program.Var.{Var}
use Rattle.orc_program.specs.declared.program.VarKind.{VarKind}
use Rattle.orc_program.specs.declared.program.VarKind.TheVariants as kind
use Rattle.orc_program.specs.declared.program.Operand.{Operand}
use Rattle.orc_program.specs.declared.program.Operand.TheVariants as operand
use Rattle.orc_program.specs.declared.program.Insn.{Insn}
use Rattle.orc_program.specs.declared.program.Pattern.{Pattern}
use Rattle.orc_program.specs.declared.fault.Fault.TheVariants as fault
use Rattle.orc_program.specs.Program.{FunctionValue, var_at, same_kind, is_array_kind, operand_kind, far_array}
use Rattle.orc_program.specs.Slots.{slot_of}
use Rattle.orc_program.specs.Checks.{takes_no_prefix, check, is_kind, is_scalar, is_wrong_size, is_unset, number_in, way_of, pattern_with, same_pattern, uses_from, patterns_of, source_kind_fault, source_fault, sources_fault}
use Rattle.orc_program.specs.Kept.{is_in_range, has_no_fault}
use Rattle.orc_program.specs.Need.{source_cost}
use Rattle.orc_program.proofs.Near.{or_right}
use Rattle.orc_program.proofs.KnownPatterns.{Has, used, has_uses, pattern_found}
use Rattle.orc_program.proofs.Sizes.{both}
use Rattle.x86_ins.specs.Way.{Each}
use Rattle.orc_plan.specs.declared.steps.Item.{Item}
use Rattle.orc_plan.specs.Lowered.{pattern_item, var_item, source_item, source_items}
use Rattle.orc_frame.specs.Frame.{no_pattern}
use Rattle.orc_region.specs.Code.{FromFar, far_sources, scalar_pattern, patterns_in}
use Rattle.orc_region.proofs.Block.Fars.{IsFarOf, AreScalars, behind_array}
use Rattle.orc_region.proofs.Checked.Passing.{none_left, unchecked, size_ok, Checked}
use Rattle.orc_region.proofs.Checked.Building.{Shape}
use Rattle.orc_region.proofs.Checked.Sized.{prefix_ok}
use Rattle.orc_region.proofs.Checked.Copies.{IsCopied, copied}
use Rattle.orc_region.proofs.Checked.Direct.{pattern_of, number_of}

-- an instruction that is this far load, before which values of these temps were made: where its values come from
pub record IsFarLoad (f : FunctionValue) (temps : List ℕ) (insn : Insn) : Type 0 where
  pub load : Far
  pub is : far_of insn.op ≡ Some load
  pub slot : ℕ
  pub js : List ℕ
  pub sources : far_sources load (source_items f.vars (patterns_in f) temps insn.op 0 insn.sources.items) ≡ FromFar load slot js ∷ []
  pub prefix : insn.prefix ≡ 1
  pub of : IsFarOf f (number_of f) load slot js
  pub this : of.insn ≡ insn
  pub count : length js ≡ far_scalars load
  pub patterns : Each (λ j. (j < length (patterns_in f)) × ((pattern_of f j).way ≡ 4)) js
  -- its array costs as much as any
  pub cost : 2 ≤ sum_by (source_cost f.vars) insn.sources.items

-- ---- uses by position

same_number : (n : ℕ) → (n == n) ≡ true
same_number n = grind arith

same_self : (p : Pattern) → same_pattern p p ≡ true
same_self p = go p.number
  where
    go : (o : Operand) → same_pattern (record { number = o; way = p.way }) (record { number = o; way = p.way }) ≡ true
    go (operand.Var q) = ap (λ b. b && p.way == p.way) (same_number q) ∙ same_number p.way
    go (operand.Number n) = ap (λ b. b && p.way == p.way) (same_number n) ∙ same_number p.way

module _ (vars : List Var) (op : Op) where
  here_use : (q : ℕ) (o m : Operand) (os : List Operand) → number_in vars o ≡ Some m → Has (uses_from vars op q (o ∷ os)) (used op q m)
  here_use q o m os e =
      ap (λ n. list_any (same_pattern (used op q m)) (cons_option (pattern_with (way_of op q) n) (uses_from vars op (q + 1) os))) e
      ∙ ap (λ b. b || list_any (same_pattern (used op q m)) (uses_from vars op (q + 1) os)) (same_self (used op q m))

  later_use : (q : ℕ) (p : Pattern) (o : Operand) (os : List Operand) → Has (uses_from vars op (q + 1) os) p → Has (uses_from vars op q (o ∷ os)) p
  later_use q p o os h = go (number_in vars o)
    where
      go : (n : Option Operand) → Has (cons_option (pattern_with (way_of op q) n) (uses_from vars op (q + 1) os)) p
      go None = h
      go (Some k) = or_right (same_pattern p (used op q k)) (list_any (same_pattern p) (uses_from vars op (q + 1) os)) h

-- ---- scalars

source_kind : (k : VarKind) → not (same_kind kind.Source k) ≡ false → k ≡ kind.Source
source_kind kind.Source h = refl
source_kind kind.Dest h = absurd (true≢false h)
source_kind kind.Temp h = absurd (true≢false h)
source_kind kind.Param h = absurd (true≢false h)
source_kind kind.Const h = absurd (true≢false h)
source_kind kind.Accumulator h = absurd (true≢false h)

is_not : (b : Bool) → not b ≡ false → b ≡ true
is_not true h = refl
is_not false h = absurd (true≢false h)

module _ (f : FunctionValue) (temps : List ℕ) (op : Op) (far : (row op).kind ≡ opkind.Far) where
  abbrev known : List Pattern
  known = patterns_in f

  abbrev item_at : ℕ → Operand → Item
  item_at q o = source_item f.vars known temps (way_of op q) o

  -- a scalar stands for a number
  number_known : (q : ℕ) (o : Operand) → is_scalar (operand_kind f.vars o) ≡ true → (m : Operand) × (number_in f.vars o ≡ Some m) × (item_at q o ≡ pattern_item known m (way_of op q))
  number_known q (operand.Number n) s = (operand.Number n, refl, refl)
  number_known q (operand.Var p) s = go (var_at f.vars p).kind refl s
    where
      number_is : (k : VarKind) → (var_at f.vars p).kind ≡ k
          → number_in f.vars (operand.Var p) ≡ (if same_kind kind.Param k then Some (operand.Var p) else (if same_kind kind.Const k then Some (operand.Number (var_at f.vars p).number) else None))
      number_is k e = ap (λ k. if same_kind kind.Param k then Some (operand.Var p) else (if same_kind kind.Const k then Some (operand.Number (var_at f.vars p).number) else None)) e

      go : (k : VarKind) → (var_at f.vars p).kind ≡ k → is_scalar (Some k) ≡ true → (m : Operand) × (number_in f.vars (operand.Var p) ≡ Some m) × (item_at q (operand.Var p) ≡ pattern_item known m (way_of op q))
      go kind.Param e s = (operand.Var p, number_is kind.Param e, ap (var_item f.vars known temps (way_of op q) p) e)
      go kind.Const e s = (operand.Number (var_at f.vars p).number, number_is kind.Const e, ap (var_item f.vars known temps (way_of op q) p) e)
      go kind.Temp e s = absurd (true≢false (sym s))
      go kind.Source e s = absurd (true≢false (sym s))
      go kind.Dest e s = absurd (true≢false (sym s))
      go kind.Accumulator e s = absurd (true≢false (sym s))

  abbrev IsScalar : Operand → ℕ → Type 0
  IsScalar o j = (number_in f.vars o ≡ Some (number_of f j)) × (j < length known) × ((pattern_of f j).way ≡ 4)

  scalar_known : (q : ℕ) (o : Operand) → is_scalar (operand_kind f.vars o) ≡ true → way_of op q ≡ 4 → ((m : Operand) → number_in f.vars o ≡ Some m → Has known (used op q m)) → IsScalar o (scalar_pattern (item_at q o))
  scalar_known q o s four has =
      let n = number_known q o s in
      let x = pattern_found known (used op q n.0) no_pattern (has n.0 n.1) in
      subst (λ i. IsScalar o (scalar_pattern i)) (sym n.2) (n.1 ∙ ap (λ (p : Pattern). Some p.number) (sym x.1), x.0, ap (λ (p : Pattern). p.way) x.1 ∙ four)

  abbrev items_at : ℕ → List Operand → List Item
  items_at q os = source_items f.vars known temps op q os

  abbrev numbers_at : ℕ → List Operand → List ℕ
  numbers_at q os = map scalar_pattern (items_at q os)

  numbers_length : (q : ℕ) (os : List Operand) → length (numbers_at q os) ≡ length os
  numbers_length q [] = refl
  numbers_length q (o ∷ os) = ap suc (numbers_length (q + 1) os)

  record AreKnown (q : ℕ) (os : List Operand) : Type 0 where
    scalars : AreScalars f (number_of f) os (numbers_at q os)
    patterns : Each (λ j. (j < length known) × ((pattern_of f j).way ≡ 4)) (numbers_at q os)

  scalar_ok : (prefix q : ℕ) (o : Operand) (earlier : List Insn) → 0 < q → has_no_fault (source_fault f.vars earlier op prefix q o) ≡ true → is_scalar (operand_kind f.vars o) ≡ true
  scalar_ok prefix q o earlier some h =
      let one = (none_left (source_kind_fault (row op).kind q (operand_kind f.vars o)) _ h).0 in
      let two = subst (λ k. has_no_fault (source_kind_fault k q (operand_kind f.vars o)) ≡ true) far one in
      let later : (q == 0) ≡ false = eq_false q 0 (λ e. omega (arith, e, some)) in
      let three = subst (λ b. has_no_fault (if b then check (not (is_kind kind.Source (operand_kind f.vars o))) fault.NotArray else check (not (is_scalar (operand_kind f.vars o))) fault.NotScalar) ≡ true) later two in
      is_not (is_scalar (operand_kind f.vars o)) (unchecked (not (is_scalar (operand_kind f.vars o))) fault.NotScalar three)

  all_known : (prefix : ℕ) (earlier : List Insn) (q : ℕ) (os : List Operand) → 0 < q → has_no_fault (sources_fault f.vars earlier op prefix q os) ≡ true → ((i : ℕ) → q ≤ i → i < q + length os → way_of op i ≡ 4)
      → ((p : Pattern) → Has (uses_from f.vars op q os) p → Has known p) → AreKnown q os
  all_known prefix earlier q [] some h ways has = record { scalars = tt; patterns = tt }
  all_known prefix earlier q (o ∷ os) some h ways has =
      let x = none_left (source_fault f.vars earlier op prefix q o) (sources_fault f.vars earlier op prefix (q + 1) os) h in
      let s = scalar_known q o (scalar_ok prefix q o earlier some x.0) (ways q (omega arith) (omega arith)) (λ m e. has (used op q m) (here_use f.vars op q o m os e)) in
      let rest = all_known prefix earlier (q + 1) os (omega (arith, some)) x.1 (λ i a b. ways i (omega (arith, a)) (omega (arith, b))) (λ p u. has p (later_use f.vars op q p o os u)) in
      record { scalars = (s.0, rest.scalars); patterns = ((s.1, s.2), rest.patterns) }

-- ---- the whole instruction

module _ (f : FunctionValue) (temps : List ℕ) (earlier : List Insn) (insn : Insn) (rest : List Insn) (whole : f.insns ≡ earlier ++ insn ∷ rest) (load : Far) (is : far_of insn.op ≡ Some load) where
  about : IsCopied insn.op load
  about = copied insn.op load is

  pub far_load : Shape f.vars insn → Checked f.vars earlier insn → IsFarLoad f temps insn
  far_load s c = go insn.sources.items refl (s.sources ∙ about.count) s.inside' c.sources
    where
      alone : insn.prefix ≡ 1
      alone = (prefix_ok insn.op insn.prefix c.prefix).alone (ap takes_no_prefix about.kind)

      go : (os : List Operand) → insn.sources.items ≡ os → length os ≡ suc (far_scalars load) → list_all (is_in_range f.vars) os ≡ true → has_no_fault (sources_fault f.vars earlier insn.op insn.prefix 0 os) ≡ true → IsFarLoad f temps insn
      go [] are l r h = absurd (omega (arith, l))
      go (operand.Number n ∷ os) are l r h =
          let x = none_left (source_fault f.vars earlier insn.op insn.prefix 0 (operand.Number n)) (sources_fault f.vars earlier insn.op insn.prefix (0 + 1) os) h in
          let one = (none_left (source_kind_fault (row insn.op).kind 0 None) _ x.0).0 in
          let two : has_no_fault (source_kind_fault opkind.Far 0 None) ≡ true = subst (λ k. has_no_fault (source_kind_fault k 0 None) ≡ true) about.kind one in
          absurd (true≢false (sym two))
      go (operand.Var p ∷ os) are l r h =
          let x = none_left (source_fault f.vars earlier insn.op insn.prefix 0 (operand.Var p)) (sources_fault f.vars earlier insn.op insn.prefix (0 + 1) os) h in
          let k = (var_at f.vars p).kind in
          let one = none_left (source_kind_fault (row insn.op).kind 0 (Some k)) _ x.0 in
          let two = none_left (check (is_wrong_size f.vars (size_of_source insn.op 0 * insn.prefix) (operand.Var p)) fault.SizeMismatch) (check (is_unset f.vars earlier (operand.Var p)) fault.Unset) one.1 in
          let there : has_no_fault (source_kind_fault opkind.Far 0 (Some k)) ≡ true = subst (λ t. has_no_fault (source_kind_fault t 0 (Some k)) ≡ true) about.kind one.0 in
          let source : k ≡ kind.Source = source_kind k (unchecked (not (same_kind kind.Source k)) fault.NotArray there) in
          let array : is_array_kind k ≡ true = ap is_array_kind source in
          let bytes : (var_at f.vars p).size ≡ size_of_source insn.op 0 * insn.prefix = size_ok k (var_at f.vars p).size (size_of_source insn.op 0 * insn.prefix) array (unchecked _ fault.SizeMismatch two.0) in
          let size : size_of_source insn.op 0 * insn.prefix ≡ far_size load = ap (λ n. size_of_source insn.op 0 * n) alone ∙ (let z : size_of_source insn.op 0 * 1 ≡ size_of_source insn.op 0 = omega arith in z) ∙ about.source in
          let scalars = all_known f temps insn.op about.kind insn.prefix earlier (0 + 1) os (omega arith) x.1 (λ i a b. about.ways i (omega (arith, a)) (omega (arith, b, l)))
          (λ q u. subst (λ is. Has (patterns_of f.vars is) q) (sym whole) (has_uses f.vars earlier insn rest q (subst (λ os. Has (uses_from f.vars insn.op 0 os) q) (sym are) (later_use f.vars insn.op 0 q (operand.Var p) os u)))) in
          let costs : source_cost f.vars (operand.Var p) ≡ 2 = ap (λ k. if same_kind kind.Dest k || same_kind kind.Source k then 2 else 1) source in
          record {
            load = load;
            is = is;
            slot = slot_of f.vars p;
            js = numbers_at f temps insn.op about.kind (0 + 1) os;
            sources = ap (λ os. far_sources load (source_items f.vars (patterns_in f) temps insn.op 0 os)) are ∙ ap (λ k. far_sources load (var_item f.vars (patterns_in f) temps (way_of insn.op 0) p k ∷ source_items f.vars (patterns_in f) temps insn.op (0 + 1) os)) source;
            prefix = alone;
            of = record {
              insn = insn;
              stands = subst (λ is. Contains is insn) (sym whole) (Contains-append_right earlier (insn ∷ rest) insn (0, omega arith, refl));
              loads = is;
              place = p;
              array = ap (far_array f.vars) are ∙ ap (λ b. if b then Some p else None) array;
              inside = ltb-true p (length f.vars) (both (is_in_range f.vars (operand.Var p)) (list_all (is_in_range f.vars) os) r).0;
              source = source;
              size = bytes ∙ size;
              slot = refl;
              scalars = subst (λ more. AreScalars f (number_of f) more (numbers_at f temps insn.op about.kind (0 + 1) os)) (sym (ap behind_array are)) scalars.scalars;
            };
            this = refl;
            count = numbers_length f temps insn.op about.kind (0 + 1) os ∙ (let z : length os ≡ far_scalars load = omega (arith, l) in z);
            patterns = scalars.patterns;
            cost = omega (arith, ap (sum_by (source_cost f.vars)) are, sum_by-cons (source_cost f.vars) (operand.Var p) os, costs);
          }
