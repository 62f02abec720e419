-- There is a good call: one dest of one byte.
use Rattle.std.proofs.Common.{codes, [], ◌∷◌, ◌≡◌, ℕ, ◌+◌, ◌*◌, ◌%◌, ◌^◌, ◌<◌, ◌≤◌, ◌==◌, nat_lt, Bool, true, false, if◌then◌else◌, List, length, Option, Some, None, refl, sym, ap, ◌∙◌, subst, arith, ◌⊎◌, inl, inr, ⊎_elim, lit<}
use Rattle.std.proofs.lemmas.Bool.{cases_lt}
use Rattle.orc_bits.specs.Lanes.{from_bytes}
use Rattle.orc_bits.proofs.LaneLaws.{AreBytes-from_bytes, length-from_bytes}
use Rattle.orc_bits.specs.Memory.{Memory, IsMapped, word}
use Rattle.x86_ins.specs.Machine.{Core, Point}
use Rattle.orc_frame.specs.Parts.{base_word, stride_word}
use Rattle.orc_frame.specs.Subject.{Call, Subject, IsArray, InArray}
use Rattle.orc_ops.specs.declared.opcode.Op.TheVariants.{Addb}
use Rattle.orc_program.specs.declared.program.VarKind.TheVariants as kind
use Rattle.orc_program.specs.declared.program.Operand.TheVariants as operand
use Rattle.orc_program.specs.Program.{FunctionValue}
use Rattle.orc_program.specs.Facts.{facts_of}
use Rattle.orc_frame.specs.GoodCall.{GoodCall}
use Rattle.orc_region.proofs.Checked.Slots.{Limits}
use Rattle.orc_region.proofs.Calls.Agree.{InCells, near_dest, good_by_variables, cells_by_slots, cells_by_variables}
use Rattle.orc_frame.specs.Function.{subject_of}

abbrev pub inside : ℕ → ℕ → ℕ → Bool
inside low high a = if nat_lt a low then false else nat_lt a high

abbrev pub memory : Memory
memory a =
    if a == 65536 then Some 5
    else if inside 4096 4400 a then Some (if a == 4096 then 1 else if a == 4114 then 1 else 0)
    else if inside 1046528 1048584 a then Some 0
    else None

abbrev pub core : Core
core = record { gpr = λ r. if r == 7 then 4096 else if r == 4 then 1048576 else 9; xmm = λ r. from_bytes (λ i. 0); flags = None; memory = memory }

abbrev pub point : Point
point = record { core = core; rip = 1073741824 }

abbrev pub call : Call
call = record { n = 1; m = 0; base = λ k. 65536; stride = λ k. 0; param = λ j. 0 }

-- a function that doubles the bytes of its one array
abbrev pub doubles : FunctionValue
doubles = record {
  name = codes "f";
  two_d = false;
  vars = record { kind = kind.Dest; size = 1; name = codes "d1"; number = 0; words = [] } ∷ [];
  insns = record { op = Addb; prefix = 1; results = record { items = operand.Var 0 ∷ [] }; sources = record { items = operand.Var 0 ∷ operand.Var 0 ∷ [] }; line = 3 } ∷ [];
  notes = record { n = None; m = None; backup = None };
}

abbrev pub subject : Subject
subject = subject_of doubles

abbrev Known : ℕ → Type 0
Known a = (a ≡ 65536) ⊎ (((4096 ≤ a) × (a < 4400)) ⊎ ((1046528 ≤ a) × (a < 1048584)))

mapped : (a : ℕ) → Known a → IsMapped memory a
mapped a h = grind (arith)

known : (a : ℕ) → IsMapped memory a → Known a
known a h = grind (arith)

abbrev or_zero : Option ℕ → ℕ
or_zero None = 0
or_zero (Some v) = v

small_bytes : (a v : ℕ) → memory a ≡ Some v → v < 256
small_bytes a v h = at (memory a) h below
  where
    below : or_zero (memory a) < 256
    below = grind (arith)

    at : (o : Option ℕ) → o ≡ Some v → or_zero o < 256 → v < 256
    at o e l = subst (λ x. or_zero x < 256) e l

registers_small : (r : ℕ) → core.gpr r < 2 ^ 64
registers_small r = grind (arith)

only : (k : ℕ) → IsArray subject k → k ≡ 0
only k (inl h) = omega (arith, h)
only k (inr h) = absurd (omega (arith, h.0, h.1))

-- the one byte of the one cell
cell_is : (a : ℕ) → InArray subject call 0 a → a ≡ 65536
cell_is a w = w.6 ∙ (let z : w.0 * 0 ≡ 0 = omega arith in let q : (65536 + w.0 * 0 + w.2 * 1 + w.4) % 2 ^ 64 ≡ 65536 = omega (arith, z, w.3, w.5) in q)

in_slots : (a : ℕ) → InCells doubles call a → a ≡ 65536
in_slots a w = cell_is a (subst (λ k. InArray subject call k a) (only w.0 w.1.0) w.2)

few : Limits doubles
few = record { dests = omega arith; sources = omega arith; accs = omega arith }

in_cell : (a : ℕ) → subject.cells call a → a ≡ 65536
in_cell a w = in_slots a (cells_by_variables doubles few call (λ k h. lit< tt) refl a w)

the_cell : (a : ℕ) → a ≡ 65536 → subject.cells call a
the_cell a e = cells_by_slots doubles few call (λ k h. lit< tt) a (0, near_dest doubles few 0 (omega arith), (0, omega arith, 0, omega arith, 0, omega arith, e))

-- it states nothing of its calls
meets_all : subject.facts call ≡ true
unfolding facts_of
meets_all = refl

pub there_is : (bytes : List ℕ) → length bytes < 1000000 → GoodCall subject (record { bytes = bytes; start = 1073741824 }) point call 0
there_is bytes short = record {
  first = refl;
  reads = record {
    n = refl;
    m = refl;
    bases = λ k h. ap (λ x. word memory (4096 + base_word x)) (only k h) ∙ refl;
    strides = λ k h. ap (λ x. word memory (4096 + stride_word x)) (only k h) ∙ refl;
    params = λ j h. absurd (omega (arith, h));
  };
  returns = refl;
  arrays = good_by_variables doubles few call (λ k h. lit< tt) refl memory (record {
    few = omega arith;
    few_rows = λ h. absurd (let e : ⊥ = cc in e);
    low = λ a w. omega (arith, in_slots a w);
    separate = λ k l h g. inr (record { size = ap subject.size (only k h.0 ∙ sym (only l g.0)); base = refl; stride = λ e. refl });
    mapped = λ a w. mapped a (inl (in_slots a w));
  });
  facts = meets_all;
  block = λ a w. mapped a (inr (inl (omega (arith, w.0), omega (arith, w.1))));
  return = λ a w. mapped a (inr (inr (omega (arith, w.0), omega (arith, w.1))));
  frame = λ a w. mapped a (inr (inr (omega (arith, w.0, w.1), omega (arith, w.0, w.1))));
  no_more = λ a m. ⊎_elim
      (λ e. inl (the_cell a e))
      (λ r. ⊎_elim (λ b. inr (inl (omega (arith, b.0), omega (arith, b.1)))) (λ b. ⊎_elim (λ l. inr (inr (inr (omega (arith, b.0), omega (arith, l))))) (λ g. inr (inr (inl (g, omega (arith, b.1))))) (cases_lt a 1048576)) r)
      (known a m);
  disjoint = record {
    cells = λ a w. (λ x. omega (arith, in_cell a w, x.1), λ x. omega (arith, in_cell a w, x.0), λ x. omega (arith, in_cell a w, x.1), λ x. omega (arith, in_cell a w, x.0));
    block = λ a w. (λ x. omega (arith, w.1, x.0), λ x. omega (arith, w.1, x.1), λ x. omega (arith, w.1, x.0));
    return = λ a w x. omega (arith, w.1, x.0);
    frame = λ a w x. omega (arith, w.0, x.0);
  };
  block_low = omega arith;
  return_low = omega arith;
  frame_room = omega arith;
  code_low = omega (arith, short);
  bounded = record { gpr = registers_small; xmm = λ r. AreBytes-from_bytes (λ i. 0) (λ i l. lit< tt); size = λ r l. length-from_bytes (λ i. 0); memory = small_bytes };
}
