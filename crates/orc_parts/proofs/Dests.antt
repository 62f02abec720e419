-- Cells of dests by array slots, as code sees them, and by variables, as the language sees them.
use Rattle.std.proofs.Common.{◌≡◌, ℕ, ◌+◌, ◌<◌, ◌^◌, Bool, true, false, if◌then◌else◌, length, refl, sym, ap, subst, arith, true≢false, inl}
use Rattle.orc_bits.proofs.Memories.{value_small}
use Rattle.orc_program.specs.declared.program.VarKind.{VarKind}
use Rattle.orc_program.specs.declared.program.VarKind.TheVariants as kind
use Rattle.orc_program.specs.Program.{FunctionValue, var_at, is_of, same_kind, count_of, count_before, has_far}
use Rattle.orc_program.specs.Slots.{slot_of}
use Rattle.orc_program.specs.Laws.{IsDestByte}
use Rattle.orc_program.specs.Cut.{IsDestCell}
use Rattle.x86_ins.specs.Machine.{Core, Bounded}
use Rattle.orc_frame.specs.Parts.{stride_word}
use Rattle.orc_frame.specs.Subject.{Call as Arguments, IsArray, InArray, InDests}
use Rattle.orc_frame.specs.GoodCall.{ReadsCall}
use Rattle.orc_frame.specs.Function.{subject_of}
use Rattle.orc_region.proofs.Checked.Slots.{Limits}
use Rattle.orc_program.proofs.Near.{all_near, element_of}
use Rattle.orc_program.proofs.Places.{before_less}
use Rattle.orc_region.proofs.Calls.Agree.{HasSlot, has_slot, in_slot, of_variable}
use Rattle.orc_parts.specs.Split.{call_with}

-- the strides that a block holds are words
pub stride_small : (f : FunctionValue) (c : Core) (args : Arguments) → Bounded c → ReadsCall (subject_of f) c args → (k : ℕ) → IsArray (subject_of f) k → args.stride k < 2 ^ 64
stride_small f c args bounded reads k h = value_small 8 c.memory (c.gpr 7 + stride_word k) (args.stride k) bounded.memory (reads.strides k h)

dest_of : (k : VarKind) → same_kind kind.Dest k ≡ true → k ≡ kind.Dest
dest_of kind.Dest h = refl
dest_of kind.Source h = absurd (true≢false (sym h))
dest_of kind.Temp h = absurd (true≢false (sym h))
dest_of kind.Param h = absurd (true≢false (sym h))
dest_of kind.Const h = absurd (true≢false (sym h))
dest_of kind.Accumulator h = absurd (true≢false (sym h))

module _ (f : FunctionValue) (few : Limits f) (near : has_far f ≡ false) (args : Arguments) (words : (k : ℕ) → IsArray (subject_of f) k → args.stride k < 2 ^ 64) where
  dest_slot : (p : ℕ) → p < length f.vars → is_of kind.Dest (var_at f.vars p) ≡ true → slot_of f.vars p < count_of kind.Dest f.vars
  dest_slot p l h =
      subst (λ x. x < count_of kind.Dest f.vars) (sym (ap (λ b. if b then count_before kind.Dest f.vars p else 4 + count_before kind.Source f.vars p) h)) (before_less kind.Dest f.vars p l h)

  pub dest_by_slot : (a p r i j : ℕ) → IsDestByte f (call_with f args) a p r i j → InDests (subject_of f) args a
  dest_by_slot a p r i j d =
      let is : is_of kind.Dest (var_at f.vars p) ≡ true = ap (same_kind kind.Dest) d.dest in
      (slot_of f.vars p, dest_slot p d.byte.array.0 is, subst (InArray (subject_of f) args (slot_of f.vars p)) (sym d.here) (in_slot f few args words p r i j d.byte (element_of f (call_with f args) near p i d.byte.element)))

  -- the variable of a dest's slot is a dest
  is_dest : (k : ℕ) → k < count_of kind.Dest f.vars → (h : HasSlot f k) → is_of kind.Dest (var_at f.vars h.place) ≡ true
  is_dest k l h = go (is_of kind.Dest (var_at f.vars h.place)) refl
    where
      go : (b : Bool) → is_of kind.Dest (var_at f.vars h.place) ≡ b → b ≡ true
      go true e = refl
      go false e =
          let s = ap (λ b. if b then count_before kind.Dest f.vars h.place else 4 + count_before kind.Source f.vars h.place) e in
          let q = h.slot in
          let d = few.dests in
          absurd (omega (arith, s, q, l, d))

  pub dest_by_variable : (a : ℕ) → InDests (subject_of f) args a → IsDestCell f (call_with f args) a
  dest_by_variable a w =
      let h = has_slot f w.0 (inl w.1) in
      let x = subst (λ k. InArray (subject_of f) args k a) (sym h.slot) w.2 in
      let b = of_variable f few args words h.place a h.array (all_near f near h.place) x in
      (h.place, x.0, x.2, x.4, record { byte = b.0; dest = dest_of (var_at f.vars h.place).kind (is_dest w.0 w.1 h); here = b.1 })
