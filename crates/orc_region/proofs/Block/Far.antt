-- The frame's words of a far load's code: they lie in the frame, and those that are written overlap no other.
use Rattle.std.proofs.Common.{◌≡◌, ℕ, zero, suc, ◌+◌, ◌*◌, ◌<◌, ◌≤◌, inl, inr, ⊎_elim, ℤ, pos, List, [], ◌∷◌, length, map, get_or, refl, sym, subst, ◌∙◌, arith}
use Rattle.std.proofs.lemmas.List.{length-map}
use Rattle.x86_ins.specs.Spelling.{IsIns}
use Rattle.x86_ins.specs.Way.{Each}
use Rattle.x86_flow.specs.Moves.{IsWidth}
use Rattle.orc_ops.specs.declared.far.Far.{Far}
use Rattle.orc_ops.specs.Far.{far_size, far_scalars}
use Rattle.orc_frame.specs.Layout.{pattern_slot, row_slot, block_slot, index_slot, work_slot}
use Rattle.orc_resample.specs.declared.turn.FarSource.{FarSource}
use Rattle.orc_resample.specs.Bring.{IsKept, LiesIn, AreApart, IsFarSource, Brings}
use Rattle.orc_resample.specs.Code.{bring_code}
use Rattle.orc_resample.proofs.Brought.{brings}
use Rattle.orc_region.specs.Code.{far_source}
use Rattle.orc_region.proofs.Block.Registers.{not_0, not_7}

-- the pattern of a scalar has its slot
pub scalar_slot : (js : List ℕ) → Each (λ j. j < 48) js → (j : ℕ) → j < length js → (k : ℕ) × (k < 48) × (get_or (map (λ j. pos (pattern_slot j)) js) j (pos 0) ≡ pos (pattern_slot k))
scalar_slot [] h j l = absurd (omega (arith, l))
scalar_slot (k ∷ ks) h zero l = (k, h.0, refl)
scalar_slot (k ∷ ks) h (suc j) l = scalar_slot ks h.1 j (omega (arith, l))

module _ (ahead : ℕ) (load : Far) (array : ℕ) (js : List ℕ) (few : array < 12) (patterns : Each (λ j. j < 48) js) (scalars : length js ≡ far_scalars load) where
  abbrev source : FarSource
  source = far_source ahead load array js

  -- a word that is only read lies before those that are written
  pub kept_low : (z : ℤ) → IsKept source z → (d : ℕ) × (d + 8 ≤ index_slot) × (z ≡ pos d)
  kept_low z (inl e) = (block_slot, omega arith, e)
  kept_low z (inr (inl e)) = (row_slot array, omega (arith, few), e)
  kept_low z (inr (inr h)) =
      let l = h.1 in
      let b = scalar_slot js patterns h.0 (omega (arith, l, scalars)) in
      let small = b.1 in
      (pattern_slot b.0, omega (arith, small), h.2 ∙ b.2)

  pub is_far_source : IsFarSource source
  is_far_source = record {
    scalars = length-map js (λ j. pos (pattern_slot j)) ∙ scalars;
    kept = λ z h. let x = kept_low z h in let l = x.1 in subst LiesIn (sym x.2) (let within : x.0 + 8 ≤ 2048 = omega (arith, l) in within);
    spare = λ z h. ⊎_elim (λ e. subst LiesIn (sym e) (let within : index_slot + 8 ≤ 2048 = omega arith in within)) (λ e. subst LiesIn (sym e) (let within : work_slot + 8 ≤ 2048 = omega arith in within)) h;
    apart = λ y z s h.
        let x = kept_low z h in
        let l = x.1 in
        ⊎_elim (λ e. subst (λ (a : ℤ). AreApart a z) (sym e) (subst (λ (b : ℤ). AreApart (pos index_slot) b) (sym x.2) (inr l)))
        (λ e. subst (λ (a : ℤ). AreApart a z) (sym e) (subst (λ (b : ℤ). AreApart (pos work_slot) b) (sym x.2) (inr (omega (arith, l))))) s;
    two = inl (omega arith);
    pointer = (not_0 array, not_7 array);
  }

  -- so its code leads from every state with all at hand to the values
  pub far_brings : (count : ℕ) → IsWidth (count * far_size load) → Each IsIns (bring_code source count) → Brings count source (bring_code source count)
  far_brings count width ins = brings count source is_far_source width ins
