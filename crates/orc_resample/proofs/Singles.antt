-- The code of one element puts its value below the values that are there, for each far load that goes element by element.
use Rattle.std.proofs.Common.{◌≡◌, ◌≢◌, ℕ, ◌+◌, ◌-◌, ◌*◌, ◌/◌, ◌%◌, ◌^◌, ◌<◌, ◌≤◌, ◌==◌, ℤ, pos, ◌+ℤ◌, ◌*ℤ◌, true, if◌then◌else◌, List, [], ◌∷◌, ◌++◌, get_or, Some, None, refl, sym, ap, ◌∙◌, subst, arith, ◌⊎◌, inl, inr, ⊎_elim}
use Rattle.std.proofs.lemmas.Bool.{cases_eq}
use Rattle.std.specs.Prelude.{bit_and}
use Rattle.std.proofs.Math.Nat.{mul-le-mul_left}
use Rattle.std.specs.Int.{int_shr}
use Rattle.orc_bits.specs.Numbers.{wrap}
use Rattle.orc_bits.specs.Lanes.{lane, AreBytes}
use Rattle.orc_bits.proofs.LaneLaws.{eq_false}
use Rattle.x86_ins.specs.declared.ins.AluOp.TheVariants.{Add}
use Rattle.x86_ins.specs.declared.ins.ShiftOp.TheVariants.{Shr, Sar}
use Rattle.x86_ins.specs.declared.ins.Ins.{Ins}
use Rattle.x86_ins.specs.declared.ins.Ins.TheVariants.{Vec, ToGpr, Move, Alu, Shift, Lea, Load8, VecLoad}
use Rattle.x86_ins.specs.declared.ins.VecOp.TheVariants.{Pxor, Punpcklbw}
use Rattle.x86_ins.specs.declared.ins.MoveOp.TheVariants.{Movd}
use Rattle.x86_ins.specs.Vectors.{shape, result_of, shl, shr, sar, add_wrap, sub_wrap, mul_low}
use Rattle.x86_ins.specs.Machine.{Core, with_gpr, with_xmm, moved, address}
use Rattle.x86_flow.specs.Moves.{away}
use Rattle.orc_ops.specs.declared.far.Far.{Far}
use Rattle.orc_ops.specs.declared.far.Far.TheVariants.{Loadupdb, Loadupib, Ldresnearb, Ldresnearl, Ldreslinb, Ldreslinl}
use Rattle.orc_ops.specs.Far.{far_size, far_first, far_second, other, place, fraction, mixed, mixed_bytes}
use Rattle.orc_resample.specs.declared.plan.FarPlan.{FarPlan}
use Rattle.orc_resample.specs.Code.{element_of, element_code, half_code, place_code, address_code, near_byte_code, near_long_code, mixed_byte_code, mix_code, join_code, spread_code, mixed_long_code, average_code, push_code, push_gpr_code}
use Rattle.orc_resample.specs.Ready.{Source, Ready, IsRead, cell, element, value_at}
use Rattle.orc_resample.proofs.Numbers.{element_on, place_fits, fraction_of, small_fraction, mix_of}
use Rattle.orc_resample.proofs.Runs.{run_then, run_map, after, calm_then}
use Rattle.orc_resample.proofs.Longs.{words, blended, blended_words, words_small, zeros_of, spread_of, joined, joined_high, joined_small, long_of}
use Rattle.orc_resample.proofs.Blocks.{scales_0, scales_2, At, Kept, Pushed, Near, Cells, Leads, IsCell, load_byte, load_long, byte_element, push_byte, push_long, plain, half_run, place_run, locate_run, kept_at}

module _ (far : Far) (count : ℕ) (plan : FarPlan) (s : Source) (c : Core) (ready : Ready far count plan s c) where
  -- the code for the element k puts its value below the values of v
  abbrev pub Adds : ℕ → Core → Type 0
  Adds k v = Leads far count plan s c ready (element_of far plan k 0 1 2) v (λ d. At c d × Pushed (far_size far) (value_at far s c.memory (s.first + k)) (v.xmm 0) (d.xmm 0))

  read_cell : (k : ℕ) (z : ℤ) → k < count → IsRead far s (s.first + k) z → IsCell far count plan s c ready z
  read_cell k z l is x i = (k, l, (z, is, i))

  first_cell : (k : ℕ) → k < count → IsCell far count plan s c ready (far_first far (s.first + k) s.p s.q)
  first_cell k l = read_cell k (far_first far (s.first + k) s.p s.q) l (inl refl)

  low : (k : ℕ) → k < count → s.first + k < 2 ^ 31
  low k l = omega (arith, l, ready.last)

  -- a byte that a1 holds goes below the values of v
  push_value : (v d : Core) (value : ℕ) → At c v → Kept v d → AreBytes (v.xmm 0) → d.gpr 0 ≡ value → value < 256 → Leads far count plan s c ready (push_gpr_code 1 0) d (λ e. At c e × Pushed 1 value (v.xmm 0) (e.xmm 0))
  push_value v d value t k small e l =
      let same : d.xmm 0 ≡ v.xmm 0 = ap (λ f. f 0) k.xmm in
      run_map (Near far count plan s c ready) (Cells far count plan s c ready) (push_gpr_code 1 0) d (λ u. At c u × Pushed 1 (d.gpr 0) (d.xmm 0) (u.xmm 0)) (λ u. At c u × Pushed 1 value (v.xmm 0) (u.xmm 0))
      (push_byte far count plan s c ready d (kept_at far count plan s c ready v d t k) (subst AreBytes (sym same) small) (subst (λ n. n < 256) (sym e) l))
      (λ u h. (h.0, subst (λ x. Pushed 1 value x (u.xmm 0)) same (subst (λ n. Pushed 1 n (d.xmm 0) (u.xmm 0)) e h.1)))

module _ (count : ℕ) (plan : FarPlan) (s : Source) (c : Core) where
  pub double_run : (ready : Ready Loadupdb count plan s c) (k : ℕ) → k < count → (v : Core) → At c v → AreBytes (v.xmm 0) → Adds Loadupdb count plan s c ready k v
  double_run ready k l v t small =
      let z : ℤ = pos ((s.first + k) / 2) in
      let is = first_cell Loadupdb count plan s c ready k l in
      run_then (Near Loadupdb count plan s c ready) (Cells Loadupdb count plan s c ready) (half_code plan k 0 1) (push_gpr_code 1 0) v (λ d. Kept v d × (d.gpr 0 ≡ element Loadupdb c.memory s.base z)) _
      (half_run Loadupdb count plan s c ready k v (omega (arith, low Loadupdb count plan s c ready k l)) refl t is)
      (λ d h. push_value Loadupdb count plan s c ready v d (element Loadupdb c.memory s.base z) t h.0 small h.1 (byte_element Loadupdb count plan s c ready z refl is))

  -- the byte at a place
  pub near_byte_run : (ready : Ready Ldresnearb count plan s c) (k : ℕ) → k < count → (v : Core) → At c v → AreBytes (v.xmm 0) → Adds Ldresnearb count plan s c ready k v
  near_byte_run ready k l v t small =
      let f = Ldresnearb in
      let N = Near f count plan s c ready in
      let C = Cells f count plan s c ready in
      let p : ℤ = place (s.first + k) s.p s.q in
      let z : ℤ = int_shr p 16 in
      let is = first_cell f count plan s c ready k l in
      let x = element f c.memory s.base z in
      let below = low f count plan s c ready k l in
      run_then N C (place_code plan k 0 1) (near_byte_code plan 0 1) v (λ d. Kept v d × (d.gpr 0 ≡ wrap 64 p)) _ (place_run f count plan s c ready k v (omega arith) below t)
      (λ d h.
      let td = kept_at f count plan s c ready v d t h.0 in
      run_then N C (Shift Sar 0 16 ∷ element_code plan 0 0 1) (Load8 0 (away 0 0) ∷ push_gpr_code 1 0) d (λ e. Kept d e × (e.gpr 0 ≡ moved s.base (z *ℤ pos 1))) _
      (locate_run f count plan s c ready 0 p d scales_0 (place_fits (s.first + k) s.p s.q below) td h.1)
      (λ e g.
      let te = kept_at f count plan s c ready d e td g.0 in
      load_byte f count plan s c ready 0 0 0 (push_gpr_code 1 0) e _ z refl te refl (plain f count plan s c ready (e.gpr 0) z 1 refl g.1) is
      (push_value f count plan s c ready v (with_gpr e 0 x) x t (record { memory = g.0.memory ∙ h.0.memory; stack = g.0.stack ∙ h.0.stack; third = g.0.third ∙ h.0.third; xmm = g.0.xmm ∙ h.0.xmm }) small refl (byte_element f count plan s c ready z refl is))))

  -- the long at a place
  pub near_long_run : (ready : Ready Ldresnearl count plan s c) (k : ℕ) → k < count → (v : Core) → At c v → AreBytes (v.xmm 0) → Adds Ldresnearl count plan s c ready k v
  near_long_run ready k l v t small =
      let f = Ldresnearl in
      let N = Near f count plan s c ready in
      let C = Cells f count plan s c ready in
      let p : ℤ = place (s.first + k) s.p s.q in
      let z : ℤ = int_shr p 16 in
      let is = first_cell f count plan s c ready k l in
      let value = element f c.memory s.base z in
      let below = low f count plan s c ready k l in
      run_then N C (place_code plan k 0 1) (near_long_code plan 0 1) v (λ d. Kept v d × (d.gpr 0 ≡ wrap 64 p)) _ (place_run f count plan s c ready k v (omega arith) below t)
      (λ d h.
      let td = kept_at f count plan s c ready v d t h.0 in
      run_then N C (Shift Sar 0 16 ∷ element_code plan 2 0 1) (VecLoad Movd 1 (away 0 0) ∷ push_code 4) d (λ e. Kept d e × (e.gpr 0 ≡ moved s.base (z *ℤ pos 4))) _
      (locate_run f count plan s c ready 2 p d scales_2 (place_fits (s.first + k) s.p s.q below) td h.1)
      (λ e g.
      let te = kept_at f count plan s c ready d e td g.0 in
      let same : e.xmm 0 ≡ v.xmm 0 = ap (λ f. f 0) (g.0.xmm ∙ h.0.xmm) in
      load_long f count plan s c ready 1 0 0 (push_code 4) e _ z refl te refl (plain f count plan s c ready (e.gpr 0) z 4 refl g.1) is
      (λ x long.
      run_map N C (push_code 4) (with_xmm e 1 x) (λ u. At c u × Pushed 4 value (e.xmm 0) (u.xmm 0)) _
      (push_long f count plan s c ready (with_xmm e 1 x) value (record { memory = te.memory; stack = te.stack }) (subst AreBytes (sym same) small) long.lowest long.above long.small)
      (λ u w. (w.0, subst (λ x. Pushed 4 value x (u.xmm 0)) same w.1)))))

  -- ---- the average of two bytes

  -- the byte behind the half, or the same for even elements
  behind : (k : ℕ) → (far_second Loadupib (s.first + k) s.p s.q ≡ None) × (pos ((s.first + (k + 1)) / 2) ≡ pos ((s.first + k) / 2)) ⊎ (far_second Loadupib (s.first + k) s.p s.q ≡ Some (pos ((s.first + (k + 1)) / 2)))
  behind k = ⊎_elim even odd (cases_eq ((s.first + k) % 2) 0)
    where
      even : (s.first + k) % 2 ≡ 0 → (far_second Loadupib (s.first + k) s.p s.q ≡ None) × (pos ((s.first + (k + 1)) / 2) ≡ pos ((s.first + k) / 2)) ⊎ (far_second Loadupib (s.first + k) s.p s.q ≡ Some (pos ((s.first + (k + 1)) / 2)))
      even e = inl (ap (λ r. if r == 0 then None else Some (pos ((s.first + k) / 2 + 1))) e, ap pos (let q : (s.first + (k + 1)) / 2 ≡ (s.first + k) / 2 = omega (arith, e) in q))

      odd : (s.first + k) % 2 ≢ 0 → (far_second Loadupib (s.first + k) s.p s.q ≡ None) × (pos ((s.first + (k + 1)) / 2) ≡ pos ((s.first + k) / 2)) ⊎ (far_second Loadupib (s.first + k) s.p s.q ≡ Some (pos ((s.first + (k + 1)) / 2)))
      odd ne = inr
          (ap (λ b. if b then None else Some (pos ((s.first + k) / 2 + 1))) (eq_false ((s.first + k) % 2) 0 ne)
          ∙ ap (λ n. Some (pos n)) (let q : (s.first + k) / 2 + 1 ≡ (s.first + (k + 1)) / 2 = omega (arith, ne) in q))

  pub middle_run : (ready : Ready Loadupib count plan s c) (k : ℕ) → k < count → (v : Core) → At c v → AreBytes (v.xmm 0) → Adds Loadupib count plan s c ready k v
  middle_run ready k l v t small =
      let f = Loadupib in
      let N = Near f count plan s c ready in
      let C = Cells f count plan s c ready in
      let below = low f count plan s c ready k l in
      let i = s.first + k in
      let z : ℤ = pos (i / 2) in
      let w : ℤ = pos ((s.first + (k + 1)) / 2) in
      let is = first_cell f count plan s c ready k l in
      let is_w : IsCell f count plan s c ready w =
      ⊎_elim (λ h. subst (λ q. IsCell f count plan s c ready q) (sym h.1) is) (λ h. read_cell f count plan s c ready k w l (inr (sym h))) (behind k) in
      let is_other : other z (far_second f i s.p s.q) ≡ w = ⊎_elim (λ h. ap (other z) h.0 ∙ sym h.1) (λ h. ap (other z) h) (behind k) in
      let x = element f c.memory s.base z in
      let y = element f c.memory s.base w in
      let low_x = byte_element f count plan s c ready z refl is in
      let low_y = byte_element f count plan s c ready w refl is_w in
      let value = (x + y + 1) / 2 in
      let meant : value ≡ value_at f s c.memory i = ap (λ q. (x + element f c.memory s.base q + 1) / 2) (sym is_other) in
      let fits : value < 256 = omega (arith, low_x, low_y) in
      run_then N C (half_code plan (k + 1) 0 1) ((Move 2 0 ∷ half_code plan k 0 1) ++ average_code 0 2) v (λ d. Kept v d × (d.gpr 0 ≡ y)) _
      (half_run f count plan s c ready (k + 1) v (omega (arith, below)) refl t is_w)
      (λ d h.
      let d1 = after (Move 2 0 ∷ []) d in
      let t1 : At c d1 = record { memory = h.0.memory ∙ t.memory; stack = h.0.stack ∙ t.stack } in
      calm_then N C (Move 2 0 ∷ []) (half_code plan k 0 1 ++ average_code 0 2) refl d _
      (run_then N C (half_code plan k 0 1) (average_code 0 2) d1 (λ e. Kept d1 e × (e.gpr 0 ≡ x)) _ (half_run f count plan s c ready k d1 (omega (arith, below)) refl t1 is)
      (λ e g.
      let sums : List Ins = Alu Add 0 2 ∷ Lea 0 (away 0 1) ∷ Shift Shr 0 1 ∷ [] in
      let e1 = after sums e in
      let third : e.gpr 2 ≡ y = g.0.third ∙ h.1 in
      let is_value : e1.gpr 0 ≡ value =
      ap (λ a. shr 64 (moved (add_wrap 64 a (e.gpr 2)) (pos 1)) 1) g.1 ∙ ap (λ b. shr 64 (moved (add_wrap 64 x b) (pos 1)) 1) third ∙ (let q : ((x + y) % 2 ^ 64 + 1) % 2 ^ 64 / 2 ≡ value = omega (arith, low_x, low_y) in q) in
      let same : e1.xmm 0 ≡ v.xmm 0 = ap (λ f. f 0) (g.0.xmm ∙ h.0.xmm) in
      let te : At c e1 = record { memory = g.0.memory ∙ t1.memory; stack = g.0.stack ∙ t1.stack } in
      calm_then N C sums (push_gpr_code 1 0) refl e _
      (run_map N C (push_gpr_code 1 0) e1 (λ u. At c u × Pushed 1 (e1.gpr 0) (e1.xmm 0) (u.xmm 0)) _
      (push_byte f count plan s c ready e1 te (subst AreBytes (sym same) small) (subst (λ n. n < 256) (sym is_value) fits))
      (λ u h. (h.0, subst (λ x. Pushed 1 (value_at f s c.memory i) x (u.xmm 0)) same (subst (λ n. Pushed 1 n (e1.xmm 0) (u.xmm 0)) (is_value ∙ meant) h.1)))))))

  -- ---- the mix of two bytes

  pub linear_byte_run : (ready : Ready Ldreslinb count plan s c) (k : ℕ) → k < count → (v : Core) → At c v → AreBytes (v.xmm 0) → Adds Ldreslinb count plan s c ready k v
  linear_byte_run ready k l v t small =
      let f = Ldreslinb in
      let N = Near f count plan s c ready in
      let C = Cells f count plan s c ready in
      let below = low f count plan s c ready k l in
      let i = s.first + k in
      let p : ℤ = place i s.p s.q in
      let z : ℤ = int_shr p 16 in
      let w : ℤ = z +ℤ pos 1 in
      let is = first_cell f count plan s c ready k l in
      let is_w = read_cell f count plan s c ready k w l (inr refl) in
      let x = element f c.memory s.base z in
      let y = element f c.memory s.base w in
      let low_x = byte_element f count plan s c ready z refl is in
      let low_y = byte_element f count plan s c ready w refl is_w in
      let part = fraction i s.p s.q in
      let m = (256 - part) * x + part * y in
      let fits : m < 2 ^ 16 = mixed_small part x y (small_fraction i s.p s.q) low_x low_y in
      let value = m / 2 ^ 8 in
      let meant : value ≡ value_at f s c.memory i = same_mixed part x y low_x low_y in
      run_then N C (place_code plan k 0 1) (address_code plan 0 0 1 2 ++ mixed_byte_code 0 1 2) v (λ d. Kept v d × (d.gpr 0 ≡ wrap 64 p)) _ (place_run f count plan s c ready k v (omega arith) below t)
      (λ d h.
      let d1 = after (Move 2 0 ∷ []) d in
      let t1 : At c d1 = record { memory = h.0.memory ∙ t.memory; stack = h.0.stack ∙ t.stack } in
      calm_then N C (Move 2 0 ∷ []) ((Shift Sar 0 16 ∷ element_code plan 0 0 1) ++ mixed_byte_code 0 1 2) refl d _
      (run_then N C (Shift Sar 0 16 ∷ element_code plan 0 0 1) (mixed_byte_code 0 1 2) d1 (λ e. Kept d1 e × (e.gpr 0 ≡ moved s.base (z *ℤ pos 1))) _
      (locate_run f count plan s c ready 0 p d1 scales_0 (place_fits i s.p s.q below) t1 h.1)
      (λ e g.
      let te : At c e = record { memory = g.0.memory ∙ t1.memory; stack = g.0.stack ∙ t1.stack } in
      let next : address e (away 0 1) ≡ cell f s.base w = ap (λ a. (a + 1) % 2 ^ 64) g.1 ∙ sym (element_on s.base z 1 1) in
      let e1 : Core = with_gpr e 1 y in
      let e2 : Core = with_gpr e1 0 x in
      let rest : List Ins = mix_code 0 1 2 ++ (Shift Shr 0 8 ∷ []) in
      let e3 = after rest e2 in
      let third : e.gpr 2 ≡ wrap 64 p = g.0.third ∙ h.1 in
      let share : bit_and (sar 64 (e.gpr 2) 8) (wrap 64 (pos 255)) ≡ part = ap (λ a. bit_and (sar 64 a 8) (wrap 64 (pos 255))) third ∙ fraction_of i s.p s.q below in
      let is_value : e3.gpr 0 ≡ value =
      ap (λ a. shr 64 (add_wrap 64 (shl 64 x 8) (mul_low 64 (sub_wrap 64 y x) a)) 8) share
      ∙ ap (λ a. shr 64 a 8) (mix_of part x y (small_fraction i s.p s.q) (omega (arith, low_x)) (omega (arith, low_y))) in
      let same : e3.xmm 0 ≡ v.xmm 0 = ap (λ f. f 0) (g.0.xmm ∙ h.0.xmm) in
      load_byte f count plan s c ready 1 0 1 (Load8 0 (away 0 0) ∷ (rest ++ push_gpr_code 1 0)) e _ w refl te refl next is_w
      (load_byte f count plan s c ready 0 0 0 (rest ++ push_gpr_code 1 0) e1 _ z refl (record { memory = te.memory; stack = te.stack }) refl (plain f count plan s c ready (e.gpr 0) z 1 refl g.1) is
      (calm_then N C rest (push_gpr_code 1 0) refl e2 _
      (run_map N C (push_gpr_code 1 0) e3 (λ u. At c u × Pushed 1 (e3.gpr 0) (e3.xmm 0) (u.xmm 0)) _
      (push_byte f count plan s c ready e3 (record { memory = te.memory; stack = te.stack }) (subst AreBytes (sym same) small) (subst (λ n. n < 256) (sym is_value) (omega (arith, fits))))
      (λ u h. (h.0, subst (λ x. Pushed 1 (value_at f s c.memory i) x (u.xmm 0)) same (subst (λ n. Pushed 1 n (e3.xmm 0) (u.xmm 0)) (is_value ∙ meant) h.1)))))))))
    where
      mixed_small : (part x y : ℕ) → part < 256 → x < 256 → y < 256 → (256 - part) * x + part * y < 2 ^ 16
      mixed_small part x y a b d =
          go (256 - part) (omega (arith, a))
        where
          go : (r : ℕ) → r + part ≡ 256 → r * x + part * y < 2 ^ 16
          go r e =
              let one : r * x ≤ r * 255 = mul-le-mul_left r (omega (arith, b)) in
              let two : part * y ≤ part * 255 = mul-le-mul_left part (omega (arith, d)) in
              omega (arith, one, two, e)

      same_mixed : (part x y : ℕ) → x < 256 → y < 256 → ((256 - part) * x + part * y) / 2 ^ 8 ≡ mixed part (x % 256) (y % 256) + 256 * 0
      same_mixed part x y a b =
          let ex : x ≡ x % 256 = omega (arith, a) in
          let ey : y ≡ y % 256 = omega (arith, b) in
          ap (λ n. ((256 - part) * n + part * y) / 2 ^ 8) ex ∙ ap (λ n. ((256 - part) * (x % 256) + part * n) / 2 ^ 8) ey
          ∙ (let q : mixed part (x % 256) (y % 256) ≡ mixed part (x % 256) (y % 256) + 256 * 0 = omega arith in q)

  -- ---- the mix of two longs

  pub linear_long_run : (ready : Ready Ldreslinl count plan s c) (k : ℕ) → k < count → (v : Core) → At c v → AreBytes (v.xmm 0) → Adds Ldreslinl count plan s c ready k v
  linear_long_run ready k l v t small =
      let f = Ldreslinl in
      let N = Near f count plan s c ready in
      let C = Cells f count plan s c ready in
      let below = low f count plan s c ready k l in
      let i = s.first + k in
      let p : ℤ = place i s.p s.q in
      let z : ℤ = int_shr p 16 in
      let w : ℤ = z +ℤ pos 1 in
      let is = first_cell f count plan s c ready k l in
      let is_w = read_cell f count plan s c ready k w l (inr refl) in
      let part = fraction i s.p s.q in
      let value = value_at f s c.memory i in
      run_then N C (place_code plan k 0 1) (address_code plan 2 0 1 2 ++ (spread_code 0 1 ++ mixed_long_code 0 1 2)) v (λ d. Kept v d × (d.gpr 0 ≡ wrap 64 p)) _ (place_run f count plan s c ready k v (omega arith) below t)
      (λ d h.
      let d1 = after (Move 2 0 ∷ []) d in
      let t1 : At c d1 = record { memory = h.0.memory ∙ t.memory; stack = h.0.stack ∙ t.stack } in
      calm_then N C (Move 2 0 ∷ []) ((Shift Sar 0 16 ∷ element_code plan 2 0 1) ++ (spread_code 0 1 ++ mixed_long_code 0 1 2)) refl d _
      (run_then N C (Shift Sar 0 16 ∷ element_code plan 2 0 1) (spread_code 0 1 ++ mixed_long_code 0 1 2) d1 (λ e. Kept d1 e × (e.gpr 0 ≡ moved s.base (z *ℤ pos 4))) _
      (locate_run f count plan s c ready 2 p d1 scales_2 (place_fits i s.p s.q below) t1 h.1)
      (λ e g.
      let te : At c e = record { memory = g.0.memory ∙ t1.memory; stack = g.0.stack ∙ t1.stack } in
      let next : address e (away 0 4) ≡ cell f s.base w = ap (λ a. (a + 4) % 2 ^ 64) g.1 ∙ sym (element_on s.base z 1 4) in
      let third : e.gpr 2 ≡ wrap 64 p = g.0.third ∙ h.1 in
      let share : bit_and (sar 64 (e.gpr 2) 8) (wrap 64 (pos 255)) ≡ part = ap (λ a. bit_and (sar 64 a 8) (wrap 64 (pos 255))) third ∙ fraction_of i s.p s.q below in
      let same : e.xmm 0 ≡ v.xmm 0 = ap (λ f. f 0) (g.0.xmm ∙ h.0.xmm) in
      let rest : List Ins = Vec Pxor 3 3 ∷ Vec Punpcklbw 1 3 ∷ Vec Punpcklbw 2 3 ∷ ToGpr true 0 1 ∷ ToGpr true 1 2 ∷ (mix_code 0 1 2 ++ join_code 0) in
      load_long f count plan s c ready 1 0 0 (VecLoad Movd 2 (away 0 4) ∷ (rest ++ push_code 4)) e _ z refl te refl (plain f count plan s c ready (e.gpr 0) z 4 refl g.1) is
      (λ x long_x.
      let e1 : Core = with_xmm e 1 x in
      load_long f count plan s c ready 2 0 4 (rest ++ push_code 4) e1 _ w refl (record { memory = te.memory; stack = te.stack }) refl next is_w
      (λ y long_y.
      let e2 : Core = with_xmm e1 2 y in
      let e3 = after rest e2 in
      let zeros : List ℕ = result_of (shape Pxor) (e.xmm 3) (e.xmm 3) in
      let none = zeros_of (e.xmm 3) in
      let byte_x : ℕ → ℕ = λ j. get_or x j 0 in
      let byte_y : ℕ → ℕ = λ j. get_or y j 0 in
      let mix : ℕ → ℕ → ℕ → ℕ = λ a b f. add_wrap 64 (shl 64 a 8) (mul_low 64 (sub_wrap 64 b a) f) in
      let spread_x = lane 8 0 (result_of (shape Punpcklbw) x zeros) in
      let spread_y = lane 8 0 (result_of (shape Punpcklbw) y zeros) in
      let is_mix : mix spread_x spread_y (bit_and (sar 64 (e.gpr 2) 8) (wrap 64 (pos 255))) ≡ words (λ j. blended part (byte_x j) (byte_y j)) =
      ap (mix spread_x spread_y) share ∙ ap (λ a. mix a spread_y part) (spread_of x zeros long_x.small none) ∙ ap (λ b. mix (words byte_x) b part) (spread_of y zeros long_y.small none)
      ∙ mix_of part (words byte_x) (words byte_y) (small_fraction i s.p s.q) (words_small byte_x long_x.small) (words_small byte_y long_y.small) ∙ blended_words part byte_x byte_y in
      let is_joined : e3.xmm 1 ≡ joined (words (λ j. blended part (byte_x j) (byte_y j))) zeros = ap (λ m. joined m zeros) is_mix in
      let lowest : lane 4 0 (e3.xmm 1) ≡ value =
      ap (lane 4 0) is_joined ∙ long_of part x y zeros (small_fraction i s.p s.q) long_x.small long_y.small ∙ ap (λ a. mixed_bytes 4 part a (lane 4 0 y)) long_x.lowest ∙ ap (mixed_bytes 4 part (element f c.memory s.base z)) long_y.lowest in
      calm_then N C rest (push_code 4) refl e2 _
      (run_map N C (push_code 4) e3 (λ u. At c u × Pushed 4 value (e3.xmm 0) (u.xmm 0)) _
      (push_long f count plan s c ready e3 value (record { memory = te.memory; stack = te.stack }) (subst AreBytes (sym same) small) lowest
      (λ i a b. ap (λ r. get_or r i 0) is_joined ∙ joined_high (words (λ j. blended part (byte_x j) (byte_y j))) zeros none i a b) (subst AreBytes (sym is_joined) (joined_small (words (λ j. blended part (byte_x j) (byte_y j))) zeros)))
      (λ u h. (h.0, subst (λ x. Pushed 4 value x (u.xmm 0)) same h.1))))))))
