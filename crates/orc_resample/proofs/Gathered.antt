-- The whole list of a far load leads from every ready state to the values.
use Rattle.std.proofs.Common.{◌≡◌, ℕ, zero, suc, ◌+◌, ◌-◌, ◌*◌, ◌^◌, ◌<◌, ◌≤◌, pos, ◌+ℤ◌, Bool, true, false, ◌&&◌, List, [], ◌∷◌, ◌++◌, map, refl, sym, ap, ◌∙◌, subst, arith}
use Rattle.std.proofs.lemmas.List.{map-append}
use Rattle.std.proofs.Math.Nat.{mul-le-mul_right}
use Rattle.orc_bits.specs.Lanes.{lane, AreBytes}
use Rattle.x86_ins.specs.declared.ins.Ins.{Ins}
use Rattle.x86_ins.specs.Spelling.{IsIns}
use Rattle.x86_ins.specs.Way.{Each}
use Rattle.x86_ins.specs.Machine.{Core, Bounded}
use Rattle.x86_ins.proofs.Bounds.{work_bounded}
use Rattle.x86_flow.specs.Does.{Line}
use Rattle.x86_flow.specs.Moves.{IsWidth}
use Rattle.x86_flow.proofs.Moves.{each_width}
use Rattle.x86_flow.proofs.Plans.{line_map}
use Rattle.orc_ops.specs.declared.far.Far.{Far}
use Rattle.orc_ops.specs.declared.far.Far.TheVariants.{Loadoffb, Loadoffw, Loadoffl, Loadupdb, Loadupib, Ldresnearb, Ldresnearl, Ldreslinb, Ldreslinl}
use Rattle.orc_ops.specs.Far.{far_size, far_scalars, far_first, scalar}
use Rattle.orc_resample.specs.declared.plan.FarPlan.{FarPlan}
use Rattle.orc_resample.specs.Code.{scratch, element_of, elements_code, bits_of, row_code, start_code, offset_code, gather_code}
use Rattle.orc_resample.specs.Ready.{IsPlan, Source, Ready, Keeps, element, value_at, Gathered, OnTheWay, Sees, Gathers}
use Rattle.orc_resample.proofs.Twins.{Names, Twin, Tamed, named, renamed, is_tame, all_tame, renamed_line}
use Rattle.orc_resample.proofs.Runs.{run_then, run_map, calm_run}
use Rattle.orc_resample.proofs.Blocks.{Scales, scales_0, scales_1, scales_2, At, Pushed, Near, Cells, Leads}
use Rattle.orc_resample.proofs.Singles.{Adds, double_run, middle_run, near_byte_run, near_long_run, linear_byte_run, linear_long_run}
use Rattle.orc_resample.proofs.Rows.{offset_run}
use Rattle.orc_resample.proofs.Counted.{room_of}

-- ---- registers stay below 2 ^ 64, and bytes below 256

pub line_bounded : (Q : Core → Ins → Type 0) (is : List Ins) (c d : Core) → Each IsIns is → Bounded c → Line Q is c d → Bounded d
line_bounded Q [] c d h b line = subst Bounded line b
line_bounded Q (i ∷ is) c d h b line = line_bounded Q is line.1.0 d h.1 (work_bounded i c line.1.0 h.0 b line.1.1) line.1.2

-- ---- element after element

module _ (far : Far) (count : ℕ) (plan : FarPlan) (s : Source) (c : Core) (ready : Ready far count plan s c)
    (adds : (k : ℕ) → k < count → (v : Core) → At c v → AreBytes (v.xmm 0) → Adds far count plan s c ready k v) (room : count * far_size far ≤ 16) where
  -- the last n values stand in XMM0
  record Holds (n : ℕ) (d : Core) : Type 0 where
    pub at : At c d
    pub small : AreBytes (d.xmm 0)
    pub values : (q : ℕ) → q < n → lane (far_size far) q (d.xmm 0) ≡ value_at far s c.memory (s.first + (count - n + q))

  fits : (q n : ℕ) → q < n → suc n ≤ count → suc q * far_size far + far_size far ≤ 16
  fits q n l m = let p : suc (suc q) * far_size far ≤ count * far_size far = mul-le-mul_right (far_size far) (omega (arith, l, m)) in omega (arith, p, room)

  elements_run : (n : ℕ) → n ≤ count → Leads far count plan s c ready (elements_code far plan count 0 1 2 n) c (Holds n)
  elements_run zero l = calm_run (Near far count plan s c ready) (Cells far count plan s c ready) [] refl c (Holds 0) (record { at = record { memory = refl; stack = refl }; small = ready.bounded.xmm 0; values = λ q m. absurd (omega (arith, m)) })
  elements_run (suc n) l =
      run_then (Near far count plan s c ready) (Cells far count plan s c ready) (elements_code far plan count 0 1 2 n) (element_of far plan (count - 1 - n) 0 1 2) c (Holds n) (Holds (suc n)) (elements_run n (omega (arith, l)))
      (λ d h.
      run_map (Near far count plan s c ready) (Cells far count plan s c ready) (element_of far plan (count - 1 - n) 0 1 2) d
      (λ u. At c u × Pushed (far_size far) (value_at far s c.memory (s.first + (count - 1 - n))) (d.xmm 0) (u.xmm 0)) (Holds (suc n)) (adds (count - 1 - n) (omega (arith, l)) d h.at h.small)
      (λ u g. record { at = g.0; small = g.1.small; values = values d u h g.1 }))
    where
      values : (d u : Core) → Holds n d → Pushed (far_size far) (value_at far s c.memory (s.first + (count - 1 - n))) (d.xmm 0) (u.xmm 0) → (q : ℕ) → q < suc n → lane (far_size far) q (u.xmm 0) ≡ value_at far s c.memory (s.first + (count - suc n + q))
      values d u h g zero m = g.lowest ∙ ap (λ i. value_at far s c.memory (s.first + i)) (let e : count - 1 - n ≡ count - suc n + 0 = omega arith in e)
      values d u h g (suc q) m = g.others q (fits q n (omega (arith, m)) l) ∙ h.values q (omega (arith, m)) ∙ ap (λ i. value_at far s c.memory (s.first + i)) (let e : count - n + q ≡ count - suc n + suc q = omega (arith, l) in e)

-- ---- from the registers 0, 1 and 2 to those of the plan

tame_append : (x y : List Ins) → all_tame x ≡ true → all_tame y ≡ true → all_tame (x ++ y) ≡ true
tame_append [] y p q = q
tame_append (i ∷ x) y p q = go (is_tame i) p (λ h. tame_append x y h q)
  where
    go : (t : Bool) → (t && all_tame x) ≡ true → (all_tame x ≡ true → all_tame (x ++ y) ≡ true) → (t && all_tame (x ++ y)) ≡ true
    go true h r = r h
    go false h r = h

row_named : (a b e width : ℕ) → IsWidth width → map (renamed a b e) (row_code width 0) ≡ row_code width a
row_named a b e width is = each_width (λ w. map (renamed a b e) (row_code w 0) ≡ row_code w a) refl refl refl refl refl width is

row_tame : (width : ℕ) → IsWidth width → all_tame (row_code width 0) ≡ true
row_tame width is = each_width (λ w. all_tame (row_code w 0) ≡ true) refl refl refl refl refl width is

module _ (far : Far) (count : ℕ) (plan : FarPlan) (is_plan : IsPlan far plan) (s : Source) (c : Core) (ready : Ready far count plan s c) where
  names : Names (scratch plan 0) (scratch plan 1) (scratch plan 2)
  names = record {
    ab = is_plan.different.0;
    ae = is_plan.different.1.0;
    be = is_plan.different.1.1;
    a4 = (is_plan.registers 0 (omega arith)).1;
    b4 = (is_plan.registers 1 (omega arith)).1;
    e4 = (is_plan.registers 2 (omega arith)).1;
  }

  -- the state under the names
  abbrev pub under : Core
  under = record { gpr = λ j. c.gpr (named (scratch plan 0) (scratch plan 1) (scratch plan 2) j); xmm = c.xmm; flags = c.flags; memory = c.memory }

  pub ready_under : Ready far count plan s under
  ready_under = record {
    bounded = record { gpr = λ r. ready.bounded.gpr (named (scratch plan 0) (scratch plan 1) (scratch plan 2) r); xmm = ready.bounded.xmm; size = ready.bounded.size; memory = ready.bounded.memory };
    index = ready.index;
    last = ready.last;
    array = ready.array;
    first_scalar = ready.first_scalar;
    second_scalar = ready.second_scalar;
    mapped = ready.mapped;
  }

  -- so many values stand in XMM0
  abbrev pub AreValues : Core → Type 0
  AreValues d = (j : ℕ) → j < count → lane (far_size far) j (d.xmm 0) ≡ value_at far s c.memory (s.first + j)

  on_the_way : (x : Core) (i : Ins) → Tamed (scratch plan 0) (scratch plan 1) (scratch plan 2) c x × Sees far count plan s (c.gpr 4) x i → OnTheWay far count plan s c x i
  on_the_way x i h = (keeps x h.0, h.1)
    where
      keeps : (x : Core) → Tamed (scratch plan 0) (scratch plan 1) (scratch plan 2) c x → Keeps plan c x
      keeps x t = record { memory = t.memory; gpr = λ r no. t.gpr r (λ e. no (0, omega arith, e)) (λ e. no (1, omega arith, e)) (λ e. no (2, omega arith, e)); xmm = t.xmm }

  abbrev Leading : List Ins → Type 0
  Leading code = (d : Core) × Line (OnTheWay far count plan s c) code c d × Gathered far count plan s c d

  pub led : (list code : List Ins) → map (renamed (scratch plan 0) (scratch plan 1) (scratch plan 2)) list ≡ code → all_tame list ≡ true → Each IsIns code → Leads far count plan s under ready_under list under AreValues → Leading code
  led list code e tame ranges h =
      let code' = map (renamed (scratch plan 0) (scratch plan 1) (scratch plan 2)) list in
      let twins : Twin (scratch plan 0) (scratch plan 1) (scratch plan 2) c under = record { first = refl; second = refl; third = refl; stack = refl; xmm = λ r. refl; memory = refl } in
      let r = renamed_line (scratch plan 0) (scratch plan 1) (scratch plan 2) names (Near far count plan s under ready_under) (Cells far count plan s under ready_under) list tame c c under h.0
      (record { memory = refl; gpr = λ r x y z. refl; xmm = λ r l. refl }) twins h.1 in
      let d = r.0 in
      let line : Line (OnTheWay far count plan s c) code' c d = line_map (λ x i. Tamed (scratch plan 0) (scratch plan 1) (scratch plan 2) c x × Sees far count plan s (c.gpr 4) x i) (OnTheWay far count plan s c) on_the_way code' c d r.1 in
      let keeps : Keeps plan c d = record { memory = r.3.memory; gpr = λ q no. r.3.gpr q (λ e. no (0, omega arith, e)) (λ e. no (1, omega arith, e)) (λ e. no (2, omega arith, e)); xmm = r.3.xmm } in
      subst Leading e (
        d,
        line,
        record {
          values = λ j l. ap (lane (far_size far) j) (r.2.xmm 0) ∙ h.2 j l;
          keeps = keeps;
          bounded = line_bounded (OnTheWay far count plan s c) code' c d (subst (Each IsIns) (sym e) ranges) ready.bounded line;
        },
      )

  -- element after element
  one_by_one : ((k : ℕ) (a b e : ℕ) → map (renamed a b e) (element_of far plan k 0 1 2) ≡ element_of far plan k a b e) → ((k : ℕ) → all_tame (element_of far plan k 0 1 2) ≡ true) → count * far_size far ≤ 16
      → ((k : ℕ) → k < count → (v : Core) → At under v → AreBytes (v.xmm 0) → Adds far count plan s under ready_under k v) → Each IsIns (elements_code far plan count (scratch plan 0) (scratch plan 1) (scratch plan 2) count) → Leading (elements_code far plan count (scratch plan 0) (scratch plan 1) (scratch plan 2) count)
  one_by_one each tame room adds ranges =
      led (elements_code far plan count 0 1 2 count) (elements_code far plan count (scratch plan 0) (scratch plan 1) (scratch plan 2) count) (all_named count) (tame_all count) ranges
      (run_map (Near far count plan s under ready_under) (Cells far count plan s under ready_under) (elements_code far plan count 0 1 2 count) under (Holds far count plan s under ready_under adds room count) AreValues
      (elements_run far count plan s under ready_under adds room count (omega arith))
      (λ d h j l. h.values j l ∙ ap (λ i. value_at far s c.memory (s.first + i)) (let e : count - count + j ≡ j = omega arith in e)))
    where
      all_named : (n : ℕ) → map (renamed (scratch plan 0) (scratch plan 1) (scratch plan 2)) (elements_code far plan count 0 1 2 n) ≡ elements_code far plan count (scratch plan 0) (scratch plan 1) (scratch plan 2) n
      all_named zero = refl
      all_named (suc n) =
          map-append (renamed (scratch plan 0) (scratch plan 1) (scratch plan 2)) (elements_code far plan count 0 1 2 n) (element_of far plan (count - 1 - n) 0 1 2)
          ∙ ap (λ l. l ++ map (renamed (scratch plan 0) (scratch plan 1) (scratch plan 2)) (element_of far plan (count - 1 - n) 0 1 2)) (all_named n)
          ∙ ap (λ l. elements_code far plan count (scratch plan 0) (scratch plan 1) (scratch plan 2) n ++ l) (each (count - 1 - n) (scratch plan 0) (scratch plan 1) (scratch plan 2))

      tame_all : (n : ℕ) → all_tame (elements_code far plan count 0 1 2 n) ≡ true
      tame_all zero = refl
      tame_all (suc n) = tame_append (elements_code far plan count 0 1 2 n) (element_of far plan (count - 1 - n) 0 1 2) (tame_all n) (tame (count - 1 - n))

  -- all at once
  side_by_side : Scales (bits_of (far_size far)) → ((a b e : ℕ) → map (renamed a b e) (start_code plan (bits_of (far_size far)) 0 1) ≡ start_code plan (bits_of (far_size far)) a b) → all_tame (start_code plan (bits_of (far_size far)) 0 1) ≡ true → far_size far ≡ 2 ^ bits_of (far_size far) → 0 < far_scalars far → ((i : ℕ) → far_first far i s.p s.q ≡ pos i +ℤ scalar s.p) → ((i : ℕ) → element far c.memory s.base (far_first far i s.p s.q) ≡ value_at far s c.memory i)
      → IsWidth (count * far_size far) → Each IsIns (offset_code plan (far_size far) count (scratch plan 0) (scratch plan 1)) → Leading (offset_code plan (far_size far) count (scratch plan 0) (scratch plan 1))
  side_by_side scales each tame size one firsts values w ranges =
      let width = count * far_size far in
      let start : List Ins = start_code plan (bits_of (far_size far)) 0 1 in
      let at : At under under = record { memory = refl; stack = refl } in
      led (start ++ row_code width 0) (offset_code plan (far_size far) count (scratch plan 0) (scratch plan 1))
      (map-append (renamed (scratch plan 0) (scratch plan 1) (scratch plan 2)) start (row_code width 0)
      ∙ ap (λ l. l ++ map (renamed (scratch plan 0) (scratch plan 1) (scratch plan 2)) (row_code width 0)) (each (scratch plan 0) (scratch plan 1) (scratch plan 2))
      ∙ ap (λ l. start_code plan (bits_of (far_size far)) (scratch plan 0) (scratch plan 1) ++ l) (row_named (scratch plan 0) (scratch plan 1) (scratch plan 2) width w))
      (tame_append start (row_code width 0) tame (row_tame width w)) ranges
      (run_map (Near far count plan s under ready_under) (Cells far count plan s under ready_under) (start ++ row_code width 0) under
      (λ d. At under d × ((j : ℕ) → j < count → lane (far_size far) j (d.xmm 0) ≡ element far c.memory s.base (far_first far (s.first + j) s.p s.q))) AreValues
      (offset_run far count plan s under ready_under (bits_of (far_size far)) under scales size one firsts w at) (λ d h j l. h.1 j l ∙ values (s.first + j)))

pub gathers : (far : Far) (count : ℕ) (plan : FarPlan) → IsPlan far plan → IsWidth (count * far_size far) → Each IsIns (gather_code far count plan) → Gathers far count plan (gather_code far count plan)
gathers Loadoffb count plan is w ranges s c ready = side_by_side Loadoffb count plan is s c ready scales_0 (λ a b e. refl) refl refl (omega arith) (λ i. refl) (λ i. refl) w ranges
gathers Loadupdb count plan is w ranges s c ready =
    one_by_one Loadupdb count plan is s c ready (λ k a b e. refl) (λ k. refl) (room_of (count * 1) w) (double_run count plan s (under Loadupdb count plan is s c ready) (ready_under Loadupdb count plan is s c ready)) ranges
gathers Loadupib count plan is w ranges s c ready =
    one_by_one Loadupib count plan is s c ready (λ k a b e. refl) (λ k. refl) (room_of (count * 1) w) (middle_run count plan s (under Loadupib count plan is s c ready) (ready_under Loadupib count plan is s c ready)) ranges
gathers Ldresnearb count plan is w ranges s c ready =
    one_by_one Ldresnearb count plan is s c ready (λ k a b e. refl) (λ k. refl) (room_of (count * 1) w) (near_byte_run count plan s (under Ldresnearb count plan is s c ready) (ready_under Ldresnearb count plan is s c ready)) ranges
gathers Ldresnearl count plan is w ranges s c ready =
    one_by_one Ldresnearl count plan is s c ready (λ k a b e. refl) (λ k. refl) (room_of (count * 4) w) (near_long_run count plan s (under Ldresnearl count plan is s c ready) (ready_under Ldresnearl count plan is s c ready)) ranges
gathers Ldreslinb count plan is w ranges s c ready =
    one_by_one Ldreslinb count plan is s c ready (λ k a b e. refl) (λ k. refl) (room_of (count * 1) w) (linear_byte_run count plan s (under Ldreslinb count plan is s c ready) (ready_under Ldreslinb count plan is s c ready)) ranges
gathers Ldreslinl count plan is w ranges s c ready =
    one_by_one Ldreslinl count plan is s c ready (λ k a b e. refl) (λ k. refl) (room_of (count * 4) w) (linear_long_run count plan s (under Ldreslinl count plan is s c ready) (ready_under Ldreslinl count plan is s c ready)) ranges
gathers Loadoffw count plan is w ranges s c ready = side_by_side Loadoffw count plan is s c ready scales_1 (λ a b e. refl) refl refl (omega arith) (λ i. refl) (λ i. refl) w ranges
gathers Loadoffl count plan is w ranges s c ready = side_by_side Loadoffl count plan is s c ready scales_2 (λ a b e. refl) refl refl (omega arith) (λ i. refl) (λ i. refl) w ranges
