-- The running sums and the patterns that stand in registers go there before the first row of a call, and sums back to the frame after its last.
use Rattle.std.proofs.Common.{◌≡◌, ◌≢◌, ℕ, zero, suc, ◌+◌, ◌^◌, ◌<◌, ◌≤◌, Bool, false, if◌then◌else◌, List, [], ◌∷◌, ◌++◌, get_or, length, Some, Ok, is_some, refl, sym, ap, ◌∙◌, subst, arith, length-append, inr, ⊎_elim}
use Rattle.std.proofs.lemmas.Bool.{cases_eq, cases_lt}
use Rattle.orc_bits.specs.Memory.{IsMapped}
use Rattle.orc_bits.proofs.Memories.{or_else}
use Rattle.x86_ins.specs.declared.ins.Ins.{Ins}
use Rattle.x86_ins.specs.declared.ins.Ins.TheVariants.{VecStore}
use Rattle.x86_ins.specs.declared.ins.MoveOp.TheVariants.{Movdqu}
use Rattle.x86_ins.specs.declared.ins.VecOp.TheVariants.{Pxor}
use Rattle.x86_ins.specs.Machine.{Core, Touches, address, span, work}
use Rattle.x86_ins.specs.Way.{Each}
use Rattle.x86_flow.specs.Does.{Line}
use Rattle.x86_flow.specs.Moves.{away}
use Rattle.x86_flow.specs.Touching.{base_of, touch_weight, AreOwn}
use Rattle.x86_flow.proofs.Moves.{IsFill, line_append}
use Rattle.x86_flow.proofs.Spelled.{IsFine, each_both, fits_up, fine_vec, fine_vec_load, fine_vec_store}
use Rattle.x86_flow.proofs.Touching.{touches_in}
use Rattle.x86_flow.proofs.Words.{at_away}
use Rattle.orc_frame.specs.Layout.{pattern_slot, sum_slot, frame_size}
use Rattle.orc_frame.specs.Parts.{InFrame, InRunning}
use Rattle.orc_region.specs.Code.{resident_register, last_place, resident_code, residents_code, cleared, loaded, resident_loads_code, sum_store_code, sum_stores_code}
use Rattle.orc_region.specs.Elements.{sum_byte}
use Rattle.orc_region.proofs.Block.Frames.{Loaded as Filled, load_slot, clear_register, store_slot}
use Rattle.orc_region.proofs.Block.Sums.{IsResident, IsFramed, resident_yes, resident_no, byte_register, byte_slot}

-- ---- the lists

module _ (at : List ℕ) where
  abbrev last : ℕ
  last = last_place at

  abbrev store : ℕ → Ins
  store g = VecStore Movdqu (resident_register g) (away 4 (sum_slot g))

  abbrev store_of : ℕ → List Ins
  store_of g = store g ∷ []

  -- what holds of one instruction and of none holds of a resident's
  by_load : (T : List Ins → Type 0) (g : ℕ) (i : Ins) → (IsResident last g → T (i ∷ [])) → (IsFramed last g → T []) → T (resident_code at g i)
  by_load T g i one none = ⊎_elim
      (λ l. subst T (sym (ap (λ b. if b then i ∷ [] else []) (resident_yes last g l))) (one l))
      (λ l. subst T (sym (ap (λ b. if b then i ∷ [] else []) (resident_no last g l))) (none l))
      (cases_lt (last + g + 1) 10)

  by_store : (T : List Ins → Type 0) (g : ℕ) → (IsResident last g → T (store_of g)) → (IsFramed last g → T []) → T (sum_store_code at g)
  by_store T g one none = ⊎_elim
      (λ l. subst T (sym (ap (λ b. if b then store_of g else []) (resident_yes last g l))) (one l))
      (λ l. subst T (sym (ap (λ b. if b then store_of g else []) (resident_no last g l))) (none l))
      (cases_lt (last + g + 1) 10)

  module _ (number : ℕ → ℕ) (begins : ℕ → Ins) where
    abbrev loads : ℕ → List Ins
    loads = residents_code at number begins

    abbrev next : ℕ → List Ins
    next n = resident_code at (number n) (begins n)

    -- they are allowed, and at most one for each resident
    fine_some : (n : ℕ) → ((k : ℕ) → k < n → IsFine (begins k)) → Each IsFine (loads n)
    fine_some zero fine = tt
    fine_some (suc n) fine = each_both IsFine (loads n) (next n) (fine_some n (λ k l. fine k (omega (arith, l)))) (by_load (Each IsFine) (number n) (begins n) (λ l. (fine n (omega arith), tt)) (λ l. tt))

    some_few : (n : ℕ) → length (loads n) ≤ n
    some_few zero = omega arith
    some_few (suc n) = omega (arith, length-append (loads n) (next n), some_few n, by_load (λ list. length list ≤ 1) (number n) (begins n) (λ l. omega arith) (λ l. omega arith))

    -- they touch memory by RSP alone
    some_own : ((by : ℕ → Bool) → by 4 ≡ false → (k : ℕ) → touch_weight by (begins k) ≡ 0) → (n : ℕ) → AreOwn (loads n)
    some_own own zero by stack block = tt
    some_own own (suc n) by stack block = each_both (λ i. touch_weight by i ≡ 0) (loads n) (next n) (some_own own n by stack block)
        (by_load (Each (λ i. touch_weight by i ≡ 0)) (number n) (begins n) (λ l. (own by stack n, tt)) (λ l. tt))

  -- no more patterns than there are registers
  patterns_few : (sums n : ℕ) → length (residents_code at (λ j. sums + j) (loaded sums) n) ≤ 9
  patterns_few sums zero = omega arith
  patterns_few sums (suc n) =
      let before = residents_code at (λ j. sums + j) (loaded sums) n in
      by_load (λ list. length (before ++ list) ≤ 9) (sums + n) (loaded sums n)
      (λ l. omega (arith, l, length-append before (loaded sums n ∷ []), some_few (λ j. sums + j) (loaded sums) n))
      (λ l. omega (arith, length-append before [], patterns_few sums n))

  module _ (sums patterns : ℕ) where
    abbrev sum_loads : List Ins
    sum_loads = residents_code at (λ g. g) cleared sums

    abbrev pattern_loads : List Ins
    pattern_loads = residents_code at (λ j. sums + j) (loaded sums) patterns

    pub fine_loads : sums ≤ 4 → patterns ≤ 48 → Each IsFine (resident_loads_code at sums patterns)
    fine_loads few some = each_both IsFine sum_loads pattern_loads
        (fine_some (λ g. g) cleared sums (λ g l. fine_vec Pxor (resident_register g) (resident_register g) (omega arith) (omega arith)))
        (fine_some (λ j. sums + j) (loaded sums) patterns (λ j l. fine_vec_load Movdqu (resident_register (sums + j)) (away 4 (pattern_slot j)) (omega arith) (omega arith) (fits_up (pattern_slot j) (omega (arith, l, some)))))

    pub loads_few : length (resident_loads_code at sums patterns) ≤ sums + 9
    loads_few = omega (arith, length-append sum_loads pattern_loads, some_few (λ g. g) cleared sums, patterns_few sums patterns)

    pub loads_own : AreOwn (resident_loads_code at sums patterns)
    loads_own by stack block = each_both (λ i. touch_weight by i ≡ 0) sum_loads pattern_loads (some_own (λ g. g) cleared (λ by stack g. refl) sums by stack block) (some_own (λ j. sums + j) (loaded sums) (λ by stack j. ap (λ b. if b then 1 else 0) stack) patterns by stack block)

  pub fine_stores : (n : ℕ) → n ≤ 4 → Each IsFine (sum_stores_code at n)
  fine_stores zero few = tt
  fine_stores (suc n) few = each_both IsFine (sum_stores_code at n) (sum_store_code at n) (fine_stores n (omega (arith, few)))
      (by_store (Each IsFine) n (λ l. (fine_vec_store Movdqu (resident_register n) (away 4 (sum_slot n)) (omega arith) (omega arith) (fits_up (sum_slot n) (omega (arith, few))), tt)) (λ l. tt))

  pub stores_few : (n : ℕ) → length (sum_stores_code at n) ≤ n
  stores_few zero = omega arith
  stores_few (suc n) = omega (arith, length-append (sum_stores_code at n) (sum_store_code at n), stores_few n, by_store (λ list. length list ≤ 1) n (λ l. omega arith) (λ l. omega arith))

  pub stores_own : (n : ℕ) → AreOwn (sum_stores_code at n)
  stores_own zero by stack block = tt
  stores_own (suc n) by stack block = each_both (λ i. touch_weight by i ≡ 0) (sum_stores_code at n) (sum_store_code at n) (stores_own n by stack block)
      (by_store (Each (λ i. touch_weight by i ≡ 0)) n (λ l. (ap (λ b. if b then 1 else 0) stack, tt)) (λ l. tt))

  -- ---- what they do; RSP is `rsp`

  module _ (Q : Core → Ins → Type 0) (rsp : ℕ) (low : rsp + frame_size ≤ 2 ^ 47) where
    -- an instruction on 16 bytes of the frame touches the frame
    in_frame : (far : ℕ) → far + 16 ≤ frame_size → (i : Ins) (u : Core) → u.gpr 4 ≡ rsp → base_of i ≡ Some 4 → span i u ≡ (address u (away 4 far), 16) → (a : ℕ) → Touches i u a → InFrame rsp a
    in_frame far l i u stack base is a t =
        let here : address u (away 4 far) ≡ rsp + far = at_away u 4 rsp far stack (omega (arith, low, l)) in
        let x = touches_in 4 (rsp + far) 16 i u (omega (arith, low, l)) (inr (base, is ∙ ap (λ a. (a, 16)) here)) a t in
        (omega (arith, x.0), omega (arith, x.1, l))

    -- what the loads of residents with these numbers leave, where byte b of that with number k is z k b
    record Loaded (number : ℕ → ℕ) (z : ℕ → ℕ → ℕ) (n : ℕ) (c d : Core) : Type 0 where
      gpr : d.gpr ≡ c.gpr
      memory : d.memory ≡ c.memory
      others : (y : ℕ) → ((k : ℕ) → k < n → IsResident last (number k) → y ≢ resident_register (number k)) → d.xmm y ≡ c.xmm y
      there : (k : ℕ) → k < n → IsResident last (number k) → (b : ℕ) → b < 16 → get_or (d.xmm (resident_register (number k))) b 0 ≡ z k b

    module _ (c : Core) (stack : c.gpr 4 ≡ rsp) (calm : (u : Core) (i : Ins) → u.gpr ≡ c.gpr → u.memory ≡ c.memory → ((a : ℕ) → Touches i u a → InFrame rsp a) → Q u i) where
      module _ (number : ℕ → ℕ) (begins : ℕ → Ins) (z : ℕ → ℕ → ℕ) (apart : (j k : ℕ) → j < k → number j ≢ number k) where
        abbrev LoadsLine : ℕ → Core → Type 0
        LoadsLine n b = (d : Core) × Line Q (residents_code at number begins n) b d × Loaded number z n b d

        -- the instruction of resident k fills its register, and touches the frame alone
        record Begins (k : ℕ) : Type 0 where
          fills : (e : Core) → e.gpr ≡ c.gpr → e.memory ≡ c.memory → (d : Core) × (work (begins k) e ≡ Ok d) × Filled (resident_register (number k)) (z k) e d
          touches : (u : Core) → u.gpr ≡ c.gpr → (a : ℕ) → Touches (begins k) u a → InFrame rsp a

        module _ (b : Core) (same_gpr : b.gpr ≡ c.gpr) (same_memory : b.memory ≡ c.memory) where
          one_more : (n : ℕ) → Begins n → LoadsLine n b → LoadsLine (suc n) b
          one_more n start a = ⊎_elim one none (cases_lt (last + number n + 1) 10)
            where
              e : Core
              e = a.0

              h : Loaded number z n b e
              h = a.2

              gpr : e.gpr ≡ c.gpr
              gpr = h.gpr ∙ same_gpr

              memory : e.memory ≡ c.memory
              memory = h.memory ∙ same_memory

              code : List Ins
              code = resident_code at (number n) (begins n)

              none : IsFramed last (number n) → LoadsLine (suc n) b
              none l = (
                e,
                line_append Q (residents_code at number begins n) code b e e a.1 (subst (λ list. Line Q list e e) (sym (ap (λ t. if t then begins n ∷ [] else []) (resident_no last (number n) l))) refl),
                record {
                  gpr = h.gpr;
                  memory = h.memory;
                  others = λ y out. h.others y (λ k lk r. out k (omega (arith, lk)) r);
                  there = λ k lk r j lj. ⊎_elim
                      (λ q. let f : number k ≡ number n = ap number q in absurd (omega (arith, f, r, l)))
                      (λ ne. h.there k (omega (arith, lk, ne)) r j lj)
                      (cases_eq k n);
                },
              )

              one : IsResident last (number n) → LoadsLine (suc n) b
              one l =
                  let x = start.fills e gpr memory in
                  let d = x.0 in
                  let step : Line Q (begins n ∷ []) e d = (calm e (begins n) gpr memory (start.touches e gpr), (d, x.1, refl)) in
                  let kept : (k : ℕ) → k < n → IsResident last (number k) → d.xmm (resident_register (number k)) ≡ e.xmm (resident_register (number k)) = λ k lk r.
                  x.2.others (resident_register (number k)) (λ q. apart k n lk (omega (arith, q, r, l))) in (
                    d,
                    line_append Q (residents_code at number begins n) code b e d a.1 (subst (λ list. Line Q list e d) (sym (ap (λ t. if t then begins n ∷ [] else []) (resident_yes last (number n) l))) step),
                    record {
                      gpr = x.2.gpr ∙ h.gpr;
                      memory = x.2.memory ∙ h.memory;
                      others = λ y out. x.2.others y (out n (omega arith) l) ∙ h.others y (λ k lk r. out k (omega (arith, lk)) r);
                      there = λ k lk r j lj. ⊎_elim
                          (λ q. subst (λ k. get_or (d.xmm (resident_register (number k))) j 0 ≡ z k j) (sym q) (x.2.bytes j lj))
                          (λ ne. let before : k < n = omega (arith, lk, ne) in ap (λ v. get_or v j 0) (kept k before r) ∙ h.there k before r j lj)
                          (cases_eq k n);
                    },
                  )

          some_line : (n : ℕ) → ((k : ℕ) → k < n → Begins k) → LoadsLine n b
          some_line zero starts = (b, refl, record { gpr = refl; memory = refl; others = λ y out. refl; there = λ k l. absurd (omega (arith, l)) })
          some_line (suc n) starts = one_more n (starts n (omega arith)) (some_line n (λ k l. starts k (omega (arith, l))))

      -- what the cleared running sums and the loads of patterns leave
      pub record Brought (sums : ℕ) (patterns : ℕ) (w : ℕ → ℕ → ℕ) (d : Core) : Type 0 where
        pub gpr : d.gpr ≡ c.gpr
        pub memory : d.memory ≡ c.memory
        pub in_sums : (g : ℕ) → g < sums → (b : ℕ) → b < 16 → sum_byte last rsp d g b ≡ Some 0
        pub in_patterns : (j : ℕ) → j < patterns → IsResident last (sums + j) → (b : ℕ) → b < 16 → get_or (d.xmm (resident_register (sums + j))) b 0 ≡ w j b

      -- an instruction that goes to no memory touches none
      clear_begins : (g : ℕ) → Begins (λ g. g) cleared (λ g b. 0) (λ j k l e. omega (arith, l, e)) g
      clear_begins g = record { fills = λ e same m. clear_register e (resident_register g); touches = λ u same a t. absurd (let l = t.1 in omega (arith, l)) }

      load_begins : (sums : ℕ) (w : ℕ → ℕ → ℕ) (j : ℕ) → j < 48 → ((b : ℕ) → b < 16 → c.memory (rsp + pattern_slot j + b) ≡ Some (w j b)) → Begins (λ j. sums + j) (loaded sums) w (λ j k l e. omega (arith, l, e)) j
      load_begins sums w j l there = record {
        fills = λ e same m. load_slot e (resident_register (sums + j)) rsp (pattern_slot j) (w j) (ap (λ f. f 4) same ∙ stack) (omega (arith, low, l)) (λ b lb. ap (λ m. m (rsp + pattern_slot j + b)) m ∙ there b lb);
        touches = λ u same. in_frame (pattern_slot j) (omega (arith, l)) (loaded sums j) u (ap (λ f. f 4) same ∙ stack) refl refl;
      }

      pub loads_line : (sums : ℕ) → sums ≤ 4 → ((g : ℕ) → g < sums → (b : ℕ) → b < 16 → c.memory (rsp + sum_slot g + b) ≡ Some 0) → (patterns : ℕ) (w : ℕ → ℕ → ℕ) → patterns ≤ 48
          → ((j : ℕ) → j < patterns → (b : ℕ) → b < 16 → c.memory (rsp + pattern_slot j + b) ≡ Some (w j b)) → (d : Core) × Line Q (resident_loads_code at sums patterns) c d × Brought sums patterns w d
      loads_line sums few first patterns w some second =
          let x = some_line (λ g. g) cleared (λ g b. 0) (λ j k l e. omega (arith, l, e)) c refl refl sums (λ g l. clear_begins g) in
          let b = x.0 in
          let y = some_line (λ j. sums + j) (loaded sums) w (λ j k l e. omega (arith, l, e)) b x.2.gpr x.2.memory patterns (λ j l. load_begins sums w j (omega (arith, l, some)) (second j l)) in
          let d = y.0 in
          let kept : (g : ℕ) → g < sums → IsResident last g → d.xmm (resident_register g) ≡ b.xmm (resident_register g) = λ g l r. y.2.others (resident_register g) (λ j lj rj e. omega (arith, e, l, r, rj)) in (
            d,
            line_append Q (residents_code at (λ g. g) cleared sums) (residents_code at (λ j. sums + j) (loaded sums) patterns) c b d x.1 y.1,
            record {
              gpr = y.2.gpr ∙ x.2.gpr;
              memory = y.2.memory ∙ x.2.memory;
              in_sums = λ g l j lj. ⊎_elim
                  (λ r. byte_register last rsp d g j r ∙ ap Some (ap (λ v. get_or v j 0) (kept g l r) ∙ x.2.there g l r j lj))
                  (λ f. byte_slot last rsp d g j f ∙ ap (λ m. m (rsp + sum_slot g + j)) (y.2.memory ∙ x.2.memory) ∙ first g l j lj)
                  (cases_lt (last + g + 1) 10);
              in_patterns = λ j l r q lq. y.2.there j l r q lq;
            },
          )

    module _ (z : ℕ → ℕ → ℕ) (c : Core) (stack : c.gpr 4 ≡ rsp) where
      -- what the stores of sums below n leave
      pub record Stored (n : ℕ) (d : Core) : Type 0 where
        pub gpr : d.gpr ≡ c.gpr
        pub xmm : d.xmm ≡ c.xmm
        pub outside : (x : ℕ) → (InRunning rsp n x → ⊥) → d.memory x ≡ c.memory x
        pub sums : (g : ℕ) → g < n → (b : ℕ) → b < 16 → d.memory (rsp + sum_slot g + b) ≡ Some (z g b)

      module _ (calm : (u : Core) (i : Ins) → u.gpr ≡ c.gpr → ((x : ℕ) → (InFrame rsp x → ⊥) → u.memory x ≡ c.memory x) → ((a : ℕ) → Touches i u a → InFrame rsp a) → Q u i) (mapped : (x : ℕ) → InFrame rsp x → IsMapped c.memory x) where
        abbrev StoresLine : ℕ → Type 0
        StoresLine n = (d : Core) × Line Q (sum_stores_code at n) c d × Stored n d

        one_back : (n : ℕ) → suc n ≤ 4 → ((j : ℕ) → j < 16 → sum_byte last rsp c n j ≡ Some (z n j)) → StoresLine n → StoresLine (suc n)
        one_back n few there a = ⊎_elim one none (cases_lt (last + n + 1) 10)
          where
            b : Core
            b = a.0

            h : Stored n b
            h = a.2

            -- the slots of sums from n on are as before
            later : (j : ℕ) → b.memory (rsp + sum_slot n + j) ≡ c.memory (rsp + sum_slot n + j)
            later j = h.outside (rsp + sum_slot n + j) (λ i. let u = i.1 in omega (arith, u))

            none : IsFramed last n → StoresLine (suc n)
            none l = (
              b,
              line_append Q (sum_stores_code at n) (sum_store_code at n) c b b a.1 (subst (λ list. Line Q list b b) (sym (ap (λ t. if t then store_of n else []) (resident_no last n l))) refl),
              record {
                gpr = h.gpr;
                xmm = h.xmm;
                outside = λ x out. h.outside x (λ i. out (i.0, (let u = i.1 in omega (arith, u))));
                sums = λ g lg j lj. ⊎_elim
                    (λ e. subst (λ g. b.memory (rsp + sum_slot g + j) ≡ Some (z g j)) (sym e) (later j ∙ sym (byte_slot last rsp c n j l) ∙ there j lj))
                    (λ ne. h.sums g (omega (arith, lg, ne)) j lj)
                    (cases_eq g n);
              },
            )

            one : IsResident last n → StoresLine (suc n)
            one l =
                let own : b.gpr 4 ≡ rsp = ap (λ f. f 4) h.gpr ∙ stack in
                let x = store_slot b (resident_register n) rsp (sum_slot n) own (omega (arith, low, few)) (λ j lj. ap is_some (later j) ∙ mapped (rsp + sum_slot n + j) (omega arith, omega (arith, lj, few))) in
                let d = x.0 in
                let f : IsFill 16 b.memory (rsp + sum_slot n) (λ j. get_or (b.xmm (resident_register n)) j 0) d.memory = x.4 in
                let calm_b : Q b (store n) = calm b (store n) h.gpr (λ y out. h.outside y (λ i. out (omega (arith, i.0), (let u = i.1 in omega (arith, u, few))))) (in_frame (sum_slot n) (omega (arith, few)) (store n) b own refl refl) in
                let step : Line Q (store_of n) b d = (calm_b, (d, x.1, refl)) in
                let value : (j : ℕ) → j < 16 → get_or (b.xmm (resident_register n)) j 0 ≡ z n j = λ j lj.
                ap (λ v. get_or (v (resident_register n)) j 0) h.xmm ∙ ap (or_else 0) (sym (byte_register last rsp c n j l) ∙ there j lj) in (
                  d,
                  line_append Q (sum_stores_code at n) (sum_store_code at n) c b d a.1 (subst (λ list. Line Q list b d) (sym (ap (λ t. if t then store_of n else []) (resident_yes last n l))) step),
                  record {
                    gpr = x.2 ∙ h.gpr;
                    xmm = x.3 ∙ h.xmm;
                    outside = λ y out. f.outside y (λ j lj e. out (omega (arith, e), omega (arith, e, lj))) ∙ h.outside y (λ i. out (i.0, (let u = i.1 in omega (arith, u))));
                    sums = λ g lg j lj. ⊎_elim
                        (λ e. subst (λ g. d.memory (rsp + sum_slot g + j) ≡ Some (z g j)) (sym e) (f.inside j lj ∙ ap Some (value j lj)))
                        (λ ne. f.outside (rsp + sum_slot g + j) (λ k lk e. omega (arith, e, lg, ne, lj, lk)) ∙ h.sums g (omega (arith, lg, ne)) j lj)
                        (cases_eq g n);
                  },
                )

        pub stores_line : (n : ℕ) → n ≤ 4 → ((g : ℕ) → g < n → (b : ℕ) → b < 16 → sum_byte last rsp c g b ≡ Some (z g b)) → StoresLine n
        stores_line zero few there = (c, refl, record { gpr = refl; xmm = refl; outside = λ x out. refl; sums = λ g l. absurd (omega (arith, l)) })
        stores_line (suc n) few there = one_back n few (there n (omega arith)) (stores_line n (omega (arith, few)) (λ g l. there g (omega (arith, l))))
