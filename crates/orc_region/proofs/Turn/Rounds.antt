-- Turns of so many elements are what the loops of a row ask for.
use Rattle.std.proofs.Common.{◌≡◌, ◌≢◌, min, ◌-◌, ℕ, zero, suc, ◌+◌, ◌/◌, true≢false, inl, ⊎_elim, ◌*◌, ◌%◌, ◌^◌, ◌<◌, ◌≤◌, Bool, true, false, is_some, if◌then◌else◌, nat_lt, suc-mul, le_refl, sym, ap, ◌∙◌, subst, arith, refl, List, length}
use Rattle.std.proofs.Math.Nat.{mul_assoc, mul-le-mul_left, mul-le-mul_right}
use Rattle.std.proofs.lemmas.Bool.{ltb-true}
use Rattle.orc_bits.specs.Memory.{Memory, IsMapped}
use Rattle.x86_ins.specs.declared.ins.Ins.{Ins}
use Rattle.x86_ins.specs.Machine.{Core, Bounded}
use Rattle.x86_ins.specs.Spelling.{IsIns}
use Rattle.x86_ins.specs.Way.{Each}
use Rattle.x86_flow.specs.Flow.{Flow, Plain}
use Rattle.x86_flow.specs.Touching.{touch_weight}
use Rattle.x86_flow.specs.Does.{Does}
use Rattle.x86_flow.proofs.Plans.{weigh}
use Rattle.orc_region.specs.Code.{Plan, IsBlocksTurn, AreParts, pointer, resident_register, aligned_first, turns_flow, from_first, from_boundary}
use Rattle.orc_region.specs.Regions.{TurnParts, wide_loop, wide_loops}
use Rattle.orc_region.proofs.Block.Registers.{not_0, not_1}
use Rattle.orc_region.proofs.Block.Cells.{Numbers}
use Rattle.orc_frame.specs.Layout.{frame_size}
use Rattle.orc_frame.specs.Parts.{InChanged}
use Rattle.orc_region.proofs.Block.FarActions.{row_kept}
use Rattle.orc_region.proofs.Block.Frames.{framed_below}
use Rattle.orc_region.proofs.Block.Touched.{TouchesTurn}
use Rattle.orc_region.proofs.Turn.Advancing.{Setting, Able, IsDestCell, Calm, Inside, row_now, turn_line}
use Rattle.orc_region.proofs.Row.Regions.{InWord, Beside, Ground, IsTurn, IsRegion, IsPiece, wide_region, wide_regions, plain_line, turns_line, tested_line, aligned_line}
use Rattle.orc_region.proofs.Row.Parts.{parts_map}
use Rattle.orc_region.proofs.Row.Gaps.{AtSixteen, each_size, sixteen_on}

-- fewer turns, of no more instructions and touches
few_turns : (xs : List Ins) (a b m t x y : ℕ) → a ≤ b → m ≤ t → x ≤ y → length xs ≤ a + m * x → length xs ≤ b + t * y
few_turns xs a b m t x y l few less h =
    let one : m * x ≤ t * x = mul-le-mul_right x few in
    let two : t * x ≤ t * y = mul-le-mul_left t less in
    omega (arith, one, two, l, h)

light_turns : (v : Ins → ℕ) (xs : List Ins) (m t x : ℕ) → m ≤ t → weigh v xs ≤ m * x → weigh v xs ≤ t * x
light_turns v xs m t x few h = (let one : m * x ≤ t * x = mul-le-mul_right x few in omega (arith, one, h))

-- F are the addresses of the frame; `first` is the memory before the row's elements
module _ (n : ℕ) (base : ℕ → ℕ) (P : ℕ → Type 0) (numbers : Numbers) (rsp : ℕ) (p : Plan) (Emul : ℕ → Memory → (ℕ → ℕ) → Type 0) (F : ℕ → Type 0) (set : Setting n base P numbers rsp p Emul F) (rdi : ℕ) (first : Memory)
    (Q : Core → Ins → Type 0) (stack_low : rsp + (frame_size + 8) ≤ 2 ^ 47) (framed : (a : ℕ) → rsp ≤ a → a < rsp + frame_size → F a) where
  abbrev pub InFree : ℕ → Type 0
  InFree = InWord Q rsp stack_low

  abbrev pub Dest : ℕ → Type 0
  Dest = IsDestCell n base P numbers rsp p Emul F set

  -- what holds at each step: outside dests' cells, running sums, spill slots and the word memory is as before the row's elements
  pub record Outside (u : Core) : Type 0 where
    pub stack : u.gpr 4 ≡ rsp
    pub quiet : (a : ℕ) → (Dest a → ⊥) → (InChanged rsp numbers.sums a → ⊥) → (InFree a → ⊥) → u.memory a ≡ first a

  -- before element i, by the memory `mem`, which may differ from the first in the word
  pub record At (i : ℕ) (c : Core) : Type 0 where
    pub e : Memory
    pub totals : ℕ → ℕ
    pub mem : Memory
    pub near : (a : ℕ) → (Dest a → ⊥) → (InChanged rsp numbers.sums a → ⊥) → (InFree a → ⊥) → mem a ≡ first a
    pub inside : Inside n base P numbers rsp p Emul F set rdi mem i e totals c
    pub emulated : Emul i e totals
    pub there : (a : ℕ) → InFree a → IsMapped c.memory a

  free_frame : (a : ℕ) → InFree a → F a
  free_frame a w = framed a (omega (arith, w.0)) (omega (arith, w.1))

  free_dest : (a : ℕ) → InFree a → Dest a → ⊥
  free_dest a w t = set.apart t.0 t.1.0 t.2 t.3 t.4 t.5 (subst F t.6 (free_frame a w))

  free_changed : (a : ℕ) → InFree a → InChanged rsp numbers.sums a → ⊥
  free_changed a w s = ⊎_elim (λ i. let few = set.ground.frame.few_sums in omega (arith, w.0, i.1, few)) (λ i. omega (arith, w.1, i.0)) s

  -- slots with aligned stores have a register's bytes of so many elements, at a multiple of 16 at element i
  abbrev Aligned : ℕ → (ℕ → Bool) → ℕ → Type 0
  Aligned count aligned i = (k : ℕ) → P k → aligned k ≡ true → (count * p.size k ≡ 16) × ((base k + i * p.size k) % 16 ≡ 0)

  -- Free is what holds where the first dest is stored a whole register at once by stores that aren't aligned
  module _ (Free : Type 0) (calmly : (u : Core) (i : Ins) → Outside u → TouchesTurn n base p.size P rsp Free base numbers 0 n u i → Q u i) where
    outside : (i : ℕ) (c u : Core) → At i c → Beside Q rsp stack_low c u → Outside u
    outside i c u h b = record {
      stack = b.gpr 4 (λ e. omega (arith, e)) (λ e. omega (arith, e)) ∙ h.inside.calm.stack;
      quiet = λ a k s w. b.memory a w ∙ h.inside.calm.quiet a k s ∙ h.near a k s w;
    }

    go_on : (i : ℕ) (c d : Core) → At i c → Beside Q rsp stack_low c d → Bounded d → At i d
    go_on i c d h b bounded =
        let x = h.inside in
        let frame = set.ground.frame in
        record {
          e = h.e;
          totals = h.totals;
          mem = d.memory;
          near = λ a k s w. b.memory a w ∙ x.calm.quiet a k s ∙ h.near a k s w;
          inside = record {
            pointers = λ k t. b.gpr (pointer k) (not_0 k) (not_1 k) ∙ x.pointers k t;
            block = b.gpr 7 (λ e. omega (arith, e)) (λ e. omega (arith, e)) ∙ x.block;
            calm = record { stack = b.gpr 4 (λ e. omega (arith, e)) (λ e. omega (arith, e)) ∙ x.calm.stack; quiet = λ a k s. refl };
            agree = λ a nf. b.memory a (λ w. nf (free_frame a w)) ∙ x.agree a nf;
            mapped = x.mapped;
            framed = framed_below numbers rsp frame c d h.totals (λ a l u. b.memory a (λ w. omega (arith, w.0, u))) (λ a i. b.mapped a) (λ k l. ap (λ f. f (resident_register k)) b.xmm) x.framed;
            bounded = bounded;
            row = row_kept n base p.size P numbers rsp set.fars frame.low rdi c.memory d.memory (λ a l u. b.memory a (λ w. omega (arith, w.0, u))) (λ a f. b.memory a (λ w. set.fars_apart a f (free_frame a w)))
                (row_now n base P numbers rsp p Emul F set rdi h.mem c x.calm x.row);
          };
          emulated = h.emulated;
          there = λ a w. b.mapped a (h.there a w);
        }

    -- the loops of a row may stand on these turns
    pub ground : Ground Q rsp stack_low n At
    ground = record {
      few = set.few;
      on = go_on;
      bounded = λ i c h. h.inside.bounded;
      stack = λ i c h. h.inside.calm.stack;
      word = λ i c h. h.there;
      calm = λ i c h u ins b t. calmly u ins (outside i c u h b) (inl (inl (λ a w. (let x = t a w in (omega (arith, x.0), omega (arith, x.1))))));
    }

    module _ (by : ℕ → Bool) (by_stack : by 4 ≡ false) (each some : ℕ) where
      -- what is known of a turn of so many blocks; it takes no more instructions than as many turns of one block
      pub record Round (count : ℕ) (aligned : ℕ → Bool) (b : ℕ) (list : List Ins) : Type 0 where
        pub turn : IsBlocksTurn (Able n base P numbers rsp p Emul F count aligned) count p.size aligned p.dests p.sources b list
        pub known : Each IsIns list
        pub short : 2 + length list ≤ b * (2 + each)
        pub light : weigh (touch_weight by) list ≤ b * some

      -- it is what a loop asks for
      pub turn_is : (count : ℕ) (aligned : ℕ → Bool) (b : ℕ) (list : List Ins) → Round count aligned b list → 0 < count → (all : ℕ) → b * count ≡ all → all ≤ 64 → (steps : ℕ) → length list ≤ steps → (Pre : ℕ → Type 0) → ((i : ℕ) → Pre i → Aligned count aligned i) → ((i : ℕ) → Pre i → aligned 0 ≡ false → count * p.size 0 ≡ 16 → Free)
          → IsTurn Q rsp stack_low n At ground by by_stack each some (Plain list) all Pre steps (b * some)
      turn_is count aligned b list x positive all all_is most steps short Pre aligns free = subst (λ k. IsTurn Q rsp stack_low n At ground by by_stack each some (Plain list) k Pre steps (b * some)) all_is turn
        where
          turn : IsTurn Q rsp stack_low n At ground by by_stack each some (Plain list) (b * count) Pre steps (b * some)
          turn i c within h pre =
              let calm : (u : Core) (i : Ins) → Calm n base P numbers rsp p Emul F set rdi h.mem u → TouchesTurn n base p.size P rsp Free base numbers 0 n u i → Q u i = λ u i w. calmly u i (record { stack = w.stack; quiet = λ a k s f. w.quiet a k s ∙ h.near a k s f }) in
              let t = turn_line n base P numbers rsp p Emul F set rdi h.mem Q Free calm count positive aligned (free i pre) b list x.turn (omega (arith, most, all_is)) x.known i (aligns i pre) h.e h.totals c within h.inside h.emulated in
              let same : (a : ℕ) → InFree a → t.2.memory a ≡ c.memory a = λ a w. t.5.calm.quiet a (free_dest a w) (free_changed a w) ∙ sym (h.inside.calm.quiet a (free_dest a w) (free_changed a w)) in (
                list,
                t.2,
                (t.4, refl),
                record { e = t.0; totals = t.1; mem = h.mem; near = h.near; inside = t.5; emulated = t.3; there = λ a w. subst (λ o. is_some o ≡ true) (sym (same a w)) (h.there a w) },
                record { counter = t.6; tested = t.7; word = same },
                short,
                x.light,
              )

      -- ---- several at once

      module _ (lanes : ℕ) (positive : 0 < lanes) (most : lanes ≤ 16) (Pre : ℕ → Type 0) (next : (i : ℕ) → Pre i → Pre (lanes + i)) where
        next_many : (b i : ℕ) → Pre i → Pre (b * lanes + i)
        next_many zero i pre = (let e : i ≡ 0 * lanes + i = omega arith in subst Pre e pre)
        next_many (suc b) i pre = (let e : lanes + (b * lanes + i) ≡ suc b * lanes + i = omega (arith, suc-mul b lanes) in subst Pre e (next (b * lanes + i) (next_many b i pre)))

        module _ (aligned : ℕ → Bool) (aligns : (i : ℕ) → Pre i → Aligned lanes aligned i) (free : (i : ℕ) → Pre i → aligned 0 ≡ false → lanes * p.size 0 ≡ 16 → Free) (list : List Ins) (x : Round lanes aligned 1 list) where
          one_turn : IsTurn Q rsp stack_low n At ground by by_stack each some (Plain list) lanes Pre each some
          one_turn i c within h pre =
              let short = x.short in
              let t = turn_is lanes aligned 1 list x positive lanes (omega arith) (omega (arith, most)) each (omega (arith, short)) Pre aligns free i c within h pre in
              (t.0, t.1, t.2, t.3, t.4, t.5, omega (arith, t.6))

          -- turns of one block
          pub wide_is : IsRegion Q rsp stack_low n At ground by by_stack each some (wide_loop (Plain list)) lanes Pre 1
          wide_is = wide_region Q rsp stack_low n At ground by by_stack each some (Plain list) lanes Pre positive (omega (arith, most)) next one_turn

          -- whole turns, by large ones where these have several blocks
          pub turns_are : (b : ℕ) → b ≤ 4 → (large : List Ins) → (1 < b → Round lanes aligned b large) → IsRegion Q rsp stack_low n At ground by by_stack each some (turns_flow lanes b large list) lanes Pre 4
          turns_are b few large y = go (nat_lt 1 b) refl
            where
              width : b * lanes ≤ 64
              width = (let m : b * lanes ≤ 4 * lanes = mul-le-mul_right lanes few in omega (arith, m, most))

              under : 1 < b → lanes ≤ b * lanes
              under l = (let m : 1 * lanes ≤ b * lanes = mul-le-mul_right lanes (omega (arith, l)) in omega (arith, m))

              go : (t : Bool) → nat_lt 1 b ≡ t → IsRegion Q rsp stack_low n At ground by by_stack each some (if t then wide_loops lanes (b * lanes) (Plain large) (Plain list) else wide_loop (Plain list)) lanes Pre 4
              go false e = λ i c m rest all short at pre counter tested. (let z = wide_is i c m rest all short at pre counter tested in (z.0, z.1, z.2, z.3, omega (arith, z.4), z.5))
              go true e =
                  let several : 1 < b = ltb-true 1 b e in
                  let large_is = y several in
                  wide_regions Q rsp stack_low n At ground by by_stack each some (Plain list) (Plain large) lanes b Pre (length large) (b * some) positive (omega (arith, several)) width (under several) next (next_many b) one_turn
                  (turn_is lanes aligned b large large_is positive (b * lanes) refl width (length large) (le_refl (length large)) Pre aligns free) large_is.short (le_refl (b * some))

-- the loops of a row
module _ (n : ℕ) (base : ℕ → ℕ) (P : ℕ → Type 0) (numbers : Numbers) (rsp : ℕ) (p : Plan) (Emul : ℕ → Memory → (ℕ → ℕ) → Type 0) (F : ℕ → Type 0) (set : Setting n base P numbers rsp p Emul F) (rdi : ℕ) (first : Memory)
    (Q : Core → Ins → Type 0) (stack_low : rsp + (frame_size + 8) ≤ 2 ^ 47) (framed : (a : ℕ) → rsp ≤ a → a < rsp + frame_size → F a)
    (Free : Type 0) (calmly : (u : Core) (i : Ins) → Outside n base P numbers rsp p Emul F set rdi first Q stack_low framed u → TouchesTurn n base p.size P rsp Free base numbers 0 n u i → Q u i)
    (by : ℕ → Bool) (by_stack : by 4 ≡ false) (each some : ℕ) (lanes : ℕ) (positive : 0 < lanes) (most : lanes ≤ 16) (b : ℕ) (few : b ≤ 4) where
  abbrev Place : ℕ → Core → Type 0
  Place = At n base P numbers rsp p Emul F set rdi first Q stack_low framed

  abbrev pub Turned : ℕ → Bool → ℕ → List Ins → Type 0
  Turned count aligned = Round n base P numbers rsp p Emul F set rdi first Q stack_low framed Free calmly by by_stack each some count (aligned_first aligned)

  abbrev g : Ground Q rsp stack_low n Place
  g = ground n base P numbers rsp p Emul F set rdi first Q stack_low framed Free calmly

  abbrev Aligns : ℕ → Bool → ℕ → Type 0
  Aligns count aligned i = (k : ℕ) → P k → aligned_first aligned k ≡ true → (count * p.size k ≡ 16) × ((base k + i * p.size k) % 16 ≡ 0)

  none_aligned : (count i : ℕ) → Aligns count false i
  none_aligned count i k h e = absurd (true≢false (sym e))

  -- turns of several elements without aligned stores
  module _ (wide : List Ins) (is_wide : Turned lanes false 1 wide) where
    pub wide_turns : Free → (large : List Ins) → (1 < b → Turned lanes false b large) → IsRegion Q rsp stack_low n Place g by by_stack each some (turns_flow lanes b large wide) lanes (λ i. Unit {0}) 4
    wide_turns free large is_large =
        turns_are n base P numbers rsp p Emul F set rdi first Q stack_low framed Free calmly by by_stack each some lanes positive most (λ i. Unit {0}) (λ i t. tt) (aligned_first false) (λ i t. none_aligned lanes i) (λ i t u e. free) wide is_wide b few large is_large

    -- one block a turn, while Pre holds, by which no store of a whole register to the first dest need be aligned
    unaligned_turns : (Pre : ℕ → Type 0) → ((i : ℕ) → Pre i → Pre (lanes + i)) → ((i : ℕ) → Pre i → Free) → IsRegion Q rsp stack_low n Place g by by_stack each some (wide_loop (Plain wide)) lanes Pre 1
    unaligned_turns Pre next free = wide_is n base P numbers rsp p Emul F set rdi first Q stack_low framed Free calmly by by_stack each some lanes positive most Pre next (aligned_first false) (λ i t. none_aligned lanes i) (λ i h u e. free i h) wide is_wide

  -- the first dest alone is stored aligned
  first_is : (k : ℕ) → aligned_first true k ≡ true → k ≡ 0
  first_is k e = grind (arith, e)

  -- a first dest with elements of 2 ^ k bytes, of which `lanes` fill a register; the turns `aligned` store it aligned
  module _ (aligned : List Ins) (is_aligned : Turned lanes true 1 aligned) (k : ℕ) (small : k ≤ 3) (full : 16 / 2 ^ k ≡ lanes) (size_is : p.size 0 ≡ 2 ^ k) where
    whole_register : lanes * p.size 0 ≡ 16
    whole_register = each_size (λ k. (l s : ℕ) → 16 / 2 ^ k ≡ l → s ≡ 2 ^ k → l * s ≡ 16)
        (λ l s a b. sym (ap (λ x. x * s) a) ∙ ap (λ x. 16 * x) b) (λ l s a b. sym (ap (λ x. x * s) a) ∙ ap (λ x. 8 * x) b) (λ l s a b. sym (ap (λ x. x * s) a) ∙ ap (λ x. 4 * x) b) (λ l s a b. sym (ap (λ x. x * s) a) ∙ ap (λ x. 2 * x) b)
        k small lanes (p.size 0) full size_is

    aligns : (i : ℕ) → AtSixteen k (base 0) i → Aligns lanes true i
    aligns i at j h e =
        let z = first_is j e in
        (ap (λ t. lanes * p.size t) z ∙ whole_register, ap (λ t. (base t + i * p.size t) % 16) z ∙ ap (λ t. (base 0 + i * t) % 16) size_is ∙ at)

    pub aligned_turns : (large : List Ins) → (1 < b → Turned lanes true b large) → IsRegion Q rsp stack_low n Place g by by_stack each some (turns_flow lanes b large aligned) lanes (AtSixteen k (base 0)) 4
    aligned_turns large is_large =
        turns_are n base P numbers rsp p Emul F set rdi first Q stack_low framed Free calmly by by_stack each some lanes positive most (AtSixteen k (base 0)) (λ i t. subst (λ l. AtSixteen k (base 0) (l + i)) full (sixteen_on k small (base 0) i t)) (aligned_first true) aligns (λ i t e. absurd (true≢false e)) aligned is_aligned b few large is_large

    -- at most half as many elements are no whole register
    pub narrow : (count : ℕ) → 2 * count ≤ lanes → count * p.size 0 ≡ 16 → ⊥
    narrow count half e = (let m : 2 * count * p.size 0 ≤ lanes * p.size 0 = mul-le-mul_right (p.size 0) half in omega (arith, m, mul_assoc 2 count (p.size 0), e, whole_register))

  -- a turn of one block, of some elements
  pub record TurnedPart (count : ℕ) (turn : List Ins) : Type 0 where
    pub some_elements : 0 < count
    pub is : Turned count false 1 turn

  abbrev Piece : ℕ → List Ins → Type 0
  Piece = IsPiece Q rsp stack_low n Place g by by_stack each some

  -- where at most half as many elements as a turn does fill a register of the first dest
  abbrev pub FreeBelow : Type 0
  FreeBelow = (count : ℕ) → 2 * count ≤ lanes → count * p.size 0 ≡ 16 → Free

  -- whole turns, which are all of the row where `whole` is true, and parts of one, at most t turns
  module _ (parts : TurnParts) (whole : Bool) (are_parts : whole ≡ false → AreParts TurnedPart lanes parts) (none : whole ≡ true → n % lanes ≡ 0) (t : ℕ) (behind : n / lanes + n % lanes ≤ t) where
    piece : FreeBelow → (count : ℕ) (turn : List Ins) → 2 * count ≤ lanes → TurnedPart count turn → Piece count turn
    piece free count turn half x = record { some_elements = x.some_elements; does = does }
      where
        does : IsTurn Q rsp stack_low n Place g by by_stack each some (Plain turn) count (λ i. Unit {0}) each some
        does i c within h pre =
            let is = x.is in
            let short = is.short in
            let t = turn_is n base P numbers rsp p Emul F set rdi first Q stack_low framed Free calmly by by_stack each some count (aligned_first false) 1 turn is x.some_elements count (omega arith) (omega (arith, half, most)) each (omega (arith, short)) (λ i. Unit {0}) (λ i t. none_aligned count i) (λ i t u. free count half) i c within h pre in
            (t.0, t.1, t.2, t.3, t.4, t.5, omega (arith, t.6))

    pieces : whole ≡ false → FreeBelow → AreParts Piece lanes parts
    pieces some_left free = parts_map TurnedPart Piece lanes (λ count turn half x. piece free count turn half x) parts lanes (le_refl lanes) (are_parts some_left)

    -- from the first element on
    pub first_done : (turns : Flow) (Pre : ℕ → Type 0) → IsRegion Q rsp stack_low n Place g by by_stack each some turns lanes Pre 4 → Pre 0 → FreeBelow → (c : Core) → Place 0 c → c.gpr 1 ≡ n
        → (done : List Ins) × (d : Core) × Does Q (from_first whole lanes parts turns) c done d × Place n d × (length done ≤ 13 + t * (2 + each)) × (weigh (touch_weight by) done ≤ t * some)
    first_done turns Pre region pre free c h counts = go whole refl
      where
        go : (k : Bool) → whole ≡ k → (done : List Ins) × (d : Core) × Does Q (from_first k lanes parts turns) c done d × Place n d × (length done ≤ 13 + t * (2 + each)) × (weigh (touch_weight by) done ≤ t * some)
        go true e =
            let y = turns_line Q rsp stack_low n Place g by by_stack each some turns lanes 4 Pre positive (omega (arith, most)) (none e) region pre c h counts in
            let fewer : n / lanes ≤ t = omega (arith, behind) in
            (y.0, y.1, y.2, y.3, few_turns y.0 5 13 (n / lanes) t (2 + each) (2 + each) (omega arith) fewer (omega arith) y.4, light_turns (touch_weight by) y.0 (n / lanes) t some fewer y.5)
        go false e = plain_line Q rsp stack_low n Place g by by_stack each some parts turns lanes 4 t Pre positive most (pieces e free) region pre behind c h counts

    -- from where the first dest is at a multiple of 16, if it is somewhere
    module _ (granted : whole ≡ false → t ≡ min n (n / lanes + 2 * lanes - 2))
        (wide : List Ins) (is_wide : Turned lanes false 1 wide) (aligned : List Ins) (is_aligned : Turned lanes true 1 aligned) (k : ℕ) (small : k ≤ 3) (full : 16 / 2 ^ k ≡ lanes) (some_dest : 0 < p.dests) (size_is : p.size 0 ≡ 2 ^ k)
        (large : List Ins) (is_large : 1 < b → Turned lanes true b large)
        -- where it is nowhere, or, where the row is whole turns, not at the first element
        (free_nowhere : whole ≡ false → ((j : ℕ) → j + lanes ≤ n → AtSixteen k (base 0) j → ⊥) → Free) (free_first : whole ≡ true → (AtSixteen k (base 0) 0 → ⊥) → Free) where
      pub boundary_done : (c : Core) → Place 0 c → c.gpr 1 ≡ n
          → (done : List Ins) × (d : Core) × Does Q (from_boundary whole k lanes parts wide (turns_flow lanes b large aligned)) c done d × Place n d × (length done ≤ 20 + t * (3 + (2 + each))) × (weigh (touch_weight by) done ≤ t * some)
      boundary_done c h counts = go whole refl
        where
          address : base 0 % 2 ^ 64 ≡ c.gpr 2
          address = (let x = h.inside.pointers 0 (inl some_dest) in omega (arith, x))

          region : IsRegion Q rsp stack_low n Place g by by_stack each some (turns_flow lanes b large aligned) lanes (AtSixteen k (base 0)) 4
          region = aligned_turns aligned is_aligned k small full size_is large is_large

          unaligned_4 : IsRegion Q rsp stack_low n Place g by by_stack each some (wide_loop (Plain wide)) lanes (λ i. Free) 4
          unaligned_4 = λ i c m rest all short at pre counter tested. (let z = unaligned_turns wide is_wide (λ i. Free) (λ i f. f) (λ i f. f) i c m rest all short at pre counter tested in (z.0, z.1, z.2, z.3, omega (arith, z.4), z.5))

          at_first : c.gpr 2 % 16 ≡ 0 → AtSixteen k (base 0) 0
          at_first m = omega (arith, address, m)

          not_first : c.gpr 2 % 16 ≢ 0 → AtSixteen k (base 0) 0 → ⊥
          not_first m at = m (omega (arith, address, at))

          go : (w : Bool) → whole ≡ w → (done : List Ins) × (d : Core) × Does Q (from_boundary w k lanes parts wide (turns_flow lanes b large aligned)) c done d × Place n d × (length done ≤ 20 + t * (3 + (2 + each))) × (weigh (touch_weight by) done ≤ t * some)
          go true e =
              let y = tested_line Q rsp stack_low n Place g by by_stack each some (wide_loop (Plain wide)) (turns_flow lanes b large aligned) lanes 4 (AtSixteen k (base 0)) (λ i. Free) positive (omega (arith, most)) (none e) region unaligned_4 c h counts at_first (λ m. free_first e (not_first m)) in
              let fewer : n / lanes ≤ t = omega (arith, behind) in
              (y.0, y.1, y.2, y.3, few_turns y.0 9 20 (n / lanes) t (2 + each) (3 + (2 + each)) (omega arith) fewer (omega arith) y.4, light_turns (touch_weight by) y.0 (n / lanes) t some fewer y.5)
          go false e =
              aligned_line Q rsp stack_low n Place g by by_stack each some parts (wide_loop (Plain wide)) (turns_flow lanes b large aligned) k lanes 1 (base 0) positive most t (granted e) (pieces e (λ count half z. absurd (narrow aligned is_aligned k small full size_is count half z))) region
              (unaligned_turns wide is_wide (λ i. (j : ℕ) → j + lanes ≤ n → AtSixteen k (base 0) j → ⊥) (λ i t. t) (λ i none. free_nowhere e none)) small full c h counts address
