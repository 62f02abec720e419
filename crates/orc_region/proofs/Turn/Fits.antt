-- The loops over a row's elements are allowed, and have few bytes.
use Rattle.std.proofs.Common.{◌≡◌, ℕ, ◌+◌, ◌*◌, ◌<◌, ◌≤◌, ◌==◌, if◌then◌else◌, Bool, true, false, List, length, nat_lt, le_refl, refl, sym, ap, subst, arith, ⊎_elim}
use Rattle.std.proofs.lemmas.Bool.{cases_lt, lt-ltb, le-ltb, ltb-true}
use Rattle.orc_ops.specs.declared.target.Target.{Target as CodeTarget}
use Rattle.orc_program.specs.Program.{FunctionValue}
use Rattle.orc_program.specs.Kept.{is_function}
use Rattle.orc_program.specs.Need.{lanes, has_whole_turns, begins_aligned}
use Rattle.orc_program.specs.Slots.{size_of_slot}
use Rattle.x86_ins.specs.declared.ins.Cond.TheVariants.{Ns}
use Rattle.x86_ins.specs.declared.ins.Ins.{Ins}
use Rattle.x86_ins.specs.Way.{Each}
use Rattle.x86_flow.specs.declared.tree.Flow.{Flow as Tree}
use Rattle.x86_flow.specs.Flow.{Flow, Plain, flat, size}
use Rattle.x86_flow.specs.Tree.{flat_of}
use Rattle.x86_flow.proofs.Shapes.{loop_size, loop_fine}
use Rattle.x86_flow.proofs.Spelled.{all_allowed}
use Rattle.orc_region.specs.Code.{IsPart, AreParts, IsTurnOf, Turns, IsElements, shift_of, fills, blocks_of, turns_flow, from_first, from_boundary, elements_flow, elements_of}
use Rattle.orc_region.specs.Regions.{TurnParts, wide_loop, wide_loops}
use Rattle.orc_region.proofs.Sizes.Loops.{Fits, FitsPart, fits_list, fits_whole, fits_tested, fits_plain, fits_aligned, fits_larges}
use Rattle.orc_region.proofs.Checked.Several.{IsCount, share_count, lanes_count}
use Rattle.orc_region.proofs.Checked.Knows.{IsLight}
use Rattle.orc_region.proofs.Row.Parts.{parts_map}
use Rattle.orc_region.proofs.Turn.Lists.{few_blocks, blocks_near, stand_is, turn_fine, turn_size, light_size}
use Rattle.orc_region.proofs.Turn.Light.{light_one, light_turn}

few_shifts : (a b c : Bool) → (if a then 3 else (if b then 2 else (if c then 1 else 0))) ≤ 3
few_shifts true b c = omega arith
few_shifts false true c = omega arith
few_shifts false false true = omega arith
few_shifts false false false = omega arith

shift_few : (bytes : ℕ) → shift_of bytes ≤ 3
shift_few bytes = few_shifts (bytes == 8) (bytes == 4) (bytes == 2)

-- several blocks are in a large turn only where one has few instructions
few_code : (n : ℕ) → 1 < blocks_of n → n ≤ 30
few_code n more = go (nat_lt n 15) refl (nat_lt n 31) refl more
  where
    go : (s : Bool) → nat_lt n 15 ≡ s → (t : Bool) → nat_lt n 31 ≡ t → 1 < (if s then 4 else (if t then 2 else 1)) → n ≤ 30
    go true e t g h = (let l : n < 15 = ltb-true n 15 e in omega (arith, l))
    go false e true g h = (let l : n < 31 = ltb-true n 31 g in omega (arith, l))
    go false e false g h = absurd (omega (arith, h))

fits_more : (a b : ℕ) (is : List Ins) → a ≤ b → Fits a is → Fits b is
fits_more a b is l h = record { allowed = h.allowed; bytes = (let x = h.bytes in omega (arith, x, l)) }

fits_wide : (n : ℕ) → n ≤ 1000000 → (list : List Ins) → Fits n list → Fits (n + 12) (flat (wide_loop (Plain list)))
fits_wide n few list h = (let b = h.bytes in record { allowed = loop_fine Ns list (omega (arith, b, few)) h.allowed; bytes = omega (arith, loop_size Ns list, b) })

-- whole turns, after large ones or not
fits_turns : (lanes b : ℕ) → lanes ≤ 16 → b ≤ 4 → 1 < b → (large turn : List Ins) → Fits 118943 turn → Fits 475343 large → Fits 594400 (flat (turns_flow lanes b large turn))
fits_turns lanes b most few several large turn h g =
    let near = blocks_near lanes b most few in
    let x = fits_larges lanes (b * lanes) 475343 118943 near (omega arith) (omega arith) large turn g h in
    let y : Fits 594400 (flat (wide_loops lanes (b * lanes) (Plain large) (Plain turn))) = fits_more _ 594400 _ (omega arith) x in
    subst (λ t. Fits 594400 (flat (if t then wide_loops lanes (b * lanes) (Plain large) (Plain turn) else wide_loop (Plain turn)))) (sym (lt-ltb 1 b several)) y

fits_only : (lanes b : ℕ) → b ≤ 1 → (large turn : List Ins) → Fits 348843 turn → Fits 348855 (flat (turns_flow lanes b large turn))
fits_only lanes b one large turn h =
    subst (λ t. Fits 348855 (flat (if t then wide_loops lanes (b * lanes) (Plain large) (Plain turn) else wide_loop (Plain turn)))) (sym (le-ltb 1 b one)) (fits_wide 348843 (omega arith) turn h)

module _ {target : CodeTarget} (f : FunctionValue) (h : is_function f ≡ true) (at : List ℕ) (parts : TurnParts) (wide aligned large : List Ins) (t : Turns f target at parts wide aligned large) where
  count : IsCount f (lanes f)
  count = lanes_count f h

  most : lanes f ≤ 64
  most = (let l = count.most in omega (arith, l))

  abbrev b : ℕ
  b = blocks_of (length wide)

  -- a turn of so many elements
  fits_light : (n : ℕ) → (is_count : IsCount f n) → Each (IsLight n) f.insns → (first : Bool) (blocks room : ℕ) → blocks ≤ 4 → 143 + blocks * 118800 ≤ room → (list : List Ins) → IsTurnOf f target at n first blocks list → Fits room list
  fits_light n is_count light first blocks room few within list x =
      let near = blocks_near n blocks is_count.most few in
      let bytes = light_size f h at t.good n is_count target first blocks near list x light in
      record { allowed = all_allowed list (turn_fine f h at t.good n is_count target first blocks near list x); bytes = omega (arith, bytes, within) }

  fits_any : (first : Bool) (list : List Ins) → IsTurnOf f target at (lanes f) first 1 list → Fits 348843 list
  fits_any first list x =
      let near = blocks_near (lanes f) 1 count.most (omega arith) in
      let bytes = turn_size f h at t.good (lanes f) count target first 1 near list x in
      record { allowed = all_allowed list (turn_fine f h at t.good (lanes f) count target first 1 near list x); bytes = omega (arith, bytes) }

  fits_piece : (n : ℕ) (turn : List Ins) → 2 * n ≤ lanes f → IsPart f target at n turn → FitsPart n turn
  fits_piece n turn half x =
      let is_count = share_count f h n x.share in
      let near = blocks_near n 1 is_count.most (omega arith) in
      let fine = turn_fine f h at t.good n is_count target false 1 near turn x.is in
      let some = is_count.some in
      record {
        some = is_count.some;
        one = ⊎_elim (λ l. fits_more 1100 118943 turn (omega arith) (fits_list turn 100 (x.short l) fine)) (λ g. fits_light n is_count (light_one f.insns n (omega (arith, g, some))) false 1 118943 (omega arith) (omega arith) turn x.is) (cases_lt 1 n);
        several = λ l. fits_list turn 100 (x.short l) fine;
      }

  fits_pieces : has_whole_turns f ≡ false → AreParts FitsPart (lanes f) parts
  fits_pieces e = parts_map (IsPart f target at) FitsPart (lanes f) fits_piece parts (lanes f) (le_refl (lanes f)) (t.fewer e)

  -- by how many bytes a turn of one block and all whole turns have
  module _ (turn body : ℕ) (few : body ≤ 600000) (both : turn + body ≤ 714000) (is_wide : Fits turn wide) (is_body : (one : List Ins) (first : Bool) → IsTurnOf f target at (lanes f) first 1 one → Fits body (flat (turns_flow (lanes f) b large one))) where
    fits_first : (w : Bool) → has_whole_turns f ≡ w → (turns : Flow) → Fits body (flat turns) → Fits 960000 (flat (from_first w (lanes f) parts turns))
    fits_first true e turns x = (let y = fits_whole turns (lanes f) body most x in record { allowed = y.allowed; bytes = (let b = y.bytes in omega (arith, b, few)) })
    fits_first false e turns x =
        let y = fits_plain parts turns turns (lanes f) body body count.most (omega (arith, few)) (omega (arith, few)) (fits_pieces e) x x in
        record { allowed = y.allowed; bytes = (let b = y.bytes in omega (arith, b, few)) }

    fits_boundary : (w : Bool) → has_whole_turns f ≡ w → (turns : Flow) → Fits body (flat turns) → Fits 960000 (flat (from_boundary w (shift_of (size_of_slot f.vars 0)) (lanes f) parts wide turns))
    fits_boundary true e turns x =
        let y = fits_tested (wide_loop (Plain wide)) turns (lanes f) (turn + 12) body most (omega (arith, both)) (omega (arith, few)) (fits_wide turn (omega (arith, both)) wide is_wide) x in
        record { allowed = y.allowed; bytes = (let b = y.bytes in omega (arith, b, both)) }
    fits_boundary false e turns x =
        let y = fits_aligned parts (wide_loop (Plain wide)) turns (lanes f) (turn + 12) body count.most (omega (arith, both)) (omega (arith, few)) (fits_pieces e) (fits_wide turn (omega (arith, both)) wide is_wide) x (shift_of (size_of_slot f.vars 0)) (shift_few (size_of_slot f.vars 0)) in
        record { allowed = y.allowed; bytes = (let b = y.bytes in omega (arith, b, both)) }

    fits_by : Fits 960000 (flat (elements_of f parts wide aligned large))
    fits_by = go (fills f) (begins_aligned f) refl
      where
        go : (k q : Bool) → fills f ≡ k → Fits 960000 (flat (elements_flow k q (has_whole_turns f) (shift_of (size_of_slot f.vars 0)) (lanes f) b parts wide aligned large))
        go true true e = fits_first (has_whole_turns f) refl (turns_flow (lanes f) b large aligned) (is_body aligned true (t.stored e))
        go true false e = fits_boundary (has_whole_turns f) refl (turns_flow (lanes f) b large aligned) (is_body aligned true (t.stored e))
        go false q e = fits_first (has_whole_turns f) refl (turns_flow (lanes f) b large wide) (is_body wide false t.more)

  -- where turns of one block are short, so are the far loads, and all turns
  fits_several : 1 < b → Fits 960000 (flat (elements_of f parts wide aligned large))
  fits_several more =
      let light = light_turn target f h at (stand_is f h at t.good) (lanes f) false wide t.more (few_code (length wide) more) in
      let few = few_blocks (length wide) in
      let is_large = fits_light (lanes f) count light (fills f) b 475343 few (omega (arith, few)) large (t.many more) in
      fits_by 118943 594400 (omega arith) (omega arith) (fits_light (lanes f) count light false 1 118943 (omega arith) (omega arith) wide t.more)
      (λ one first x. fits_turns (lanes f) b count.most few more large one (fits_light (lanes f) count light first 1 118943 (omega arith) (omega arith) one x) is_large)

  -- else there are no large turns
  fits_single : b ≤ 1 → Fits 960000 (flat (elements_of f parts wide aligned large))
  fits_single one = fits_by 348843 348855 (omega arith) (omega arith) (fits_any false wide t.more) (λ turn first x. fits_only (lanes f) b one large turn (fits_any first turn x))

  -- they are allowed, and are few
  pub fits_elements : Fits 960000 (flat (elements_of f parts wide aligned large))
  fits_elements = ⊎_elim fits_several fits_single (cases_lt 1 b)

pub elements_few : (target : CodeTarget) (f : FunctionValue) → is_function f ≡ true → (at : List ℕ) (t : Tree) → IsElements f target at t → size (flat_of t) ≤ 960000
elements_few target f h at t (parts, wide, aligned, large, turns, e) = (let b = (fits_elements f h at parts wide aligned large turns).bytes in omega (arith, ap size e, b))
