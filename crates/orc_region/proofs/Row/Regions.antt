-- A row's elements by turns: parts of a turn before a boundary, whole turns, and parts of one for those that are left.
use Rattle.std.proofs.Common.{◌≡◌, ◌≢◌, min, le_refl, ℕ, zero, suc, ◌+◌, ◌-◌, ◌*◌, ◌/◌, ◌%◌, ◌^◌, ◌<◌, ◌≤◌, ◌==◌, nat_le, nat_lt, cond, not, Bool, true, false, if◌then◌else◌, pos, List, [], ◌∷◌, ◌++◌, length, bit_and, Option, Some, None, Ok, refl, sym, ap, ◌∙◌, subst, arith, length-append, suc-mul, ◌⊎◌, inl, inr, ⊎_elim}
use Rattle.std.proofs.lemmas.Bool.{cases_lt, cases_eq}
use Rattle.std.proofs.lemmas.Nat.{and_mask, div-add-mod'}
use Rattle.std.proofs.Math.Nat.{add-mul, mul_assoc, mod-lt, mul-le-mul_left, mul-le-mul_right, mod-eq_of_lt}
use Rattle.std.specs.Int.Bits.{and_self}
use Rattle.orc_bits.specs.Lanes.{byte_of, change}
use Rattle.orc_bits.specs.Memory.{word, fill, IsMapped}
use Rattle.orc_bits.proofs.LaneLaws.{change_other, eq_false}
use Rattle.orc_bits.proofs.Memories.{fill_out, fill_mapped}
use Rattle.x86_ins.specs.declared.ins.AluOp.TheVariants.{Add, Sub, And}
use Rattle.x86_ins.specs.declared.ins.ShiftOp.TheVariants.{Shr}
use Rattle.x86_ins.specs.declared.ins.Cond.TheVariants.{E, Ns}
use Rattle.x86_ins.specs.declared.ins.Ins.{Ins}
use Rattle.x86_ins.specs.declared.ins.Ins.TheVariants.{Load, Store, Move, MovImm, Alu, AluImm, Shift, Test, Jump, JumpIf}
use Rattle.x86_ins.specs.declared.state.Flags.{Flags}
use Rattle.x86_ins.specs.Machine.{Core, Bounded, Touches, with_gpr, with_flags, with_memory, alu_core, flags_of, test, work, span, address}
use Rattle.x86_ins.specs.Spelling.{IsIns}
use Rattle.x86_ins.specs.Vectors.{shr}
use Rattle.x86_ins.specs.Way.{Each}
use Rattle.x86_flow.specs.Flow.{Flow, Plain, Chain, Choice, Repeat, flat, size}
use Rattle.x86_flow.specs.Moves.{away}
use Rattle.x86_flow.specs.Does.{Line, AtJump, Does}
use Rattle.x86_flow.proofs.Plans.{weigh, weigh_append, counted_loop}
use Rattle.x86_flow.proofs.Spelled.{fits_up}
use Rattle.x86_flow.specs.Touching.{base_of, touch_weight}
use Rattle.x86_flow.proofs.Touching.{touches_none, touches_in}
use Rattle.x86_flow.proofs.Words.{load_word, store_word, at_away}
use Rattle.x86_flow.proofs.Frame.{word_same, word_stored}
use Rattle.orc_frame.specs.Layout.{left_slot, frame_size}
use Rattle.orc_region.specs.Regions.{TurnParts, never, gap_code, gap_flow, behind_code, enter_head_code, leave_head_code, low_bits_code, part_flow, parts_flow, reached_flow, unreached_flow, aligned_row, whole_row, plain_row, tested_row, wide_loops}
use Rattle.orc_region.specs.Code.{AreParts}
use Rattle.orc_region.proofs.Row.Gaps.{each_size, AtSixteen, gap, gap_steps, IsGap, gap_is, no_gap, some_turns}
use Rattle.orc_region.proofs.Row.Parts.{turns_by, parts_few, parts_several, turns_few, turns_saved, two_fewer, reached_few, unreached_few, gaps_few, gap_short}
use Rattle.orc_region.proofs.Block.Keeping.{line_bounded}
use Rattle.orc_region.proofs.Row.Counters.{Tested}

pub weigh_one : (l : List Ins) → weigh (λ i. 1) l ≡ length l
weigh_one [] = refl
weigh_one (i ∷ l) = omega (arith, weigh_one l)

lt_yes : (a b : ℕ) → a < b → nat_lt a b ≡ true
lt_yes a b h = grind (arith)

-- an instruction before a loop
one_more : (a : Ins) (xs : List Ins) (p : ℕ) → length xs ≤ 1 + p → length (a ∷ xs) ≤ 2 + p
one_more a xs p x = omega (arith, x)

one_weight : (v : Ins → ℕ) (a : Ins) (xs : List Ins) (p : ℕ) → v a ≡ 0 → weigh v xs ≤ p → weigh v (a ∷ xs) ≤ p
one_weight v a xs p e x = omega (arith, e, x)

one_before : (a : Ins) (xs : List Ins) (fixed p : ℕ) → length xs ≤ fixed + p → length (a ∷ xs) ≤ 1 + fixed + p
one_before a xs fixed p x = omega (arith, x)

-- parts of a turn and whole turns, and a list before each
reached_steps : (a xs b ys : List Ins) (p g m each fixed : ℕ) → length a ≡ 3 → length b ≡ 2 → length xs ≤ 2 * p + g * each → length ys ≤ fixed + m * each → length (a ++ (xs ++ (b ++ ys))) ≤ 5 + fixed + 2 * p + (g + m) * each
reached_steps a xs b ys p g m each fixed la lb x y = omega (arith, length-append a (xs ++ (b ++ ys)), length-append xs (b ++ ys), length-append b ys, la, lb, x, y, add-mul g m each)

reached_touches : (v : Ins → ℕ) (a xs b ys : List Ins) (g m some : ℕ) → weigh v a ≡ 0 → weigh v b ≡ 0 → weigh v xs ≤ g * some → weigh v ys ≤ m * some → weigh v (a ++ (xs ++ (b ++ ys))) ≤ (g + m) * some
reached_touches v a xs b ys g m some la lb x y = omega (arith, weigh_append v a (xs ++ (b ++ ys)), weigh_append v xs (b ++ ys), weigh_append v b ys, la, lb, x, y, add-mul g m some)

-- a choice, on either way
other_way : (a b : Ins) (xs : List Ins) (fixed p : ℕ) → length xs ≤ 1 + fixed + p → length (a ∷ (xs ++ b ∷ [])) ≤ 3 + fixed + p
other_way a b xs fixed p x = omega (arith, length-append xs (b ∷ []), x)

other_weight : (v : Ins → ℕ) (a b : Ins) (xs : List Ins) (p : ℕ) → v a ≡ 0 → v b ≡ 0 → weigh v xs ≤ p → weigh v (a ∷ (xs ++ b ∷ [])) ≤ p
other_weight v a b xs p va vb x = omega (arith, weigh_append v xs (b ∷ []), va, vb, x)

-- the whole of a row
row_steps : (a b xs ys : List Ins) (gaps besides p m r each all : ℕ) → length a ≤ gaps → length b ≡ 2 → length xs ≤ besides + m * each → length ys ≤ 2 * p + r * each → gaps + 2 + besides + 2 * p + (m + r) * each ≤ all → length (a ++ (b ++ (xs ++ ys))) ≤ all
row_steps a b xs ys gaps besides p m r each all la lb x y l = omega (arith, add-mul m r each, length-append a (b ++ (xs ++ ys)), length-append b (xs ++ ys), length-append xs ys, la, lb, x, y, l)

row_touches : (v : Ins → ℕ) (a b xs ys : List Ins) (m rest some t : ℕ) → weigh v a ≤ 0 → weigh v b ≡ 0 → weigh v xs ≤ m * some → weigh v ys ≤ rest * some → m + rest ≤ t → weigh v (a ++ (b ++ (xs ++ ys))) ≤ t * some
row_touches v a b xs ys m rest some t la lb x y l =
    let few : (m + rest) * some ≤ t * some = mul-le-mul_right some l in
    omega (arith, few, add-mul m rest some, weigh_append v a (b ++ (xs ++ ys)), weigh_append v b (xs ++ ys), weigh_append v xs ys, la, lb, x, y)

no_head : (m rest t : ℕ) → 0 + m + rest ≤ t → m + rest ≤ t
no_head m rest t l = omega (arith, l)

-- a part of a turn, and those behind it
part_steps : (xs ys : List Ins) (p m r each : ℕ) → length xs ≤ 2 + m * each → length ys ≤ 2 * p + r * each → length (xs ++ ys) ≤ 2 * suc p + (m + r) * each
part_steps xs ys p m r each x y = omega (arith, add-mul m r each, length-append xs ys, x, y)

part_touches : (v : Ins → ℕ) (xs ys : List Ins) (m r some : ℕ) → weigh v xs ≤ m * some → weigh v ys ≤ r * some → weigh v (xs ++ ys) ≤ (m + r) * some
part_touches v xs ys m r some x y = omega (arith, add-mul m r some, weigh_append v xs ys, x, y)

-- two loops
two_loops : (xs ys : List Ins) (p q r m : ℕ) → length xs ≤ 2 + p → length ys ≤ 2 + r → p ≤ q → q + r ≡ m → length (xs ++ ys) ≤ 4 + m
two_loops xs ys p q r m x y l e = omega (arith, length-append xs ys, x, y, l, e)

two_weights : (v : Ins → ℕ) (xs ys : List Ins) (p q r m : ℕ) → weigh v xs ≤ p → weigh v ys ≤ r → p ≤ q → q + r ≡ m → weigh v (xs ++ ys) ≤ m
two_weights v xs ys p q r m x y l e = omega (arith, weigh_append v xs ys, x, y, l, e)

-- whole turns, and parts of one behind them
plain_steps : (xs ys : List Ins) (fixed p m rest each t : ℕ) → length xs ≤ 1 + fixed + m * each → length ys ≤ 2 * p + rest * each → p ≤ 4 → m + rest ≤ t → length (xs ++ ys) ≤ 9 + fixed + t * each
plain_steps xs ys fixed p m rest each t x y four l =
    let few : (m + rest) * each ≤ t * each = mul-le-mul_right each l in
    omega (arith, few, add-mul m rest each, length-append xs ys, x, y, four)

plain_touches : (v : Ins → ℕ) (xs ys : List Ins) (m rest some t : ℕ) → weigh v xs ≤ m * some → weigh v ys ≤ rest * some → m + rest ≤ t → weigh v (xs ++ ys) ≤ t * some
plain_touches v xs ys m rest some t x y l =
    let few : (m + rest) * some ≤ t * some = mul-le-mul_right some l in
    omega (arith, few, add-mul m rest some, weigh_append v xs ys, x, y)

-- whole turns behind a test, on either way
tested_steps : (a : List Ins) (i : Ins) (xs : List Ins) (fixed p : ℕ) → length a ≡ 2 → length xs ≤ 1 + fixed + p → length (a ++ i ∷ xs) ≤ 5 + fixed + p
tested_steps a i xs fixed p e x = omega (arith, length-append a (i ∷ xs), e, x)

tested_other : (a : List Ins) (i j : Ins) (xs : List Ins) (fixed p : ℕ) → length a ≡ 2 → length xs ≤ 1 + fixed + p → length (a ++ i ∷ (xs ++ j ∷ [])) ≤ 5 + fixed + p
tested_other a i j xs fixed p e x = omega (arith, length-append a (i ∷ (xs ++ j ∷ [])), length-append xs (j ∷ []), e, x)

tested_weight : (v : Ins → ℕ) (a : List Ins) (i : Ins) (xs : List Ins) (p : ℕ) → weigh v a ≡ 0 → v i ≡ 0 → weigh v xs ≤ p → weigh v (a ++ i ∷ xs) ≤ p
tested_weight v a i xs p e z x = omega (arith, weigh_append v a (i ∷ xs), e, z, x)

tested_both : (v : Ins → ℕ) (a : List Ins) (i j : Ins) (xs : List Ins) (p : ℕ) → weigh v a ≡ 0 → v i ≡ 0 → v j ≡ 0 → weigh v xs ≤ p → weigh v (a ++ i ∷ (xs ++ j ∷ [])) ≤ p
tested_both v a i j xs p e z y x = omega (arith, weigh_append v a (i ∷ (xs ++ j ∷ [])), weigh_append v xs (j ∷ []), e, z, y, x)

-- rsp is the lowered RSP
module _ (Q : Core → Ins → Type 0) (rsp : ℕ) (stack_low : rsp + (frame_size + 8) ≤ 2 ^ 47) where
  abbrev pub InWord : ℕ → Type 0
  InWord x = (rsp + left_slot ≤ x) × (x < rsp + left_slot + 8)

  -- d is c but for RAX, RCX, flags and the word
  pub record Beside (c d : Core) : Type 0 where
    pub gpr : (r : ℕ) → r ≢ 0 → r ≢ 1 → d.gpr r ≡ c.gpr r
    pub xmm : d.xmm ≡ c.xmm
    pub memory : (x : ℕ) → (InWord x → ⊥) → d.memory x ≡ c.memory x
    pub mapped : (x : ℕ) → IsMapped c.memory x → IsMapped d.memory x

  pub beside_same : (c : Core) → Beside c c
  beside_same c = record { gpr = λ r p q. refl; xmm = refl; memory = λ x h. refl; mapped = λ x h. h }

  -- with another RAX or RCX, and other flags
  abbrev set : Core → ℕ → ℕ → Option Flags → Core
  set c r v f = record c { gpr = change c.gpr r v; flags = f }

  set_0 : (c d : Core) (v : ℕ) (f : Option Flags) → Beside c d → Beside c (set d 0 v f)
  set_0 c d v f h = record { gpr = λ r p q. change_other d.gpr 0 v r p ∙ h.gpr r p q; xmm = h.xmm; memory = h.memory; mapped = h.mapped }

  set_1 : (c d : Core) (v : ℕ) (f : Option Flags) → Beside c d → Beside c (set d 1 v f)
  set_1 c d v f h = record { gpr = λ r p q. change_other d.gpr 1 v r q ∙ h.gpr r p q; xmm = h.xmm; memory = h.memory; mapped = h.mapped }

  set_flags : (c d : Core) (f : Option Flags) → Beside c d → Beside c (with_flags d f)
  set_flags c d f h = record { gpr = h.gpr; xmm = h.xmm; memory = h.memory; mapped = h.mapped }

  -- what the turns keep, at element i; it is said of memory outside the word, and of no count
  pub record Ground (n : ℕ) (At : ℕ → Core → Type 0) : Type 0 where
    pub few : n < 2 ^ 31
    pub on : (i : ℕ) (c d : Core) → At i c → Beside c d → Bounded d → At i d
    pub bounded : (i : ℕ) (c : Core) → At i c → Bounded c
    pub stack : (i : ℕ) (c : Core) → At i c → c.gpr 4 ≡ rsp
    pub word : (i : ℕ) (c : Core) → At i c → (x : ℕ) → InWord x → IsMapped c.memory x
    -- an instruction that touches the word alone may be done
    pub calm : (i : ℕ) (c : Core) → At i c → (u : Core) (ins : Ins) → Beside c u → ((x : ℕ) → Touches ins u x → InWord x) → Q u ins

  module _ (n : ℕ) (At : ℕ → Core → Type 0) (ground : Ground n At) (by : ℕ → Bool) (by_stack : by 4 ≡ false) (each some : ℕ) where
    abbrev v : Ins → ℕ
    v = touch_weight by

    -- what a turn of so many elements leaves
    pub record Counted (count : ℕ) (c d : Core) : Type 0 where
      pub counter : d.gpr 1 ≡ (c.gpr 1 + (2 ^ 64 - count)) % 2 ^ 64
      pub tested : Tested d
      pub word : (x : ℕ) → InWord x → d.memory x ≡ c.memory x

    -- a turn of so many elements, from each element at which Pre holds, in at most so many instructions, of which so many touch cells
    abbrev pub IsTurn : Flow → ℕ → (ℕ → Type 0) → ℕ → ℕ → Type 0
    IsTurn turn count Pre steps touches = (i : ℕ) (c : Core) → i + count ≤ n → At i c → Pre i → (done : List Ins) × (d : Core) × Does Q turn c done d × At (count + i) d × Counted count c d × (length done ≤ steps) × (weigh v done ≤ touches)

    jumps : (i : ℕ) (c : Core) → At i c → AtJump Q c
    jumps i c h = (
      λ q rel. ground.calm i c h c (JumpIf q rel) (beside_same c) (λ x t. absurd (touches_none (JumpIf q rel) c refl x t)),
      λ rel. ground.calm i c h c (Jump rel) (beside_same c) (λ x t. absurd (touches_none (Jump rel) c refl x t)),
    )

    -- an instruction without bytes
    quiet : (i : ℕ) (c : Core) → At i c → (u : Core) (ins : Ins) → Beside c u → (span ins u).1 ≡ 0 → Q u ins
    quiet i c h u ins b e = ground.calm i c h u ins b (λ x t. absurd (touches_none ins u e x t))

    -- ---- counts: RCX is so many less than the elements left up to a stop, modulo 2^64

    abbrev pub less_to : ℕ → ℕ → ℕ → ℕ
    less_to stop count i = (stop + (2 ^ 64 - (i + count))) % 2 ^ 64

    -- up to the end of the row
    abbrev pub less : ℕ → ℕ → ℕ
    less = less_to n

    le_yes : (a b : ℕ) → a ≤ b → nat_le a b ≡ true
    le_yes a b h = grind (arith)

    le_no : (a b : ℕ) → b < a → nat_le a b ≡ false
    le_no a b h = grind (arith)

    sign_of : (stop : ℕ) → stop ≤ n → (count i m rest : ℕ) → count ≤ 64 → rest < count → i + (m * count + rest) ≡ stop → not (nat_le (2 ^ 63) (less_to stop count i)) ≡ not (m == 0)
    sign_of stop within count i zero rest most short all = ap not (le_yes (2 ^ 63) (less_to stop count i) (let f = ground.few in omega (arith, f, within, most, short, all)))
    sign_of stop within count i (suc m) rest most short all = ap not (le_no (2 ^ 63) (less_to stop count i) (let f = ground.few in omega (arith, f, within, most, short, all, suc-mul m count)) ∙ sym (eq_false (suc m) 0 (λ e. omega (arith, e))))

    -- where turns of `lanes` elements, `rest` fewer than that left to a stop, come to
    pub record Rest (stop lanes rest : ℕ) (c d : Core) : Type 0 where
      pub i : ℕ
      pub all : i + rest ≡ stop
      pub at : At i d
      pub counter : d.gpr 1 ≡ less_to stop lanes i
      pub tested : Tested d
      pub word : (x : ℕ) → InWord x → d.memory x ≡ c.memory x

    -- a flow that does all whole turns of so many elements from where RCX is so many less than the elements left, with so many instructions besides turns
    abbrev pub IsRegion : Flow → ℕ → (ℕ → Type 0) → ℕ → Type 0
    IsRegion flow lanes Pre fixed = (i : ℕ) (c : Core) (m rest : ℕ) → i + (m * lanes + rest) ≡ n → rest < lanes → At i c → Pre i → c.gpr 1 ≡ less lanes i → Tested c
        → (done : List Ins) × (d : Core) × Does Q flow c done d × Rest n lanes rest c d × (length done ≤ fixed + m * (2 + each)) × (weigh v done ≤ m * some)

    -- ---- several at once

    module _ (turn : Flow) (count : ℕ) (Pre : ℕ → Type 0) (steps touches : ℕ) (positive : 0 < count) (most : count ≤ 64) (next : (i : ℕ) → Pre i → Pre (count + i)) (does : IsTurn turn count Pre steps touches) (stop : ℕ) (within : stop ≤ n) (rest : ℕ) (short : rest < count) (start : Core) where
      record Going (m : ℕ) (c : Core) : Type 0 where
        i : ℕ
        all : i + (m * count + rest) ≡ stop
        at : At i c
        pre : Pre i
        counter : c.gpr 1 ≡ less_to stop count i
        tested : Tested c
        word : (x : ℕ) → InWord x → c.memory x ≡ start.memory x

      going_tests : (m : ℕ) (c : Core) → Going m c → test Ns c.flags ≡ Some (not (m == 0))
      going_tests m c h = h.tested.sign ∙ ap (λ x. Some (not (nat_le (2 ^ 63) x))) h.counter ∙ ap Some (sign_of stop within count h.i m rest most short h.all)

      going_turn : (m : ℕ) (c : Core) → Going (suc m) c → (done : List Ins) × (d : Core) × Does Q turn c done d × Going m d × (weigh (λ i. 1) done ≤ steps) × (weigh v done ≤ touches)
      going_turn m c h =
          let t = does h.i c (omega (arith, h.all, within, suc-mul m count)) h.at h.pre in
          let few = ground.few in (
            t.0,
            t.1,
            t.2,
            record {
              i = count + h.i;
              all = omega (arith, h.all, suc-mul m count);
              at = t.3;
              pre = next h.i h.pre;
              counter = t.4.counter ∙ ap (λ x. (x + (2 ^ 64 - count)) % 2 ^ 64) h.counter ∙ omega (arith, few, within, most, h.all, suc-mul m count);
              tested = t.4.tested;
              word = λ x w. t.4.word x w ∙ h.word x w;
            },
            omega (arith, t.5, weigh_one t.0),
            t.6,
          )

      loop : (m : ℕ) (c : Core) → Going m c → (done : List Ins) × (d : Core) × Does Q (Repeat Ns turn) c done d × (end : Rest stop count rest start d) × (length done ≤ 1 + m * (2 + steps)) × (weigh v done ≤ m * touches) × Pre end.i
      loop m c h =
          let x = counted_loop Q Ns turn Going (λ i. 1) v steps touches (λ q rel. refl, λ rel. refl) (λ q rel. refl, λ rel. refl) (λ m c h. jumps h.i c h.at) going_tests going_turn m c h in
          let last = x.3 in
          (x.0, x.1, x.2, record { i = last.i; all = omega (arith, last.all); at = last.at; counter = last.counter; tested = last.tested; word = last.word }, omega (arith, x.4, weigh_one x.0), x.5, last.pre)

    -- turns of so many elements are a region
    pub wide_region : (turn : Flow) (lanes : ℕ) (Pre : ℕ → Type 0) → 0 < lanes → lanes ≤ 64 → ((i : ℕ) → Pre i → Pre (lanes + i)) → IsTurn turn lanes Pre each some → IsRegion (Repeat Ns turn) lanes Pre 1
    wide_region turn lanes Pre positive most next does i c m rest all short at pre counter tested =
        let x = loop turn lanes Pre each some positive most next does n (le_refl n) rest short c m c (record { i = i; all = all; at = at; pre = pre; counter = counter; tested = tested; word = λ x w. refl }) in
        (x.0, x.1, x.2, x.3, x.4, x.5)

    -- ---- straight lists

    -- with the element, from c on
    on_list : (list : List Ins) → Each IsIns list → (i : ℕ) (c d : Core) → At i c → Line Q list c d → Beside c d → At i d
    on_list list ins i c d h line b = ground.on i c d h b (line_bounded Q list c d ins line (ground.bounded i c h))

    -- what a list leaves that changes RCX and no memory
    pub record Recounted (i counter : ℕ) (c d : Core) : Type 0 where
      pub at : At i d
      pub counter_is : d.gpr 1 ≡ counter
      pub tested : Tested d
      pub memory : d.memory ≡ c.memory

    -- RCX is lowered
    lower_line : (k : ℕ) → k < 2 ^ 31 → (i : ℕ) (c : Core) → At i c → (d : Core) × Line Q (AluImm Sub 1 (pos k) ∷ []) c d × Recounted i ((c.gpr 1 + (2 ^ 64 - k)) % 2 ^ 64) c d
    lower_line k l i c h =
        let d : Core = alu_core Sub c 1 (k % 2 ^ 64) in
        let b : Beside c d = set_1 c c _ _ (beside_same c) in
        let line : Line Q (AluImm Sub 1 (pos k) ∷ []) c d = (quiet i c h c (AluImm Sub 1 (pos k)) (beside_same c) refl, (d, refl, refl)) in
        let same : k % 2 ^ 64 ≡ k = mod-eq_of_lt (omega (arith, l)) in
        (d, line, record { at = on_list (AluImm Sub 1 (pos k) ∷ []) ((omega arith, fits_up k l), tt) i c d h line b; counter_is = ap (λ x. (c.gpr 1 + (2 ^ 64 - x)) % 2 ^ 64) same; tested = record { zero = refl; sign = refl }; memory = refl })

    -- RCX is raised
    raise_line : (k : ℕ) → k < 2 ^ 31 → (i : ℕ) (c : Core) → At i c → (d : Core) × Line Q (AluImm Add 1 (pos k) ∷ []) c d × Recounted i ((c.gpr 1 + k) % 2 ^ 64) c d
    raise_line k l i c h =
        let d : Core = alu_core Add c 1 (k % 2 ^ 64) in
        let b : Beside c d = set_1 c c _ _ (beside_same c) in
        let line : Line Q (AluImm Add 1 (pos k) ∷ []) c d = (quiet i c h c (AluImm Add 1 (pos k)) (beside_same c) refl, (d, refl, refl)) in
        let same : k % 2 ^ 64 ≡ k = mod-eq_of_lt (omega (arith, l)) in
        (d, line, record { at = on_list (AluImm Add 1 (pos k) ∷ []) ((omega arith, fits_up k l), tt) i c d h line b; counter_is = ap (λ x. (c.gpr 1 + x) % 2 ^ 64) same; tested = record { zero = refl; sign = refl }; memory = refl })

    -- ---- turns of more elements, and then turns of so many

    -- RCX becomes less by the difference, and then turns of `more` elements
    large_part : (large : Flow) (lanes more : ℕ) (Pre : ℕ → Type 0) (steps touches : ℕ) → 0 < more → lanes ≤ more → more ≤ 64 → ((i : ℕ) → Pre i → Pre (more + i)) → IsTurn large more Pre steps touches
        → (i : ℕ) (c : Core) (q rest : ℕ) → i + (q * more + rest) ≡ n → rest < more → At i c → Pre i → c.gpr 1 ≡ less lanes i
        → (done : List Ins) × (d : Core) × Does Q (Chain (Plain (AluImm Sub 1 (pos (more - lanes)) ∷ [])) (Repeat Ns large)) c done d × (end : Rest n more rest c d) × (length done ≤ 2 + q * (2 + steps)) × (weigh v done ≤ q * touches) × Pre end.i
    large_part large lanes more Pre steps touches positive under most next does i c q rest all short at pre counter = go (lower_line (more - lanes) (omega (arith, most)) i c at)
      where
        down : (x : ℕ) → x ≡ (c.gpr 1 + (2 ^ 64 - (more - lanes))) % 2 ^ 64 → x ≡ less more i
        down x e = e ∙ ap (λ t. (t + (2 ^ 64 - (more - lanes))) % 2 ^ 64) counter ∙ (let f = ground.few in omega (arith, f, most, under, all))

        go : (d : Core) × Line Q (AluImm Sub 1 (pos (more - lanes)) ∷ []) c d × Recounted i ((c.gpr 1 + (2 ^ 64 - (more - lanes))) % 2 ^ 64) c d
            → (done : List Ins) × (d : Core) × Does Q (Chain (Plain (AluImm Sub 1 (pos (more - lanes)) ∷ [])) (Repeat Ns large)) c done d × (end : Rest n more rest c d) × (length done ≤ 2 + q * (2 + steps)) × (weigh v done ≤ q * touches) × Pre end.i
        go (u, line, h) =
            let y = loop large more Pre steps touches positive most next does n (le_refl n) rest short c q u
            (record { i = i; all = all; at = h.at; pre = pre; counter = down (u.gpr 1) h.counter_is; tested = h.tested; word = λ t w. ap (λ g. g t) h.memory }) in
            let first = AluImm Sub 1 (pos (more - lanes)) in
            (first ∷ y.0, y.1, (first ∷ [], y.0, u, (line, refl), y.2, refl), y.3, one_more first y.0 (q * (2 + steps)) y.4, one_weight v first y.0 (q * touches) refl y.5, y.6)

    -- turns of `lanes` elements, from where RCX is `more` less than the elements left
    part_line : (stop : ℕ) → stop ≤ n → (turn : Flow) (lanes more : ℕ) (Pre : ℕ → Type 0) → 0 < lanes → lanes ≤ more → more ≤ 64 → ((i : ℕ) → Pre i → Pre (lanes + i)) → IsTurn turn lanes Pre each some
        → (c u : Core) (r rest : ℕ) → rest < lanes → (g : Rest stop more (r * lanes + rest) c u) → Pre g.i
        → (done : List Ins) × (d : Core) × Does Q (part_flow more lanes turn) u done d × Rest stop lanes rest c d × (length done ≤ 2 + r * (2 + each)) × (weigh v done ≤ r * some)
    part_line stop within turn lanes more Pre positive under most next does c u r rest short g pre = go (raise_line (more - lanes) (omega (arith, most)) g.i u g.at)
      where
        up : (x : ℕ) → x ≡ (u.gpr 1 + (more - lanes)) % 2 ^ 64 → x ≡ less_to stop lanes g.i
        up x e = e ∙ ap (λ t. (t + (more - lanes)) % 2 ^ 64) g.counter ∙ (let f = ground.few in let a = g.all in omega (arith, f, within, most, under, a))

        go : (d : Core) × Line Q (AluImm Add 1 (pos (more - lanes)) ∷ []) u d × Recounted g.i ((u.gpr 1 + (more - lanes)) % 2 ^ 64) u d
            → (done : List Ins) × (d : Core) × Does Q (part_flow more lanes turn) u done d × Rest stop lanes rest c d × (length done ≤ 2 + r * (2 + each)) × (weigh v done ≤ r * some)
        go (z, line, h) =
            let y = loop turn lanes Pre each some positive (omega (arith, under, most)) next does stop within rest short c r z
            (record { i = g.i; all = g.all; at = h.at; pre = pre; counter = up (z.gpr 1) h.counter_is; tested = h.tested; word = λ t w. ap (λ f. f t) h.memory ∙ g.word t w }) in
            let first = AluImm Add 1 (pos (more - lanes)) in
            (first ∷ y.0, y.1, (first ∷ [], y.0, z, (line, refl), y.2, refl), y.3, one_more first y.0 (r * (2 + each)) y.4, one_weight v first y.0 (r * some) refl y.5)

    -- b · lanes at a turn; its steps and touches are at most those of b turns
    pub wide_regions : (turn large : Flow) (lanes b : ℕ) (Pre : ℕ → Type 0) (steps touches : ℕ) → 0 < lanes → 0 < b → b * lanes ≤ 64 → lanes ≤ b * lanes
        → ((i : ℕ) → Pre i → Pre (lanes + i)) → ((i : ℕ) → Pre i → Pre (b * lanes + i)) → IsTurn turn lanes Pre each some → IsTurn large (b * lanes) Pre steps touches → 2 + steps ≤ b * (2 + each) → touches ≤ b * some
        → IsRegion (wide_loops lanes (b * lanes) large turn) lanes Pre 4
    wide_regions turn large lanes b Pre steps touches positive many most under next next_large does does_large few_steps few_touches i c m rest all short at pre counter tested =
        go (large_part large lanes (b * lanes) Pre steps touches (omega (arith, under, positive)) under most next_large does_large i c (m / b) (m % b * lanes + rest) (omega (arith, all, parts)) inside at pre counter)
      where
        split : m / b * b + m % b ≡ m
        split = div-add-mod' m b

        parts : m * lanes ≡ m / b * (b * lanes) + m % b * lanes
        parts = ap (λ x. x * lanes) (sym split) ∙ add-mul (m / b * b) (m % b) lanes ∙ ap (λ x. x + m % b * lanes) (mul_assoc (m / b) b lanes)

        inside : m % b * lanes + rest < b * lanes
        inside = (let z : suc (m % b) * lanes ≤ b * lanes = mul-le-mul_right lanes (mod-lt m many) in omega (arith, z, suc-mul (m % b) lanes, short))

        -- what q turns take is at most what b · q smaller ones do
        spread : (x y : ℕ) → x ≤ b * y → m / b * x ≤ m / b * b * y
        spread x y l = (let k = mul_assoc (m / b) b y in let z : m / b * x ≤ m / b * (b * y) = mul-le-mul_left (m / b) l in omega (arith, k, z))

        whole : (y : ℕ) → m / b * b * y + m % b * y ≡ m * y
        whole y = sym (add-mul (m / b * b) (m % b) y) ∙ ap (λ k. k * y) split

        go : (done : List Ins) × (d : Core) × Does Q (Chain (Plain (AluImm Sub 1 (pos (b * lanes - lanes)) ∷ [])) (Repeat Ns large)) c done d × (end : Rest n (b * lanes) (m % b * lanes + rest) c d) × (length done ≤ 2 + m / b * (2 + steps)) × (weigh v done ≤ m / b * touches) × Pre end.i
            → (done : List Ins) × (d : Core) × Does Q (wide_loops lanes (b * lanes) large turn) c done d × Rest n lanes rest c d × (length done ≤ 4 + m * (2 + each)) × (weigh v done ≤ m * some)
        go (xs, u, line, g, few, light, pre_there) =
            let y = part_line n (le_refl n) turn lanes (b * lanes) Pre positive under most next does c u (m % b) rest short g pre_there in (
              xs ++ y.0,
              y.1,
              (xs, y.0, u, line, y.2, refl),
              y.3,
              two_loops xs y.0 (m / b * (2 + steps)) (m / b * b * (2 + each)) (m % b * (2 + each)) (m * (2 + each)) few y.4 (spread (2 + steps) (2 + each) few_steps) (whole (2 + each)),
              two_weights v xs y.0 (m / b * touches) (m / b * b * some) (m % b * some) (m * some) light y.5 (spread touches some few_touches) (whole some),
            )

    -- ---- parts of a turn

    -- a turn of so many elements, from any element on
    pub record IsPiece (count : ℕ) (turn : List Ins) : Type 0 where
      pub some_elements : 0 < count
      pub does : IsTurn (Plain turn) count (λ i. Unit {0}) each some

    some_piece : (count : ℕ) (turn : List Ins) → IsPiece count turn → 0 < count
    some_piece count turn x = x.some_elements

    -- where parts of a turn come to
    record Ended (stop : ℕ) (c d : Core) : Type 0 where
      at : At stop d
      word : (x : ℕ) → InWord x → d.memory x ≡ c.memory x

    -- fewer elements than a turn does, up to a stop
    parts_line : (stop : ℕ) → stop ≤ n → (parts : TurnParts) (from : ℕ) → from ≤ 64 → AreParts IsPiece from parts → (x : ℕ) → x < from → (c u : Core) → Rest stop from x c u
        → (done : List Ins) × (d : Core) × Does Q (parts_flow from parts) u done d × Ended stop c d × (length done ≤ 2 * length parts + turns_by parts x * (2 + each)) × (weigh v done ≤ turns_by parts x * some)
    parts_line stop within [] from most are x short c u h =
        let one : from ≡ 1 = are in
        let end : h.i ≡ stop = (let a = h.all in omega (arith, a, one, short)) in
        ([], u, (refl, refl), record { at = subst (λ i. At i u) end h.at; word = h.word }, omega arith, omega arith)
    parts_line stop within (part ∷ parts) from most are x short c u h =
        let piece = are.2 in
        let count : ℕ = part.0 in
        let some_elements = piece.some_elements in
        let half = are.1 in
        let less : x % count < count = mod-lt x some_elements in
        let split : x ≡ x / count * count + x % count = sym (div-add-mod' x count) in
        let y = part_line stop within (Plain part.1) count from (λ i. Unit {0}) some_elements (omega (arith, half)) most (λ i t. tt) piece.does c u (x / count) (x % count) less (subst (λ k. Rest stop from k c u) split h) tt in
        let z = parts_line stop within parts count (omega (arith, half, most)) are.0 (x % count) less c y.1 y.3 in (
          y.0 ++ z.0,
          z.1,
          (y.0, z.0, y.1, y.2, z.2, refl),
          z.3,
          part_steps y.0 z.0 (length parts) (x / count) (turns_by parts (x % count)) (2 + each) y.4 z.4,
          part_touches v y.0 z.0 (x / count) (turns_by parts (x % count)) some y.5 z.5,
        )

    -- ---- a row from its first element on

    pub whole_line : (wide : Flow) (lanes fixed : ℕ) (Pre : ℕ → Type 0) → 0 < lanes → lanes ≤ 64 → IsRegion wide lanes Pre fixed → Pre 0 → (c : Core) → At 0 c → c.gpr 1 ≡ n
        → (done : List Ins) × (u : Core) × (d : Core) × Does Q (whole_row lanes wide) c done d × Rest n lanes (n % lanes) u d × (length done ≤ 1 + fixed + n / lanes * (2 + each)) × (weigh v done ≤ n / lanes * some)
    whole_line wide lanes fixed Pre positive most does_wide pre c at count = go (lower_line lanes (omega (arith, most)) 0 c at)
      where
        short : n % lanes < lanes
        short = mod-lt n positive

        all : 0 + (n / lanes * lanes + n % lanes) ≡ n
        all = omega (arith, div-add-mod' n lanes)

        down : (x : ℕ) → x ≡ (c.gpr 1 + (2 ^ 64 - lanes)) % 2 ^ 64 → x ≡ less lanes 0
        down x e = e ∙ ap (λ t. (t + (2 ^ 64 - lanes)) % 2 ^ 64) count ∙ omega arith

        go : (u : Core) × Line Q (AluImm Sub 1 (pos lanes) ∷ []) c u × Recounted 0 ((c.gpr 1 + (2 ^ 64 - lanes)) % 2 ^ 64) c u
            → (done : List Ins) × (u : Core) × (d : Core) × Does Q (whole_row lanes wide) c done d × Rest n lanes (n % lanes) u d × (length done ≤ 1 + fixed + n / lanes * (2 + each)) × (weigh v done ≤ n / lanes * some)
        go (u, line, x) =
            let y = does_wide 0 u (n / lanes) (n % lanes) all short x.at pre (down (u.gpr 1) x.counter_is) x.tested in
            let first = AluImm Sub 1 (pos lanes) in
            (first ∷ y.0, u, y.1, (first ∷ [], y.0, u, (line, refl), y.2, refl), y.3, one_before first y.0 fixed (n / lanes * (2 + each)) y.4, one_weight v first y.0 (n / lanes * some) refl y.5)

    -- and then parts of a turn
    pub plain_line : (parts : TurnParts) (wide : Flow) (lanes fixed t : ℕ) (Pre : ℕ → Type 0) → 0 < lanes → lanes ≤ 16 → AreParts IsPiece lanes parts → IsRegion wide lanes Pre fixed → Pre 0 → n / lanes + n % lanes ≤ t → (c : Core) → At 0 c → c.gpr 1 ≡ n
        → (done : List Ins) × (d : Core) × Does Q (plain_row lanes parts wide) c done d × At n d × (length done ≤ 9 + fixed + t * (2 + each)) × (weigh v done ≤ t * some)
    plain_line parts wide lanes fixed t Pre positive most pieces does_wide pre fit c at count =
        let near : lanes ≤ 64 = omega (arith, most) in
        let y = whole_line wide lanes fixed Pre positive near does_wide pre c at count in
        let z = parts_line n (le_refl n) parts lanes near pieces (n % lanes) (mod-lt n positive) y.1 y.2 y.4 in
        let last = z.3 in
        let four = parts_few IsPiece some_piece 4 parts lanes pieces most in
        let few = turns_few IsPiece some_piece parts lanes pieces (n % lanes) in
        let within : n / lanes + turns_by parts (n % lanes) ≤ t = omega (arith, fit, few) in (
          y.0 ++ z.0,
          z.1,
          (y.0, z.0, y.2, y.3, z.2, refl),
          last.at,
          plain_steps y.0 z.0 fixed (length parts) (n / lanes) (turns_by parts (n % lanes)) (2 + each) t y.5 z.4 four within,
          plain_touches v y.0 z.0 (n / lanes) (turns_by parts (n % lanes)) some t y.6 z.5 within,
        )

    -- where whole turns are all of the row
    pub turns_line : (wide : Flow) (lanes fixed : ℕ) (Pre : ℕ → Type 0) → 0 < lanes → lanes ≤ 64 → n % lanes ≡ 0 → IsRegion wide lanes Pre fixed → Pre 0 → (c : Core) → At 0 c → c.gpr 1 ≡ n
        → (done : List Ins) × (d : Core) × Does Q (whole_row lanes wide) c done d × At n d × (length done ≤ 1 + fixed + n / lanes * (2 + each)) × (weigh v done ≤ n / lanes * some)
    turns_line wide lanes fixed Pre positive most whole does_wide pre c at count =
        let y = whole_line wide lanes fixed Pre positive most does_wide pre c at count in
        let last = y.4 in
        let end : last.i ≡ n = (let a = last.all in omega (arith, a, whole)) in
        (y.0, y.2, y.3, subst (λ i. At i y.2) end last.at, y.5, y.6)

    -- ---- the low bits of the pointer

    -- what low_bits_code leaves
    record HasLowBits (k : ℕ) (c d : Core) : Type 0 where
      at : At 0 d
      pointer : d.gpr 2 ≡ c.gpr 2
      counter : d.gpr 1 ≡ c.gpr 1
      tests : test E d.flags ≡ Some (c.gpr 2 % 2 ^ k == 0)

    low_bits_line : (k : ℕ) → 2 ^ k - 1 < 2 ^ 31 → (c : Core) → At 0 c → (d : Core) × Line Q (low_bits_code k) c d × HasLowBits k c d
    low_bits_line k small c h =
        let c1 : Core = with_gpr c 0 (c.gpr 2) in
        let c2 : Core = alu_core And c1 0 ((2 ^ k - 1) % 2 ^ 64) in
        let b1 : Beside c c1 = set_0 c c _ _ (beside_same c) in
        let b2 : Beside c c2 = set_0 c c1 _ _ b1 in
        let line : Line Q (low_bits_code k) c c2 = (quiet 0 c h c (Move 0 2) (beside_same c) refl, (c1, refl, (quiet 0 c h c1 (AluImm And 0 (pos (2 ^ k - 1))) b1 refl, (c2, refl, refl)))) in
        let bits : bit_and (c.gpr 2) ((2 ^ k - 1) % 2 ^ 64) ≡ c.gpr 2 % 2 ^ k = ap (λ m. bit_and (c.gpr 2) m) (mod-eq_of_lt (omega (arith, small))) ∙ and_mask (c.gpr 2) k in (
          c2,
          line,
          record { at = on_list (low_bits_code k) ((omega arith, omega arith), ((omega arith, fits_up (2 ^ k - 1) small), tt)) 0 c c2 h line b2; pointer = refl; counter = refl; tests = ap (λ x. Some (x == 0)) bits },
        )

    -- ---- a row of whole turns whose first cell is at a multiple of 16, or isn't

    module _ (wide aligned : Flow) (lanes fixed : ℕ) (Yes No : ℕ → Type 0) (positive : 0 < lanes) (most : lanes ≤ 64) (whole : n % lanes ≡ 0) (does_aligned : IsRegion aligned lanes Yes fixed) (does_wide : IsRegion wide lanes No fixed) where
      abbrev TestedEnds : Core → Type 0
      TestedEnds c = (done : List Ins) × (d : Core) × Does Q (tested_row lanes wide aligned) c done d × At n d × (length done ≤ 5 + fixed + n / lanes * (2 + each)) × (weigh v done ≤ n / lanes * some)

      abbrev to_first : Ins
      to_first = JumpIf E (pos (size (flat (whole_row lanes wide)) + 5))

      abbrev over_second : Ins
      over_second = Jump (pos (size (flat (whole_row lanes aligned))))

      tested_yes : (c u : Core) → Line Q (low_bits_code 4) c u → HasLowBits 4 c u → c.gpr 1 ≡ n → c.gpr 2 % 16 ≡ 0 → Yes 0 → TestedEnds c
      tested_yes c u line x count m pre =
          let y = turns_line aligned lanes fixed Yes positive most whole does_aligned pre u x.at (x.counter ∙ count) in
          let goes : test E u.flags ≡ Some true = x.tests ∙ ap (λ z. Some (z == 0)) m in (
            low_bits_code 4 ++ to_first ∷ y.0,
            y.1,
            (low_bits_code 4, to_first ∷ y.0, u, (line, refl), inl (jumps 0 u x.at, goes, (y.0, y.2, refl)), refl),
            y.3,
            tested_steps (low_bits_code 4) to_first y.0 fixed (n / lanes * (2 + each)) refl y.4,
            tested_weight v (low_bits_code 4) to_first y.0 (n / lanes * some) refl refl y.5,
          )

      tested_no : (c u : Core) → Line Q (low_bits_code 4) c u → HasLowBits 4 c u → c.gpr 1 ≡ n → c.gpr 2 % 16 ≢ 0 → No 0 → TestedEnds c
      tested_no c u line x count m pre =
          let y = turns_line wide lanes fixed No positive most whole does_wide pre u x.at (x.counter ∙ count) in
          let goes : test E u.flags ≡ Some false = x.tests ∙ ap Some (eq_false (c.gpr 2 % 16) 0 m) in (
            low_bits_code 4 ++ to_first ∷ (y.0 ++ over_second ∷ []),
            y.1,
            (low_bits_code 4, to_first ∷ (y.0 ++ over_second ∷ []), u, (line, refl), inr (jumps 0 u x.at, goes, (y.0, y.2, jumps n y.1 y.3, refl)), refl),
            y.3,
            tested_other (low_bits_code 4) to_first over_second y.0 fixed (n / lanes * (2 + each)) refl y.4,
            tested_both v (low_bits_code 4) to_first over_second y.0 (n / lanes * some) refl refl refl y.5,
          )

      pub tested_line : (c : Core) → At 0 c → c.gpr 1 ≡ n → (c.gpr 2 % 16 ≡ 0 → Yes 0) → (c.gpr 2 % 16 ≢ 0 → No 0) → TestedEnds c
      tested_line c h count yes_pre no_pre = go (low_bits_line 4 (omega arith) c h)
        where
          go : (u : Core) × Line Q (low_bits_code 4) c u × HasLowBits 4 c u → TestedEnds c
          go (u, line, x) = ⊎_elim (λ m. tested_yes c u line x count m (yes_pre m)) (λ m. tested_no c u line x count m (no_pre m)) (cases_eq (c.gpr 2 % 16) 0)

    -- ---- the gap

    -- what gap_code leaves
    record Gapped (k : ℕ) (c d : Core) : Type 0 where
      at : At 0 d
      counter : d.gpr 1 ≡ c.gpr 1
      bytes : d.gpr 0 ≡ gap k (c.gpr 2)

    low_bytes : (p : ℕ) → bit_and ((0 + (2 ^ 64 - p)) % 2 ^ 64) 15 ≡ (0 + (2 ^ 64 - p)) % 2 ^ 64 % 16
    low_bytes p = and_mask ((0 + (2 ^ 64 - p)) % 2 ^ 64) 4

    gap_line : (k : ℕ) → k ≤ 3 → (c : Core) → At 0 c → (d : Core) × Line Q (gap_code k) c d × Gapped k c d
    gap_line zero few c h =
        let c1 : Core = with_gpr c 0 0 in
        let c2 : Core = alu_core Sub c1 0 (c1.gpr 2) in
        let c3 : Core = alu_core And c2 0 15 in
        let b0 = beside_same c in
        let b1 : Beside c c1 = set_0 c c _ _ b0 in
        let b2 : Beside c c2 = set_0 c c1 _ _ b1 in
        let b3 : Beside c c3 = set_0 c c2 _ _ b2 in
        let line : Line Q (gap_code 0) c c3 = (quiet 0 c h c (MovImm 0 0) b0 refl, (c1, refl, (quiet 0 c h c1 (Alu Sub 0 2) b1 refl, (c2, refl, (quiet 0 c h c2 (AluImm And 0 (pos 15)) b2 refl, (c3, refl, refl)))))) in (
          c3,
          line,
          record {
            at = on_list (gap_code 0) ((omega arith, omega arith), ((omega arith, omega arith), ((omega arith, fits_up 15 (omega arith)), tt))) 0 c c3 h line b3;
            counter = refl;
            bytes = low_bytes (c.gpr 2) ∙ omega arith;
          },
        )
    gap_line (suc k) few c h =
        let c1 : Core = with_gpr c 0 0 in
        let c2 : Core = alu_core Sub c1 0 (c1.gpr 2) in
        let c3 : Core = alu_core And c2 0 15 in
        let c4 : Core = with_flags (with_gpr c3 0 (shr 64 (c3.gpr 0) (suc k))) None in
        let b0 = beside_same c in
        let b1 : Beside c c1 = set_0 c c _ _ b0 in
        let b2 : Beside c c2 = set_0 c c1 _ _ b1 in
        let b3 : Beside c c3 = set_0 c c2 _ _ b2 in
        let b4 : Beside c c4 = set_0 c c3 _ _ b3 in
        let line : Line Q (gap_code (suc k)) c c4 =
        (quiet 0 c h c (MovImm 0 0) b0 refl, (c1, refl, (quiet 0 c h c1 (Alu Sub 0 2) b1 refl, (c2, refl, (quiet 0 c h c2 (AluImm And 0 (pos 15)) b2 refl, (c3, refl, (quiet 0 c h c3 (Shift Shr 0 (suc k)) b3 refl, (c4, refl, refl)))))))) in (
          c4,
          line,
          record {
            at = on_list (gap_code (suc k)) ((omega arith, omega arith), ((omega arith, omega arith), ((omega arith, fits_up 15 (omega arith)), ((omega arith, omega (arith, few)), tt)))) 0 c c4 h line b4;
            counter = refl;
            bytes = shifted (suc k) (c3.gpr 0) (omega (arith, few)) ∙ ap (λ x. x / 2 ^ suc k) (low_bytes (c.gpr 2));
          },
        )
      where
        shifted : (j x : ℕ) → j < 64 → shr 64 x j ≡ x / 2 ^ j
        shifted j x l = ap (λ b. cond b (x / 2 ^ j) 0) (lt_yes j 64 l)

    -- the elements before the boundary, or more than a row has where there is none
    abbrev Kind : ℕ → ℕ → ℕ → Type 0
    Kind k base h = IsGap k base h ⊎ ((h ≡ never) × ((i : ℕ) → AtSixteen k base i → ⊥))

    -- what gap_flow leaves
    record HasGap (k base : ℕ) (c d : Core) : Type 0 where
      at : At 0 d
      counter : d.gpr 1 ≡ c.gpr 1
      kind : Kind k base (d.gpr 0)

    -- elements of more than a byte, behind the low bits of the pointer
    module _ (k : ℕ) (few : suc k ≤ 3) (base : ℕ) (c c2 : Core) (e : base % 2 ^ 64 ≡ c.gpr 2) (line : Line Q (low_bits_code (suc k)) c c2) (low : HasLowBits (suc k) c c2) where
      abbrev first : List Ins
      first = low_bits_code (suc k)

      multiple : c.gpr 2 % 2 ^ suc k ≡ 0 → (done : List Ins) × (d : Core) × Does Q (gap_flow (suc k)) c done d × HasGap (suc k) base c d × (length done ≤ gap_steps (suc k)) × (weigh v done ≤ 0)
      multiple m =
          let x = gap_line (suc k) few c2 low.at in
          let q : gap (suc k) (c2.gpr 2) ≡ gap (suc k) (c.gpr 2) = ap (gap (suc k)) low.pointer in (
            first ++ (JumpIf E (pos (size (MovImm 0 never ∷ []) + 5)) ∷ gap_code (suc k)),
            x.0,
            (first, JumpIf E (pos (size (MovImm 0 never ∷ []) + 5)) ∷ gap_code (suc k), c2, (line, refl), inl (jumps 0 c2 low.at, low.tests ∙ ap (λ z. Some (z == 0)) m, (gap_code (suc k), (x.1, refl), refl)), refl),
            record { at = x.2.at; counter = x.2.counter ∙ low.counter; kind = inl (subst (λ g. IsGap (suc k) base g) (sym (x.2.bytes ∙ q)) (gap_is (suc k) few base (c.gpr 2) e m)) },
            omega arith,
            omega arith,
          )

      other : c.gpr 2 % 2 ^ suc k ≢ 0 → (done : List Ins) × (d : Core) × Does Q (gap_flow (suc k)) c done d × HasGap (suc k) base c d × (length done ≤ gap_steps (suc k)) × (weigh v done ≤ 0)
      other ne =
          let d : Core = with_gpr c2 0 never in
          let b : Beside c2 d = set_0 c2 c2 _ _ (beside_same c2) in
          let last : Line Q (MovImm 0 never ∷ []) c2 d = (quiet 0 c2 low.at c2 (MovImm 0 never) (beside_same c2) refl, (d, refl, refl)) in
          let at_d : At 0 d = on_list (MovImm 0 never ∷ []) ((omega arith, omega arith), tt) 0 c2 d low.at last b in
          let rest = JumpIf E (pos (size (MovImm 0 never ∷ []) + 5)) ∷ MovImm 0 never ∷ Jump (pos (size (gap_code (suc k)))) ∷ [] in (
            first ++ rest,
            d,
            (first, rest, c2, (line, refl), inr (jumps 0 c2 low.at, low.tests ∙ ap Some (eq_false (c.gpr 2 % 2 ^ suc k) 0 ne), (MovImm 0 never ∷ [], (last, refl), jumps 0 d at_d, refl)), refl),
            record { at = at_d; counter = low.counter; kind = inr (refl, no_gap (suc k) few base (c.gpr 2) e ne) },
            omega arith,
            omega arith,
          )

    gap_done : (k base : ℕ) → k ≤ 3 → (c : Core) → At 0 c → base % 2 ^ 64 ≡ c.gpr 2 → (done : List Ins) × (d : Core) × Does Q (gap_flow k) c done d × HasGap k base c d × (length done ≤ gap_steps k) × (weigh v done ≤ 0)
    gap_done zero base few c h e =
        let x = gap_line 0 few c h in
        (gap_code 0, x.0, (x.1, refl), record { at = x.2.at; counter = x.2.counter; kind = inl (subst (λ g. IsGap 0 base g) (sym x.2.bytes) (gap_is 0 few base (c.gpr 2) e (omega arith))) }, omega arith, omega arith)
    gap_done (suc k) base few c h e =
        let small : 2 ^ suc k - 1 < 2 ^ 31 = each_size (λ j. 2 ^ j - 1 < 2 ^ 31) (omega arith) (omega arith) (omega arith) (omega arith) (suc k) few in
        let y = low_bits_line (suc k) small c h in
        ⊎_elim (multiple k few base c y.0 e y.1 y.2) (other k few base c y.0 e y.1 y.2) (cases_eq (c.gpr 2 % 2 ^ suc k) 0)

    -- ---- RCX behind the gap

    -- what behind_code leaves
    record Behind (lanes : ℕ) (c d : Core) : Type 0 where
      at : At 0 d
      gap_is : d.gpr 0 ≡ c.gpr 0
      counter : d.gpr 1 ≡ less lanes (c.gpr 0)
      tested : Tested d

    behind_line : (lanes : ℕ) → lanes ≤ 64 → (c : Core) → At 0 c → c.gpr 1 ≡ n → c.gpr 0 ≤ never → (d : Core) × Line Q (behind_code lanes) c d × Behind lanes c d
    behind_line lanes most c h count small =
        let c1 : Core = alu_core Sub c 1 (c.gpr 0) in
        let c2 : Core = alu_core Sub c1 1 (lanes % 2 ^ 64) in
        let b1 : Beside c c1 = set_1 c c _ _ (beside_same c) in
        let b2 : Beside c c2 = set_1 c c1 _ _ b1 in
        let line : Line Q (behind_code lanes) c c2 = (quiet 0 c h c (Alu Sub 1 0) (beside_same c) refl, (c1, refl, (quiet 0 c h c1 (AluImm Sub 1 (pos lanes)) b1 refl, (c2, refl, refl)))) in
        (c2, line, record { at = on_list (behind_code lanes) ((omega arith, omega arith), ((omega arith, fits_up lanes (omega (arith, most))), tt)) 0 c c2 h line b2; gap_is = refl; counter = value (c.gpr 1) (c.gpr 0) count small; tested = record { zero = refl; sign = refl } })
      where
        value : (x g : ℕ) → x ≡ n → g ≤ never → ((x + (2 ^ 64 - g)) % 2 ^ 64 + (2 ^ 64 - lanes % 2 ^ 64)) % 2 ^ 64 ≡ less lanes g
        value x g e l = (let f = ground.few in omega (arith, f, most, e, l))

    -- ---- the head

    touches_word : (u : Core) (i : Ins) → u.gpr 4 ≡ rsp → base_of i ≡ Some 4 → span i u ≡ (address u (away 4 left_slot), 8) → (x : ℕ) → Touches i u x → InWord x
    touches_word u i e r s = touches_in 4 (rsp + left_slot) 8 i u (omega (arith, stack_low)) (inr (r, s ∙ ap (λ a. (a, 8)) (at_away u 4 rsp left_slot e (omega (arith, stack_low)))))

    -- what enter_head_code leaves
    record Entered (lanes : ℕ) (c d : Core) : Type 0 where
      at : At 0 d
      counter : d.gpr 1 ≡ (c.gpr 0 + (2 ^ 64 - lanes)) % 2 ^ 64
      tested : Tested d
      holds : word d.memory (rsp + left_slot) ≡ Some (c.gpr 1)

    enter_line : (lanes : ℕ) → lanes ≤ 64 → (c : Core) → At 0 c → (d : Core) × Line Q (enter_head_code lanes) c d × Entered lanes c d
    enter_line lanes most c h =
        let a = rsp + left_slot in
        let x = c.gpr 1 in
        let stack = ground.stack 0 c h in
        let small : x < 2 ^ 64 = (ground.bounded 0 c h).gpr 1 in
        let c1 : Core = with_memory c (fill 8 c.memory a (byte_of 8 x)) in
        let c2 : Core = with_gpr c1 1 (c.gpr 0) in
        let c3 : Core = alu_core Sub c2 1 (lanes % 2 ^ 64) in
        let b0 = beside_same c in
        let b1 : Beside c c1 = record {
          gpr = λ r p q. refl;
          xmm = refl;
          memory = λ y out. fill_out 8 c.memory a (byte_of 8 x) y (omega (arith, stack_low)) (λ j l e. out (omega (arith, e), omega (arith, e, l)));
          mapped = λ y m. fill_mapped 8 c.memory a (byte_of 8 x) y m;
        } in
        let b2 : Beside c c2 = set_1 c c1 _ _ b1 in
        let b3 : Beside c c3 = set_1 c c2 _ _ b2 in
        let stores : work (Store 1 (away 4 left_slot)) c ≡ Ok c1 = store_word c 1 4 rsp left_slot stack (omega (arith, stack_low)) (λ y l u. ground.word 0 c h y (l, u)) in
        let line : Line Q (enter_head_code lanes) c c3 =
        (ground.calm 0 c h c (Store 1 (away 4 left_slot)) b0 (touches_word c (Store 1 (away 4 left_slot)) stack refl refl), (c1, stores, (quiet 0 c h c1 (Move 1 0) b1 refl, (c2, refl, (quiet 0 c h c2 (AluImm Sub 1 (pos lanes)) b2 refl, (c3, refl, refl)))))) in
        let same : lanes % 2 ^ 64 ≡ lanes = mod-eq_of_lt (omega (arith, most)) in (
          c3,
          line,
          record {
            at = on_list (enter_head_code lanes) ((omega arith, (omega arith, fits_up left_slot (omega arith))), ((omega arith, omega arith), ((omega arith, fits_up lanes (omega (arith, most))), tt))) 0 c c3 h line b3;
            counter = ap (λ y. (c.gpr 0 + (2 ^ 64 - y)) % 2 ^ 64) same;
            tested = record { zero = refl; sign = refl };
            holds = word_stored c.memory a x (omega (arith, stack_low)) small;
          },
        )

    -- what leave_head_code leaves
    record Left (i x : ℕ) (d : Core) : Type 0 where
      at : At i d
      counter : d.gpr 1 ≡ x
      tested : Tested d

    leave_line : (i x : ℕ) (c : Core) → At i c → word c.memory (rsp + left_slot) ≡ Some x → (d : Core) × Line Q leave_head_code c d × Left i x d
    leave_line i x c h holds =
        let stack = ground.stack i c h in
        let c1 : Core = with_gpr c 1 x in
        let c2 : Core = with_flags c1 (Some (flags_of false false (bit_and x x))) in
        let b0 = beside_same c in
        let b1 : Beside c c1 = set_1 c c _ _ b0 in
        let b2 : Beside c c2 = set_flags c c1 _ b1 in
        let loads : work (Load 1 (away 4 left_slot)) c ≡ Ok c1 = load_word c 1 4 rsp left_slot x stack (omega (arith, stack_low)) holds in
        let line : Line Q leave_head_code c c2 =
        (ground.calm i c h c (Load 1 (away 4 left_slot)) b0 (touches_word c (Load 1 (away 4 left_slot)) stack refl refl), (c1, loads, (quiet i c h c1 (Test 1 1) b1 refl, (c2, refl, refl)))) in (
          c2,
          line,
          record {
            at = on_list leave_head_code ((omega arith, (omega arith, fits_up left_slot (omega arith))), ((omega arith, omega arith), tt)) i c c2 h line b2;
            counter = refl;
            tested = record { zero = ap (λ y. Some (not (y == 0))) (and_self x); sign = ap (λ y. Some (not (nat_le (2 ^ 63) y))) (and_self x) };
          },
        )

    free_enter : (lanes : ℕ) → weigh v (enter_head_code lanes) ≡ 0
    free_enter lanes = ap (λ t. (if t then 1 else 0) + (0 + (0 + 0))) by_stack

    free_leave : weigh v leave_head_code ≡ 0
    free_leave = ap (λ t. (if t then 1 else 0) + (0 + 0)) by_stack

    -- ---- to the end of whole turns, on either way

    -- where a way to the tail comes to, with so many turns done, each in so many steps
    record ToTail (lanes rest turned fixed steps : ℕ) (flow : Flow) (c : Core) : Type 0 where
      done : List Ins
      middle : Core
      d : Core
      does : Does Q flow c done d
      ends : Rest n lanes rest middle d
      few : length done ≤ fixed + turned * steps
      light : weigh v done ≤ turned * some

    -- parts of a turn, whole turns and parts of one are at most t turns
    module _ (parts : TurnParts) (wide aligned : Flow) (k lanes fixed base : ℕ) (positive : 0 < lanes) (most : lanes ≤ 16) (t : ℕ) (granted : t ≡ min n (n / lanes + 2 * lanes - 2)) (pieces : AreParts IsPiece lanes parts)
        (does_aligned : IsRegion aligned lanes (AtSixteen k base) (3 + fixed))
        (does_wide : IsRegion wide lanes (λ i. (j : ℕ) → j + lanes ≤ n → AtSixteen k base j → ⊥) fixed) where
      near_lanes : lanes ≤ 64
      near_lanes = omega (arith, most)

      -- the turns of the parts for so many elements
      abbrev by_parts : ℕ → ℕ
      by_parts = turns_by parts

      no_more : (x : ℕ) → by_parts x ≤ x
      no_more = turns_few IsPiece some_piece parts lanes pieces

      fit : (g m rest : ℕ) → g < lanes → rest < lanes → g + (m * lanes + rest) ≡ n → g + m + rest ≤ t
      fit g m rest near short all = subst (λ t. g + m + rest ≤ t) (sym granted) (some_turns lanes n g m rest positive near short all)

      reached_line : (g : ℕ) (c : Core) → At 0 c → c.gpr 0 ≡ g → c.gpr 1 ≡ less lanes g → g < lanes → AtSixteen k base g → (m rest : ℕ) → g + (m * lanes + rest) ≡ n → rest < lanes
          → ToTail lanes rest (by_parts g + m) (5 + (3 + fixed) + 2 * length parts) (2 + each) (reached_flow lanes parts aligned) c
      reached_line g c h gap_is count near at_16 m rest all short = first (enter_line lanes near_lanes c h)
        where
          within : g ≤ n
          within = omega (arith, all)

          Head : Type 0
          Head = ToTail lanes rest (by_parts g + m) (5 + (3 + fixed) + 2 * length parts) (2 + each) (reached_flow lanes parts aligned) c

          last : (u : Core) → Line Q (enter_head_code lanes) c u → (xs : List Ins) (w : Core) → Does Q (parts_flow lanes parts) u xs w → (length xs ≤ 2 * length parts + by_parts g * (2 + each)) → (weigh v xs ≤ by_parts g * some) → (d : Core) × Line Q leave_head_code w d × Left g (less lanes g) d → Head
          last u enters xs w turns few light (d, leaves, x) =
              let y = does_aligned g d m rest all short x.at at_16 x.counter x.tested in
              record {
                done = enter_head_code lanes ++ (xs ++ (leave_head_code ++ y.0));
                middle = d;
                d = y.1;
                does = (enter_head_code lanes, xs ++ (leave_head_code ++ y.0), u, (enters, refl), (xs, leave_head_code ++ y.0, w, turns, (leave_head_code, y.0, d, (leaves, refl), y.2, refl), refl), refl);
                ends = y.3;
                few = reached_steps (enter_head_code lanes) xs leave_head_code y.0 (length parts) (by_parts g) m (2 + each) (3 + fixed) refl refl few y.4;
                light = reached_touches v (enter_head_code lanes) xs leave_head_code y.0 (by_parts g) m some (free_enter lanes) free_leave light y.5;
              }

          first : (u : Core) × Line Q (enter_head_code lanes) c u × Entered lanes c u → Head
          first (u, enters, x) =
              let none : lanes ≡ 0 + lanes = omega arith in
              let counter : u.gpr 1 ≡ less_to g lanes 0 = x.counter ∙ ap (λ z. (z + (2 ^ 64 - lanes)) % 2 ^ 64) gap_is ∙ ap (λ k. (g + (2 ^ 64 - k)) % 2 ^ 64) none in
              let y = parts_line g within parts lanes near_lanes pieces g near u u (record { i = 0; all = omega arith; at = x.at; counter = counter; tested = x.tested; word = λ t w. refl }) in
              let ended = y.3 in
              let holds : word y.1.memory (rsp + left_slot) ≡ Some (less lanes g) = word_same y.1.memory u.memory (rsp + left_slot) (omega (arith, stack_low)) (λ t l r. ended.word t (l, r)) ∙ x.holds ∙ ap Some count in
              last u enters y.0 y.1 y.2 y.4 y.5 (leave_line g (less lanes g) y.1 ended.at holds)

      unreached_line : (g : ℕ) (c : Core) → At 0 c → c.gpr 0 ≡ g → g ≤ never → c.gpr 1 ≡ less lanes g → ((j : ℕ) → j + lanes ≤ n → AtSixteen k base j → ⊥) → (m rest : ℕ) → 0 + (m * lanes + rest) ≡ n → rest < lanes → ToTail lanes rest m (1 + fixed) (2 + each) (unreached_flow wide) c
      unreached_line g c h gap_is small count none m rest all short =
          let d : Core = alu_core Add c 1 (c.gpr 0) in
          let b : Beside c d = set_1 c c _ _ (beside_same c) in
          let line : Line Q (Alu Add 1 0 ∷ []) c d = (quiet 0 c h c (Alu Add 1 0) (beside_same c) refl, (d, refl, refl)) in
          let at : At 0 d = on_list (Alu Add 1 0 ∷ []) ((omega arith, omega arith), tt) 0 c d h line b in
          let y = does_wide 0 d m rest all short at none (back (c.gpr 1) (c.gpr 0) count gap_is) (record { zero = refl; sign = refl }) in
          record {
            done = Alu Add 1 0 ∷ y.0;
            middle = d;
            d = y.1;
            does = (Alu Add 1 0 ∷ [], y.0, d, (line, refl), y.2, refl);
            ends = y.3;
            few = one_before (Alu Add 1 0) y.0 fixed (m * (2 + each)) y.4;
            light = one_weight v (Alu Add 1 0) y.0 (m * some) refl y.5;
          }
        where
          back : (x a : ℕ) → x ≡ less lanes g → a ≡ g → (x + a) % 2 ^ 64 ≡ less lanes 0
          back x a e q = (let f = ground.few in omega (arith, f, most, e, q, small))

      -- whole turns on the way that the gap decides, with so many instructions besides turns; what the gap and the tail take beside them fits too
      record Chosen (c : Core) : Type 0 where
        turned : ℕ
        rest : ℕ
        besides : ℕ
        short : rest < lanes
        within : turned + by_parts rest ≤ t
        fits : (gaps : ℕ) → gaps ≤ 7 → gaps + 2 * length parts ≤ 13 → gaps + 2 + besides + 2 * length parts + (turned + by_parts rest) * (2 + each) ≤ 19 + fixed + t * (3 + (2 + each))
        to : ToTail lanes rest turned besides (2 + each) (Choice Ns (reached_flow lanes parts aligned) (unreached_flow wide)) c

      none_left : (g : ℕ) → g ≤ never → n < g + lanes → not (nat_le (2 ^ 63) (less lanes g)) ≡ false
      none_left g small l = ap not (le_yes (2 ^ 63) (less lanes g) (let f = ground.few in omega (arith, f, most, small, l)))

      some_left : (g : ℕ) → g + lanes ≤ n → not (nat_le (2 ^ 63) (less lanes g)) ≡ true
      some_left g l = ap not (le_no (2 ^ 63) (less lanes g) (let f = ground.few in omega (arith, f, most, l)))

      -- at least one whole turn is done where a boundary is reached
      a_turn : (g m rest : ℕ) → rest < lanes → g + (m * lanes + rest) ≡ n → g + lanes ≤ n → 0 < m
      a_turn g zero rest short all enough = absurd (omega (arith, short, all, enough))
      a_turn g (suc m) rest short all enough = omega arith

      -- and where there are several parts, two turns that are granted are not done
      spared : (g m rest : ℕ) → g < lanes → rest < lanes → 0 < m → g + (m * lanes + rest) ≡ n → 1 < length parts → by_parts g + m + by_parts rest + 2 ≤ t
      spared g m rest near short turn all several =
          subst (λ t. by_parts g + m + by_parts rest + 2 ≤ t) (sym granted)
          (two_fewer lanes n g m rest (by_parts g) (by_parts rest) positive (parts_several IsPiece some_piece parts lanes pieces several) turn all (no_more g) (no_more rest)
          (turns_saved IsPiece some_piece parts lanes pieces several g near) (turns_saved IsPiece some_piece parts lanes pieces several rest short))

      module _ (g : ℕ) (c : Core) (h : At 0 c) (gap_is_g : c.gpr 0 ≡ g) (counts : c.gpr 1 ≡ less lanes g) (tested : Tested c) where
        choose_reached : AtSixteen k base g → g < lanes → g + lanes ≤ n → Chosen c
        choose_reached at_16 near enough =
            let m = (n - g) / lanes in
            let rest = (n - g) % lanes in
            let short : rest < lanes = mod-lt (n - g) positive in
            let all : g + (m * lanes + rest) ≡ n = (let z = div-add-mod' (n - g) lanes in omega (arith, z, enough)) in
            let turn : 0 < m = a_turn g m rest short all enough in
            let x = reached_line g c h gap_is_g counts near at_16 m rest all short in
            let jump = JumpIf Ns (pos (size (flat (unreached_flow wide)) + 5)) in
            let goes : test Ns c.flags ≡ Some true = tested.sign ∙ ap (λ t. Some (not (nat_le (2 ^ 63) t))) counts ∙ ap Some (some_left g enough) in
            let within : by_parts g + m + by_parts rest ≤ t = (let l = fit g m rest near short all in let a = no_more g in let b = no_more rest in omega (arith, l, a, b)) in
            let four = parts_few IsPiece some_piece 4 parts lanes pieces most in
            record {
              turned = by_parts g + m;
              rest = rest;
              besides = 9 + fixed + 2 * length parts;
              short = short;
              within = within;
              fits = λ gaps seven few. (let l = reached_few gaps (length parts) (by_parts g + m + by_parts rest) t (2 + each) seven few four (omega (arith, turn)) within (spared g m rest near short turn all) (omega arith) in omega (arith, l));
              to = record {
                done = jump ∷ x.done;
                middle = x.middle;
                d = x.d;
                does = inl (jumps 0 c h, goes, (x.done, x.does, refl));
                ends = x.ends;
                few = (let l = x.few in omega (arith, l));
                light = one_weight v jump x.done ((by_parts g + m) * some) refl x.light;
              };
            }

        choose_unreached : g ≤ never → n < g + lanes → ((j : ℕ) → j + lanes ≤ n → AtSixteen k base j → ⊥) → Chosen c
        choose_unreached under over none =
            let m = n / lanes in
            let rest = n % lanes in
            let short : rest < lanes = mod-lt n positive in
            let all : 0 + (m * lanes + rest) ≡ n = (let z = div-add-mod' n lanes in omega (arith, z)) in
            let x = unreached_line g c h gap_is_g under counts none m rest all short in
            let jump = JumpIf Ns (pos (size (flat (unreached_flow wide)) + 5)) in
            let past = Jump (pos (size (flat (reached_flow lanes parts aligned)))) in
            let goes : test Ns c.flags ≡ Some false = tested.sign ∙ ap (λ t. Some (not (nat_le (2 ^ 63) t))) counts ∙ ap Some (none_left g under over) in
            let within : m + by_parts rest ≤ t = (let l = no_head m rest t (fit 0 m rest positive short all) in let b = no_more rest in omega (arith, l, b)) in
            record {
              turned = m;
              rest = rest;
              besides = 3 + fixed;
              short = short;
              within = within;
              fits = λ gaps seven few. (let l = unreached_few gaps (length parts) (m + by_parts rest) t (2 + each) few within in omega (arith, l));
              to = record {
                done = jump ∷ (x.done ++ past ∷ []);
                middle = x.middle;
                d = x.d;
                does = inr (jumps 0 c h, goes, (x.done, x.does, jumps x.ends.i x.d x.ends.at, refl));
                ends = x.ends;
                few = other_way jump past x.done fixed (m * (2 + each)) x.few;
                light = other_weight v jump past x.done (m * some) refl refl x.light;
              };
            }

        choose : Kind k base g → 16 / 2 ^ k ≡ lanes → Chosen c
        choose (inl gap) same = ⊎_elim
            (λ over. choose_unreached (omega (arith, near, most)) over (λ j l s. omega (arith, gap.first j s, l, over)))
            (λ enough. choose_reached gap.reached near enough)
            (cases_lt n (g + lanes))
          where
            near : g < lanes
            near = subst (λ l. g < l) same gap.near
        choose (inr far) same = choose_unreached (omega (arith, far.0)) (let f = ground.few in omega (arith, far.0, f, positive)) (λ j l s. far.1 j s)

      -- a row whose first dest has elements of 2 ^ k bytes, of which `lanes` fill a register
      pub aligned_line : k ≤ 3 → 16 / 2 ^ k ≡ lanes → (c : Core) → At 0 c → c.gpr 1 ≡ n → base % 2 ^ 64 ≡ c.gpr 2
          → (done : List Ins) × (d : Core) × Does Q (aligned_row k lanes parts wide aligned) c done d × At n d × (length done ≤ 19 + fixed + t * (3 + (2 + each))) × (weigh v done ≤ t * some)
      aligned_line few same c h counts address_is = first (gap_done k base few c h address_is)
        where
          Ends : Type 0
          Ends = (done : List Ins) × (d : Core) × Does Q (aligned_row k lanes parts wide aligned) c done d × At n d × (length done ≤ 19 + fixed + t * (3 + (2 + each))) × (weigh v done ≤ t * some)

          under : (g : ℕ) → Kind k base g → g ≤ never
          under g (inl gap) = (let l : g < lanes = subst (λ l. g < l) same gap.near in omega (arith, l, most))
          under g (inr far) = omega (arith, far.0)

          few_gaps : gap_steps k + 2 * length parts ≤ 13
          few_gaps = gaps_few k few lanes (length parts) same (λ d l. parts_few IsPiece some_piece d parts lanes pieces l)

          last : (xs : List Ins) (b : Core) → Does Q (gap_flow k) c xs b → length xs ≤ gap_steps k → weigh v xs ≤ 0 → (u : Core) → Line Q (behind_code lanes) b u → Chosen u → Ends
          last xs b gaps few_as light_as u behinds x =
              let z = parts_line n (le_refl n) parts lanes near_lanes pieces x.rest x.short x.to.middle x.to.d x.to.ends in
              let ended = z.3 in (
                xs ++ (behind_code lanes ++ (x.to.done ++ z.0)),
                z.1,
                (xs, behind_code lanes ++ (x.to.done ++ z.0), b, gaps, (behind_code lanes, x.to.done ++ z.0, u, (behinds, refl), (x.to.done, z.0, x.to.d, x.to.does, z.2, refl), refl), refl),
                ended.at,
                row_steps xs (behind_code lanes) x.to.done z.0 (gap_steps k) x.besides (length parts) x.turned (by_parts x.rest) (2 + each) (19 + fixed + t * (3 + (2 + each))) few_as refl x.to.few z.4 (x.fits (gap_steps k) (gap_short k) few_gaps),
                row_touches v xs (behind_code lanes) x.to.done z.0 x.turned (by_parts x.rest) some t light_as refl x.to.light z.5 x.within,
              )

          next : (xs : List Ins) (b : Core) → Does Q (gap_flow k) c xs b → length xs ≤ gap_steps k → weigh v xs ≤ 0 → Kind k base (b.gpr 0) → (u : Core) × Line Q (behind_code lanes) b u × Behind lanes b u → Ends
          next xs b gaps few_as light_as kind (u, behinds, x) = last xs b gaps few_as light_as u behinds (choose (b.gpr 0) u x.at x.gap_is x.counter x.tested kind same)

          first : (xs : List Ins) × (b : Core) × Does Q (gap_flow k) c xs b × HasGap k base c b × (length xs ≤ gap_steps k) × (weigh v xs ≤ 0) → Ends
          first (xs, b, gaps, x, few_as, light_as) = next xs b gaps few_as light_as x.kind (behind_line lanes near_lanes b x.at (x.counter ∙ counts) (under (b.gpr 0) x.kind))
