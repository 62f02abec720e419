-- The instructions of the lists around rows: they are allowed, and few.
use Rattle.std.proofs.Common.{◌≡◌, ℕ, zero, suc, ◌+◌, ◌*◌, ◌^◌, ◌<◌, ◌≤◌, Bool, true, false, if◌then◌else◌, pos, List, ◌++◌, length, ap, arith, refl, suc-mul, length-append}
use Rattle.x86_ins.specs.declared.ins.AluOp.TheVariants.{Add, Sub}
use Rattle.x86_ins.specs.declared.ins.Cond.TheVariants.{Ne}
use Rattle.x86_ins.specs.declared.ins.Ins.{Ins}
use Rattle.x86_ins.specs.declared.ins.Ins.TheVariants.{Load, Store, Alu}
use Rattle.x86_ins.specs.Spelling.{IsAllowed, spelling, reg_form}
use Rattle.x86_ins.specs.Way.{Each}
use Rattle.x86_flow.specs.Flow.{Flow, flat, size, loop_code}
use Rattle.x86_flow.specs.Moves.{away}
use Rattle.x86_flow.proofs.Shapes.{size_both, loop_size, loop_fine}
use Rattle.x86_flow.proofs.Plans.{weigh, weigh_append}
use Rattle.x86_flow.specs.Touching.{touch_weight}
use Rattle.x86_flow.proofs.Spelled.{IsFine, fine_load, fine_store, fine_alu_imm, fine_test, fits_up, each_both, all_allowed, size_within}
use Rattle.orc_region.specs.Code.{pointer}
use Rattle.orc_frame.specs.Layout.{row_slot, rows_slot}
use Rattle.orc_frame.specs.Parts.{rows_word, base_word, stride_word}
use Rattle.orc_asm.specs.Rows.{slots_code, arrays_code, base_code, count_code, rows_code, pointer_code, counter_code, row_entry_code, start_code, one_row_code, stride_code, one_less_code, row_step_code, row_flow, rows_flow}
use Rattle.orc_region.proofs.Block.Registers.{pointer_small}

-- ---- lists of slots

slots_count : (code : ℕ → List Ins) (each first n : ℕ) → ((k : ℕ) → length (code k) ≡ each) → length (slots_code code first n) ≡ n * each
slots_count code each first zero h = omega arith
slots_count code each first (suc n) h = omega (arith, length-append (slots_code code first n) (code (first + n)), slots_count code each first n h, h (first + n), suc-mul n each)

-- ---- what touches no cell: words go by RSP and RDI

module _ (by : ℕ → Bool) (by_stack : by 4 ≡ false) (by_block : by 7 ≡ false) where
  abbrev pub touch : Ins → ℕ
  touch = touch_weight by

  slots_free : (code : ℕ → List Ins) (first n : ℕ) → ((k : ℕ) → weigh touch (code k) ≡ 0) → weigh touch (slots_code code first n) ≡ 0
  slots_free code first zero h = refl
  slots_free code first (suc n) h = omega (arith, weigh_append touch (slots_code code first n) (code (first + n)), slots_free code first n h, h (first + n))

  arrays_free : (code : ℕ → List Ins) (dests sources : ℕ) → ((k : ℕ) → weigh touch (code k) ≡ 0) → weigh touch (arrays_code code dests sources) ≡ 0
  arrays_free code dests sources h = omega (arith, weigh_append touch (slots_code code 0 dests) (slots_code code 4 sources), slots_free code 0 dests h, slots_free code 4 sources h)

  abbrev one : Bool → ℕ
  one b = if b then 1 else 0

  none_4 : one (by 4) ≡ 0
  none_4 = ap one by_stack

  none_7 : one (by 7) ≡ 0
  none_7 = ap one by_block

  pub rows_free : (dests sources : ℕ) → weigh touch (rows_code dests sources) ≡ 0
  rows_free dests sources =
      let last : weigh touch count_code ≡ 0 = omega (arith, none_7, none_4) in
      omega (arith, weigh_append touch (arrays_code base_code dests sources) count_code, arrays_free base_code dests sources (λ k. omega (arith, none_7, none_4)), last)

  pub row_entry_free : (dests sources : ℕ) → weigh touch (row_entry_code dests sources) ≡ 0
  row_entry_free dests sources =
      let last : weigh touch counter_code ≡ 0 = omega (arith, none_7) in
      omega (arith, weigh_append touch (arrays_code pointer_code dests sources) counter_code, arrays_free pointer_code dests sources (λ k. omega (arith, none_4)), last)

  pub one_row_free : (dests sources : ℕ) → weigh touch (one_row_code dests sources) ≡ 0
  one_row_free dests sources =
      let last : weigh touch counter_code ≡ 0 = omega (arith, none_7) in
      omega (arith, weigh_append touch (arrays_code start_code dests sources) counter_code, arrays_free start_code dests sources (λ k. omega (arith, none_7, none_4)), last)

  pub row_step_free : (dests sources : ℕ) → weigh touch (row_step_code dests sources) ≡ 0
  row_step_free dests sources =
      let last : weigh touch one_less_code ≡ 0 = omega (arith, none_4) in
      omega (arith, weigh_append touch (arrays_code stride_code dests sources) one_less_code, arrays_free stride_code dests sources (λ k. omega (arith, none_4, none_7)), last)

slots_fine : (code : ℕ → List Ins) (first n : ℕ) → first + n ≤ 12 → ((k : ℕ) → k < 12 → Each IsFine (code k)) → Each IsFine (slots_code code first n)
slots_fine code first zero few h = tt
slots_fine code first (suc n) few h = each_both IsFine (slots_code code first n) (code (first + n)) (slots_fine code first n (omega (arith, few)) h) (h (first + n) (omega (arith, few)))

fine_word : (r d : ℕ) → r < 16 → d < 2 ^ 31 → (q : ℕ) → q < 16 → IsFine (Load q (away r d)) × IsFine (Store q (away r d))
fine_word r d h l q g = (fine_load q (away r d) g h (fits_up d l), fine_store q (away r d) g h (fits_up d l))

-- RCX is added to RAX
fine_add : IsFine (Alu Add 0 1)
unfolding spelling reg_form
fine_add = record { allowed = ((omega arith, omega arith), refl); short = omega arith }

module _ (dests sources : ℕ) where
  arrays_count : (code : ℕ → List Ins) (each : ℕ) → ((k : ℕ) → length (code k) ≡ each) → length (arrays_code code dests sources) ≡ dests * each + sources * each
  arrays_count code each h = omega (arith, length-append (slots_code code 0 dests) (slots_code code 4 sources), slots_count code each 0 dests h, slots_count code each 4 sources h)

  -- ---- how many there are

  pub rows_count : length (rows_code dests sources) ≡ 2 * (dests + sources) + 3
  rows_count = omega (arith, length-append (arrays_code base_code dests sources) count_code, arrays_count base_code 2 (λ k. refl))

  pub row_entry_count : length (row_entry_code dests sources) ≡ dests + sources + 2
  row_entry_count = omega (arith, length-append (arrays_code pointer_code dests sources) counter_code, arrays_count pointer_code 1 (λ k. refl))

  pub one_row_count : length (one_row_code dests sources) ≡ 2 * (dests + sources) + 2
  one_row_count = omega (arith, length-append (arrays_code start_code dests sources) counter_code, arrays_count start_code 2 (λ k. refl))

  pub row_step_count : length (row_step_code dests sources) ≡ 4 * (dests + sources) + 3
  row_step_count = omega (arith, length-append (arrays_code stride_code dests sources) one_less_code, arrays_count stride_code 4 (λ k. refl))

  module _ (few_dests : dests ≤ 4) (few_sources : sources ≤ 8) where
    arrays_fine : (code : ℕ → List Ins) → ((k : ℕ) → k < 12 → Each IsFine (code k)) → Each IsFine (arrays_code code dests sources)
    arrays_fine code h = each_both IsFine (slots_code code 0 dests) (slots_code code 4 sources) (slots_fine code 0 dests (omega (arith, few_dests)) h) (slots_fine code 4 sources (omega (arith, few_sources)) h)

    fine_bases : Each IsFine (arrays_code base_code dests sources)
    fine_bases = arrays_fine base_code (λ k l. ((fine_word 7 (base_word k) (omega arith) (omega (arith, l)) 0 (omega arith)).0, ((fine_word 4 (row_slot k) (omega arith) (omega (arith, l)) 0 (omega arith)).1, tt)))

    fine_count : Each IsFine count_code
    fine_count = ((fine_word 7 rows_word (omega arith) (omega arith) 0 (omega arith)).0, ((fine_word 4 rows_slot (omega arith) (omega arith) 0 (omega arith)).1, (fine_test 0 0 (omega arith) (omega arith), tt)))

    pub fine_rows : Each IsFine (rows_code dests sources)
    fine_rows = each_both IsFine (arrays_code base_code dests sources) count_code fine_bases fine_count

    pub fine_row_entry : Each IsFine (row_entry_code dests sources)
    fine_row_entry = each_both IsFine (arrays_code pointer_code dests sources) counter_code
        (arrays_fine pointer_code (λ k l. ((fine_word 4 (row_slot k) (omega arith) (omega (arith, l)) (pointer k) (pointer_small k l)).0, tt)))
        ((fine_word 7 0 (omega arith) (omega arith) 1 (omega arith)).0, (fine_test 1 1 (omega arith) (omega arith), tt))

    pub fine_one_row : Each IsFine (one_row_code dests sources)
    fine_one_row = each_both IsFine (arrays_code start_code dests sources) counter_code
        (arrays_fine start_code (λ k l. (
          (fine_word 7 (base_word k) (omega arith) (omega (arith, l)) (pointer k) (pointer_small k l)).0,
          ((fine_word 4 (row_slot k) (omega arith) (omega (arith, l)) (pointer k) (pointer_small k l)).1, tt),
        )))
        ((fine_word 7 0 (omega arith) (omega arith) 1 (omega arith)).0, (fine_test 1 1 (omega arith) (omega arith), tt))

    pub fine_row_step : Each IsFine (row_step_code dests sources)
    fine_row_step = each_both IsFine (arrays_code stride_code dests sources) one_less_code
        (arrays_fine stride_code (λ k l. (
          (fine_word 4 (row_slot k) (omega arith) (omega (arith, l)) 0 (omega arith)).0,
          ((fine_word 7 (stride_word k) (omega arith) (omega (arith, l)) 1 (omega arith)).0, (fine_add, ((fine_word 4 (row_slot k) (omega arith) (omega (arith, l)) 0 (omega arith)).1, tt))),
        )))
        ((fine_word 4 rows_slot (omega arith) (omega arith) 0 (omega arith)).0, (fine_alu_imm Sub 0 (pos 1) (omega arith) (fits_up 1 (omega arith)), ((fine_word 4 rows_slot (omega arith) (omega arith) 0 (omega arith)).1, tt)))

    -- ---- the whole

    module _ (elements : Flow) where
      pub row_bytes : size (flat (row_flow elements dests sources)) ≤ size (flat elements) + 715
      row_bytes =
          let enter = row_entry_code dests sources in
          let go_on = row_step_code dests sources in
          omega (
            arith,
            size_both enter (flat elements ++ go_on),
            size_both (flat elements) go_on,
            size_within enter fine_row_entry,
            size_within go_on fine_row_step,
            row_entry_count,
            row_step_count,
            few_dests,
            few_sources,
          )

      -- the code of rows has few bytes more than that of a row's elements
      pub rows_bytes : (two_d : Bool) → size (flat (rows_flow elements two_d dests sources)) ≤ size (flat elements) + 1024
      rows_bytes true =
          let first = rows_code dests sources in
          let body = flat (row_flow elements dests sources) in
          omega (arith, size_both first (loop_code Ne body), loop_size Ne body, row_bytes, size_within first fine_rows, rows_count, few_dests, few_sources)
      rows_bytes false =
          let first = one_row_code dests sources in
          omega (arith, size_both first (flat elements), size_within first fine_one_row, one_row_count, few_dests, few_sources)

      -- and is allowed where that is
      pub rows_allowed : (two_d : Bool) → size (flat elements) ≤ 960000 → Each IsAllowed (flat elements) → Each IsAllowed (flat (rows_flow elements two_d dests sources))
      rows_allowed true few h =
          let enter = row_entry_code dests sources in
          let go_on = row_step_code dests sources in
          let body = flat (row_flow elements dests sources) in
          let all : Each IsAllowed body = each_both IsAllowed enter (flat elements ++ go_on) (all_allowed enter fine_row_entry) (each_both IsAllowed (flat elements) go_on h (all_allowed go_on fine_row_step)) in
          each_both IsAllowed (rows_code dests sources) (loop_code Ne body) (all_allowed (rows_code dests sources) fine_rows) (loop_fine Ne body (omega (arith, row_bytes, few)) all)
      rows_allowed false few h = each_both IsAllowed (one_row_code dests sources) (flat elements) (all_allowed (one_row_code dests sources) fine_one_row) h
