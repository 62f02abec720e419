-- The instructions before and after the rows are allowed, few and short.
use Rattle.std.proofs.Common.{◌≡◌, ℕ, zero, suc, ◌+◌, ◌*◌, ◌%◌, ◌^◌, ◌<◌, ◌≤◌, ◌==◌, if◌then◌else◌, nat_lt, Bool, true, false, pos, List, [], ◌∷◌, ◌++◌, length, Result, Ok, Err, IfOk, refl, sym, subst, arith, length-append}
use Rattle.std.specs.Int.{w32, w64, to_le_bytes}
use Rattle.x86_ins.specs.declared.ins.VecOp.{VecOp}
use Rattle.x86_ins.specs.declared.ins.VecOp.TheVariants.{Punpcklbw, Movdqa, Paddw, Paddd}
use Rattle.x86_ins.specs.declared.ins.VecImmOp.{VecImmOp}
use Rattle.x86_ins.specs.declared.ins.VecImmOp.TheVariants.{Psrldq}
use Rattle.x86_ins.specs.declared.ins.ShuffleOp.{ShuffleOp}
use Rattle.x86_ins.specs.declared.ins.ShuffleOp.TheVariants.{Pshufd, Pshuflw}
use Rattle.x86_ins.specs.declared.ins.MoveOp.TheVariants.{Movdqu}
use Rattle.x86_ins.specs.declared.ins.AluOp.{AluOp}
use Rattle.x86_ins.specs.declared.ins.AluOp.TheVariants.{Add, Sub, And}
use Rattle.x86_ins.specs.declared.ins.Ins.{Ins}
use Rattle.x86_ins.specs.declared.ins.Ins.TheVariants.{Vec, VecImm, Shuffle, VecLoad, VecStore, FromGpr, ToGpr, Load, Store, MovImm, AluImm}
use Rattle.x86_ins.specs.Spelling.{spelling, reg_form, plus_form, rex, rex_bits, m_reg, top, imm_byte, imm_digit, shuffle_prefix}
use Rattle.x86_ins.specs.Way.{Each}
use Rattle.x86_flow.specs.Moves.{away}
use Rattle.x86_flow.proofs.Spelled.{IsFine, fits_up, fine_vec, fine_vec_load, fine_vec_store, fine_from_gpr, fine_to_gpr, fine_load, fine_store, fine_alu_imm, each_both}
use Rattle.orc_program.specs.declared.program.Operand.{Operand}
use Rattle.orc_program.specs.declared.program.Operand.TheVariants as operand
use Rattle.orc_frame.specs.declared.frame.Layout.{Layout}
use Rattle.orc_frame.specs.Layout.{frame_size, pattern_slot, sum_slot, saved_slot, block_slot, index_in}
use Rattle.orc_frame.specs.Parts.{param_word, sum_word}
use Rattle.orc_frame.specs.Frame.{IsLayout, saved, pattern_at, acc_size}
use Rattle.orc_frame.specs.Code.{joined, slot, twice_code, repeated, constant_code, spread_code, spread_to_code, is_narrow, param_code, fill_code, pattern_code, save_code, clear_code, prologue_code, add_down_code, total_code, to_rax_code, sum_code, store_code, restore_code, epilogue_code}
use Rattle.orc_frame.proofs.Facts.{Facts, facts}
use Rattle.orc_frame.proofs.Fills.{IsKnown, repeated_small}
use Rattle.orc_frame.proofs.Reach.{Reaches, in_frame, in_block, saved_small}

-- ---- instructions

pub rex_short : (w r b : Bool) → length (rex_bits w r b) ≤ 1
rex_short true true true = omega arith
rex_short true true false = omega arith
rex_short true false true = omega arith
rex_short true false false = omega arith
rex_short false true true = omega arith
rex_short false true false = omega arith
rex_short false false true = omega arith
rex_short false false false = omega arith

form_short : (pre opcode : List ℕ) (reg rm : ℕ) → length pre ≤ 1 → length opcode ≤ 2 → length (reg_form pre false opcode reg rm) ≤ 5
unfolding reg_form
form_short pre opcode reg rm p o =
    omega (arith, p, o, rex_short false (top reg) (top rm), length-append pre (rex false reg rm ++ (opcode ++ m_reg reg rm)), length-append (rex false reg rm) (opcode ++ m_reg reg rm), length-append opcode (m_reg reg rm))

pub fine_vec_imm : (op : VecImmOp) (d n : ℕ) → d < 16 → n < 2 ^ 8 → IsFine (VecImm op d n)
unfolding spelling
fine_vec_imm op d n h g =
    let form = reg_form (0x66 ∷ []) false (0x0f ∷ imm_byte op ∷ []) (imm_digit op) d in
    record { allowed = ((h, g), refl); short = omega (arith, form_short (0x66 ∷ []) (0x0f ∷ imm_byte op ∷ []) (imm_digit op) d (omega arith) (omega arith), length-append form (n ∷ [])) }

pub fine_shuffle : (op : ShuffleOp) (d s o : ℕ) → d < 16 → s < 16 → o < 2 ^ 8 → IsFine (Shuffle op d s o)
unfolding spelling
fine_shuffle op d s o h g i =
    let form = reg_form (shuffle_prefix op ∷ []) false (0x0f ∷ 0x70 ∷ []) d s in
    record { allowed = ((h, g, i), refl); short = omega (arith, form_short (shuffle_prefix op ∷ []) (0x0f ∷ 0x70 ∷ []) d s (omega arith) (omega arith), length-append form (o ∷ [])) }

number_short : (wide : Bool) (d : ℕ) (rest : List ℕ) → length rest ≤ 8 → length (plus_form wide 0xb8 d ++ rest) ≤ 11
unfolding plus_form
number_short wide d rest h =
    let front = rex wide 0 d in
    omega (arith, h, rex_short wide (top 0) (top d), length-append front ((0xb8 + d % 8) ∷ []), length-append (front ++ (0xb8 + d % 8) ∷ []) rest)

fine_number : (d v : ℕ) → d < 16 → v < 2 ^ 64 → IsFine (MovImm d v)
unfolding spelling
fine_number d v h g = record { allowed = ((h, g), refl); short = go (nat_lt v (2 ^ 32)) }
  where
    go : (b : Bool) → length (if b then plus_form false 0xb8 d ++ to_le_bytes w32 v else plus_form true 0xb8 d ++ to_le_bytes w64 v) ≤ 11
    go true = number_short false d (to_le_bytes w32 v) (omega arith)
    go false = number_short true d (to_le_bytes w64 v) (omega arith)

-- ---- lists

-- at most so many fine instructions, which reach the frame and the block alone
pub record AreFew (n : ℕ) (list : List Ins) : Type 0 where
  pub fine : Each IsFine list
  pub near : Each Reaches list
  pub count : length list ≤ n

more : (a b : List Ins) (n m : ℕ) → AreFew n a → AreFew m b → AreFew (n + m) (a ++ b)
more a b n m x y = let p = x.count in let q = y.count in record { fine = each_both IsFine a b x.fine y.fine; near = each_both Reaches a b x.near y.near; count = omega (arith, p, q, length-append a b) }

one : (i : Ins) → IsFine i → Reaches i → AreFew 1 (i ∷ [])
one i h r = record { fine = (h, tt); near = (r, tt); count = omega arith }

at_most : (n m : ℕ) (a : List Ins) → n ≤ m → AreFew n a → AreFew m a
at_most n m a h x = let p = x.count in record { fine = x.fine; near = x.near; count = omega (arith, h, p) }

all_joined : (code : ℕ → List Ins) (w n : ℕ) → ((k : ℕ) → k < n → AreFew w (code k)) → AreFew (w * n) (joined code n)
all_joined code w zero h = record { fine = tt; near = tt; count = omega arith }
all_joined code w (suc n) h =
    let e : w * n + w ≡ w * suc n = grind (arith) in
    subst (λ m. AreFew m (joined code (suc n))) e (more (joined code n) (code n) (w * n) w (all_joined code w n (λ k l. h k (omega (arith, l)))) (h n (omega arith)))

low_reg : 0 < 16
low_reg = omega arith

store_few : (q at : ℕ) → q < 16 → at + 8 ≤ frame_size → AreFew 1 (Store q (slot (pos at)) ∷ [])
store_few q at h l = one (Store q (slot (pos at))) (fine_store q (slot (pos at)) h (omega arith) (fits_up at (omega (arith, l)))) (in_frame 8 at l)

twice_few : (at : ℕ) → at + 16 ≤ frame_size → AreFew 2 (twice_code (pos at))
twice_few at l = more (Store 0 (slot (pos at)) ∷ []) (Store 0 (slot (pos (at + 8))) ∷ []) 1 1 (store_few 0 at low_reg (omega (arith, l))) (store_few 0 (at + 8) low_reg (omega (arith, l)))

constant_few : (n at : ℕ) → n < 2 ^ 64 → at + 16 ≤ frame_size → AreFew 3 (constant_code n (pos at))
constant_few n at h l = more (MovImm 0 n ∷ []) (twice_code (pos at)) 1 2 (one (MovImm 0 n) (fine_number 0 n low_reg h) tt) (twice_few at l)

shuffle_few : (op : ShuffleOp) → AreFew 1 (Shuffle op 0 0 0 ∷ [])
shuffle_few op = one (Shuffle op 0 0 0) (fine_shuffle op 0 0 0 low_reg low_reg (omega arith)) tt

spread_few : (way : ℕ) → AreFew 3 (spread_code way)
spread_few way = go (way == 1) (way == 2)
  where
    words : List Ins
    words = Shuffle Pshuflw 0 0 0 ∷ []

    go : (first second : Bool) → AreFew 3 (if first then Vec Punpcklbw 0 0 ∷ Shuffle Pshuflw 0 0 0 ∷ Shuffle Pshufd 0 0 0 ∷ [] else if second then Shuffle Pshuflw 0 0 0 ∷ Shuffle Pshufd 0 0 0 ∷ [] else Shuffle Pshufd 0 0 0 ∷ [])
    go true second = more (Vec Punpcklbw 0 0 ∷ []) (Shuffle Pshuflw 0 0 0 ∷ Shuffle Pshufd 0 0 0 ∷ []) 1 2 (one (Vec Punpcklbw 0 0) (fine_vec Punpcklbw 0 0 low_reg low_reg) tt) (more (Shuffle Pshuflw 0 0 0 ∷ []) (Shuffle Pshufd 0 0 0 ∷ []) 1 1 (shuffle_few Pshuflw) (shuffle_few Pshufd))
    go false true = at_most 2 3 _ (omega arith) (more (Shuffle Pshuflw 0 0 0 ∷ []) (Shuffle Pshufd 0 0 0 ∷ []) 1 1 (shuffle_few Pshuflw) (shuffle_few Pshufd))
    go false false = at_most 1 3 _ (omega arith) (shuffle_few Pshufd)

spread_to_few : (way at : ℕ) → at + 16 ≤ frame_size → AreFew 5 (spread_to_code way (pos at))
spread_to_few way at l =
    more (FromGpr false 0 0 ∷ []) (spread_code way ++ VecStore Movdqu 0 (slot (pos at)) ∷ []) 1 4 (one (FromGpr false 0 0) (fine_from_gpr false 0 0 low_reg low_reg) tt)
    (more (spread_code way) (VecStore Movdqu 0 (slot (pos at)) ∷ []) 3 1 (spread_few way) (one (VecStore Movdqu 0 (slot (pos at))) (fine_vec_store Movdqu 0 (slot (pos at)) low_reg (omega arith) (fits_up at (omega (arith, l)))) (in_frame 16 at l)))

param_few : (way j at : ℕ) → j < 8 → at + 16 ≤ frame_size → AreFew 8 (param_code way j (pos at))
param_few way j at h l = at_most 6 8 (param_code way j (pos at)) (omega arith)
    (more (Load 0 (away 7 (param_word j)) ∷ []) (if is_narrow way then spread_to_code way (pos at) else twice_code (pos at)) 1 5
    (one (Load 0 (away 7 (param_word j))) (fine_load 0 (away 7 (param_word j)) low_reg (omega arith) (fits_up (param_word j) (omega (arith, h)))) (in_block 8 (param_word j) (omega (arith, h)))) (go (is_narrow way)))
  where
    go : (b : Bool) → AreFew 5 (if b then spread_to_code way (pos at) else twice_code (pos at))
    go true = spread_to_few way at l
    go false = at_most 2 5 (twice_code (pos at)) (omega arith) (twice_few at l)

fill_few : (params : List ℕ) (count way at : ℕ) (number : Operand) → count ≤ 8 → IsKnown params count number → at + 16 ≤ frame_size → AreFew 8 (fill_code params way number (pos at))
fill_few params count way at (operand.Number n) c k l = at_most 3 8 (constant_code (repeated way n) (pos at)) (omega arith) (constant_few (repeated way n) at (repeated_small way n k) l)
fill_few params count way at (operand.Var p) c k l = param_few way (index_in params p) at (omega (arith, c, k)) l

add_down_few : (op : VecOp) (far : ℕ) → far < 2 ^ 8 → AreFew 3 (add_down_code op far)
add_down_few op far h =
    let r : 1 < 16 = omega arith in
    more (Vec Movdqa 1 0 ∷ []) (VecImm Psrldq 1 far ∷ Vec op 0 1 ∷ []) 1 2 (one (Vec Movdqa 1 0) (fine_vec Movdqa 1 0 r low_reg) tt)
    (more (VecImm Psrldq 1 far ∷ []) (Vec op 0 1 ∷ []) 1 1 (one (VecImm Psrldq 1 far) (fine_vec_imm Psrldq 1 far r h) tt) (one (Vec op 0 1) (fine_vec op 0 1 low_reg r) tt))

total_few : (size : ℕ) → AreFew 9 (total_code size)
total_few size = go (size == 2)
  where
    go : (b : Bool) → AreFew 9 (if b then add_down_code Paddw 8 ++ (add_down_code Paddw 4 ++ add_down_code Paddw 2) else add_down_code Paddd 8 ++ add_down_code Paddd 4)
    go true = more (add_down_code Paddw 8) (add_down_code Paddw 4 ++ add_down_code Paddw 2) 3 6 (add_down_few Paddw 8 (omega arith)) (more (add_down_code Paddw 4) (add_down_code Paddw 2) 3 3 (add_down_few Paddw 4 (omega arith)) (add_down_few Paddw 2 (omega arith)))
    go false = at_most 6 9 _ (omega arith) (more (add_down_code Paddd 8) (add_down_code Paddd 4) 3 3 (add_down_few Paddd 8 (omega arith)) (add_down_few Paddd 4 (omega arith)))

to_rax_few : (size : ℕ) → AreFew 2 (to_rax_code size)
to_rax_few size = go (size == 2)
  where
    go : (b : Bool) → AreFew 2 (if b then ToGpr false 0 0 ∷ AluImm And 0 (pos 65535) ∷ [] else ToGpr false 0 0 ∷ [])
    go true = more (ToGpr false 0 0 ∷ []) (AluImm And 0 (pos 65535) ∷ []) 1 1 (one (ToGpr false 0 0) (fine_to_gpr false 0 0 low_reg low_reg) tt) (one (AluImm And 0 (pos 65535)) (fine_alu_imm And 0 (pos 65535) low_reg (fits_up 65535 (omega arith))) tt)
    go false = at_most 1 2 _ (omega arith) (one (ToGpr false 0 0) (fine_to_gpr false 0 0 low_reg low_reg) tt)

sum_few : (size at g : ℕ) → at + 16 ≤ frame_size → g < 4 → AreFew 13 (sum_code size (pos at) g)
sum_few size at g l h =
    let st = Store 0 (away 7 (sum_word g)) ∷ [] in
    more (VecLoad Movdqu 0 (slot (pos at)) ∷ []) (total_code size ++ (to_rax_code size ++ st)) 1 12 (one (VecLoad Movdqu 0 (slot (pos at))) (fine_vec_load Movdqu 0 (slot (pos at)) low_reg (omega arith) (fits_up at (omega (arith, l)))) (in_frame 16 at l))
    (more (total_code size) (to_rax_code size ++ st) 9 3 (total_few size)
    (more (to_rax_code size) st 2 1 (to_rax_few size) (one (Store 0 (away 7 (sum_word g))) (fine_store 0 (away 7 (sum_word g)) low_reg (omega arith) (fits_up (sum_word g) (omega (arith, h)))) (in_block 8 (sum_word g) (omega (arith, h))))))

-- ---- the whole

module _ (l : Layout) (is : IsLayout l) where
  known : Facts l
  known = facts l is

  save_few : (j : ℕ) → j < 6 → AreFew 1 (save_code l j)
  save_few j h = subst (λ z. AreFew 1 (Store (saved j) (slot z) ∷ [])) (sym (known.saved_slots j h)) (store_few (saved j) (saved_slot j) (saved_small j h) (omega (arith, h)))

  restore_few : (j : ℕ) → j < 6 → AreFew 1 (restore_code l j)
  restore_few j h =
      subst (λ z. AreFew 1 (Load (saved j) (slot z) ∷ [])) (sym (known.saved_slots j h))
      (one (Load (saved j) (slot (pos (saved_slot j)))) (fine_load (saved j) (slot (pos (saved_slot j))) (saved_small j h) (omega arith) (fits_up (saved_slot j) (omega (arith, h)))) (in_frame 8 (saved_slot j) (omega (arith, h))))

  pattern_few : (k : ℕ) → k < length l.patterns.items → AreFew 8 (pattern_code l k)
  pattern_few k h =
      let few = known.few_patterns in
      let p = pattern_at l k in
      subst (λ z. AreFew 8 (fill_code l.params.items p.way p.number z)) (sym (known.pattern_slots k h))
      (fill_few l.params.items (length l.params.items) p.way (pattern_slot k) p.number known.few_params (known.known k h) (omega (arith, h, few)))

  clear_few : (g : ℕ) → g < length l.acc_sizes.items → AreFew 3 (clear_code l g)
  clear_few g h = let few = known.few_sums in subst (λ z. AreFew 3 (constant_code 0 z)) (sym (known.sum_slots g h)) (constant_few 0 (sum_slot g) (omega arith) (omega (arith, h, few)))

  store_sum_few : (g : ℕ) → g < length l.acc_sizes.items → AreFew 13 (store_code l g)
  store_sum_few g h = let few = known.few_sums in subst (λ z. AreFew 13 (sum_code (acc_size l g) z g)) (sym (known.sum_slots g h)) (sum_few (acc_size l g) (sum_slot g) g (omega (arith, h, few)) (omega (arith, h, few)))

  stack_few : (op : AluOp) → AreFew 1 (AluImm op 4 (pos frame_size) ∷ [])
  stack_few op = one (AluImm op 4 (pos frame_size)) (fine_alu_imm op 4 (pos frame_size) (omega arith) (fits_up frame_size (omega arith))) tt

  pub prologue_of : AreFew (8 + 8 * length l.patterns.items + 3 * length l.acc_sizes.items) (prologue_code l)
  prologue_of =
      let n = length l.patterns.items in
      let m = length l.acc_sizes.items in
      let saves = joined (save_code l) 6 in
      let block = Store 7 (slot l.block_at) ∷ [] in
      let rest = joined (pattern_code l) n ++ joined (clear_code l) m in
      let block_few : AreFew 1 block = subst (λ z. AreFew 1 (Store 7 (slot z) ∷ [])) (sym known.block_word) (store_few 7 block_slot (omega arith) (omega arith)) in
      at_most (1 + (1 * 6 + (1 + (8 * n + 3 * m)))) (8 + 8 * n + 3 * m) (prologue_code l) (omega arith)
      (more (AluImm Sub 4 (pos frame_size) ∷ []) (saves ++ (block ++ rest)) 1 (1 * 6 + (1 + (8 * n + 3 * m))) (stack_few Sub)
      (more saves (block ++ rest) (1 * 6) (1 + (8 * n + 3 * m)) (all_joined (save_code l) 1 6 save_few)
      (more block rest 1 (8 * n + 3 * m) block_few
      (more (joined (pattern_code l) n) (joined (clear_code l) m) (8 * n) (3 * m) (all_joined (pattern_code l) 8 n pattern_few) (all_joined (clear_code l) 3 m clear_few)))))

  pub epilogue_of : AreFew (7 + 13 * length l.acc_sizes.items) (epilogue_code l)
  epilogue_of =
      let m = length l.acc_sizes.items in
      let restores = joined (restore_code l) 6 in
      let last = AluImm Add 4 (pos frame_size) ∷ [] in
      at_most (13 * m + (1 * 6 + 1)) (7 + 13 * m) (epilogue_code l) (omega arith)
      (more (joined (store_code l) m) (restores ++ last) (13 * m) (1 * 6 + 1) (all_joined (store_code l) 13 m store_sum_few)
      (more restores last (1 * 6) 1 (all_joined (restore_code l) 1 6 restore_few) (stack_few Add)))

pub prologue_few : (l : Layout) (list : List Ins) → IsLayout l → list ≡ prologue_code l → AreFew (8 + 8 * length l.patterns.items + 3 * length l.acc_sizes.items) list
prologue_few l list is e = subst (AreFew (8 + 8 * length l.patterns.items + 3 * length l.acc_sizes.items)) (sym e) (prologue_of l is)

pub epilogue_few : (l : Layout) (list : List Ins) → IsLayout l → list ≡ epilogue_code l → AreFew (7 + 13 * length l.acc_sizes.items) list
epilogue_few l list is e = subst (AreFew (7 + 13 * length l.acc_sizes.items)) (sym e) (epilogue_of l is)

-- from what holds of a list to what holds of an outcome
pub ok_map : {A E : Type 0} (r : Result A E) (P Q : A → Type 0) → ((x : A) → P x → Q x) → IfOk r P → IfOk r Q
ok_map (Ok x) P Q f h = f x h
ok_map (Err e) P Q f h = tt
