-- Instructions of lists are allowed, and have few bytes.
use Rattle.std.proofs.Common.{◌≡◌, ℕ, zero, suc, ◌+◌, ◌*◌, ◌%◌, ◌^◌, ◌<◌, ◌≤◌, ◌==◌, nat_lt, Bool, true, false, if◌then◌else◌, ℤ, pos, negsuc, List, [], ◌∷◌, ◌++◌, length, All, IsTrue, refl, arith, rules, length-append}
use Rattle.std.specs.Int.{w32}
use Rattle.std.specs.Int.RustNames.{FitsSigned}
use Rattle.x86_ins.specs.declared.ins.Addr.{Addr}
use Rattle.x86_ins.specs.declared.ins.VecOp.{VecOp}
use Rattle.x86_ins.specs.declared.ins.AluOp.{AluOp}
use Rattle.x86_ins.specs.declared.ins.ShiftOp.{ShiftOp}
use Rattle.x86_ins.specs.declared.ins.MoveOp.{MoveOp}
use Rattle.x86_ins.specs.declared.ins.MoveOp.TheVariants.{Movdqa, Movdqu, Movq, Movd}
use Rattle.x86_ins.specs.declared.ins.Ins.{Ins}
use Rattle.x86_ins.specs.declared.ins.Ins.TheVariants.{Vec, VecLoad, VecStore, FromGpr, ToGpr, Move, Load, Store, Load8, Load16, Store8, Store16, MovImm, Alu, AluImm, Shift, Test}
use Rattle.x86_ins.specs.Spelling.{IsAllowed, has_spelling, spelling, rex_bits, rex, m_reg, m_mem, sib, dword, byte, is_small, reg_form, mem_form, plus_form, bare_rex, top, vec_byte, has_38, vec_opcode, load_prefix, load_byte, store_prefix, store_byte, alu_byte, alu_digit, shift_digit}
use Rattle.x86_ins.specs.Way.{Each}
use Rattle.x86_flow.specs.Flow.{spell_all, size}
use Rattle.x86_flow.specs.Moves.{away, IsWidth, load_far_code, store_far_code, aligned_store_far_code, load_code, store_code, stores_code, loads_code}
use Rattle.x86_flow.proofs.Moves.{each_width}

pub fits_up : (n : ℕ) → n < 2 ^ 31 → FitsSigned w32 (pos n)
fits_up n h = search (rules, arith)

pub fits_down : (n : ℕ) → n < 2 ^ 31 → FitsSigned w32 (negsuc n)
fits_down n h = search (rules, arith)

-- ---- lengths of forms

rex_short : (w r b : Bool) → length (rex_bits w r b) ≤ 1
rex_short true true true = omega arith
rex_short true true false = omega arith
rex_short true false true = omega arith
rex_short true false false = omega arith
rex_short false true true = omega arith
rex_short false true false = omega arith
rex_short false false true = omega arith
rex_short false false false = omega arith

if_short : {A : Type 0} (b : Bool) (x y : List A) (n : ℕ) → length x ≤ n → length y ≤ n → length (if b then x else y) ≤ n
if_short true x y n h g = h
if_short false x y n h g = g

mem_short : (reg : ℕ) (at : Addr) → length (m_mem reg at) ≤ 6
mem_short reg at =
    let s : length (sib at.base) ≤ 1 = if_short (at.base % 8 == 4) (0x24 ∷ []) [] 1 (omega arith) (omega arith) in
    if_short (is_small at.disp) _ _ 6
    (omega (arith, s, length-append (sib at.base) (byte at.disp)))
    (omega (arith, s, length-append (sib at.base) (dword at.disp)))

form_short : (pre opcode : List ℕ) (wide : Bool) (reg : ℕ) (at : Addr) → length pre ≤ 1 → length opcode ≤ 2 → length (mem_form pre wide opcode reg at) ≤ 10
unfolding mem_form
form_short pre opcode wide reg at p o =
    omega (arith, p, o, rex_short wide (top reg) (top at.base), mem_short reg at, length-append pre (rex wide reg at.base ++ (opcode ++ m_mem reg at)), length-append (rex wide reg at.base) (opcode ++ m_mem reg at), length-append opcode (m_mem reg at))

both_short : (pre opcode : List ℕ) (wide : Bool) (reg rm : ℕ) → length pre ≤ 1 → length opcode ≤ 3 → length (reg_form pre wide opcode reg rm) ≤ 6
unfolding reg_form
both_short pre opcode wide reg rm p o =
    omega (arith, p, o, rex_short wide (top reg) (top rm), length-append pre (rex wide reg rm ++ (opcode ++ m_reg reg rm)), length-append (rex wide reg rm) (opcode ++ m_reg reg rm), length-append opcode (m_reg reg rm))

-- ---- instructions

-- the instruction has a spelling of at most 11 bytes
pub record IsFine (i : Ins) : Type 0 where
  pub allowed : IsAllowed i
  pub short : length (spelling i) ≤ 11

pub fine_vec : (op : VecOp) (d s : ℕ) → d < 16 → s < 16 → IsFine (Vec op d s)
unfolding spelling
fine_vec op d s h g = record { allowed = ((h, g), refl); short = omega (arith, both_short (0x66 ∷ []) (vec_opcode op) false d s (omega arith) (few (has_38 op))) }
  where
    few : (t : Bool) → length (if t then 0x0f ∷ 0x38 ∷ vec_byte op ∷ [] else 0x0f ∷ vec_byte op ∷ []) ≤ 3
    few true = omega arith
    few false = omega arith

pub fine_vec_load : (op : MoveOp) (d : ℕ) (at : Addr) → d < 16 → at.base < 16 → FitsSigned w32 at.disp → IsFine (VecLoad op d at)
unfolding spelling
fine_vec_load op d at h g e = record { allowed = ((h, (g, e)), refl); short = omega (arith, form_short (load_prefix op ∷ []) (0x0f ∷ load_byte op ∷ []) false d at (omega arith) (omega arith)) }

pub fine_vec_store : (op : MoveOp) (s : ℕ) (at : Addr) → s < 16 → at.base < 16 → FitsSigned w32 at.disp → IsFine (VecStore op s at)
unfolding spelling
fine_vec_store op s at h g e = record { allowed = ((h, (g, e)), refl); short = omega (arith, form_short (store_prefix op ∷ []) (0x0f ∷ store_byte op ∷ []) false s at (omega arith) (omega arith)) }

pub fine_from_gpr : (wide : Bool) (d s : ℕ) → d < 16 → s < 16 → IsFine (FromGpr wide d s)
unfolding spelling
fine_from_gpr wide d s h g = record { allowed = ((h, g), refl); short = omega (arith, both_short (0x66 ∷ []) (0x0f ∷ 0x6e ∷ []) wide d s (omega arith) (omega arith)) }

pub fine_to_gpr : (wide : Bool) (d s : ℕ) → d < 16 → s < 16 → IsFine (ToGpr wide d s)
unfolding spelling
fine_to_gpr wide d s h g = record { allowed = ((h, g), refl); short = omega (arith, both_short (0x66 ∷ []) (0x0f ∷ 0x7e ∷ []) wide s d (omega arith) (omega arith)) }

pub fine_load : (d : ℕ) (at : Addr) → d < 16 → at.base < 16 → FitsSigned w32 at.disp → IsFine (Load d at)
unfolding spelling
fine_load d at h g e = record { allowed = ((h, (g, e)), refl); short = omega (arith, form_short [] (0x8b ∷ []) true d at (omega arith) (omega arith)) }

pub fine_store : (s : ℕ) (at : Addr) → s < 16 → at.base < 16 → FitsSigned w32 at.disp → IsFine (Store s at)
unfolding spelling
fine_store s at h g e = record { allowed = ((h, (g, e)), refl); short = omega (arith, form_short [] (0x89 ∷ []) true s at (omega arith) (omega arith)) }

pub fine_load_8 : (d : ℕ) (at : Addr) → d < 16 → at.base < 16 → FitsSigned w32 at.disp → IsFine (Load8 d at)
unfolding spelling
fine_load_8 d at h g e = record { allowed = ((h, (g, e)), refl); short = omega (arith, form_short [] (0x0f ∷ 0xb6 ∷ []) false d at (omega arith) (omega arith)) }

pub fine_store_8 : (s : ℕ) (at : Addr) → s < 16 → at.base < 16 → FitsSigned w32 at.disp → IsFine (Store8 s at)
unfolding spelling
fine_store_8 s at h g e =
    let front : List ℕ = if bare_rex s at.base then 0x40 ∷ [] else [] in
    let b : length front ≤ 1 = if_short (bare_rex s at.base) (0x40 ∷ []) [] 1 (omega arith) (omega arith) in
    record { allowed = ((h, (g, e)), refl); short = omega (arith, b, length-append front (mem_form [] false (0x88 ∷ []) s at), form_short [] (0x88 ∷ []) false s at (omega arith) (omega arith)) }

pub fine_load_16 : (d : ℕ) (at : Addr) → d < 16 → at.base < 16 → FitsSigned w32 at.disp → IsFine (Load16 d at)
unfolding spelling
fine_load_16 d at h g e = record { allowed = ((h, (g, e)), refl); short = omega (arith, form_short [] (0x0f ∷ 0xb7 ∷ []) false d at (omega arith) (omega arith)) }

pub fine_store_16 : (s : ℕ) (at : Addr) → s < 16 → at.base < 16 → FitsSigned w32 at.disp → IsFine (Store16 s at)
unfolding spelling
fine_store_16 s at h g e = record { allowed = ((h, (g, e)), refl); short = omega (arith, form_short (0x66 ∷ []) (0x89 ∷ []) false s at (omega arith) (omega arith)) }

pub fine_alu_imm : (op : AluOp) (d : ℕ) (v : ℤ) → d < 16 → FitsSigned w32 v → IsFine (AluImm op d v)
unfolding spelling
fine_alu_imm op d v h g = record {
  allowed = ((h, g), refl);
  short = if_short (is_small v) (reg_form [] true (0x83 ∷ []) (alu_digit op) d ++ byte v) (reg_form [] true (0x81 ∷ []) (alu_digit op) d ++ dword v) 11
      (omega (arith, both_short [] (0x83 ∷ []) true (alu_digit op) d (omega arith) (omega arith), length-append (reg_form [] true (0x83 ∷ []) (alu_digit op) d) (byte v)))
      (omega (arith, both_short [] (0x81 ∷ []) true (alu_digit op) d (omega arith) (omega arith), length-append (reg_form [] true (0x81 ∷ []) (alu_digit op) d) (dword v)));
}

pub fine_test : (a b : ℕ) → a < 16 → b < 16 → IsFine (Test a b)
unfolding spelling
fine_test a b h g = record { allowed = ((h, g), refl); short = omega (arith, both_short [] (0x85 ∷ []) true b a (omega arith) (omega arith)) }

pub fine_alu : (op : AluOp) (d s : ℕ) → d < 16 → s < 16 → IsFine (Alu op d s)
unfolding spelling
fine_alu op d s h g = record { allowed = ((h, g), refl); short = omega (arith, both_short [] (alu_byte op ∷ []) true d s (omega arith) (omega arith)) }

pub fine_move : (d s : ℕ) → d < 16 → s < 16 → IsFine (Move d s)
unfolding spelling
fine_move d s h g = record { allowed = ((h, g), refl); short = omega (arith, both_short [] (0x8b ∷ []) true d s (omega arith) (omega arith)) }

pub fine_shift : (op : ShiftOp) (d n : ℕ) → d < 16 → n < 64 → IsFine (Shift op d n)
unfolding spelling
fine_shift op d n h l =
    let form = reg_form [] true (0xc1 ∷ []) (shift_digit op) d in
    record { allowed = ((h, omega (arith, l)), lt_yes n 64 l); short = omega (arith, both_short [] (0xc1 ∷ []) true (shift_digit op) d (omega arith) (omega arith), length-append form (n ∷ [])) }
  where
    lt_yes : (a b : ℕ) → a < b → nat_lt a b ≡ true
    lt_yes a b h = grind (arith)

-- RAX becomes 0
pub fine_zero : IsFine (MovImm 0 0)
unfolding spelling plus_form
fine_zero = record { allowed = ((omega arith, omega arith), refl); short = omega arith }

-- ---- lists

pub each_both : {A : Type 0} (P : A → Type 0) (a b : List A) → Each P a → Each P b → Each P (a ++ b)
each_both P [] b x y = y
each_both P (i ∷ a) b x y = (x.0, each_both P a b x.1 y)

pub all_allowed : (is : List Ins) → Each IsFine is → Each IsAllowed is
all_allowed [] h = tt
all_allowed (i ∷ is) h = (h.0.allowed, all_allowed is h.1)

pub all_spelled : (is : List Ins) → Each IsFine is → All (λ i. IsTrue (has_spelling i)) is
all_spelled is h = All-of is h
  where
    All-of : (is : List Ins) → Each IsFine is → All (λ i. IsTrue (has_spelling i)) is
    All-of [] h k d l = absurd (omega (arith, l))
    All-of (i ∷ is) h zero d l = h.0.allowed.1
    All-of (i ∷ is) h (suc k) d l = All-of is h.1 k d (omega (arith, l))

pub size_within : (is : List Ins) → Each IsFine is → size is ≤ 11 * length is
size_within [] h = omega arith
size_within (i ∷ is) h = omega (arith, h.0.short, size_within is h.1, length-append (spelling i) (spell_all is))

pub fine_load_far : (width x r d : ℕ) → IsWidth width → x < 16 → r < 16 → d < 2 ^ 31 → Each IsFine (load_far_code width x r d)
fine_load_far width x r d is g e l =
    let from_rax = fine_from_gpr false x 0 g (omega arith) in
    let fits = fits_up d l in
    each_width (λ n. Each IsFine (load_far_code n x r d))
    (fine_load_8 0 (away r d) (omega arith) e fits, (from_rax, tt))
    (fine_load_16 0 (away r d) (omega arith) e fits, (from_rax, tt))
    (fine_vec_load Movd x (away r d) g e fits, tt)
    (fine_vec_load Movq x (away r d) g e fits, tt)
    (fine_vec_load Movdqu x (away r d) g e fits, tt)
    width is

pub fine_load_code : (width x r : ℕ) → IsWidth width → x < 16 → r < 16 → Each IsFine (load_code width x r)
fine_load_code width x r is g e = fine_load_far width x r 0 is g e (omega arith)

pub fine_store_far : (width x r d : ℕ) → IsWidth width → x < 16 → r < 16 → d < 2 ^ 31 → Each IsFine (store_far_code width x r d)
fine_store_far width x r d is g e l =
    let to_rax = fine_to_gpr false 0 x (omega arith) g in
    let fits = fits_up d l in
    each_width (λ n. Each IsFine (store_far_code n x r d))
    (to_rax, (fine_store_8 0 (away r d) (omega arith) e fits, tt))
    (to_rax, (fine_store_16 0 (away r d) (omega arith) e fits, tt))
    (fine_vec_store Movd x (away r d) g e fits, tt)
    (fine_vec_store Movq x (away r d) g e fits, tt)
    (fine_vec_store Movdqu x (away r d) g e fits, tt)
    width is

pub fine_store_code : (width x r : ℕ) → IsWidth width → x < 16 → r < 16 → Each IsFine (store_code width x r)
fine_store_code width x r is g e = fine_store_far width x r 0 is g e (omega arith)

pub fine_aligned_store : (x r d : ℕ) → x < 16 → r < 16 → d < 2 ^ 31 → Each IsFine (aligned_store_far_code x r d)
fine_aligned_store x r d g e l = (fine_vec_store Movdqa x (away r d) g e (fits_up d l), tt)

pub load_short : (width x r : ℕ) → length (load_code width x r) ≤ 2
load_short width x r =
    if_short (width == 1) _ _ 2 (omega arith)
    (if_short (width == 2) _ _ 2 (omega arith)
    (if_short (width == 4) _ _ 2 (omega arith)
    (if_short (width == 8) _ _ 2 (omega arith) (omega arith))))

pub store_short : (width x r : ℕ) → length (store_code width x r) ≤ 2
store_short width x r =
    if_short (width == 1) _ _ 2 (omega arith)
    (if_short (width == 2) _ _ 2 (omega arith)
    (if_short (width == 4) _ _ 2 (omega arith)
    (if_short (width == 8) _ _ 2 (omega arith) (omega arith))))

pub fine_stores : (r first : ℕ) (reg : ℕ → ℕ) (n : ℕ) → r < 16 → first + 8 * n < 2 ^ 31 → ((j : ℕ) → j < n → reg j < 16) → Each IsFine (stores_code r first reg n)
fine_stores r first reg zero h w g = tt
fine_stores r first reg (suc n) h w g = each_both IsFine (stores_code r first reg n) (Store (reg n) (away r (first + 8 * n)) ∷ []) (fine_stores r first reg n h (omega (arith, w)) (λ j l. g j (omega (arith, l)))) (fine_store (reg n) (away r (first + 8 * n)) (g n (omega arith)) h (fits_up (first + 8 * n) (omega (arith, w))), tt)

pub fine_loads : (r : ℕ) (far reg : ℕ → ℕ) (n : ℕ) → r < 16 → ((j : ℕ) → j < n → far j < 2 ^ 31) → ((j : ℕ) → j < n → reg j < 16) → Each IsFine (loads_code r far reg n)
fine_loads r far reg zero h w g = tt
fine_loads r far reg (suc n) h w g = each_both IsFine (loads_code r far reg n) (Load (reg n) (away r (far n)) ∷ []) (fine_loads r far reg n h (λ j l. w j (omega (arith, l))) (λ j l. g j (omega (arith, l)))) (fine_load (reg n) (away r (far n)) (g n (omega arith)) h (fits_up (far n) (w n (omega arith))), tt)

pub stores_count : (r first : ℕ) (reg : ℕ → ℕ) (n : ℕ) → length (stores_code r first reg n) ≡ n
stores_count r first reg zero = refl
stores_count r first reg (suc n) = omega (arith, stores_count r first reg n, length-append (stores_code r first reg n) (Store (reg n) (away r (first + 8 * n)) ∷ []))

pub loads_count : (r : ℕ) (far reg : ℕ → ℕ) (n : ℕ) → length (loads_code r far reg n) ≡ n
loads_count r far reg zero = refl
loads_count r far reg (suc n) = omega (arith, loads_count r far reg n, length-append (loads_code r far reg n) (Load (reg n) (away r (far n)) ∷ []))
