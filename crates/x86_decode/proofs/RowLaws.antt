-- What is read of an instruction's spelling is the instruction.
use Rattle.std.proofs.Common.{◌≡◌, ℕ, ◌+◌, ◌/◌, ◌%◌, ◌^◌, ◌<◌, Bool, true, false, ◌&&◌, ◌||◌, not, cond, ltb, List, [], ◌∷◌, ◌++◌, Some, refl, sym, ap, ◌∙◌, append_assoc, arith, inl, inr, ℤ, lit<}
use Rattle.std.specs.Int.{w32, w64, to_le_bytes}
use Rattle.std.specs.Int.RustNames.{FitsSigned}
use Rattle.std.proofs.lemmas.Bool.{and_parts, cases_Bool, ltb-true, eq-eqb, ne_eqb, le-ltb}
use Rattle.std.proofs.lemmas.Int.{to_z-of_z}
use Rattle.x86_ins.specs.declared.ins.Addr.{Addr}
use Rattle.x86_ins.specs.declared.ins.VecOp.{VecOp}
use Rattle.x86_ins.specs.declared.ins.VecOp.TheVariants.{Punpcklbw}
use Rattle.x86_ins.specs.declared.ins.VecImmOp.{VecImmOp}
use Rattle.x86_ins.specs.declared.ins.VecImmOp.TheVariants.{Pslldq}
use Rattle.x86_ins.specs.declared.ins.ShuffleOp.{ShuffleOp}
use Rattle.x86_ins.specs.declared.ins.ShuffleOp.TheVariants.{Pshufd}
use Rattle.x86_ins.specs.declared.ins.MoveOp.{MoveOp}
use Rattle.x86_ins.specs.declared.ins.MoveOp.TheVariants.{Movdqa}
use Rattle.x86_ins.specs.declared.ins.AluOp.{AluOp}
use Rattle.x86_ins.specs.declared.ins.AluOp.TheVariants.{Add}
use Rattle.x86_ins.specs.declared.ins.ShiftOp.{ShiftOp}
use Rattle.x86_ins.specs.declared.ins.ShiftOp.TheVariants.{Shl}
use Rattle.x86_ins.specs.declared.ins.Cond.{Cond}
use Rattle.x86_ins.specs.declared.ins.Cond.TheVariants.{Ae}
use Rattle.x86_ins.specs.declared.ins.Ins.{Ins}
use Rattle.x86_ins.specs.declared.ins.Ins.TheVariants.{Vec, VecImm, Shuffle, VecLoad, VecStore, FromGpr, ToGpr, Move, Load, Store, Store8, Store16, Load8, Load16, MovImm, Alu, AluImm, Test, Shift, Imul, Lea, Push, Pop, Jump, JumpIf, Ret}
use Rattle.x86_decode.specs.declared.fields.Rex.{Rex}
use Rattle.x86_decode.specs.declared.fields.Operand.TheVariants.{Reg, Mem}
use Rattle.x86_ins.specs.Spelling.{vec_byte, has_38, imm_byte, imm_digit, shuffle_prefix, load_prefix, load_byte, store_prefix, store_byte, alu_byte, alu_digit, shift_digit, cond_code, is_small, byte, dword, top, reg_form, mem_form, plus_form, bare_rex, m_mem, spelling, IsReg, IsAddr, IsIns}
use Rattle.x86_decode.specs.Reading.{shuffle_row, imm_row, vec_row, regs_66, mem_66, mem_f3, shift_row, small_row, large_row, alu_row, regs_one, mem_one, mem_two, by_66, by_f3, by_f2, by_none, by_prefix, long_row, short_row, mov_row, jump_row, jump_if_row, row_one, row_two, row_at, after_rex, guess}
use Rattle.x86_decode.specs.Reading.{prefix_at, rex_at, opcode_at, number}
use Rattle.x86_decode.proofs.FieldLaws.{rex_of, bit_top, small_again, number_dword, number_qword, dword_again, mem_again}
use Rattle.x86_decode.proofs.ShapeLaws.{IsPre, is_free, one_row, operand_row, one_reg, two_reg, three_reg, one_mem, two_mem, takes_one, takes_two, plus_head}

-- ---- the tables, by computing each entry

-- an operation has three opcode bytes, or its second one is of a row of two
two_vec : (op : VecOp) → (has_38 op || takes_two (vec_byte op)) ≡ true
two_vec Punpcklbw = refl
two_vec _ = refl

row_vec : (op : VecOp) (reg rm : ℕ) (rest : List ℕ) → by_prefix 0x66 false true (vec_byte op) reg (Reg rm) rest ≡ Some (Vec op reg rm)
unfolding by_prefix by_66 regs_66 vec_row
row_vec Punpcklbw reg rm rest = refl
row_vec _ reg rm rest = refl

two_imm : (op : VecImmOp) → takes_two (imm_byte op) ≡ true
two_imm Pslldq = refl
two_imm _ = refl

digit_imm : (op : VecImmOp) → IsReg (imm_digit op)
digit_imm Pslldq = lit< tt
digit_imm _ = lit< tt

row_imm : (op : VecImmOp) (rm count : ℕ) (rest : List ℕ) → by_prefix 0x66 false true (imm_byte op) (imm_digit op) (Reg rm) (count ∷ rest) ≡ Some (VecImm op rm count)
unfolding by_prefix by_66 regs_66 imm_row
row_imm Pslldq rm count rest = refl
row_imm _ rm count rest = refl

pre_shuffle : (op : ShuffleOp) → IsPre (shuffle_prefix op ∷ [])
pre_shuffle Pshufd = refl
pre_shuffle _ = refl

row_shuffle : (op : ShuffleOp) (reg rm order : ℕ) (rest : List ℕ) → by_prefix (shuffle_prefix op) false true 0x70 reg (Reg rm) (order ∷ rest) ≡ Some (Shuffle op reg rm order)
unfolding by_prefix by_66 by_f3 by_f2 regs_66 shuffle_row
row_shuffle Pshufd reg rm order rest = refl
row_shuffle _ reg rm order rest = refl

pre_load : (op : MoveOp) → IsPre (load_prefix op ∷ [])
pre_load Movdqa = refl
pre_load _ = refl

two_load : (op : MoveOp) → takes_two (load_byte op) ≡ true
two_load Movdqa = refl
two_load _ = refl

row_load : (op : MoveOp) (reg : ℕ) (at : Addr) (rest : List ℕ) → by_prefix (load_prefix op) false true (load_byte op) reg (Mem at) rest ≡ Some (VecLoad op reg at)
unfolding by_prefix by_66 by_f3 mem_66 mem_f3
row_load Movdqa reg at rest = refl
row_load _ reg at rest = refl

pre_store : (op : MoveOp) → IsPre (store_prefix op ∷ [])
pre_store Movdqa = refl
pre_store _ = refl

two_store : (op : MoveOp) → takes_two (store_byte op) ≡ true
two_store Movdqa = refl
two_store _ = refl

row_store : (op : MoveOp) (reg : ℕ) (at : Addr) (rest : List ℕ) → by_prefix (store_prefix op) false true (store_byte op) reg (Mem at) rest ≡ Some (VecStore op reg at)
unfolding by_prefix by_66 by_f3 mem_66 mem_f3
row_store Movdqa reg at rest = refl
row_store _ reg at rest = refl

one_alu : (op : AluOp) → takes_one (alu_byte op) ≡ true
one_alu Add = refl
one_alu _ = refl

row_alu : (op : AluOp) (reg rm : ℕ) (rest : List ℕ) → by_prefix 0 true false (alu_byte op) reg (Reg rm) rest ≡ Some (Alu op reg rm)
unfolding by_prefix by_none regs_one alu_row
row_alu Add reg rm rest = refl
row_alu _ reg rm rest = refl

digit_alu : (op : AluOp) → IsReg (alu_digit op)
digit_alu Add = lit< tt
digit_alu _ = lit< tt

row_small : (op : AluOp) (rm : ℕ) (v : ℤ) (rest : List ℕ) → is_small v ≡ true → by_prefix 0 true false 0x83 (alu_digit op) (Reg rm) (byte v ++ rest) ≡ Some (AluImm op rm v)
unfolding by_prefix by_none regs_one small_row
row_small Add rm v rest s = rw (small_again v rest s) refl
row_small _ rm v rest s = rw (small_again v rest s) refl

row_large : (op : AluOp) (rm : ℕ) (v : ℤ) (rest : List ℕ) → FitsSigned w32 v → by_prefix 0 true false 0x81 (alu_digit op) (Reg rm) (dword v ++ rest) ≡ Some (AluImm op rm v)
unfolding by_prefix by_none regs_one large_row
row_large Add rm v rest h = rw (dword_again v rest h, to_z-of_z w32 v h) refl
row_large _ rm v rest h = rw (dword_again v rest h, to_z-of_z w32 v h) refl

digit_shift : (op : ShiftOp) → IsReg (shift_digit op)
digit_shift Shl = lit< tt
digit_shift _ = lit< tt

row_shift : (op : ShiftOp) (rm count : ℕ) (rest : List ℕ) → by_prefix 0 true false 0xc1 (shift_digit op) (Reg rm) (count ∷ rest) ≡ Some (Shift op rm count)
unfolding by_prefix by_none regs_one shift_row
row_shift Shl rm count rest = refl
row_shift _ rm count rest = refl

row_cond : (c : Cond) (rel : ℤ) (rest : List ℕ) → FitsSigned w32 rel → guess (0x0f ∷ (0x80 + cond_code c) ∷ (dword rel ++ rest)) ≡ Some (JumpIf c rel)
unfolding guess prefix_at rex_at after_rex opcode_at row_at row_two jump_if_row
row_cond Ae rel rest h = rw (dword_again rel rest h, to_z-of_z w32 rel h) refl
row_cond _ rel rest h = rw (dword_again rel rest h, to_z-of_z w32 rel h) refl

-- ---- the rows

abbrev IsRead : Ins → Type 0
IsRead i = (rest : List ℕ) → guess (spelling i ++ rest) ≡ Some i

read_vec : (op : VecOp) (dst src : ℕ) → IsReg dst → IsReg src → IsRead (Vec op dst src)
unfolding spelling
read_vec op dst src h k rest =
    elim (cases_Bool (has_38 op)) [
      | inl t ↦ rw t (three_reg (0x66 ∷ []) false (vec_byte op) dst src rest refl h k ∙ row_vec op dst src rest)
      | inr f ↦ rw f (two_reg (0x66 ∷ []) false (vec_byte op) dst src rest refl (let e : takes_two (vec_byte op) ≡ true = rw f at (two_vec op) in e) h k ∙ row_vec op dst src rest)
    ]

read_imm : (op : VecImmOp) (dst count : ℕ) → IsReg dst → IsRead (VecImm op dst count)
unfolding spelling
read_imm op dst count h rest =
    ap guess (append_assoc (reg_form (0x66 ∷ []) false (0x0f ∷ imm_byte op ∷ []) (imm_digit op) dst) (count ∷ []) rest)
    ∙ two_reg (0x66 ∷ []) false (imm_byte op) (imm_digit op) dst (count ∷ rest) refl (two_imm op) (digit_imm op) h ∙ row_imm op dst count rest

read_shuffle : (op : ShuffleOp) (dst src order : ℕ) → IsReg dst → IsReg src → IsRead (Shuffle op dst src order)
unfolding spelling
read_shuffle op dst src order h k rest =
    ap guess (append_assoc (reg_form (shuffle_prefix op ∷ []) false (0x0f ∷ 0x70 ∷ []) dst src) (order ∷ []) rest)
    ∙ two_reg (shuffle_prefix op ∷ []) false 0x70 dst src (order ∷ rest) (pre_shuffle op) refl h k ∙ row_shuffle op dst src order rest

read_load : (op : MoveOp) (dst : ℕ) (at : Addr) → IsReg dst → IsAddr at → IsRead (VecLoad op dst at)
unfolding spelling
read_load op dst at h k rest = two_mem (load_prefix op ∷ []) false (load_byte op) dst at rest (pre_load op) (two_load op) h k ∙ row_load op dst at rest

read_store : (op : MoveOp) (src : ℕ) (at : Addr) → IsReg src → IsAddr at → IsRead (VecStore op src at)
unfolding spelling
read_store op src at h k rest = two_mem (store_prefix op ∷ []) false (store_byte op) src at rest (pre_store op) (two_store op) h k ∙ row_store op src at rest

read_from_gpr : (wide : Bool) (dst src : ℕ) → IsReg dst → IsReg src → IsRead (FromGpr wide dst src)
unfolding spelling by_prefix by_66 regs_66
read_from_gpr wide dst src h k rest = two_reg (0x66 ∷ []) wide 0x6e dst src rest refl refl h k

read_to_gpr : (wide : Bool) (dst src : ℕ) → IsReg dst → IsReg src → IsRead (ToGpr wide dst src)
unfolding spelling by_prefix by_66 regs_66
read_to_gpr wide dst src h k rest = two_reg (0x66 ∷ []) wide 0x7e src dst rest refl refl k h

read_move : (dst src : ℕ) → IsReg dst → IsReg src → IsRead (Move dst src)
unfolding spelling by_prefix by_none regs_one
read_move dst src h k rest = one_reg [] true 0x8b dst src rest tt refl h k

read_load64 : (dst : ℕ) (at : Addr) → IsReg dst → IsAddr at → IsRead (Load dst at)
unfolding spelling by_prefix by_none mem_one
read_load64 dst at h k rest = one_mem [] true 0x8b dst at rest tt refl h k

read_store64 : (src : ℕ) (at : Addr) → IsReg src → IsAddr at → IsRead (Store src at)
unfolding spelling by_prefix by_none mem_one
read_store64 src at h k rest = one_mem [] true 0x89 src at rest tt refl h k

read_store16 : (src : ℕ) (at : Addr) → IsReg src → IsAddr at → IsRead (Store16 src at)
unfolding spelling by_prefix by_66 mem_66
read_store16 src at h k rest = one_mem (0x66 ∷ []) false 0x89 src at rest refl refl h k

read_load8 : (dst : ℕ) (at : Addr) → IsReg dst → IsAddr at → IsRead (Load8 dst at)
unfolding spelling by_prefix by_none mem_two
read_load8 dst at h k rest = two_mem [] false 0xb6 dst at rest tt refl h k

read_load16 : (dst : ℕ) (at : Addr) → IsReg dst → IsAddr at → IsRead (Load16 dst at)
unfolding spelling by_prefix by_none mem_two
read_load16 dst at h k rest = two_mem [] false 0xb7 dst at rest tt refl h k

read_lea : (dst : ℕ) (at : Addr) → IsReg dst → IsAddr at → IsRead (Lea dst at)
unfolding spelling by_prefix by_none mem_one
read_lea dst at h k rest = one_mem [] true 0x8d dst at rest tt refl h k

read_test : (a b : ℕ) → IsReg a → IsReg b → IsRead (Test a b)
unfolding spelling by_prefix by_none regs_one
read_test a b h k rest = one_reg [] true 0x85 b a rest tt refl k h

read_imul : (dst src : ℕ) → IsReg dst → IsReg src → IsRead (Imul dst src)
unfolding spelling by_prefix by_none
read_imul dst src h k rest = two_reg [] true 0xaf dst src rest tt refl h k

read_alu : (op : AluOp) (dst src : ℕ) → IsReg dst → IsReg src → IsRead (Alu op dst src)
unfolding spelling
read_alu op dst src h k rest = one_reg [] true (alu_byte op) dst src rest tt (one_alu op) h k ∙ row_alu op dst src rest

read_alu_imm : (op : AluOp) (dst : ℕ) (v : ℤ) → IsReg dst → FitsSigned w32 v → IsRead (AluImm op dst v)
unfolding spelling
read_alu_imm op dst v h f rest =
    elim (cases_Bool (is_small v)) [
      | inl s ↦ rw s (ap guess (append_assoc (reg_form [] true (0x83 ∷ []) (alu_digit op) dst) (byte v) rest) ∙ one_reg [] true 0x83 (alu_digit op) dst (byte v ++ rest) tt refl (digit_alu op) h ∙ row_small op dst v rest s)
      | inr s ↦ rw s (ap guess (append_assoc (reg_form [] true (0x81 ∷ []) (alu_digit op) dst) (dword v) rest) ∙ one_reg [] true 0x81 (alu_digit op) dst (dword v ++ rest) tt refl (digit_alu op) h ∙ row_large op dst v rest f)
    ]

read_shift : (op : ShiftOp) (dst count : ℕ) → IsReg dst → IsRead (Shift op dst count)
unfolding spelling
read_shift op dst count h rest =
    ap guess (append_assoc (reg_form [] true (0xc1 ∷ []) (shift_digit op) dst) (count ∷ []) rest)
    ∙ one_reg [] true 0xc1 (shift_digit op) dst (count ∷ rest) tt refl (digit_shift op) h ∙ row_shift op dst count rest

read_jump : (rel : ℤ) → FitsSigned w32 rel → IsRead (Jump rel)
unfolding spelling guess prefix_at rex_at after_rex opcode_at row_at row_one jump_row
read_jump rel h rest = rw (dword_again rel rest h, to_z-of_z w32 rel h) refl

read_jump_if : (c : Cond) (rel : ℤ) → FitsSigned w32 rel → IsRead (JumpIf c rel)
unfolding spelling
read_jump_if c rel h rest = row_cond c rel rest h

read_ret : IsRead Ret
unfolding spelling guess prefix_at rex_at after_rex opcode_at row_at row_one
read_ret rest = refl

-- ---- a register in the opcode byte

free_from : (x : ℕ) → (x ≡ 0x66 → ⊥) → (x ≡ 0xf2 → ⊥) → (x ≡ 0xf3 → ⊥) → (x / 16 ≡ 4 → ⊥) → is_free x ≡ true
free_from x a b c d = rw (ne_eqb x 0x66 a, ne_eqb x 0xf2 b, ne_eqb x 0xf3 c, ne_eqb (x / 16) 4 d) refl

read_push : (src : ℕ) → IsReg src → IsRead (Push src)
unfolding spelling after_rex opcode_at row_at row_one
read_push src h rest =
    let x = 0x50 + src % 8 in
    let number-is : number x (top src) ≡ src = omega (arith, bit_top src h) in
    plus_head false 0x50 src rest (free_from x (omega arith) (omega arith) (omega arith) (omega arith))
    ∙ rw (ne_eqb x 0x0f (omega arith), ne_eqb x 0xc3 (omega arith), ne_eqb x 0xe9 (omega arith), eq-eqb (x / 8) 10 (omega arith), number-is) refl

read_pop : (dst : ℕ) → IsReg dst → IsRead (Pop dst)
unfolding spelling after_rex opcode_at row_at row_one
read_pop dst h rest =
    let x = 0x58 + dst % 8 in
    let number-is : number x (top dst) ≡ dst = omega (arith, bit_top dst h) in
    plus_head false 0x58 dst rest (free_from x (omega arith) (omega arith) (omega arith) (omega arith))
    ∙ rw (ne_eqb x 0x0f (omega arith), ne_eqb x 0xc3 (omega arith), ne_eqb x 0xe9 (omega arith), ne_eqb (x / 8) 10 (omega arith), eq-eqb (x / 8) 11 (omega arith), number-is) refl

mov_head : (w : Bool) (dst : ℕ) (tail : List ℕ) → IsReg dst → guess (plus_form w 0xb8 dst ++ tail) ≡ mov_row w dst tail
unfolding after_rex opcode_at row_at row_one
mov_head w dst tail h =
    let x = 0xb8 + dst % 8 in
    let number-is : number x (top dst) ≡ dst = omega (arith, bit_top dst h) in
    plus_head w 0xb8 dst tail (free_from x (omega arith) (omega arith) (omega arith) (omega arith))
    ∙ rw (ne_eqb x 0x0f (omega arith), ne_eqb x 0xc3 (omega arith), ne_eqb x 0xe9 (omega arith), ne_eqb (x / 8) 10 (omega arith), ne_eqb (x / 8) 11 (omega arith), eq-eqb (x / 8) 23 (omega arith), number-is) refl

read_mov_imm : (dst value : ℕ) → IsReg dst → value < 2 ^ 64 → IsRead (MovImm dst value)
unfolding spelling mov_row short_row long_row
read_mov_imm dst value h v rest =
    elim (cases_Bool (ltb value (2 ^ 32))) [
      | inl s ↦ rw s (ap guess (append_assoc (plus_form false 0xb8 dst) (to_le_bytes w32 value) rest) ∙ mov_head false dst (to_le_bytes w32 value ++ rest) h ∙ rw (number_dword value rest (ltb-true _ _ s)) refl)
      | inr s ↦ rw s (ap guess (append_assoc (plus_form true 0xb8 dst) (to_le_bytes w64 value) rest) ∙ mov_head true dst (to_le_bytes w64 value ++ rest) h ∙ rw (number_qword value rest v) refl)
    ]

-- ---- the store of a byte

plain_store8 : (src : ℕ) (at : Addr) (rest : List ℕ) → IsReg src → IsAddr at → guess (mem_form [] false (0x88 ∷ []) src at ++ rest) ≡ Some (Store8 src at)
unfolding by_prefix by_none mem_one
plain_store8 src at rest h k = one_mem [] false 0x88 src at rest tt refl h k

bare_store8 : (src : ℕ) (at : Addr) (rest : List ℕ) → IsReg src → IsAddr at → src < 8 → at.base < 8 → guess (0x40 ∷ (mem_form [] false (0x88 ∷ []) src at ++ rest)) ≡ Some (Store8 src at)
unfolding guess prefix_at rex_at mem_form by_prefix by_none mem_one
bare_store8 src at rest h k small-src small-base =
    let a : ltb 7 src ≡ false = le-ltb 7 src (omega arith) in
    let b : ltb 7 at.base ≡ false = le-ltb 7 at.base (omega arith) in
    let bits = rex_of false (top src) (top at.base) in
    let tail = m_mem src at ++ rest in
    let no_bits : bits ≡ rex_of false false false = rw (a, b) refl in
    let head : guess (0x40 ∷ (mem_form [] false (0x88 ∷ []) src at ++ rest)) ≡ after_rex 0 (rex_of false false false) (0x88 ∷ tail) = rw (a, b) refl in
    head ∙ ap (λ (x : Rex). after_rex 0 x (0x88 ∷ tail)) (sym no_bits)
    ∙ one_row 0 bits 0x88 tail refl ∙ operand_row 0 bits false 0x88 tail src (Mem at) rest (mem_again false src at rest h k)

read_store8 : (src : ℕ) (at : Addr) → IsReg src → IsAddr at → IsRead (Store8 src at)
unfolding spelling
read_store8 src at h k rest =
    elim (cases_Bool (bare_rex src at.base)) [
      | inl b ↦ rw b (
          let p = and_parts (ltb src 8) (not (ltb src 4) && ltb at.base 8) b in
          let q = and_parts (not (ltb src 4)) (ltb at.base 8) p.1 in
          bare_store8 src at rest h k (ltb-true _ _ p.0) (ltb-true _ _ q.1))
      | inr b ↦ rw b (plain_store8 src at rest h k)
    ]

pub read_again : (i : Ins) → IsIns i → IsRead i
read_again (Vec op dst src) h = read_vec op dst src h.0 h.1
read_again (VecImm op dst count) h = read_imm op dst count h.0
read_again (Shuffle op dst src order) h = read_shuffle op dst src order h.0 h.1
read_again (VecLoad op dst at) h = read_load op dst at h.0 h.1
read_again (VecStore op src at) h = read_store op src at h.0 h.1
read_again (FromGpr wide dst src) h = read_from_gpr wide dst src h.0 h.1
read_again (ToGpr wide dst src) h = read_to_gpr wide dst src h.0 h.1
read_again (Move dst src) h = read_move dst src h.0 h.1
read_again (Load dst at) h = read_load64 dst at h.0 h.1
read_again (Store src at) h = read_store64 src at h.0 h.1
read_again (Store8 src at) h = read_store8 src at h.0 h.1
read_again (Store16 src at) h = read_store16 src at h.0 h.1
read_again (Load8 dst at) h = read_load8 dst at h.0 h.1
read_again (Load16 dst at) h = read_load16 dst at h.0 h.1
read_again (MovImm dst value) h = read_mov_imm dst value h.0 h.1
read_again (Alu op dst src) h = read_alu op dst src h.0 h.1
read_again (AluImm op dst value) h = read_alu_imm op dst value h.0 h.1
read_again (Test a b) h = read_test a b h.0 h.1
read_again (Shift op dst count) h = read_shift op dst count h.0
read_again (Imul dst src) h = read_imul dst src h.0 h.1
read_again (Lea dst at) h = read_lea dst at h.0 h.1
read_again (Push src) h = read_push src h
read_again (Pop dst) h = read_pop dst h
read_again (Jump rel) h = read_jump rel h
read_again (JumpIf cond rel) h = read_jump_if cond rel h
read_again Ret h = read_ret
