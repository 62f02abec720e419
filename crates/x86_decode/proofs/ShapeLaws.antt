-- One law for each shape of a row: what is read of a row's spelling is the row.
use Rattle.std.proofs.Common.{◌≡◌, ℕ, ◌+◌, ◌/◌, ◌%◌, Bool, true, false, ◌&&◌, not, eqb, List, [], ◌∷◌, ◌++◌, Some, refl, ap, ◌∙◌, append_assoc}
use Rattle.std.proofs.lemmas.Bool.{and_parts, not-true}
use Rattle.x86_ins.specs.declared.ins.Addr.{Addr}
use Rattle.x86_decode.specs.declared.fields.Rex.{Rex}
use Rattle.x86_decode.specs.declared.fields.Operand.{Operand}
use Rattle.x86_decode.specs.declared.fields.Operand.TheVariants.{Reg, Mem}
use Rattle.x86_ins.specs.Spelling.{top, rex_bits, rex, m_reg, m_mem, IsReg, IsAddr, reg_form, mem_form, plus_form}
use Rattle.x86_decode.specs.Reading.{is_prefix, opcode_at, operand_at, by_prefix, with_operand, row_one, row_two, row_three, row_at, after_rex, guess}
use Rattle.x86_decode.proofs.FieldLaws.{rex_of, rex_again, prefix_none, prefix_again, reg_again, mem_again}

-- at most one prefix, and its number
abbrev pub IsPre : List ℕ → Type 0
IsPre [] = Unit {0}
IsPre (p ∷ []) = is_prefix p ≡ true
IsPre (p ∷ q ∷ qs) = ⊥

abbrev pub pre_number : List ℕ → ℕ
pre_number [] = 0
pre_number (p ∷ ps) = p

-- a byte that is neither a prefix nor a REX
abbrev pub is_free : ℕ → Bool
is_free o = not (is_prefix o) && not (eqb (o / 16) 4)

pub head_again : (pre : List ℕ) (w r b : Bool) (o : ℕ) (tail : List ℕ) → IsPre pre → is_free o ≡ true → guess (pre ++ (rex_bits w r b ++ o ∷ tail)) ≡ after_rex (pre_number pre) (rex_of w r b) (o ∷ tail)
unfolding guess
head_again [] w r b o tail p f =
    let fs = and_parts (not (is_prefix o)) (not (eqb (o / 16) 4)) f in
    rw (prefix_none w r b o tail (not-true _ fs.0), rex_again w r b o tail (not-true _ fs.1)) refl
head_again (p ∷ []) w r b o tail ok f =
    let fs = and_parts (not (is_prefix o)) (not (eqb (o / 16) 4)) f in
    rw (prefix_again p (rex_bits w r b ++ o ∷ tail) ok, rex_again w r b o tail (not-true _ fs.1)) refl
head_again (p ∷ q ∷ qs) w r b o tail ok f = absurd ok

-- an opcode byte of a row with an operand
abbrev pub takes_one : ℕ → Bool
takes_one o = is_free o && (not (eqb o 0x0f) && (not (eqb o 0xc3) && (not (eqb o 0xe9) && (not (eqb (o / 8) 10) && (not (eqb (o / 8) 11) && not (eqb (o / 8) 23))))))

abbrev pub takes_two : ℕ → Bool
takes_two o = not (eqb (o / 16) 8) && not (eqb o 0x38)

pub one_row : (p : ℕ) (bits : Rex) (o : ℕ) (tail : List ℕ) → takes_one o ≡ true → after_rex p bits (o ∷ tail) ≡ with_operand p bits false o tail
unfolding after_rex opcode_at row_at row_one
one_row p bits o tail h =
    let a = and_parts (is_free o) (not (eqb o 0x0f) && (not (eqb o 0xc3) && (not (eqb o 0xe9) && (not (eqb (o / 8) 10) && (not (eqb (o / 8) 11) && not (eqb (o / 8) 23)))))) h in
    let b = and_parts (not (eqb o 0x0f)) (not (eqb o 0xc3) && (not (eqb o 0xe9) && (not (eqb (o / 8) 10) && (not (eqb (o / 8) 11) && not (eqb (o / 8) 23))))) a.1 in
    let c = and_parts (not (eqb o 0xc3)) (not (eqb o 0xe9) && (not (eqb (o / 8) 10) && (not (eqb (o / 8) 11) && not (eqb (o / 8) 23)))) b.1 in
    let d = and_parts (not (eqb o 0xe9)) (not (eqb (o / 8) 10) && (not (eqb (o / 8) 11) && not (eqb (o / 8) 23))) c.1 in
    let e = and_parts (not (eqb (o / 8) 10)) (not (eqb (o / 8) 11) && not (eqb (o / 8) 23)) d.1 in
    let f = and_parts (not (eqb (o / 8) 11)) (not (eqb (o / 8) 23)) e.1 in
    rw (not-true (eqb o 0x0f) b.0, not-true (eqb o 0xc3) c.0, not-true (eqb o 0xe9) d.0, not-true (eqb (o / 8) 10) e.0, not-true (eqb (o / 8) 11) f.0, not-true (eqb (o / 8) 23) f.1) refl

two_row : (p : ℕ) (bits : Rex) (o : ℕ) (tail : List ℕ) → takes_two o ≡ true → after_rex p bits (0x0f ∷ o ∷ tail) ≡ with_operand p bits true o tail
unfolding after_rex opcode_at row_at row_two
two_row p bits o tail h =
    let a = and_parts (not (eqb (o / 16) 8)) (not (eqb o 0x38)) h in
    rw (not-true (eqb (o / 16) 8) a.0, not-true (eqb o 0x38) a.1) refl

three_row : (p : ℕ) (bits : Rex) (o : ℕ) (tail : List ℕ) → after_rex p bits (0x0f ∷ 0x38 ∷ o ∷ tail) ≡ with_operand p bits true o tail
unfolding after_rex opcode_at row_at row_two row_three
three_row p bits o tail = refl

pub operand_row : (p : ℕ) (bits : Rex) (two : Bool) (o : ℕ) (bytes : List ℕ) (reg : ℕ) (x : Operand) (tail : List ℕ) → operand_at bits bytes ≡ Some (reg, x, tail) → with_operand p bits two o bytes ≡ by_prefix p bits.wide two o reg x tail
unfolding with_operand
operand_row p bits two o bytes reg x tail h = rw h refl

regroup : (pre mid opcode m rest : List ℕ) → (pre ++ (mid ++ (opcode ++ m))) ++ rest ≡ pre ++ (mid ++ (opcode ++ (m ++ rest)))
regroup pre mid opcode m rest = simp append_assoc

pub one_reg : (pre : List ℕ) (w : Bool) (o reg rm : ℕ) (rest : List ℕ) → IsPre pre → takes_one o ≡ true → IsReg reg → IsReg rm
    → guess (reg_form pre w (o ∷ []) reg rm ++ rest) ≡ by_prefix (pre_number pre) w false o reg (Reg rm) rest
unfolding reg_form
one_reg pre w o reg rm rest p t h k =
    ap guess (regroup pre (rex w reg rm) (o ∷ []) (m_reg reg rm) rest)
    ∙ head_again pre w (top reg) (top rm) o (m_reg reg rm ++ rest) p (and_parts _ _ t).0
    ∙ one_row (pre_number pre) (rex_of w (top reg) (top rm)) o (m_reg reg rm ++ rest) t
    ∙ operand_row (pre_number pre) (rex_of w (top reg) (top rm)) false o (m_reg reg rm ++ rest) reg (Reg rm) rest (reg_again w reg rm rest h k)

pub two_reg : (pre : List ℕ) (w : Bool) (o reg rm : ℕ) (rest : List ℕ) → IsPre pre → takes_two o ≡ true → IsReg reg → IsReg rm
    → guess (reg_form pre w (0x0f ∷ o ∷ []) reg rm ++ rest) ≡ by_prefix (pre_number pre) w true o reg (Reg rm) rest
unfolding reg_form
two_reg pre w o reg rm rest p t h k =
    ap guess (regroup pre (rex w reg rm) (0x0f ∷ o ∷ []) (m_reg reg rm) rest)
    ∙ head_again pre w (top reg) (top rm) 0x0f (o ∷ (m_reg reg rm ++ rest)) p refl
    ∙ two_row (pre_number pre) (rex_of w (top reg) (top rm)) o (m_reg reg rm ++ rest) t
    ∙ operand_row (pre_number pre) (rex_of w (top reg) (top rm)) true o (m_reg reg rm ++ rest) reg (Reg rm) rest (reg_again w reg rm rest h k)

pub three_reg : (pre : List ℕ) (w : Bool) (o reg rm : ℕ) (rest : List ℕ) → IsPre pre → IsReg reg → IsReg rm
    → guess (reg_form pre w (0x0f ∷ 0x38 ∷ o ∷ []) reg rm ++ rest) ≡ by_prefix (pre_number pre) w true o reg (Reg rm) rest
unfolding reg_form
three_reg pre w o reg rm rest p h k =
    ap guess (regroup pre (rex w reg rm) (0x0f ∷ 0x38 ∷ o ∷ []) (m_reg reg rm) rest)
    ∙ head_again pre w (top reg) (top rm) 0x0f (0x38 ∷ o ∷ (m_reg reg rm ++ rest)) p refl
    ∙ three_row (pre_number pre) (rex_of w (top reg) (top rm)) o (m_reg reg rm ++ rest)
    ∙ operand_row (pre_number pre) (rex_of w (top reg) (top rm)) true o (m_reg reg rm ++ rest) reg (Reg rm) rest (reg_again w reg rm rest h k)

pub one_mem : (pre : List ℕ) (w : Bool) (o reg : ℕ) (at : Addr) (rest : List ℕ) → IsPre pre → takes_one o ≡ true → IsReg reg → IsAddr at
    → guess (mem_form pre w (o ∷ []) reg at ++ rest) ≡ by_prefix (pre_number pre) w false o reg (Mem at) rest
unfolding mem_form
one_mem pre w o reg at rest p t h k =
    ap guess (regroup pre (rex w reg at.base) (o ∷ []) (m_mem reg at) rest)
    ∙ head_again pre w (top reg) (top at.base) o (m_mem reg at ++ rest) p (and_parts _ _ t).0
    ∙ one_row (pre_number pre) (rex_of w (top reg) (top at.base)) o (m_mem reg at ++ rest) t
    ∙ operand_row (pre_number pre) (rex_of w (top reg) (top at.base)) false o (m_mem reg at ++ rest) reg (Mem at) rest (mem_again w reg at rest h k)

pub two_mem : (pre : List ℕ) (w : Bool) (o reg : ℕ) (at : Addr) (rest : List ℕ) → IsPre pre → takes_two o ≡ true → IsReg reg → IsAddr at
    → guess (mem_form pre w (0x0f ∷ o ∷ []) reg at ++ rest) ≡ by_prefix (pre_number pre) w true o reg (Mem at) rest
unfolding mem_form
two_mem pre w o reg at rest p t h k =
    ap guess (regroup pre (rex w reg at.base) (0x0f ∷ o ∷ []) (m_mem reg at) rest)
    ∙ head_again pre w (top reg) (top at.base) 0x0f (o ∷ (m_mem reg at ++ rest)) p refl
    ∙ two_row (pre_number pre) (rex_of w (top reg) (top at.base)) o (m_mem reg at ++ rest) t
    ∙ operand_row (pre_number pre) (rex_of w (top reg) (top at.base)) true o (m_mem reg at ++ rest) reg (Mem at) rest (mem_again w reg at rest h k)

pub plus_head : (w : Bool) (o rm : ℕ) (rest : List ℕ) → is_free (o + rm % 8) ≡ true
    → guess (plus_form w o rm ++ rest) ≡ after_rex 0 (rex_of w false (top rm)) ((o + rm % 8) ∷ rest)
unfolding plus_form
plus_head w o rm rest f =
    ap guess (append_assoc (rex w 0 rm) ((o + rm % 8) ∷ []) rest)
    ∙ head_again [] w false (top rm) (o + rm % 8) rest tt f
