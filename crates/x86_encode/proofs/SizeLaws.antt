-- The law of sizes, by the form of a row.
use Rattle.std.proofs.Common.{ℕ, ◌+◌, ◌*◌, ◌%◌, ◌^◌, ◌≤◌, ◌==◌, ℤ, Bool, true, false, if◌then◌else◌, List, [], ◌∷◌, ◌++◌, arith}
use Rattle.std.specs.Prelude.{nat_lt}
use Rattle.std.proofs.lemmas.List.{length-append}
use Rattle.x86_ins.specs.declared.ins.Addr.{Addr}
use Rattle.x86_ins.specs.declared.ins.Ins.{Ins}
use Rattle.x86_ins.specs.declared.ins.Ins.TheVariants.{Vec, VecImm, Shuffle, VecLoad, VecStore, FromGpr, ToGpr, Move, Load, Store, Store8, Store16, Load8, Load16, MovImm, Alu, AluImm, Test, Shift, Imul, Lea, Push, Pop, Jump, JumpIf, Ret}
use Rattle.x86_ins.specs.Spelling.{top, rex_bits, rex, is_small, byte, dword, has_38, sib, m_mem, reg_form, mem_form, plus_form, bare_rex, spelling}
use Rattle.x86_encode.specs.Sizes.{HasFrom}

joined : (a b m n : ℕ) (xs ys : List ℕ) → HasFrom a b xs → HasFrom m n ys → HasFrom (a + m) (b + n) (xs ++ ys)
joined a b m n xs ys h k = record { enough = omega (arith, length-append xs ys); few = omega (arith, length-append xs ys) }

cell : (a b x : ℕ) (xs : List ℕ) → HasFrom a b xs → HasFrom (a + 1) (b + 1) (x ∷ xs)
cell a b x xs h = record { enough = omega arith; few = omega arith }

either : (a b : ℕ) (t : Bool) (xs ys : List ℕ) → HasFrom a b xs → HasFrom a b ys → HasFrom a b (if t then xs else ys)
either a b true xs ys h k = h
either a b false xs ys h k = k

wider : (a b m n : ℕ) (xs : List ℕ) → m ≤ a → b ≤ n → HasFrom a b xs → HasFrom m n xs
wider a b m n xs l r h = record { enough = omega arith; few = omega arith }

bits_size : (w r b : Bool) → HasFrom 0 1 (rex_bits w r b)
bits_size true r b = record { enough = omega arith; few = omega arith }
bits_size false true b = record { enough = omega arith; few = omega arith }
bits_size false false true = record { enough = omega arith; few = omega arith }
bits_size false false false = record { enough = omega arith; few = omega arith }

sib_size : (base : ℕ) → HasFrom 0 1 (sib base)
sib_size base = either 0 1 (base % 8 == 4) (0x24 ∷ []) [] (record { enough = omega arith; few = omega arith }) (record { enough = omega arith; few = omega arith })

mem_size : (reg : ℕ) (at : Addr) → HasFrom 2 6 (m_mem reg at)
mem_size reg at =
    let near : HasFrom 1 5 (sib at.base ++ byte at.disp) = wider 1 2 1 5 (sib at.base ++ byte at.disp) (omega arith) (omega arith) (joined 0 1 1 1 (sib at.base) (byte at.disp) (sib_size at.base) (record { enough = omega arith; few = omega arith })) in
    let far : HasFrom 1 5 (sib at.base ++ dword at.disp) = wider 4 5 1 5 (sib at.base ++ dword at.disp) (omega arith) (omega arith) (joined 0 1 4 4 (sib at.base) (dword at.disp) (sib_size at.base) (record { enough = omega arith; few = omega arith })) in
    either 2 6 (is_small at.disp) _ _
    (cell 1 5 (0x40 + 8 * (reg % 8) + at.base % 8) (sib at.base ++ byte at.disp) near)
    (cell 1 5 (0x80 + 8 * (reg % 8) + at.base % 8) (sib at.base ++ dword at.disp) far)

pub reg_form_size : (pre : List ℕ) (w : Bool) (opcode : List ℕ) (reg rm : ℕ) → HasFrom 0 1 pre → HasFrom 1 2 opcode → HasFrom 2 5 (reg_form pre w opcode reg rm)
unfolding reg_form
reg_form_size pre w opcode reg rm p o = joined 0 1 2 4 pre _ p (joined 0 1 2 3 (rex w reg rm) _ (bits_size w (top reg) (top rm)) (joined 1 2 1 1 opcode _ o (record { enough = omega arith; few = omega arith })))

pub mem_form_size : (pre : List ℕ) (w : Bool) (opcode : List ℕ) (reg : ℕ) (at : Addr) → HasFrom 0 1 pre → HasFrom 1 2 opcode → HasFrom 3 10 (mem_form pre w opcode reg at)
unfolding mem_form
mem_form_size pre w opcode reg at p o = joined 0 1 3 9 pre _ p (joined 0 1 3 8 (rex w reg at.base) _ (bits_size w (top reg) (top at.base)) (joined 1 2 2 6 opcode _ o (mem_size reg at)))

pub plus_form_size : (w : Bool) (opcode rm : ℕ) → HasFrom 1 2 (plus_form w opcode rm)
unfolding plus_form
plus_form_size w opcode rm = joined 0 1 1 1 (rex w 0 rm) _ (bits_size w false (top rm)) (record { enough = omega arith; few = omega arith })

-- the rows that are one form
of_reg : (pre : List ℕ) (w : Bool) (opcode : List ℕ) (reg rm : ℕ) → HasFrom 0 1 pre → HasFrom 1 2 opcode → HasFrom 1 10 (reg_form pre w opcode reg rm)
of_reg pre w opcode reg rm p o = wider 2 5 1 10 _ (omega arith) (omega arith) (reg_form_size pre w opcode reg rm p o)

-- the row with up to three opcode bytes
of_long : (pre : List ℕ) (w : Bool) (opcode : List ℕ) (reg rm : ℕ) → HasFrom 0 1 pre → HasFrom 1 3 opcode → HasFrom 1 10 (reg_form pre w opcode reg rm)
unfolding reg_form
of_long pre w opcode reg rm p o = wider 2 6 1 10 _ (omega arith) (omega arith)
    (joined 0 1 2 5 pre _ p (joined 0 1 2 4 (rex w reg rm) _ (bits_size w (top reg) (top rm)) (joined 1 3 1 1 opcode _ o (record { enough = omega arith; few = omega arith }))))

of_mem : (pre : List ℕ) (w : Bool) (opcode : List ℕ) (reg : ℕ) (at : Addr) → HasFrom 0 1 pre → HasFrom 1 2 opcode → HasFrom 1 10 (mem_form pre w opcode reg at)
of_mem pre w opcode reg at p o = wider 3 10 1 10 _ (omega arith) (omega arith) (mem_form_size pre w opcode reg at p o)

of_plus : (w : Bool) (opcode rm : ℕ) → HasFrom 1 10 (plus_form w opcode rm)
of_plus w opcode rm = wider 1 2 1 10 _ (omega arith) (omega arith) (plus_form_size w opcode rm)

-- a form with a number behind it
reg_then : (pre : List ℕ) (w : Bool) (opcode : List ℕ) (reg rm : ℕ) (tail : List ℕ) → HasFrom 0 1 pre → HasFrom 1 2 opcode → HasFrom 1 4 tail → HasFrom 1 10 (reg_form pre w opcode reg rm ++ tail)
reg_then pre w opcode reg rm tail p o t = wider 3 9 1 10 _ (omega arith) (omega arith) (joined 2 5 1 4 _ tail (reg_form_size pre w opcode reg rm p o) t)

plus_then : (w : Bool) (opcode rm : ℕ) (tail : List ℕ) → HasFrom 4 8 tail → HasFrom 1 10 (plus_form w opcode rm ++ tail)
plus_then w opcode rm tail t = wider 5 10 1 10 _ (omega arith) (omega arith) (joined 1 2 4 8 _ tail (plus_form_size w opcode rm) t)

-- lists that are written out
none : HasFrom 0 1 []
none = record { enough = omega arith; few = omega arith }

prefix : (x : ℕ) → HasFrom 0 1 (x ∷ [])
prefix x = record { enough = omega arith; few = omega arith }

one : (x : ℕ) → HasFrom 1 2 (x ∷ [])
one x = record { enough = omega arith; few = omega arith }

two : (x y : ℕ) → HasFrom 1 2 (x ∷ y ∷ [])
two x y = record { enough = omega arith; few = omega arith }

byte_tail : (x : ℕ) → HasFrom 1 4 (x ∷ [])
byte_tail x = record { enough = omega arith; few = omega arith }

dword_tail : (z : ℤ) → HasFrom 1 4 (dword z)
dword_tail z = record { enough = omega arith; few = omega arith }

-- a store of a byte is its form with at most one more byte, and the form has no prefix and one opcode byte
store8_size : (src : ℕ) (at : Addr) → HasFrom 1 10 (spelling (Store8 src at))
unfolding spelling mem_form
store8_size src at = wider 3 9 1 10 _ (omega arith) (omega arith)
    (joined 0 1 3 8 (if bare_rex src at.base then 0x40 ∷ [] else []) _
    (either 0 1 (bare_rex src at.base) (0x40 ∷ []) [] (record { enough = omega arith; few = omega arith }) (record { enough = omega arith; few = omega arith }))
    (joined 0 1 3 7 (rex false src at.base) _ (bits_size false (top src) (top at.base)) (cell 2 6 0x88 (m_mem src at) (mem_size src at))))

pub size : (i : Ins) → HasFrom 1 10 (spelling i)
unfolding spelling
size (Vec op dst src) = of_long _ _ _ _ _ (prefix _) (either 1 3 (has_38 op) _ _ (record { enough = omega arith; few = omega arith }) (record { enough = omega arith; few = omega arith }))
size (VecImm op dst count) = reg_then _ _ _ _ _ _ (prefix _) (two _ _) (byte_tail _)
size (Shuffle op dst src order) = reg_then _ _ _ _ _ _ (prefix _) (two _ _) (byte_tail _)
size (VecLoad op dst at) = of_mem _ _ _ _ _ (prefix _) (two _ _)
size (VecStore op src at) = of_mem _ _ _ _ _ (prefix _) (two _ _)
size (FromGpr wide dst src) = of_reg _ _ _ _ _ (prefix _) (two _ _)
size (ToGpr wide dst src) = of_reg _ _ _ _ _ (prefix _) (two _ _)
size (Move dst src) = of_reg _ _ _ _ _ none (one _)
size (Load dst at) = of_mem _ _ _ _ _ none (one _)
size (Store src at) = of_mem _ _ _ _ _ none (one _)
size (Store8 src at) = store8_size src at
size (Store16 src at) = of_mem _ _ _ _ _ (prefix _) (one _)
size (Load8 dst at) = of_mem _ _ _ _ _ none (two _ _)
size (Load16 dst at) = of_mem _ _ _ _ _ none (two _ _)
size (MovImm dst value) = either 1 10 (nat_lt value (2 ^ 32)) _ _
    (plus_then _ _ _ _ (record { enough = omega arith; few = omega arith }))
    (plus_then _ _ _ _ (record { enough = omega arith; few = omega arith }))
size (Alu op dst src) = of_reg _ _ _ _ _ none (one _)
size (AluImm op dst value) = either 1 10 (is_small value) _ _
    (reg_then _ _ _ _ _ _ none (one _) (byte_tail _))
    (reg_then _ _ _ _ _ _ none (one _) (dword_tail value))
size (Test a b) = of_reg _ _ _ _ _ none (one _)
size (Shift op dst count) = reg_then _ _ _ _ _ _ none (one _) (byte_tail _)
size (Imul dst src) = of_reg _ _ _ _ _ none (two _ _)
size (Lea dst at) = of_mem _ _ _ _ _ none (one _)
size (Push src) = of_plus _ _ _
size (Pop dst) = of_plus _ _ _
size (Jump rel) = record { enough = omega arith; few = omega arith }
size (JumpIf cond rel) = record { enough = omega arith; few = omega arith }
size Ret = record { enough = omega arith; few = omega arith }
