-- Instructions on vector registers have few bytes.
use Rattle.std.proofs.Common.{◌≡◌, true, false, List, [], ◌∷◌, sym, true≢false}
use Rattle.x86_ins.specs.declared.ins.Ins.{Ins}
use Rattle.x86_ins.specs.declared.ins.Ins.TheVariants.{Vec, VecImm, Shuffle, VecLoad, VecStore, FromGpr, ToGpr, Move, Load, Store, Store8, Store16, Load8, Load16, MovImm, Alu, AluImm, Test, Shift, Imul, Lea, Push, Pop, Jump, JumpIf, Ret}
use Rattle.x86_ins.specs.Vectors.{simd, is_simd, all_simd}
use Rattle.x86_ins.specs.Spelling.{IsIns}
use Rattle.x86_ins.specs.Way.{Each}
use Rattle.orc_program.proofs.Sizes.{both}
use Rattle.x86_flow.proofs.Spelled.{IsFine, fine_vec}
use Rattle.orc_frame.proofs.Counted.{fine_vec_imm, fine_shuffle}

none : {A : Type 0} → false ≡ true → A
none h = absurd (true≢false (sym h))

fine_one : (i : Ins) → is_simd (simd i) ≡ true → IsIns i → IsFine i
fine_one (Vec op d s) h g = fine_vec op d s g.0 g.1
fine_one (VecImm op d n) h g = fine_vec_imm op d n g.0 g.1
fine_one (Shuffle op d s n) h g = fine_shuffle op d s n g.0 g.1 g.2
fine_one (VecLoad op d a) h g = none h
fine_one (VecStore op s a) h g = none h
fine_one (FromGpr wide d s) h g = none h
fine_one (ToGpr wide d s) h g = none h
fine_one (Move d s) h g = none h
fine_one (Load d a) h g = none h
fine_one (Store s a) h g = none h
fine_one (Store8 s a) h g = none h
fine_one (Store16 s a) h g = none h
fine_one (Load8 d a) h g = none h
fine_one (Load16 d a) h g = none h
fine_one (MovImm d v) h g = none h
fine_one (Alu op d s) h g = none h
fine_one (AluImm op d v) h g = none h
fine_one (Test a b) h g = none h
fine_one (Shift op d n) h g = none h
fine_one (Imul d s) h g = none h
fine_one (Lea d a) h g = none h
fine_one (Push s) h g = none h
fine_one (Pop d) h g = none h
fine_one (Jump rel) h g = none h
fine_one (JumpIf q rel) h g = none h
fine_one Ret h g = none h

pub fine_rule : (is : List Ins) → all_simd is ≡ true → Each IsIns is → Each IsFine is
fine_rule [] h g = tt
fine_rule (i ∷ is) h g = let a = both (is_simd (simd i)) (all_simd is) h in (fine_one i a.0 g.0, fine_rule is a.1 g.1)
