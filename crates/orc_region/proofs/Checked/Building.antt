-- The parts of an instruction's shape.
use Rattle.std.proofs.Common.{◌≡◌, ◌==◌, ◌||◌, ◌&&◌, nat_lt, Bool, true, List, length, ◌^◌}
use Rattle.std.specs.List.{list_all}
use Rattle.std.proofs.lemmas.Bool.{eqb-true}
use Rattle.orc_program.specs.declared.program.Var.{Var}
use Rattle.orc_program.specs.declared.program.Operand.{Operand}
use Rattle.orc_program.specs.declared.program.Insn.{Insn}
use Rattle.orc_program.specs.Kept.{is_shaped, is_in_range, result_count, source_count}
use Rattle.orc_program.proofs.Sizes.{both}

-- the parts of a shape
pub record Shape (vars : List Var) (insn : Insn) : Type 0 where
  pub results : length insn.results.items ≡ result_count insn.op
  pub sources : length insn.sources.items ≡ source_count insn.op
  pub inside : list_all (is_in_range vars) insn.results.items ≡ true
  pub inside' : list_all (is_in_range vars) insn.sources.items ≡ true

pub shape_of : (vars : List Var) (insn : Insn) → is_shaped vars insn ≡ true → Shape vars insn
shape_of vars insn h =
    let inside : List Operand → Bool = list_all (is_in_range vars) in
    let s1 = both (insn.prefix == 1 || (insn.prefix == 2 || insn.prefix == 4)) (length insn.results.items == result_count insn.op && (length insn.sources.items == source_count insn.op && (inside insn.results.items && (inside insn.sources.items && nat_lt insn.line (2 ^ 32))))) h in
    let s2 = both (length insn.results.items == result_count insn.op) (length insn.sources.items == source_count insn.op && (inside insn.results.items && (inside insn.sources.items && nat_lt insn.line (2 ^ 32)))) s1.1 in
    let s3 = both (length insn.sources.items == source_count insn.op) (inside insn.results.items && (inside insn.sources.items && nat_lt insn.line (2 ^ 32))) s2.1 in
    let s4 = both (inside insn.results.items) (inside insn.sources.items && nat_lt insn.line (2 ^ 32)) s3.1 in
    let s5 = both (inside insn.sources.items) (nat_lt insn.line (2 ^ 32)) s4.1 in
    record { results = eqb-true _ _ s2.0; sources = eqb-true _ _ s3.0; inside = s4.0; inside' = s5.0 }
