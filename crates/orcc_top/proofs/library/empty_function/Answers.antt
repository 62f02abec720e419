use Rattle.std.proofs.Common.{◌≡◌, true, arith}
use Rattle.std.proofs.lemmas.Grind.{common_steps}
use Rattle.orc_program.specs.Words.{is_name}
use Rattle.x86_ins.specs.declared.ins.Ins.TheVariants.{Ret}
use Rattle.x86_ins.specs.Spelling.{spelling}
use Rattle.orcc_top.proofs.Entries.{ret_entry}
use Rattle.orcc_top.proofs.library.empty_function.Goals as goal

pub invariant_of-result : goal.invariant_of-result
invariant_of-result c =
    let named : is_name c.in-Some.name ≡ true = grind (arith, common_steps) in
    let code : c.from_vec.result ≡ spelling Ret = grind (arith, common_steps) in
    ret_entry c.in-Some.name c.from_vec.result named code
