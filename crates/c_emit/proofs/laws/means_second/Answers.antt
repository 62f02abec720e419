use Rattle.c_emit.proofs.Values.{Gives}
use Rattle.c_emit.proofs.Opcodes.{formula_second}
use Rattle.c_emit.proofs.Doing.{scene}
use Rattle.c_emit.proofs.laws.means_second.Goals as goal

pub returns : goal.returns
returns c = λ call t s o x y a b l p.
    let g : Gives (scene call t s) x _ = record { is = p } in
    (formula_second y o a b l g).is
