use Rattle.c_emit.proofs.Values.{Gives}
use Rattle.c_emit.proofs.Opcodes.{formula_first}
use Rattle.c_emit.proofs.Doing.{scene}
use Rattle.c_emit.proofs.laws.means_first.Goals as goal

pub returns : goal.returns
returns c = λ call t s o x y a b p q.
    let g : Gives (scene call t s) x _ = record { is = p } in
    let h : Gives (scene call t s) y _ = record { is = q } in
    (formula_first o a b g h).is
