-- Lines keep registers and bytes within their bounds.
use Rattle.std.proofs.Common.{List, [], ◌∷◌, ◌++◌, subst}
use Rattle.x86_ins.specs.declared.ins.Ins.{Ins}
use Rattle.x86_ins.specs.Machine.{Core, Bounded}
use Rattle.x86_ins.specs.Spelling.{IsIns}
use Rattle.x86_ins.specs.Way.{Each}
use Rattle.x86_ins.proofs.Bounds.{work_bounded}
use Rattle.x86_flow.specs.Does.{Line}
use Rattle.x86_flow.proofs.Spelled.{IsFine}

pub line_bounded : (Q : Core → Ins → Type 0) (is : List Ins) (c d : Core) → Each IsIns is → Line Q is c d → Bounded c → Bounded d
line_bounded Q [] c d k l h = subst Bounded l h
line_bounded Q (i ∷ is) c d k l h = line_bounded Q is l.1.0 d k.1 l.1.2 (work_bounded i c l.1.0 k.0 h l.1.1)

pub each_front : {A : Type 0} (P : A → Type 0) (a b : List A) → Each P (a ++ b) → Each P a
each_front P [] b h = tt
each_front P (x ∷ a) b h = (h.0, each_front P a b h.1)

pub each_back : {A : Type 0} (P : A → Type 0) (a b : List A) → Each P (a ++ b) → Each P b
each_back P [] b h = h
each_back P (x ∷ a) b h = each_back P a b h.1

pub ins_of : (is : List Ins) → Each IsFine is → Each IsIns is
ins_of [] h = tt
ins_of (i ∷ is) h = (h.0.allowed.0, ins_of is h.1)
