use Rattle.std.proofs.Common.{◌<◌, sym, subst}
use Rattle.orc_program.specs.declared.program.Var.{Var}
use Rattle.orc_program.specs.Program.{count_of}
use Rattle.orc_program.specs.Kept.{most_of}
use Rattle.orc_words.specs.Text.{words}
use Rattle.orc_text.specs.declared.line.Part.TheVariants as part
use Rattle.orc_text.specs.Line.{FitsPart}
use Rattle.orc_text.proofs.adding.with_part.Goals as goal

pub with_variable-requires-clause-room : goal.with_variable-requires-clause-room
with_variable-requires-clause-room c =
    let f = c.args.current.function in
    let fits : FitsPart f (words c.args.line.now) (part.Variable c.in-Variable.declared) = subst (FitsPart f (words c.args.line.now)) c.in-Variable.is c.requires in
    subst (λ (v : Var). count_of v.kind f.vars < most_of v.kind) (sym c.in_ok-var-in-Variable.ensures) fits.2
