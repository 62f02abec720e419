-- The instructions that a tree of structured code stands for.
use Rattle.std.specs.Prelude.{List, [], ◌∷◌, ◌++◌}
use Rattle.x86_ins.specs.declared.ins.Ins.{Ins}
use Rattle.x86_flow.specs.declared.tree.Flow.{Flow, fold-Flow}
use Rattle.x86_flow.specs.declared.tree.Flow.TheOpen.{Flow-F}
use Rattle.x86_flow.specs.Flow.{choice_code, loop_code}

-- lists, one behind another
abbrev pub all_behind : List (List Ins) → List Ins
all_behind [] = []
all_behind (list ∷ lists) = list ++ all_behind lists

-- one level, with the instructions of the parts in their places
abbrev pub flat_at : Flow-F (List Ins) → List Ins
flat_at (Flow-F.Plain block) = block.list
flat_at (Flow-F.Chain parts) = all_behind parts
flat_at (Flow-F.Choice cond one two) = choice_code cond one two
flat_at (Flow-F.Repeat cond body) = loop_code cond body

abbrev pub flat_of : Flow → List Ins
flat_of = fold-Flow (List Ins) flat_at
