-- A call cut into parts of about one size: by elements, and by rows where it has rows.
use Rattle.std.specs.Prelude.{ℕ, Bool, ◌+◌, ◌-◌, ◌*◌, ◌/◌, ◌<◌, if◌then◌else◌}
use Rattle.orc_program.specs.declared.call.Call.{Call}
use Rattle.orc_program.specs.declared.rect.Rect.{Rect}
use Rattle.orc_program.specs.Program.{FunctionValue}
use Rattle.orc_program.specs.Cut.{Cuts}

-- where part k of w of so many begins
abbrev pub begin_of : ℕ → ℕ → ℕ → ℕ
begin_of count w k = k * count / w

abbrev pub count_of : ℕ → ℕ → ℕ → ℕ
count_of count w k = begin_of count w (k + 1) - begin_of count w k

-- part k of w: without rows its elements run from k·n div w up to, and without, (k+1)·n div w; with rows its rows do so, from m, and it has all elements
abbrev pub even_part : Bool → Call → ℕ → ℕ → Rect
even_part two_d call w k = if two_d
    then record { row = begin_of call.m w k; rows = count_of call.m w k; element = 0; elements = call.n }
    else record { row = 0; rows = 1; element = begin_of call.n w k; elements = count_of call.n w k }

abbrev pub even_rect : FunctionValue → Call → ℕ → ℕ → Rect
even_rect f call w k = even_part f.two_d call w k

-- such parts cut the call
abbrev pub EvenCuts : FunctionValue → Call → Type 0
EvenCuts f call = (w : ℕ) → 0 < w → Cuts f call w (even_rect f call w)
