-- The parts of a job's call, and the world of as many runners, each of which does one of them.
use Rattle.std.specs.Prelude.{ℕ, zero, suc, ◌+◌, ◌-◌, ◌*◌, ◌%◌, ◌^◌, List, [], ◌∷◌, ◌++◌}
use Rattle.std.specs.Int.{w64, cast_unsigned}
use Rattle.std.specs.Int.RustNames.{FitsSigned}
use Rattle.std.specs.List.{AllByRecursion}
use Rattle.orc_bits.specs.declared.parts.Part.{Part}
use Rattle.orc_bits.specs.Parts.{memory_of}
use Rattle.orc_program.specs.declared.call.Call.{Call}
use Rattle.orc_program.specs.declared.call.Place.{Place}
use Rattle.orc_program.specs.declared.rect.Rect.{Rect}
use Rattle.orc_frame.specs.Layout.{frame_size}
use Rattle.orc_image.specs.Spelling.{FunctionValue}
use Rattle.orc_job.specs.declared.job.Job.{Job}
use Rattle.orc_jobs.specs.World.{Stand, Shared, no_memory}
use Rattle.orc_parts.specs.Even.{even_part}
use Rattle.x86_ins.specs.Machine.{point_of}
use Rattle.orc_worlds.specs.Placement.{block_at, return_to, word_bytes, block_bytes, frame_bytes, state_at, placed_code}

-- ---- addresses

-- the block of part k, and RSP at its entry
abbrev pub block_of : ℕ → ℕ
block_of k = block_at + k * 0x100000

abbrev pub stack_of : ℕ → ℕ
stack_of k = block_of k + 0x10000

-- ---- the parts of a call

-- an array with elements of a size, from its first cell in a rectangle on
abbrev pub moved_place : Rect → Place → ℕ → Place
moved_place q p size = record { base = (p.base + q.row * cast_unsigned w64 p.stride + q.element * size) % 2 ^ 64; stride = p.stride }

abbrev pub moved_places : Rect → List Place → List ℕ → List Place
moved_places q [] sizes = []
moved_places q (p ∷ ps) [] = []
moved_places q (p ∷ ps) (size ∷ sizes) = moved_place q p size ∷ moved_places q ps sizes

-- strides are numbers of 64 bits with a sign
abbrev pub AreSigned : List Place → Type 0
AreSigned ps = AllByRecursion (λ p. FitsSigned w64 p.stride) ps

-- the call of a rectangle: its counts are the rectangle's, each array begins at the rectangle's first cell, and strides and parameters are the call's
abbrev pub part_call : Call → List ℕ → Rect → Call
part_call call sizes q = record { n = q.elements; m = q.rows; arrays = record { items = moved_places q call.arrays.items sizes }; params = call.params }

-- the call of part k of so many of a job's
abbrev pub call_of_part : FunctionValue → Job → List ℕ → ℕ → ℕ → Call
call_of_part f job sizes workers k = part_call job.call sizes (even_part f.two_d job.call workers k)

-- ---- the world

-- the mapped bytes that are part k's alone: the block of its call, the return word, and below it the frame
abbrev pub own_parts : ℕ → Call → ℕ → List Part
own_parts dests call k = record { at = block_of k; bytes = block_bytes dests call }
    ∷ record { at = stack_of k; bytes = word_bytes return_to }
    ∷ record { at = stack_of k - frame_size; bytes = frame_bytes } ∷ []

-- those of the first n parts
abbrev pub first_own : ℕ → (ℕ → Call) → ℕ → List Part
first_own dests call zero = []
first_own dests call (suc n) = first_own dests call n ++ own_parts dests (call n) n

-- the runner of part k, at its code's first byte, with no step taken
abbrev pub part_stand : FunctionValue → ℕ → Stand
part_stand f k = record {
  code = placed_code f;
  stop = record { rip = return_to; rsp = stack_of k + 8 };
  point = point_of (state_at (block_of k) (stack_of k)) no_memory;
  steps = 0;
}

-- the runners of the first n parts
abbrev pub first_stands : FunctionValue → ℕ → List Stand
first_stands f zero = []
first_stands f (suc n) = first_stands f n ++ part_stand f n ∷ []

-- the world at the start: on the job's segments and the parts' own bytes the runners of all parts
abbrev pub placed_world : FunctionValue → Job → List ℕ → ℕ → Shared
placed_world f job sizes workers = record {
  memory = memory_of (job.memory ++ first_own f.dests (call_of_part f job sizes workers) workers);
  stands = first_stands f workers;
}
