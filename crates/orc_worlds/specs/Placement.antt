-- Where a function's code and a job are placed to be run, and the machine's state at the start.
use Rattle.std.specs.Prelude.{ℕ, ◌-◌, ◌+◌, List, [], ◌∷◌, ◌++◌, length, take, drop, replicate, None}
use Rattle.std.specs.Int.{w64, to_le_bytes, cast_unsigned}
use Rattle.orc_bits.specs.declared.parts.Part.{Part}
use Rattle.orc_bits.specs.Parts.{memory_of}
use Rattle.orc_program.specs.declared.call.Call.{Call}
use Rattle.orc_program.specs.declared.call.Place.{Place}
use Rattle.orc_frame.specs.Layout.{frame_size}
use Rattle.orc_frame.specs.Parts.{block_size, base_word, param_word}
use Rattle.orc_image.specs.Spelling.{FunctionValue}
use Rattle.orc_job.specs.declared.job.Job.{Job}
use Rattle.x86_ins.specs.declared.state.State.{State}
use Rattle.x86_ins.specs.Machine.{Point, point_of}
use Rattle.x86_ins.specs.Way.{Placed, Stop}

-- ---- addresses

-- the code's first byte, the argument block, RSP at the entry, and the value of the return word
abbrev pub code_at : ℕ
code_at = 0x600000000000

abbrev pub block_at : ℕ
block_at = 0x700000000000

abbrev pub stack_at : ℕ
stack_at = 0x700000010000

abbrev pub return_to : ℕ
return_to = 0x7f0000000000

-- ---- bytes

-- a byte of the frame and of the registers that nothing else is said of
abbrev pub filler : ℕ
filler = 0xa5

abbrev pub filler_word : ℕ
filler_word = 0xa5a5a5a5a5a5a5a5

-- a word, lowest byte first
unfoldable pub word_bytes : ℕ → List ℕ
word_bytes n = to_le_bytes w64 n

abbrev pub words_bytes : List ℕ → List ℕ
words_bytes [] = []
words_bytes (n ∷ ns) = word_bytes n ++ words_bytes ns

-- the words of a base and a stride
abbrev pub place_bytes : Place → List ℕ
place_bytes p = word_bytes p.base ++ word_bytes (cast_unsigned w64 p.stride)

abbrev pub places_bytes : List Place → List ℕ
places_bytes [] = []
places_bytes (p ∷ ps) = place_bytes p ++ places_bytes ps

-- bytes, with zeros behind them up to a length
abbrev pub padded : ℕ → List ℕ → List ℕ
padded size bytes = bytes ++ replicate (size - length bytes) 0

-- the argument block: n, m and the places of dests; the places of sources, whose slots begin with 4, and the parameters, each from their first word on; and 0 elsewhere
unfoldable pub block_bytes : ℕ → Call → List ℕ
block_bytes dests call = padded block_size (padded (param_word 0) (padded (base_word 4) (word_bytes call.n ++ (word_bytes call.m ++ places_bytes (take dests call.arrays.items))) ++ places_bytes (drop dests call.arrays.items)) ++ words_bytes call.params.items)

unfoldable pub frame_bytes : List ℕ
frame_bytes = replicate frame_size filler

-- ---- the start

-- the mapped bytes: the job's segments, the block, the return word, and below it the frame
unfoldable pub placed_parts : ℕ → Job → List Part
placed_parts dests job = job.memory
    ++ (record { at = block_at; bytes = block_bytes dests job.call }
    ∷ record { at = stack_at; bytes = word_bytes return_to }
    ∷ record { at = stack_at - frame_size; bytes = frame_bytes } ∷ [])

-- the state at the code's first byte, with a block at one address and RSP at another; RSP and RDI stand at places 4 and 7
abbrev pub state_at : ℕ → ℕ → State
state_at block stack = record {
  gpr = replicate 4 filler_word ++ (stack ∷ filler_word ∷ filler_word ∷ block ∷ replicate 8 filler_word);
  xmm = replicate 16 (replicate 16 filler);
  flags = None;
  rip = code_at;
}

abbrev pub start : ℕ → Job → Point
start dests job = point_of (state_at block_at stack_at) (memory_of (placed_parts dests job))

abbrev pub placed_code : FunctionValue → Placed
placed_code f = record { bytes = f.code; start = code_at }

abbrev pub stop : Stop
stop = record { rip = return_to; rsp = stack_at + 8 }
