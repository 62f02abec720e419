-- The generator: a text and jobs from a number.
use Rattle.std.specs.Prelude.{ℕ, zero, suc, ◌+◌, ◌*◌, ◌/◌, ◌%◌, ◌^◌, pos, List, [], ◌∷◌, ◌++◌, replicate, codes, decimal, slice_index_or}
use Rattle.std.specs.Int.{w32, to_le_bytes}
use Rattle.orc_bits.specs.declared.parts.Part.{Part}
use Rattle.orc_program.specs.declared.call.Place.{Place}
use Rattle.orc_job.specs.declared.job.Job.{Job}
use Rattle.orc_job.specs.Fields.{job}

-- f 0, f 1 and so on, so many, one behind another
unfoldable pub joined : {A : Type 0} → (ℕ → List A) → ℕ → List A
joined f zero = []
joined f (suc n) = joined f n ++ f n

-- ---- draws

-- the state of the generator after a draw
abbrev pub next : ℕ → ℕ
next x = (x * 6364136223846793005 + 1442695040888963407) % 2 ^ 64

-- after so many draws
unfoldable pub after : ℕ → ℕ → ℕ
after zero x = x
after (suc n) x = after n (next x)

-- what draw number k from a state on gives, counted from 0
abbrev pub drawn : ℕ → ℕ → ℕ
drawn x k = after (k + 1) x / 2 ^ 32

-- ---- the text

-- the opcodes that are drawn
abbrev pub opcodes : List (List ℕ)
opcodes = codes "addl" ∷ codes "subl" ∷ codes "xorl" ∷ codes "andl" ∷ codes "orl" ∷ codes "andnl" ∷ codes "addssl" ∷ codes "addusl" ∷ codes "subssl" ∷ codes "subusl" ∷ codes "maxsl" ∷ codes "minul" ∷ codes "mulll" ∷ codes "mulhsl" ∷ codes "avgsl" ∷ codes "cmpgtsl" ∷ []

-- the lines that declare function f
abbrev pub head_text : ℕ → List ℕ
head_text f = codes ".function g" ++ (decimal f ++ codes "\n.dest 4 d1\n.source 4 s1\n.source 4 s2\n.temp 4 t0\n.temp 4 t1\n.temp 4 t2\n.temp 4 t3\n.temp 4 t4\n.temp 4 t5\n.temp 4 t6\n.temp 4 t7\n")

-- the line that sets temp i, from s1 where i is even and else from s2
abbrev pub load_line : ℕ → List ℕ
load_line i = codes "loadl t" ++ (decimal i ++ (codes ", s" ++ (decimal (i % 2 + 1) ++ 10 ∷ [])))

-- the line of four draws, from a state on: the opcode, the result and the two sources
abbrev pub insn_line : ℕ → List ℕ
insn_line x = slice_index_or opcodes (drawn x 0 % 16) [] ++ (codes " t" ++ (decimal (drawn x 1 % 8) ++ (codes ", t" ++ (decimal (drawn x 2 % 8) ++ (codes ", t" ++ (decimal (drawn x 3 % 8) ++ 10 ∷ []))))))

-- instruction k, of four draws, from a state on
abbrev pub insn_at : ℕ → ℕ → List ℕ
insn_at x k = insn_line (after (4 * k) x)

-- the lines of 80 instructions, from a state on
abbrev pub insns_text : ℕ → List ℕ
insns_text x = joined (insn_at x) 80

-- function f, whose draws begin at a state
unfoldable pub function_text : ℕ → ℕ → List ℕ
function_text x f = head_text f ++ (joined load_line 8 ++ (insns_text x ++ codes "storel d1, t0\n"))

-- function f, of 320 draws, from a state on
abbrev pub function_at : ℕ → ℕ → List ℕ
function_at x f = function_text (after (320 * f) x) f

-- the text: eight functions
unfoldable pub text_of : ℕ → List ℕ
text_of seed = joined (function_at seed) 8

-- ---- the jobs

-- the bytes of element k, which is drawn, from a state on
abbrev pub element_at : ℕ → ℕ → List ℕ
element_at x k = to_le_bytes w32 (drawn x k)

-- the bytes of 1024 elements, from a state on
unfoldable pub elements : ℕ → List ℕ
elements x = joined (element_at x) 1024

-- an array's place; there is one row
abbrev pub place : ℕ → Place
place base = record { base = base; stride = pos 0 }

-- the bytes of d1 at the start
unfoldable pub zeros : List ℕ
zeros = replicate 4096 0

-- the segments: of d1, and of s1 and s2 with the bytes of their elements
abbrev pub segments : List ℕ → List ℕ → List Part
segments first second = record { at = 65536; bytes = zeros } ∷ record { at = 131072; bytes = first } ∷ record { at = 196608; bytes = second } ∷ []

-- the job of function f, with the bytes of s1 and s2
unfoldable pub job_of : List ℕ → List ℕ → ℕ → Job
job_of first second f = job (codes "g" ++ decimal f) 1024 1 (place 65536 ∷ place 131072 ∷ place 196608 ∷ []) [] (segments first second) 100000000

-- job f, in a list of its own
abbrev pub job_at : List ℕ → List ℕ → ℕ → List Job
job_at first second f = job_of first second f ∷ []

-- the jobs, one for each function, in order; the draws behind the text's give the elements of s1 and then those of s2
unfoldable pub jobs_of : ℕ → List Job
jobs_of seed = joined (job_at (elements (after 2560 seed)) (elements (after 3584 seed))) 8
