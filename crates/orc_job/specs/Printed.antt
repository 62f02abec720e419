-- The printed result of a job.
use Rattle.std.specs.Prelude.{ℕ, ◌+◌, false, List, [], ◌∷◌, ◌++◌, codes}
use Rattle.std.specs.Fmt.{decimal, digits}
use Rattle.hex.specs.Hex.{encode_lower}
use Rattle.orc_bits.specs.declared.parts.Part.{Part}
use Rattle.x86_ins.specs.declared.state.Why.{Why}
use Rattle.x86_ins.specs.declared.state.Why.TheVariants as why
use Rattle.orc_job.specs.declared.outcome.EndLine.{EndLine}
use Rattle.orc_job.specs.declared.outcome.EndLine.TheVariants as end
use Rattle.orc_job.specs.declared.outcome.Outcome.{Outcome}

abbrev pub why_text : Why → List ℕ
why_text why.Misaligned = codes "Misaligned"
why_text why.Unmapped = codes "Unmapped"
why_text why.NoFlags = codes "NoFlags"
why_text why.NoCode = codes "NoCode"
why_text why.NoRow = codes "NoRow"

-- how it ended. A trap's address is hexadecimal, in lower case; all other numbers are decimal
abbrev pub end_text : EndLine → List ℕ
end_text (end.Returned steps) = codes "end returned " ++ decimal steps
end_text (end.Trap w at steps) = codes "end trap " ++ (why_text w ++ (codes " 0x" ++ (digits 16 false at ++ (codes " " ++ decimal steps))))
end_text (end.Budget steps) = codes "end budget " ++ decimal steps
end_text end.Emulated = codes "end emulated"
end_text (end.Unmapped row element at) = codes "end unmapped " ++ (decimal row ++ (codes " " ++ (decimal element ++ (codes " " ++ decimal at))))

-- an accumulator's number and its value
abbrev pub acc_text : ℕ → ℕ → List ℕ
acc_text k v = codes "acc " ++ (decimal k ++ (codes " " ++ (decimal v ++ 10 ∷ [])))

-- the accumulators from number k on, each on a line
abbrev pub accs_text : ℕ → List ℕ → List ℕ
accs_text k [] = []
accs_text k (v ∷ vs) = acc_text k v ++ accs_text (k + 1) vs

-- a segment's address and its bytes, in hexadecimal
abbrev pub segment_text : Part → List ℕ
segment_text p = codes "mem " ++ (decimal p.at ++ (codes " " ++ (encode_lower p.bytes ++ 10 ∷ [])))

-- the segments, in order, each on a line
abbrev pub memory_text : List Part → List ℕ
memory_text [] = []
memory_text (p ∷ ps) = segment_text p ++ memory_text ps

-- what stands behind the first line: nothing where a cell wasn't mapped
abbrev pub rest_text : EndLine → List ℕ → List Part → List ℕ
rest_text (end.Unmapped row element at) accs memory = []
rest_text e accs memory = accs_text 0 accs ++ memory_text memory

unfoldable pub result_text : Outcome → List ℕ
result_text o = end_text o.end ++ (10 ∷ rest_text o.end o.accs.items o.memory)
