-- A list that works on vector registers alone, on the machine.
use Rattle.std.proofs.Common.{◌≡◌, ℕ, ◌≤◌, true, List, refl}
use Rattle.orc_ops.specs.declared.opcode.Op.{Op}
use Rattle.x86_ins.specs.declared.ins.Ins.{Ins}
use Rattle.x86_ins.specs.Machine.{Core, with_lanes}
use Rattle.x86_ins.specs.Vectors.{all_simd, after}
use Rattle.x86_ins.proofs.VectorLists.{vectors_lead}
use Rattle.sse_laws.specs.Laws.{Kept, Computes}

-- with the vector registers as `after` says
pub kept : (is : List Ins) → all_simd is ≡ true → ((x : ℕ → List ℕ) (r : ℕ) → 6 ≤ r → after is x r ≡ x r) → (c : Core) → Kept is c (with_lanes c (after is c.xmm))
kept is vectors keeps c = record { leads = vectors_lead is c vectors; gpr = refl; flags = refl; memory = refl; vectors = keeps c.xmm }

pub computes : (op : Op) (is : List Ins) → Computes op is
computes op is h c bytes = (with_lanes c (after is c.xmm), record { kept = kept is h.vectors h.keeps c; first = h.first c.xmm bytes; second = h.second c.xmm bytes })
