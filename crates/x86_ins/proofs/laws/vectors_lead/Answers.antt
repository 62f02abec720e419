use Rattle.x86_ins.proofs.VectorLists.{vectors_lead}
use Rattle.x86_ins.proofs.laws.vectors_lead.Goals as goal

pub returns : goal.returns
returns c = vectors_lead
