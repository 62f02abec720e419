use Rattle.x86_decode.proofs.Unique.{one_beginning, one_decoding, one_spelled}
use Rattle.x86_decode.proofs.decoder.one_spelling.Goals as goal

pub returns-clause-distinct : goal.returns-clause-distinct
returns-clause-distinct c = one_spelled

pub returns-clause-free : goal.returns-clause-free
returns-clause-free c = one_beginning

pub returns-clause-one : goal.returns-clause-one
returns-clause-one c = one_decoding
