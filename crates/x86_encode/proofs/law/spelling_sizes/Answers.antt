use Rattle.x86_encode.proofs.SizeLaws.{size}
use Rattle.x86_encode.proofs.law.spelling_sizes.Goals as goal

pub returns : goal.returns
returns c = size
