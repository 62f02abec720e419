use Rattle.std.proofs.Common.{◌∙◌}
use Rattle.x86_decode.proofs.Decoding.{decoded_right, decoded_some, decoded_once, decoded_again, decoded_none}
use Rattle.x86_decode.proofs.decoder.decode.Goals as goal

pub returns-clause-some : goal.returns-clause-some
returns-clause-some c = decoded_some c.args.bytes.now _ (rw c.decode_by_guess.ensures.is (decoded_right c.args.bytes.now)) c.decode_by_guess.ensures.ranges

pub returns-clause-only : goal.returns-clause-only
returns-clause-only c = λ i n d. c.decode_by_guess.ensures.is ∙ decoded_once c.args.bytes.now i n d

pub returns-clause-again : goal.returns-clause-again
returns-clause-again c = λ i rest a e. c.decode_by_guess.ensures.is ∙ decoded_again c.args.bytes.now i rest a e

pub returns-clause-none : goal.returns-clause-none
returns-clause-none c = decoded_none c.args.bytes.now c.decode_by_guess.result (λ i n d. c.decode_by_guess.ensures.is ∙ decoded_once c.args.bytes.now i n d)
