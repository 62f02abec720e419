-- What is to be written, as it is built.
use Rattle.std.specs.Prelude.{◌≡◌, ℕ, List, None, string_bytes}
use Rattle.orcc_top.specs.declared.command.Command.{Command}
use Rattle.orcc_top.specs.declared.reply.Reply.{Reply}
use Rattle.orcc_top.specs.declared.reply.Reply.TheVariants as reply
use Rattle.orcc_top.specs.Answer.{refusal_of, IsOutput, Refuses}

-- a command's reply to what it took of its input
abbrev pub Replies : Command → List ℕ → Reply → Type 0
Replies command taken (reply.Output bytes) = (refusal_of command taken ≡ None) × IsOutput command taken bytes.items
Replies command taken (reply.Refusal line) = Refuses command taken (string_bytes line)
