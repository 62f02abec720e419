use Rattle.std.specs.Str.{bytes_eq}
use Rattle.orc_words.proofs.Keyed.{insert_key-seen}
use Rattle.orc_words.proofs.names.Names.add.Goals as goal

pub returns-clause-ok : goal.returns-clause-ok
returns-clause-ok c =
    insert_key-seen (λ k. k.items) bytes_eq c.self.inside.names.keys c.insert.new.self.keys c.in_ok-from_slice.field-0 c.args.self.now c.args.name.now
    c.self.view_is c.in_ok-from_slice.ensures.items c.requires c.in_ok-insert.ensures.keys
