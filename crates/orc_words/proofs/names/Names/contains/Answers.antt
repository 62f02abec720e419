use Rattle.std.proofs.Common.{sym, ap, ◌∙◌}
use Rattle.std.specs.List.{list_any}
use Rattle.std.specs.Str.{bytes_eq}
use Rattle.orc_words.proofs.Keyed.{list_any-map}
use Rattle.orc_words.proofs.names.Names.contains.Goals as goal

pub returns : goal.returns
returns c =
    let name = c.args.name.now in
    c.contains.ensures ∙ sym (list_any-map (λ k. k.items) (bytes_eq name) c.self.inside.names.keys) ∙ ap (list_any (bytes_eq name)) c.self.view_is
