use Rattle.std.proofs.Common.{position, sym, ap, ◌∙◌}
use Rattle.std.specs.Str.{bytes_eq}
use Rattle.orc_words.proofs.Keyed.{position-map}
use Rattle.orc_words.proofs.names.Names.place.Goals as goal

pub returns : goal.returns
returns c =
    let name = c.args.name.now in
    c.get_index_of.ensures.index ∙ sym (position-map (λ k. k.items) (bytes_eq name) c.self.inside.names.keys) ∙ ap (position (bytes_eq name)) c.self.view_is
