use Rattle.std.proofs.Common.{sym, ap, ◌∙◌, bytes_eq, string_bytes, position}
use Rattle.cu_cells.proofs.Texts.{position-map}
use Rattle.cu_cells.proofs.places.Places.find.Goals as goal

pub returns : goal.returns
returns c =
    c.get_index_of.ensures.index
    ∙ ap (λ t. position (λ k. bytes_eq t (string_bytes k)) c.self.inside.set.keys) c.text.ensures.text
    ∙ sym (position-map (bytes_eq c.args.key.now) string_bytes c.self.inside.set.keys)
    ∙ ap (position (bytes_eq c.args.key.now)) c.self.view_is
