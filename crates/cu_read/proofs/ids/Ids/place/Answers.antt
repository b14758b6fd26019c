use Rattle.std.proofs.Common.{sym, ap, ◌∙◌, bytes_eq, string_bytes}
use Rattle.std.specs.List.{position_or_len}
use Rattle.cu_read.proofs.Texts.{position_or_len-map, place_found, place_not_found}
use Rattle.cu_read.proofs.ids.Ids.place.Goals as goal

pub returns-in-Some : goal.returns-in-Some
returns-in-Some c =
    sym (place_found (λ k. bytes_eq c.args.id.now (string_bytes k)) c.self.inside.set.keys c.in-Some.place (sym c.in-Some.ensures.index))
    ∙ sym (position_or_len-map (bytes_eq c.args.id.now) string_bytes c.self.inside.set.keys)
    ∙ ap (position_or_len (bytes_eq c.args.id.now)) c.self.view_is

pub returns-in-None : goal.returns-in-None
returns-in-None c =
    c.len.ensures.len
    ∙ sym (place_not_found (λ k. bytes_eq c.args.id.now (string_bytes k)) c.self.inside.set.keys (sym c.in-None.ensures.index))
    ∙ sym (position_or_len-map (bytes_eq c.args.id.now) string_bytes c.self.inside.set.keys)
    ∙ ap (position_or_len (bytes_eq c.args.id.now)) c.self.view_is
