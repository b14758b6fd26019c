use Rattle.std.proofs.Common.{sym, ◌∙◌, bytes_eq, string_bytes}
use Rattle.cu_read.proofs.Texts.{list_any-map}
use Rattle.cu_read.proofs.ids.Ids.has.Goals as goal

pub returns : goal.returns
returns c = rw (← c.self.view_is) (c.contains.ensures ∙ sym (list_any-map (bytes_eq c.args.id.now) string_bytes c.self.inside.set.keys))
