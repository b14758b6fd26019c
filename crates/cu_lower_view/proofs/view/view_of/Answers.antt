use Rattle.std.proofs.Common.{Some, ap, ◌∙◌, sym}
use Rattle.cu_lower_view.specs.View.{view_of}
use Rattle.cu_lower_view.proofs.view.view_of.Goals as goal

pub returns-in-Flip : goal.returns-in-Flip
returns-in-Flip c = ap (λ p. Some p) c.flip_pull.ensures ∙ sym (ap (λ f. view_of f c.args.source.now) c.in-Flip.is)
