use Rattle.std.proofs.Common.{◌≡◌, length, sym, ap, ◌∙◌, subst}
use Rattle.cu_box.specs.Strided.{IsStridedCopy}
use Rattle.cu_box.specs.StridedSteps.{CanCopy, plane_axes}
use Rattle.cu_box.specs.declared.planes.Plane.{Plane}
use Rattle.cu_box.specs.declared.strides.Axis.{Axis}
use Rattle.cu_box.proofs.planes.copy_going.Goals as goal

abbrev made : Plane → Axis → Axis → Plane
made plane outer inner = record { outer = outer; inner = inner; start = plane.start }

same : (plane : Plane) (outer inner : Axis) → plane.outer ≡ outer → plane.inner ≡ inner → made plane outer inner ≡ plane
same plane outer inner e f = ap (λ (x : Axis). made plane x inner) (sym e) ∙ ap (λ (x : Axis). made plane plane.outer x) (sym f)

pub copy_each_line-requires-clause-can : goal.copy_each_line-requires-clause-can
copy_each_line-requires-clause-can g c =
    subst (λ (p : Plane). CanCopy g.row.N (plane_axes p) p.start c.args.source.now (length c.args.target.now))
    (sym (same c.args.plane c.args.outer c.args.inner c.requires.outer c.requires.inner)) c.requires.can

pub returns : goal.returns
returns g c =
    subst (λ (p : Plane). IsStridedCopy g.row.N c.args.order (plane_axes p) p.start c.args.source.now c.args.target.now c.copy_each_line.new.target)
    (same c.args.plane c.args.outer c.args.inner c.requires.outer c.requires.inner) c.copy_each_line.ensures
