use Rattle.std.proofs.Common.{ℕ, ◌∙◌, ap, sym}
use Rattle.cu_box.specs.declared.strides.Axis.{Axis}
use Rattle.cu_box.specs.declared.strides.Stride.{Stride}
use Rattle.cu_box.proofs.planes.copy_reversed_rows.Goals as goal

abbrev axis_of : ℕ → Stride → Stride → Axis
axis_of count from to = record { count = count; from = from; to = to }

pub copy_going-requires-clause-inner : goal.copy_going-requires-clause-inner
copy_going-requires-clause-inner g c =
    let inner = c.args.plane.inner in
    let next = c.rising-next.result in
    ap (λ (n : ℕ). axis_of n inner.from inner.to) (sym c.rising-next.ensures.count)
    ∙ ap (λ (from : Stride). axis_of next.count from inner.to) (c.requires.dense.read ∙ sym c.rising-next.ensures.from)
    ∙ ap (λ (to : Stride). axis_of next.count next.from to) (c.requires.dense.written ∙ sym c.rising-next.ensures.to)
