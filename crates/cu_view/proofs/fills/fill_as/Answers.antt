use Rattle.std.proofs.Common.{◌<◌, ◌/◌, ℕ, ℤ, length, sym, ap, ◌∙◌, subst, arith}
use Rattle.std.specs.Int.{w128}
use Rattle.std.proofs.lemmas.Int.{to_z-of_z}
use Rattle.cu_num.specs.Dtype.{size_of}
use Rattle.cu_num.specs.Element.{element_bytes}
use Rattle.cu_num.specs.declared.layout.Endian.TheVariants.{Little}
use Rattle.cu_num.proofs.ElementBytes.{written_at}
use Rattle.cu_view.proofs.Laid.{laid_more, count_fits}
use Rattle.cu_view.proofs.fills.fill_as.Goals as goal

pub loop-p-preserved : goal.loop-p-preserved
loop-p-preserved c =
    let whole : c.loop-p.p < length c.args.output.now / c.size.result = omega arith in
    let below : c.loop-p.p < length c.args.output.now / size_of c.args.dtype = subst (λ (s : ℕ). c.loop-p.p < length c.args.output.now / s) c.size.ensures whole in
    laid_more c.args.dtype _ c.loop-p.p c.args.number c.args.output.now c.loop-p.output c.save.new.bytes (count_fits c.args.dtype (length c.args.output.now) c.loop-p.p below) (sym (to_z-of_z w128 c.args.number c.ranges.number))
    (c.save.ensures ∙ ap (λ (z : ℤ). written_at c.args.dtype c.loop-p.output c.loop-p.p (element_bytes Little c.args.dtype z)) (to_z-of_z w128 c.args.number c.ranges.number))
    c.loop-p.invariant
