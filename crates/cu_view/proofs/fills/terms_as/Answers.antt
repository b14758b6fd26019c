use Rattle.std.proofs.Common.{◌≡◌, ◌<◌, ◌/◌, ◌+◌, pos, ◌+ℤ◌, ◌*ℤ◌, rules, ℕ, ℤ, length, sym, to_z, of_z, w64, ap, ◌∙◌, subst, arith}
use Rattle.std.specs.Int.{w128}
use Rattle.std.proofs.lemmas.Int.{to_z-of_z}
use Rattle.cu_num.specs.Dtype.{size_of}
use Rattle.cu_num.specs.Element.{element_bytes}
use Rattle.cu_num.specs.declared.layout.Endian.TheVariants.{Little}
use Rattle.cu_num.proofs.ElementBytes.{written_at}
use Rattle.cu_view.proofs.Laid.{laid_more, count_fits}
use Rattle.cu_view.proofs.fills.terms_as.Goals as goal

pub loop-p-preserved : goal.loop-p-preserved
loop-p-preserved c =
    let whole : c.loop-p.p < length c.args.output.now / c.size.result = omega arith in
    let below : c.loop-p.p < length c.args.output.now / size_of c.args.dtype = subst (λ (s : ℕ). c.loop-p.p < length c.args.output.now / s) c.size.ensures whole in
    let is : c.term.result ≡ c.args.start +ℤ pos (c.args.first + c.loop-p.p) *ℤ c.args.step = search rules in
    let same = ap (λ (z : ℤ). z +ℤ pos (c.args.first + c.loop-p.p) *ℤ to_z w64 (of_z w64 c.args.step)) (to_z-of_z w64 c.args.start c.ranges.start)
    ∙ ap (λ (z : ℤ). c.args.start +ℤ pos (c.args.first + c.loop-p.p) *ℤ z) (to_z-of_z w64 c.args.step c.ranges.step) in
    laid_more c.args.dtype _ c.loop-p.p c.term.result c.args.output.now c.loop-p.output c.save.new.bytes (count_fits c.args.dtype (length c.args.output.now) c.loop-p.p below) (is ∙ sym same)
    (c.save.ensures ∙ ap (λ (z : ℤ). written_at c.args.dtype c.loop-p.output c.loop-p.p (element_bytes Little c.args.dtype z)) (to_z-of_z w128 c.term.result (record { sfits = c.term.type_inv })))
    c.loop-p.invariant
