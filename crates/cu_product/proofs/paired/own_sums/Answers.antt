use Rattle.std.proofs.Common.{◌≡◌, ◌*◌, pos, length, rules, ap, refl, ◌∙◌, ℕ, ◌<◌}
use Rattle.cu_num.specs.Dtype.{size_of}
use Rattle.cu_num.specs.Element.{element_bytes}
use Rattle.cu_num.specs.declared.layout.Endian.TheVariants.{Little}
use Rattle.cu_num.proofs.Wrapped.{wrapped_in_range}
use Rattle.cu_reduce.proofs.Folding.{zero_in_range}
use Rattle.cu_product.specs.Matrices.{numbers}
use Rattle.cu_product.specs.Pairs.{column}
use Rattle.cu_product.proofs.Pairs.{pairs_same}
use Rattle.cu_product.proofs.Parts.{element_inside}
use Rattle.cu_product.proofs.Sums.{read_number}
use Rattle.cu_product.proofs.paired.own_sums.Goals as goal

pub returns : goal.returns
returns c j b =
    let t = c.args.t in
    let half = c.args.half in
    let row = c.clear.new.out in
    let right = column t c.args.panel.now j in
    let long : length row ≡ 2 * half * size_of t = search rules in
    let none : (q : ℕ) → q < 2 * half → numbers t row q ≡ pos 0 = λ q l.
    read_number t row q (pos 0) (c.clear.ensures q (element_inside t q (2 * half) (length row) long l)) ∙ wrapped_in_range t (pos 0) (zero_in_range t) in
    c.pair_sums.ensures j b ∙ ap (element_bytes Little t) (pairs_same (numbers t row) (λ q. pos 0) right right half (λ q l. (none q l, refl)))
