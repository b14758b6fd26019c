use Rattle.std.proofs.Common.{pos, arith, ap, ◌∙◌}
use Rattle.cu_num.specs.Element.{element_bytes}
use Rattle.cu_num.specs.declared.layout.Endian.TheVariants.{Little}
use Rattle.cu_product.specs.Matrices.{numbers}
use Rattle.cu_product.specs.Pairs.{pairs, column}
use Rattle.cu_product.proofs.Pairs.{pairs_product}
use Rattle.cu_product.proofs.paired.multiply_part.Goals as goal

pub returns : goal.returns
returns c j b =
    let t = c.args.t in
    let half = c.args.half in
    let left = numbers t c.args.row.now in
    let right = column t c.args.panel.now in
    c.finish.ensures j (pairs left (right j) half) (pairs (λ q. pos 0) (right j) half) (pairs left (right 8) half) b (c.pair_sums.ensures j (omega arith)) (c.requires.own_sums j (omega arith)) (c.pair_sums.ensures 8 (omega arith))
    ∙ ap (element_bytes Little t) (pairs_product left (right j) (right 8) half c.requires.zeros)
