use Rattle.std.proofs.Common.{◌∷◌, ◌++◌, [], length, arith, ap, sym, ◌∙◌}
use Rattle.cu_num.specs.Element.{element_bytes}
use Rattle.cu_num.specs.declared.layout.Endian.TheVariants.{Little}
use Rattle.cu_shape.specs.Index.{product, place_of}
use Rattle.cu_product.specs.Block.{product_sizes, left_number, right_number, inner_product}
use Rattle.cu_product.proofs.Batches.{place_in_block}
use Rattle.cu_product.proofs.Parts.{element_inside, size_positive}
use Rattle.cu_product.proofs.block.mul_block.Goals as goal

pub returns-then-is_empty : goal.returns-then-is_empty
returns-then-is_empty c = λ b i j inside x y.
    let dims = c.args.dims.now in
    let lies = element_inside c.args.t (place_of (product_sizes dims) (b ++ i ∷ j ∷ [])) (product (product_sizes dims)) (length c.args.out.now) c.requires.out (place_in_block dims.batch b dims.m dims.n i j inside x y) in
    let some = size_positive c.args.t in
    absurd (grind arith)

pub returns-then-dims-eq0 : goal.returns-then-dims-eq0
returns-then-dims-eq0 c = λ b i j inside x y.
    let dims = c.args.dims.now in
    let at = place_of (product_sizes dims) (b ++ i ∷ j ∷ []) in
    let lies = element_inside c.args.t at (product (product_sizes dims)) (length c.clear.new.out) (c.clear.auto.out ∙ c.requires.out) (place_in_block dims.batch b dims.m dims.n i j inside x y) in
    c.clear.ensures at lies
    ∙ ap (λ k. element_bytes Little c.args.t (inner_product (left_number c.args.left_t dims c.args.left.now b i) (λ q. right_number c.args.right_t dims c.args.right.now b q j) k)) (sym c.if-dims-eq0.true)
