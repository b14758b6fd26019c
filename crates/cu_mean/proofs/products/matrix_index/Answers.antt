use Rattle.std.proofs.Common.{◌≡◌, ◌-◌, ◌∷◌, [], length, ap, ◌∙◌, length-append, arith}
use Rattle.cu_shape.specs.Index.{back}
use Rattle.cu_reduce.specs.Products.{batch_of}
use Rattle.cu_mean.proofs.InnerProducts.{length-back, length-batch}
use Rattle.cu_mean.proofs.products.matrix_index.Goals as goal

pub push-requires : goal.push-requires
push-requires c =
    let e : length c.back-read.result ≡ length c.args.shape.now - 2 =
    ap length (c.back-read.ensures ∙ ap (λ s. back s c.args.lead.now) c.batch_of.ensures) ∙ length-back (batch_of c.args.shape.now) c.args.lead.now c.requires.lead ∙ length-batch c.args.shape.now in
    omega (arith, c.rank-short.ensures.short, c.rank-short.ensures.rank)

pub push-requires-2 : goal.push-requires-2
push-requires-2 c =
    let e : length c.back-read.result ≡ length c.args.shape.now - 2 =
    ap length (c.back-read.ensures ∙ ap (λ s. back s c.args.lead.now) c.batch_of.ensures) ∙ length-back (batch_of c.args.shape.now) c.args.lead.now c.requires.lead ∙ length-batch c.args.shape.now in
    let f = ap length c.push.ensures ∙ length-append c.back-read.result (c.args.row ∷ []) in
    omega (arith, c.rank-short.ensures.short, c.rank-short.ensures.rank)
