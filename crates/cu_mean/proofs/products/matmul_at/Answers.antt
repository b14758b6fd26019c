use Rattle.std.proofs.Common.{◌≡◌, ◌-◌, ℤ, length, ap, sym, ◌∙◌, arith}
use Rattle.std.specs.Prelude.{◌+ℤ◌, slice_index}
use Rattle.std.specs.Int.{w128}
use Rattle.std.proofs.lemmas.Int.{to_z-of_z}
use Rattle.cu_num.specs.Wrap.{wrapped}
use Rattle.cu_num.proofs.Wrapped.{wrapped-wrapped}
use Rattle.cu_reduce.specs.Folds.{exact_sum}
use Rattle.cu_mean.specs.Reading.{named_element}
use Rattle.cu_mean.proofs.InnerProducts.{product_on, products_from, products_none, products_front, products_whole}
use Rattle.cu_mean.proofs.InnerPlaces.{left_some, right_some}
use Rattle.cu_mean.proofs.Steps.{sum_of_wrapped}
use Rattle.cu_mean.proofs.products.matmul_at.Goals as goal

pub loop-inner-init : goal.loop-inner-init
loop-inner-init c =
    products_none (named_element c.args.arrays.now 0) c.args.a.now (named_element c.args.arrays.now 1) c.args.b.now c.args.idx.now c.args.t c.size_at-count.result

pub loop-inner-preserved : goal.loop-inner-preserved
loop-inner-preserved c =
    let left = named_element c.args.arrays.now 0 in
    let right = named_element c.args.arrays.now 1 in
    let a = c.args.a.now in
    let b = c.args.b.now in
    let idx = c.args.idx.now in
    let p = c.loop-inner.inner in
    let n = c.size_at-count.result in
    let rest = exact_sum (products_from left a right b idx p n) in
    let x = to_z-of_z w128 c.product_at-product.result (record { sfits = c.product_at-product.type_inv }) ∙ c.product_at-product.ensures a b idx c.left_index-left.ensures c.right_index-right.ensures in
    to_z-of_z w128 c.sum_with-total.result (record { sfits = c.sum_with-total.type_inv })
    ∙ c.sum_with-total.ensures rest c.loop-inner.invariant
    ∙ ap (λ (e : ℤ). wrapped c.args.t (e +ℤ rest)) x
    ∙ sum_of_wrapped c.args.t (product_on left a right b idx (p - 1)) rest c.requires.integer
    ∙ ap (λ xs. wrapped c.args.t (exact_sum xs)) (sym (products_front left a right b idx p n c.loop-inner-test.true c.loop-inner.auto.inner))

pub returns : goal.returns
returns c =
    let left = named_element c.args.arrays.now 0 in
    let right = named_element c.args.arrays.now 1 in
    let last : c.saturating_sub.result ≡ length c.args.a.now - 1 = omega arith in
    let count = c.size_at-count.ensures ∙ ap (slice_index c.args.a.now) last in
    let whole = products_whole left c.args.a.now right c.args.b.now c.args.idx.now c.loop-inner.inner c.size_at-count.result c.loop-inner-test.false count in
    to_z-of_z w128 c.wrap.result (record { sfits = c.wrap.type_inv })
    ∙ c.wrap.ensures.value
    ∙ ap (wrapped c.args.t) c.loop-inner.invariant
    ∙ wrapped-wrapped c.args.t _
    ∙ ap (wrapped c.args.t) whole

pub product_at-product-requires-clause-left : goal.product_at-product-requires-clause-left
product_at-product-requires-clause-left c = let e = ap length c.left_index-left.ensures in let some = left_some c.args.a.now c.args.b.now c.args.idx.now 0 in omega arith

pub product_at-product-requires-clause-right : goal.product_at-product-requires-clause-right
product_at-product-requires-clause-right c = let e = ap length c.right_index-right.ensures in let some = right_some c.args.a.now c.args.b.now c.args.idx.now 0 in omega arith
