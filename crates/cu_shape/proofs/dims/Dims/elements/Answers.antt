use Rattle.std.proofs.Common.{◌≡◌, sym, arith, refl}
use Rattle.cu_shape.specs.Index.{product}
use Rattle.cu_shape.proofs.Places.{product_zero}
use Rattle.cu_shape.proofs.dims.Dims.elements.Goals as goal

pub returns-then-contains-clause-counted : goal.returns-then-contains-clause-counted
returns-then-contains-clause-counted c =
    let e : product c.args.self.now ≡ 0 = rw (← c.self.view_is) (product_zero _ (sym c.if-contains.ensures.value)) in
    (λ _. omega arith, λ _. refl)

pub returns-then-contains-clause-count : goal.returns-then-contains-clause-count
returns-then-contains-clause-count c = sym (rw (← c.self.view_is) (product_zero _ (sym c.if-contains.ensures.value)))
