use Rattle.std.proofs.Common.{◌≡◌, ◌+◌, ◌/◌, ap, sym, ◌∙◌, length, arith}
use Rattle.cu_shape.specs.Index.{product, place_of, index_at}
use Rattle.cu_shape.proofs.Places.{place-below, index-place}
use Rattle.cu_op.specs.Kernel.{kernel_value}
use Rattle.cu_kern.specs.Lays.{loaded_at}
use Rattle.cu_kern.proofs.Parts.{element_count}
use Rattle.cu_kern.proofs.run.run_kernel.Goals as goal

-- as many elements as the result has
all : (c : goal.After-slice_known-4-1) → length c.args.out.now / c.size.result ≡ product c.args.dims.now
all c = element_count c.args.t (product c.args.dims.now) c.size.result (length c.args.out.now) c.size.ensures c.requires.out

pub returns-clause-value : goal.returns-clause-value
returns-clause-value c idx inside =
    let p = place_of c.args.dims.now idx in
    let below = place-below c.args.dims.now idx inside in
    let is = all c in
    let begin : p ≡ 0 + p = omega arith in
    ap (λ i. kernel_value c.args.kernel.now.code.items (loaded_at c.args.lays.now.items c.args.ins.now i)) (sym (index-place c.args.dims.now idx inside) ∙ ap (index_at c.args.dims.now) begin)
    ∙ c.run_kernel_at.ensures.value p (omega (arith, is, below))

pub returns-clause-bytes : goal.returns-clause-bytes
returns-clause-bytes c p h = let is = all c in c.run_kernel_at.ensures.bytes p (omega (arith, is, h))
