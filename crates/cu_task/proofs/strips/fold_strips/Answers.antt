use Rattle.std.proofs.Common.{◌≡◌, ◌<◌, ◌+◌, ◌/◌, ℕ, Some, length, subst, arith}
use Rattle.cu_fold.specs.Strips.{HasFoldedTo}
use Rattle.cu_kern.proofs.Parts.{element_count}
use Rattle.cu_num.specs.Element.{element_at}
use Rattle.cu_num.specs.declared.layout.Endian.TheVariants.{Little}
use Rattle.cu_shape.specs.Index.{product}
use Rattle.cu_task.proofs.StripBytes.{each_more, is_number, same_number}
use Rattle.cu_task.specs.Strips.{mapped_at, IsNumberOf}
use Rattle.cu_task.proofs.strips.fold_strips.Goals as goal

pub loop-done-preserved : goal.loop-done-preserved
loop-done-preserved c =
    let t = c.args.fold.now.from in
    let dims = c.args.fold.now.dims in
    let done = c.loop-done.done in
    let count = c.min-count.result in
    let part = c.run_kernel_at.new.out in
    let made : (k : ℕ) → k < count → mapped_at c.args.map dims (done + k) ≡ Some (element_at Little t part k) = c.run_kernel_at.ensures.value in
    record {
      within = omega (arith, c.min-count.ensures);
      values = each_more (λ p. IsNumberOf t (mapped_at c.args.map dims p)) done count c.loop-done.invariant.values
          (λ k below. is_number t part k (mapped_at c.args.map dims (done + k)) (made k below));
      folded = λ at is. c.take_strip.ensures at
          (λ k below. same_number (mapped_at c.args.map dims (done + k)) _ _ (is (done + k) (omega arith)) (made k below))
          (c.loop-done.invariant.folded at (λ p below. is p (omega arith)));
    }

pub returns-clause-folded : goal.returns-clause-folded
returns-clause-folded c at is =
    -- so many elements has the region
    let all : length c.args.strip.now / c.size-size.result ≡ product c.args.fold.now.dims = element_count c.args.fold.now.from (product c.args.fold.now.dims) c.size-size.result (length c.args.strip.now) c.size-size.ensures c.requires.strip in
    let ends : c.loop-done.done ≡ product c.args.fold.now.dims = omega (arith, all, c.loop-done.invariant.within, c.loop-done-test.false) in
    subst (λ (n : ℕ). HasFoldedTo c.args.fold.now at n c.loop-done.output) ends
    (c.loop-done.invariant.folded at (λ p below. is p (omega (arith, ends, below))))
