use Rattle.std.proofs.Common.{◌≡◌, ◌≢◌, ◌+◌, ◌+ℤ◌, ℕ, ℤ, suc, refl, sym, subst, ap, ◌∙◌, arith, below_more, rules, to_z, of_z}
use Rattle.std.specs.Int.{w128}
use Rattle.std.proofs.lemmas.Int.{to_z-of_z}
use Rattle.cu_num.specs.Dtype.{InRange}
use Rattle.cu_num.specs.Wrap.{wrapped}
use Rattle.cu_num.specs.Element.{element_at}
use Rattle.cu_num.specs.declared.layout.Endian.TheVariants.{Little}
use Rattle.cu_reduce.specs.Prefix.{sum_below}
use Rattle.cu_scan.proofs.Buffers.{start_sum, more_summed, bytes_same}
use Rattle.cu_scan.proofs.rows.scan_run.Goals as goal

pub loop-at-init : goal.loop-at-init
loop-at-init c =
    let acc = c.args.acc in
    let first = to_z w128 (of_z w128 c.args.first) in
    let inside : InRange acc first = subst (λ z. InRange acc z) (sym
    (to_z-of_z w128 c.args.first c.ranges.first)) c.requires.first in
    record {
      same_length = refl;
      range = inside;
      so_far = start_sum acc first inside;
      done = λ j b. absurd (omega arith);
    }

pub loop-at-preserved : goal.loop-at-preserved
loop-at-preserved c =
    let acc = c.args.acc in
    let first = to_z w128 (of_z w128 c.args.first) in
    let at = c.loop-at.at in
    let f : ℕ → ℤ = λ k. element_at Little c.args.t c.args.input.now k in
    let inv = c.loop-at.invariant in
    let sum = to_z w128 c.loop-at.sum-bits in
    let own = c.put_sum-sum.result in
    let kept : to_z w128 (of_z w128 own) ≡ own = to_z-of_z w128 own (search rules) in
    let next : suc at ≡ at + 1 = omega arith in
    let summed : wrapped acc (sum +ℤ f at)
    ≡ wrapped acc (first +ℤ sum_below f (suc at)) = more_summed acc first
    (sum_below f at) sum (f at) c.requires.acc inv.so_far in
    record {
      same_length = c.put_sum-sum.ensures.same_length ∙ inv.same_length;
      range = subst (λ z. InRange acc z) (sym kept) c.put_sum-sum.ensures.range;
      so_far = kept ∙ c.put_sum-sum.ensures.value ∙ summed
          ∙ ap (λ n. wrapped acc (first +ℤ sum_below f n)) next;
      done = below_more _ _
          (λ j b. let apart : j ≢ at = omega arith in c.put_sum-sum.ensures.others j apart
          ∙ inv.done j b)
          (c.put_sum-sum.ensures.number ∙ bytes_same acc (sum +ℤ f at) (first
          +ℤ sum_below f (suc at)) summed);
    }
