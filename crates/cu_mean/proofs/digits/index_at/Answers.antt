use Rattle.std.proofs.Common.{◌≡◌, ◌≤◌, ◌<◌, ◌-◌, ◌∙◌, ap, arith}
use Rattle.std.specs.Prelude.{slice_set}
use Rattle.std.proofs.Math.Nat.{mod-eq_of_lt}
use Rattle.cu_shape.specs.Index.{product, index_at}
use Rattle.cu_shape.proofs.Places.{index_step, index-inside, size_positive}
use Rattle.cu_mean.proofs.digits.index_at.Goals as goal

pub digit-at-requires : goal.digit-at-requires
digit-at-requires c =
    let some : 0 < product c.args.dims.now = let p = c.requires in omega arith in
    let s = size_positive c.args.dims.now (c.loop-axis.axis - 1) some (omega arith) in
    let e = c.at.ensures in
    omega arith

pub loop-axis-preserved : goal.loop-axis-preserved
loop-axis-preserved c =
    let s = index_step c.args.dims.now c.loop-axis.index (c.loop-axis.axis - 1) c.loop-axis.axis c.loop-axis.rest c.at.result c.args.place
    (omega arith) (omega arith) (omega arith) c.loop-axis.invariant.digits c.loop-axis.invariant.left c.at.ensures in
    record {
      digits = c.put.ensures ∙ ap (λ n. slice_set c.loop-axis.index (c.loop-axis.axis - 1) n) c.digit-at.ensures.digit ∙ s.0;
      left = c.digit-at.ensures.left ∙ s.1;
    }

all_digits : (c : goal.After-loop-axis) → c.loop-axis.axis ≤ 0 → c.loop-axis.index ≡ index_at c.args.dims.now c.args.place
all_digits c h =
    let e : c.loop-axis.axis ≡ 0 = omega arith in
    let w = rw e at c.loop-axis.invariant.digits in
    w ∙ ap (index_at c.args.dims.now) (mod-eq_of_lt c.requires)

pub returns-clause-index : goal.returns-clause-index
returns-clause-index c = all_digits c c.loop-axis-test.false

pub returns-clause-inside : goal.returns-clause-inside
returns-clause-inside c = rw (all_digits c c.loop-axis-test.false) (index-inside c.args.dims.now c.args.place c.requires)
