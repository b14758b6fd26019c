use Rattle.std.proofs.Common.{◌≡◌, ◌-◌, drop, sym, ap, ◌∙◌, arith, inl, inr}
use Rattle.std.proofs.lemmas.Bool.Decides.{eqb_tells}
use Rattle.std.proofs.lemmas.List.{drop_all}
use Rattle.cu_shape.specs.Index.{product}
use Rattle.cu_shape.proofs.Places.{inside-length, mul_positive}
use Rattle.cu_grid.proofs.Regions.{inside-at}
use Rattle.cu_view_box.proofs.RunBoxes.{at_most, behind_more}
use Rattle.cu_view_box.proofs.runs.axis_of_run.Goals as goal

pub loop-axis-init : goal.loop-axis-init
loop-axis-init c = record {
  low = omega arith;
  behind = ap product (sym (drop_all c.rank-axis.result c.args.dims.now (omega arith)));
  positive = omega arith;
  few = omega arith;
  zeros = λ k b d. absurd (omega arith);
}

pub at-requires : goal.at-requires
at-requires c = let n = inside-length c.args.dims.now c.args.index.now c.requires.inside in omega arith

pub nonzero_div-most : goal.nonzero_div-most
nonzero_div-most c =
    let i = inside-at c.args.dims.now c.args.index.now (c.loop-axis.axis - 1) c.requires.inside (omega arith) in
    let e = c.at-size.ensures in
    omega arith

pub overflow_mul-behind : goal.overflow_mul-behind
overflow_mul-behind c =
    let i = inside-at c.args.dims.now c.args.index.now (c.loop-axis.axis - 1) c.requires.inside (omega arith) in
    let e = c.at-size.ensures in
    let m = at_most c.loop-axis.behind c.args.most c.at-size.result (omega arith) in
    let r = c.ranges.most in
    omega (arith, m, r)

pub loop-axis-preserved : goal.loop-axis-preserved
loop-axis-preserved c =
    let i = inside-at c.args.dims.now c.args.index.now (c.loop-axis.axis - 1) c.requires.inside (omega arith) in
    let e = c.at-size.ensures in
    let z = c.at.ensures in
    record {
      low = omega arith;
      behind = behind_more c.args.dims.now c.loop-axis.axis c.loop-axis.behind c.at-size.result (omega arith) (omega arith) c.loop-axis.invariant.behind c.at-size.ensures;
      positive = mul_positive c.loop-axis.behind c.at-size.result c.loop-axis.invariant.positive (omega arith);
      few = at_most c.loop-axis.behind c.args.most c.at-size.result (omega arith);
      zeros = λ k b d. elim (eqb_tells k (c.loop-axis.axis - 1)) [
        | inl p ↦ rw p.1 (omega arith)
        | inr p ↦ c.loop-axis.invariant.zeros k (let apart = p.1 in omega arith) d
      ];
    }

pub returns-clause-behind : goal.returns-clause-behind
returns-clause-behind c = let low = c.loop-axis.invariant.low in let one : c.loop-axis.axis ≡ 1 = omega arith in c.loop-axis.invariant.behind ∙ ap (λ k. product (drop k c.args.dims.now)) one
