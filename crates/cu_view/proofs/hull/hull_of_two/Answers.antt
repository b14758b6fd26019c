use Rattle.std.proofs.Common.{ℕ, List, length, get_or, min, max, ◌∙◌, ap, arith}
use Rattle.std.proofs.lemmas.List.{length-set}
use Rattle.cu_view.proofs.Ranges.{ends_of}
use Rattle.cu_view.proofs.Hulls.{hull_region, hull_first, hull_second, put_more}
use Rattle.cu_view.proofs.hull.hull_of_two.Goals as goal

pub at-requires : goal.at-requires
at-requires c =
    let a = ends_of c.args.shape.now c.args.a.now.lo c.args.a.now.hi c.requires.a in
    let b = ends_of c.args.shape.now c.args.b.now.lo c.args.b.now.hi c.requires.b in
    let a0 = a.lo_rank in
    let a1 = a.hi_rank in
    let b0 = b.lo_rank in
    let b1 = b.hi_rank in
    omega arith

pub at-requires-in-loop-axis : goal.at-requires-in-loop-axis
at-requires-in-loop-axis c =
    let a = ends_of c.args.shape.now c.args.a.now.lo c.args.a.now.hi c.requires.a in
    let b = ends_of c.args.shape.now c.args.b.now.lo c.args.b.now.hi c.requires.b in
    let a0 = a.lo_rank in
    let a1 = a.hi_rank in
    let b0 = b.lo_rank in
    let b1 = b.hi_rank in
    omega arith

pub put-requires : goal.put-requires
put-requires c =
    let a = ends_of c.args.shape.now c.args.a.now.lo c.args.a.now.hi c.requires.a in
    let b = ends_of c.args.shape.now c.args.b.now.lo c.args.b.now.hi c.requires.b in
    let a0 = a.lo_rank in
    let a1 = a.hi_rank in
    let b0 = b.lo_rank in
    let b1 = b.hi_rank in
    omega arith

pub at-requires-in-loop-axis-2 : goal.at-requires-in-loop-axis-2
at-requires-in-loop-axis-2 c =
    let a = ends_of c.args.shape.now c.args.a.now.lo c.args.a.now.hi c.requires.a in
    let b = ends_of c.args.shape.now c.args.b.now.lo c.args.b.now.hi c.requires.b in
    let a0 = a.lo_rank in
    let a1 = a.hi_rank in
    let b0 = b.lo_rank in
    let b1 = b.hi_rank in
    omega arith

pub at-requires-in-loop-axis-3 : goal.at-requires-in-loop-axis-3
at-requires-in-loop-axis-3 c =
    let a = ends_of c.args.shape.now c.args.a.now.lo c.args.a.now.hi c.requires.a in
    let b = ends_of c.args.shape.now c.args.b.now.lo c.args.b.now.hi c.requires.b in
    let a0 = a.lo_rank in
    let a1 = a.hi_rank in
    let b0 = b.lo_rank in
    let b1 = b.hi_rank in
    omega arith

pub put-requires-in-loop-axis : goal.put-requires-in-loop-axis
put-requires-in-loop-axis c =
    let a = ends_of c.args.shape.now c.args.a.now.lo c.args.a.now.hi c.requires.a in
    let b = ends_of c.args.shape.now c.args.b.now.lo c.args.b.now.hi c.requires.b in
    let a0 = a.lo_rank in
    let a1 = a.hi_rank in
    let b0 = b.lo_rank in
    let b1 = b.hi_rank in
    omega arith

pub loop-axis-preserved : goal.loop-axis-preserved
loop-axis-preserved c =
    let a = ends_of c.args.shape.now c.args.a.now.lo c.args.a.now.hi c.requires.a in
    let a0 = a.lo_rank in
    let a1 = a.hi_rank in
    let p = c.loop-axis.invariant.lo_rank in
    let q = c.loop-axis.invariant.hi_rank in
    let x0 = c.at.ensures in
    let x1 = c.at-in-loop-axis.ensures in
    let x2 = c.at-in-loop-axis-2.ensures in
    let x3 = c.at-in-loop-axis-3.ensures in
    let m = c.min.ensures in
    let n = c.max.ensures in
    record {
      lo_rank = ap (λ (xs : List ℕ). length xs) c.put.ensures ∙ length-set c.loop-axis.hull.lo c.loop-axis.axis c.min.result ∙ c.loop-axis.invariant.lo_rank;
      hi_rank = ap (λ (xs : List ℕ). length xs) c.put-in-loop-axis.ensures ∙ length-set c.loop-axis.hull.hi c.loop-axis.axis c.max.result ∙ c.loop-axis.invariant.hi_rank;
      begins = put_more c.loop-axis.hull.lo c.put.new.self (λ k. min (get_or c.args.a.now.lo k 0) (get_or c.args.b.now.lo k 0)) c.loop-axis.axis c.min.result (omega arith) c.put.ensures (omega arith) c.loop-axis.invariant.begins;
      ends = put_more c.loop-axis.hull.hi c.put-in-loop-axis.new.self (λ k. max (get_or c.args.a.now.hi k 0) (get_or c.args.b.now.hi k 0)) c.loop-axis.axis c.max.result (omega arith) c.put-in-loop-axis.ensures (omega arith) c.loop-axis.invariant.ends;
    }

pub returns-clause-region : goal.returns-clause-region
returns-clause-region c =
    let a = ends_of c.args.shape.now c.args.a.now.lo c.args.a.now.hi c.requires.a in
    let a0 = a.lo_rank in
    hull_region c.args.shape.now c.args.a.now.lo c.args.a.now.hi c.args.b.now.lo c.args.b.now.hi c.loop-axis.hull.lo c.loop-axis.hull.hi c.requires.a c.requires.b c.loop-axis.invariant.lo_rank c.loop-axis.invariant.hi_rank
    (λ k l. c.loop-axis.invariant.begins k (omega arith)) (λ k l. c.loop-axis.invariant.ends k (omega arith))

pub returns-clause-first : goal.returns-clause-first
returns-clause-first c = λ idx w.
    hull_first c.args.shape.now c.args.a.now.lo c.args.a.now.hi c.args.b.now.lo c.args.b.now.hi c.loop-axis.hull.lo c.loop-axis.hull.hi idx c.requires.a c.requires.b c.loop-axis.invariant.lo_rank c.loop-axis.invariant.hi_rank
    (λ k l. c.loop-axis.invariant.begins k (omega arith)) (λ k l. c.loop-axis.invariant.ends k (omega arith)) w

pub returns-clause-second : goal.returns-clause-second
returns-clause-second c = λ idx w.
    hull_second c.args.shape.now c.args.a.now.lo c.args.a.now.hi c.args.b.now.lo c.args.b.now.hi c.loop-axis.hull.lo c.loop-axis.hull.hi idx c.requires.a c.requires.b c.loop-axis.invariant.lo_rank c.loop-axis.invariant.hi_rank
    (λ k l. c.loop-axis.invariant.begins k (omega arith)) (λ k l. c.loop-axis.invariant.ends k (omega arith)) w
