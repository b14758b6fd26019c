use Rattle.std.proofs.Common.{◌-◌, length, get_or, ap, ◌∙◌, sym, arith}
use Rattle.std.proofs.lemmas.List.{length-set}
use Rattle.cu_grid.proofs.Meeting.{within_of}
use Rattle.cu_grid.proofs.Regions.{written_more}
use Rattle.cu_shape.proofs.Axes.{axis_by_axis_from}
use Rattle.cu_view_box.specs.Piece.{read_at}
use Rattle.cu_view_box.proofs.ReadOver.{read_within}
use Rattle.cu_view_box.proofs.reads.read_from.Goals as goal

pub at-end-requires : goal.at-end-requires
at-end-requires c =
    let v = within_of c.args.region.now.lo c.args.region.now.hi (read_at c.args.piece.now c.args.idx.now) c.requires.of_region in
    let r = v.lo_rank in
    let s = v.hi_rank in
    omega arith

pub bounds-deref-axis : goal.bounds-deref-axis
bounds-deref-axis c =
    (read_within c.args.piece.now c.deref.result.now c.args.idx.now c.args.region.now.lo c.args.region.now.hi c.loop-axis.axis c.deref.ensures.0 c.requires.of_region (omega arith)).below

pub read_on-index-requires-clause-small : goal.read_on-index-requires-clause-small
read_on-index-requires-clause-small c =
    let r = read_within c.args.piece.now c.deref.result.now c.args.idx.now c.args.region.now.lo c.args.region.now.hi c.loop-axis.axis c.deref.ensures.0 c.requires.of_region (omega arith) in
    let h = r.high in
    let e = c.at-end.ensures in
    let f = c.at-end.type_inv in
    omega arith

pub overflow_sub-index : goal.overflow_sub-index
overflow_sub-index c =
    let r = read_within c.args.piece.now c.deref.result.now c.args.idx.now c.args.region.now.lo c.args.region.now.hi c.loop-axis.axis c.deref.ensures.0 c.requires.of_region (omega arith) in
    rw (c.at.ensures, c.read_on-index.ensures) r.low

pub loop-axis-preserved : goal.loop-axis-preserved
loop-axis-preserved c =
    let r = read_within c.args.piece.now c.deref.result.now c.args.idx.now c.args.region.now.lo c.args.region.now.hi c.loop-axis.axis c.deref.ensures.0 c.requires.of_region (omega arith) in
    record {
      rank = ap length c.put.ensures ∙ (length-set c.loop-axis.read c.loop-axis.axis _ ∙ c.loop-axis.invariant.rank);
      done = written_more c.loop-axis.read c.put.new.self (λ k. get_or (read_at c.args.piece.now c.args.idx.now) k 0 - get_or c.args.region.now.lo k 0) c.loop-axis.axis
          (c.read_on-index.result - c.at.result) (let n = c.loop-axis.invariant.rank in omega arith) c.put.ensures
          (rw (c.at.ensures, c.read_on-index.ensures) (ap (λ n. n - get_or c.args.region.now.lo c.loop-axis.axis 0) (sym r.is))) c.loop-axis.invariant.done;
    }

pub returns : goal.returns
returns c =
    let v = within_of c.args.region.now.lo c.args.region.now.hi (read_at c.args.piece.now c.args.idx.now) c.requires.of_region in
    let r = v.lo_rank in
    axis_by_axis_from (λ i j. i - j) c.loop-axis.read (read_at c.args.piece.now c.args.idx.now) c.args.region.now.lo (c.loop-axis.invariant.rank ∙ v.lo_rank) (sym v.lo_rank)
    (λ k b. c.loop-axis.invariant.done k (omega arith))
