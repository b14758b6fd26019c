use Rattle.std.proofs.Common.{◌≡◌, ◌+◌, length, get_or, min, max, ap, ◌∙◌, sym, refl, arith}
use Rattle.std.proofs.lemmas.List.{length-set}
use Rattle.cu_grid.proofs.Regions.{written_more}
use Rattle.cu_view_box.specs.Piece.{read_at}
use Rattle.cu_view_box.proofs.ReadOver.{read_inside, hull_holds, hull_region}
use Rattle.cu_view_box.proofs.reads.read_hull.Goals as goal

pub bounds-deref-axis : goal.bounds-deref-axis
bounds-deref-axis c =
    (read_inside c.args.piece.now c.deref.result.now c.args.part.now.lo c.args.source.now c.loop-axis.axis c.deref.ensures.0 (c.requires.inside c.args.part.now.lo c.requires.some) (omega arith)).0.below

pub read_on-first-requires-clause-small : goal.read_on-first-requires-clause-small
read_on-first-requires-clause-small c =
    let r = read_inside c.args.piece.now c.deref.result.now c.args.part.now.lo c.args.source.now c.loop-axis.axis c.deref.ensures.0 (c.requires.inside c.args.part.now.lo c.requires.some) (omega arith) in
    let h = r.1 in
    let e = c.at-size.ensures in
    let f = c.at-size.type_inv in
    omega arith

pub read_on-end-requires-clause-small : goal.read_on-end-requires-clause-small
read_on-end-requires-clause-small c =
    let r = read_inside c.args.piece.now c.deref.result.now c.last_index-last.result c.args.source.now c.loop-axis.axis c.deref.ensures.0
    (c.requires.inside c.last_index-last.result c.last_index-last.ensures.within) (omega arith) in
    let h = r.1 in
    let e = c.at-size.ensures in
    let f = c.at-size.type_inv in
    omega arith

pub overflow_add-max : goal.overflow_add-max
overflow_add-max c =
    let a = read_inside c.args.piece.now c.deref.result.now c.args.part.now.lo c.args.source.now c.loop-axis.axis c.deref.ensures.0 (c.requires.inside c.args.part.now.lo c.requires.some) (omega arith) in
    let z = read_inside c.args.piece.now c.deref.result.now c.last_index-last.result c.args.source.now c.loop-axis.axis c.deref.ensures.0
    (c.requires.inside c.last_index-last.result c.last_index-last.ensures.within) (omega arith) in
    let a1 = a.1 in
    let z1 = z.1 in
    let e = c.at-size.ensures in
    let f = c.at-size.type_inv in
    let p = c.read_on-first.ensures in
    let q = c.read_on-end.ensures in
    omega arith

pub loop-axis-preserved : goal.loop-axis-preserved
loop-axis-preserved c =
    let a = read_inside c.args.piece.now c.deref.result.now c.args.part.now.lo c.args.source.now c.loop-axis.axis c.deref.ensures.0 (c.requires.inside c.args.part.now.lo c.requires.some) (omega arith) in
    let z = read_inside c.args.piece.now c.deref.result.now c.last_index-last.result c.args.source.now c.loop-axis.axis c.deref.ensures.0
    (c.requires.inside c.last_index-last.result c.last_index-last.ensures.within) (omega arith) in
    let a1 = a.1 in
    let z1 = z.1 in
    let first : get_or (read_at c.args.piece.now c.args.part.now.lo) c.loop-axis.axis 0 ≡ c.read_on-first.result = a.0.is ∙ sym c.read_on-first.ensures in
    let last : get_or (read_at c.args.piece.now c.last_index-last.result) c.loop-axis.axis 0 ≡ c.read_on-end.result = z.0.is ∙ sym c.read_on-end.ensures in
    let e = c.at-size.ensures in
    let p = c.read_on-first.ensures in
    let q = c.read_on-end.ensures in
    record {
      lo_rank = ap length c.put.ensures ∙ (length-set c.loop-axis.hull.lo c.loop-axis.axis _ ∙ c.loop-axis.invariant.lo_rank);
      hi_rank = ap length c.put-in-loop-axis.ensures ∙ (length-set c.loop-axis.hull.hi c.loop-axis.axis _ ∙ c.loop-axis.invariant.hi_rank);
      lo = written_more c.loop-axis.hull.lo c.put.new.self (λ k. min (get_or (read_at c.args.piece.now c.args.part.now.lo) k 0) (get_or (read_at c.args.piece.now c.last_index-last.result) k 0))
          c.loop-axis.axis c.min.result (let n = c.loop-axis.invariant.lo_rank in omega arith) c.put.ensures
          (c.min.ensures ∙ rw (first, last) refl) c.loop-axis.invariant.lo;
      hi = written_more c.loop-axis.hull.hi c.put-in-loop-axis.new.self
          (λ k. max (get_or (read_at c.args.piece.now c.args.part.now.lo) k 0) (get_or (read_at c.args.piece.now c.last_index-last.result) k 0) + 1)
          c.loop-axis.axis c.min-in-loop-axis.result (let n = c.loop-axis.invariant.hi_rank in omega arith) c.put-in-loop-axis.ensures
          (c.min-in-loop-axis.ensures ∙ rw (first, last) (let m = c.max.ensures in omega arith)) c.loop-axis.invariant.hi;
    }

pub returns-clause-holds : goal.returns-clause-holds
returns-clause-holds c = λ idx w.
    hull_holds c.args.piece.now c.args.part.now.lo c.args.part.now.hi c.last_index-last.result c.args.source.now c.loop-axis.hull.lo c.loop-axis.hull.hi idx c.loop-axis.axis
    c.requires.ways c.requires.some (c.requires.of_piece c.args.part.now.lo c.requires.some) (c.requires.inside c.args.part.now.lo c.requires.some) (omega arith)
    c.last_index-last.ensures.last c.loop-axis.invariant.lo_rank c.loop-axis.invariant.hi_rank c.loop-axis.invariant.lo c.loop-axis.invariant.hi w

pub returns-clause-region : goal.returns-clause-region
returns-clause-region c =
    hull_region c.args.piece.now c.args.part.now.lo c.last_index-last.result c.args.source.now c.loop-axis.hull.lo c.loop-axis.hull.hi c.loop-axis.axis
    (c.requires.inside c.args.part.now.lo c.requires.some) (c.requires.inside c.last_index-last.result c.last_index-last.ensures.within) (omega arith)
    c.loop-axis.invariant.lo_rank c.loop-axis.invariant.hi_rank c.loop-axis.invariant.lo c.loop-axis.invariant.hi
