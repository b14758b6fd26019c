use Rattle.std.proofs.Common.{◌<◌, ◌+◌, ◌*◌, ◌^◌, min, length, get_or, arith, refl, ◌∙◌, ap}
use Rattle.std.proofs.lemmas.List.{length-set}
use Rattle.cu_grid.proofs.Regions.{coordinate-length, bounded, region_inside, lo_from, hi_from, written_more}
use Rattle.cu_grid.proofs.region.region_of_chunk.Goals as goal

pub at-requires : goal.at-requires
at-requires c = let l = coordinate-length _ _ c.requires.grid c.requires.coordinate in let r = c.requires.grid.ranks in omega arith

pub put-requires : goal.put-requires
put-requires c = let l = coordinate-length _ _ c.requires.grid c.requires.coordinate in let r = c.loop-axis.invariant.lo_rank in omega arith

pub overflow_mul-first : goal.overflow_mul-first
overflow_mul-first c =
    let b = bounded _ c.args.coord.now c.loop-axis.axis c.requires.grid c.requires.coordinate (omega arith) in
    let s = b.starts in
    let t = b.shape_small in
    let p : c.at.result * c.at-size.result < 2 ^ 64 = rw (c.at.ensures, c.at-size.ensures) (omega arith) in
    omega arith

pub overflow_add-first : goal.overflow_add-first
overflow_add-first c =
    let b = bounded _ c.args.coord.now c.loop-axis.axis c.requires.grid c.requires.coordinate (omega arith) in
    let s = b.starts in
    let t = b.shape_small in
    let u = b.chunk_small in
    let p : c.at.result * c.at-size.result + c.at-size.result < 2 ^ 64 = rw (c.at.ensures, c.at-size.ensures) (omega arith) in
    omega arith

pub loop-axis-preserved : goal.loop-axis-preserved
loop-axis-preserved c =
    let i = c.loop-axis.invariant in
    let l = coordinate-length _ _ c.requires.grid c.requires.coordinate in
    let lr = i.lo_rank in
    let hr = i.hi_rank in
    record {
      lo_rank = ap length c.put.ensures ∙ (length-set c.loop-axis.lo c.loop-axis.axis _ ∙ i.lo_rank);
      hi_rank = ap length c.put-in-loop-axis.ensures ∙ (length-set c.loop-axis.hi c.loop-axis.axis _ ∙ i.hi_rank);
      lo_done = written_more c.loop-axis.lo c.put.new.self (λ k. get_or c.args.coord.now k 0 * get_or c.args.chunk.now k 0) c.loop-axis.axis (c.at.result * c.at-size.result) (omega arith) c.put.ensures (rw (c.at.ensures, c.at-size.ensures) refl) i.lo_done;
      hi_done = written_more c.loop-axis.hi c.put-in-loop-axis.new.self (λ k. min ((get_or c.args.coord.now k 0 + 1) * get_or c.args.chunk.now k 0) (get_or c.args.shape.now k 0)) c.loop-axis.axis c.min.result (omega arith) c.put-in-loop-axis.ensures (rw (c.min.ensures, c.at.ensures, c.at-size.ensures, c.at-in-loop-axis.ensures) (ap (λ n. min n (get_or c.args.shape.now c.loop-axis.axis 0)) (omega arith))) i.hi_done;
    }

pub returns-clause-lo : goal.returns-clause-lo
returns-clause-lo c =
    let l = coordinate-length _ _ c.requires.grid c.requires.coordinate in
    let r = c.requires.grid.ranks in
    lo_from c.loop-axis.lo c.args.chunk.now c.args.coord.now c.loop-axis.invariant.lo_rank (omega arith) (λ k b. c.loop-axis.invariant.lo_done k (omega arith))

pub returns-clause-hi : goal.returns-clause-hi
returns-clause-hi c =
    let l = coordinate-length _ _ c.requires.grid c.requires.coordinate in
    let r = c.requires.grid.ranks in
    hi_from c.loop-axis.hi c.args.shape.now c.args.chunk.now c.args.coord.now c.loop-axis.invariant.hi_rank (omega arith) l (λ k b. c.loop-axis.invariant.hi_done k (omega arith))

pub returns-clause-inside : goal.returns-clause-inside
returns-clause-inside c =
    let l = coordinate-length _ _ c.requires.grid c.requires.coordinate in
    let r = c.requires.grid.ranks in
    let lo = lo_from c.loop-axis.lo c.args.chunk.now c.args.coord.now c.loop-axis.invariant.lo_rank (omega arith) (λ k b. c.loop-axis.invariant.lo_done k (omega arith)) in
    let hi = hi_from c.loop-axis.hi c.args.shape.now c.args.chunk.now c.args.coord.now c.loop-axis.invariant.hi_rank (omega arith) l (λ k b. c.loop-axis.invariant.hi_done k (omega arith)) in
    rw (lo, hi) (region_inside c.args.shape.now c.args.chunk.now c.args.coord.now c.requires.grid.positive r c.requires.coordinate)
