use Rattle.std.proofs.Common.{◌≡◌, ◌+◌, ◌*◌, ℕ, length, get_or, ap, ◌∙◌, arith, rules, below_more}
use Rattle.std.specs.Prelude.{IsTrue}
use Rattle.cu_grid.proofs.Regions.{bounded}
use Rattle.cu_codec.proofs.OneChunk.{one_chunk_at, one_chunk_from, sides_of}
use Rattle.cu_codec.proofs.parts.is_one_chunk.Goals as goal

pub at-requires : goal.at-requires
at-requires c = let s = sides_of c.args.grid.now c.args.coord.now c.args.region.now.lo c.args.region.now.hi c.chunk-chunk.ensures.kept c.requires.coordinate c.requires.region in let e = s.coord_rank in let n = c.rank-axis-end.ensures.rank ∙ ap length c.chunk-chunk.ensures.value in omega arith

pub at-requires-in-loop-axis : goal.at-requires-in-loop-axis
at-requires-in-loop-axis c = let s = sides_of c.args.grid.now c.args.coord.now c.args.region.now.lo c.args.region.now.hi c.chunk-chunk.ensures.kept c.requires.coordinate c.requires.region in let e = s.lo_rank in let n = c.rank-axis-end.ensures.rank ∙ ap length c.chunk-chunk.ensures.value in omega arith

pub at-requires-in-loop-axis-2 : goal.at-requires-in-loop-axis-2
at-requires-in-loop-axis-2 c = let s = sides_of c.args.grid.now c.args.coord.now c.args.region.now.lo c.args.region.now.hi c.chunk-chunk.ensures.kept c.requires.coordinate c.requires.region in let e = s.hi_rank in let n = c.rank-axis-end.ensures.rank ∙ ap length c.chunk-chunk.ensures.value in omega arith

pub is_one_on-requires : goal.is_one_on-requires
is_one_on-requires c =
    let ok = c.chunk-chunk.ensures.kept in
    let r = ok.ranks in
    let n = c.rank-axis-end.ensures.rank ∙ ap length c.chunk-chunk.ensures.value in
    let b = bounded c.args.grid.now c.args.coord.now c.loop-axis.axis ok c.requires.coordinate (omega arith) in
    let s = b.starts in
    let t = b.shape_small in
    let u = b.chunk_small in
    let size : c.at-size.result ≡ get_or c.args.grid.now.chunk c.loop-axis.axis 0 = c.at-size.ensures ∙ ap (λ x. get_or x c.loop-axis.axis 0) c.chunk-chunk.ensures.value in
    rw (c.at.ensures, size) (omega arith)

pub loop-axis-preserved : goal.loop-axis-preserved
loop-axis-preserved c =
    let one : (c.at-in-loop-axis.result ≡ c.at.result * c.at-size.result) × (c.at-in-loop-axis-2.result ≡ c.at-in-loop-axis.result + c.at-size.result) = c.is_one_on.ensures.0 (search rules) in
    let size : c.at-size.result ≡ get_or c.args.grid.now.chunk c.loop-axis.axis 0 = c.at-size.ensures ∙ ap (λ x. get_or x c.loop-axis.axis 0) c.chunk-chunk.ensures.value in
    let here = rw (c.at-in-loop-axis-2.ensures, c.at-in-loop-axis.ensures, c.at.ensures, size) at one in
    below_more (λ (k : ℕ). (get_or c.args.region.now.lo k 0 ≡ get_or c.args.coord.now k 0 * get_or c.args.grid.now.chunk k 0) × (get_or c.args.region.now.hi k 0 ≡ get_or c.args.region.now.lo k 0 + get_or c.args.grid.now.chunk k 0)) c.loop-axis.axis c.loop-axis.invariant here

pub returns-then-not-is_one_on : goal.returns-then-not-is_one_on
returns-then-not-is_one_on c =
    let s = sides_of c.args.grid.now c.args.coord.now c.args.region.now.lo c.args.region.now.hi c.chunk-chunk.ensures.kept c.requires.coordinate c.requires.region in
    let n = c.rank-axis-end.ensures.rank ∙ ap length c.chunk-chunk.ensures.value in
    let size : c.at-size.result ≡ get_or c.args.grid.now.chunk c.loop-axis.axis 0 = c.at-size.ensures ∙ ap (λ x. get_or x c.loop-axis.axis 0) c.chunk-chunk.ensures.value in (
      λ no. absurd (cc),
      λ one.
          let at = one_chunk_at c.args.grid.now.chunk c.args.coord.now c.args.region.now.lo c.args.region.now.hi c.loop-axis.axis s.coord_rank (omega arith) one in
          let first : c.at-in-loop-axis.result ≡ c.at.result * c.at-size.result = rw (c.at-in-loop-axis.ensures, c.at.ensures, size) at.0 in
          let last : c.at-in-loop-axis-2.result ≡ c.at-in-loop-axis.result + c.at-size.result = rw (c.at-in-loop-axis-2.ensures, c.at-in-loop-axis.ensures, size) at.1 in
          let yes : IsTrue c.is_one_on.result = c.is_one_on.ensures.1 (first, last) in
          absurd (search rules),
    )

pub returns : goal.returns
returns c =
    let s = sides_of c.args.grid.now c.args.coord.now c.args.region.now.lo c.args.region.now.hi c.chunk-chunk.ensures.kept c.requires.coordinate c.requires.region in
    let n = c.rank-axis-end.ensures.rank ∙ ap length c.chunk-chunk.ensures.value in
    (λ yes. one_chunk_from c.args.grid.now.chunk c.args.coord.now c.args.region.now.lo c.args.region.now.hi s.coord_rank s.lo_rank s.hi_rank (λ k b. c.loop-axis.invariant k (omega arith)), λ one. search rules)
