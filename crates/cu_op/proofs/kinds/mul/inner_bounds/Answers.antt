use Rattle.std.proofs.Common.{◌≡◌, ◌-◌, ℕ, List, length, get_or, ap, ◌∙◌, refl, arith}
use Rattle.cu_op.specs.Matrix.{left_inner, part_number, end_number}
use Rattle.cu_op.proofs.GroupLists.{small_parts}
use Rattle.cu_op.proofs.kinds.mul.inner_bounds.Goals as goal

-- the chunk size of the inner axis
inner_size : (shape chunk read : List ℕ) (rank size : ℕ) → length chunk ≡ length shape → rank ≡ length shape → read ≡ chunk → size ≡ get_or read (rank - 1) 0 → size ≡ left_inner chunk
inner_size shape chunk read rank size ranks e r s =
    let at : rank - 1 ≡ length chunk - 1 = omega (arith, ranks, e) in
    s ∙ ap (λ (xs : List ℕ). get_or xs (rank - 1) 0) r ∙ ap (λ k. get_or chunk k 0) at

pub overflow_mul-first : goal.overflow_mul-first
overflow_mul-first c =
    let first : c.at_or.result ≡ part_number c.args.a.now.shape c.args.b.now.shape c.args.region.now.lo = rw (c.at_or.ensures, c.product_rank-rank.ensures, c.shape.ensures.value, c.shape-2.ensures.value) refl in
    let s = small_parts c.args.a.now (part_number c.args.a.now.shape c.args.b.now.shape c.args.region.now.lo) (end_number c.args.a.now.shape c.args.b.now.shape c.args.region.now.hi) c.chunk.ensures.kept c.requires.inner c.requires.first c.requires.last in
    let size = inner_size c.args.a.now.shape c.args.a.now.chunk c.chunk.result.now c.rank-axis.result c.at-size.result c.chunk.ensures.kept.ranks (c.rank-axis.ensures.rank ∙ ap length c.shape-3.ensures.value) c.chunk.ensures.value c.at-size.ensures in
    rw (first, size) (let b = s.starts in omega (arith, b))

pub overflow_mul-end : goal.overflow_mul-end
overflow_mul-end c =
    let last : c.at_or-2.result ≡ end_number c.args.a.now.shape c.args.b.now.shape c.args.region.now.hi = rw (c.at_or-2.ensures, c.product_rank-rank.ensures, c.shape.ensures.value, c.shape-2.ensures.value) refl in
    let s = small_parts c.args.a.now (part_number c.args.a.now.shape c.args.b.now.shape c.args.region.now.lo) (end_number c.args.a.now.shape c.args.b.now.shape c.args.region.now.hi) c.chunk.ensures.kept c.requires.inner c.requires.first c.requires.last in
    let size = inner_size c.args.a.now.shape c.args.a.now.chunk c.chunk.result.now c.rank-axis.result c.at-size.result c.chunk.ensures.kept.ranks (c.rank-axis.ensures.rank ∙ ap length c.shape-3.ensures.value) c.chunk.ensures.value c.at-size.ensures in
    rw (last, size) (let b = s.ends in omega (arith, b))
