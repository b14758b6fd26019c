use Rattle.std.proofs.Common.{◌∙◌, sym, ℕ, List}
use Rattle.cu_grid.proofs.Covers.{bounds_of}
use Rattle.cu_grid.specs.Counts.{IsWithin}
use Rattle.cu_view_box.specs.Reshape.{reshaped, IsMet}
use Rattle.cu_view_box.proofs.MetRuns.{when_not}
use Rattle.cu_view_box.proofs.reshape.meets_hull.Goals as goal

pub common-requires-clause-a_rank : goal.common-requires-clause-a_rank
common-requires-clause-a_rank c =
    let h = bounds_of c.args.source.now c.hull_of_some-hull.result.lo c.hull_of_some-hull.result.hi c.hull_of_some-hull.ensures.region in
    h.hi_rank ∙ sym h.lo_rank

pub common-requires-clause-lo_rank : goal.common-requires-clause-lo_rank
common-requires-clause-lo_rank c =
    let h = bounds_of c.args.source.now c.hull_of_some-hull.result.lo c.hull_of_some-hull.result.hi c.hull_of_some-hull.ensures.region in
    let p = bounds_of c.args.source.now c.args.part.now.lo c.args.part.now.hi c.requires.part in
    p.lo_rank ∙ sym h.lo_rank

pub common-requires-clause-hi_rank : goal.common-requires-clause-hi_rank
common-requires-clause-hi_rank c =
    let h = bounds_of c.args.source.now c.hull_of_some-hull.result.lo c.hull_of_some-hull.result.hi c.hull_of_some-hull.ensures.region in
    let p = bounds_of c.args.source.now c.args.part.now.lo c.args.part.now.hi c.requires.part in
    p.hi_rank ∙ sym h.lo_rank

pub returns : goal.returns
returns c =
    let both = when_not c.is_empty.result ((idx : List ℕ) → ¬ IsWithin c.common.result.lo c.common.result.hi idx) (IsWithin c.common.result.lo c.common.result.hi c.common.result.lo)
    ((idx : List ℕ) → IsWithin c.args.out.now.lo c.args.out.now.hi idx → ¬ IsWithin c.args.part.now.lo c.args.part.now.hi (reshaped c.args.source.now c.args.shape.now idx))
    (IsMet c.args.source.now c.args.shape.now c.args.out.now c.args.part.now)
    (λ none idx w read. none (reshaped c.args.source.now c.args.shape.now idx) ((c.common.ensures.exact (reshaped c.args.source.now c.args.shape.now idx)).1 (c.hull_of_some-hull.ensures.holds idx w, read)))
    (λ some.
    let s = (c.common.ensures.exact c.common.result.lo).0 some in
    let b = c.hull_of_some-hull.ensures.between c.common.result.lo s.0 in
    record { first = c.args.out.now.lo; last = b.0; index = c.common.result.lo; first_within = c.requires.some; last_within = b.1; of_part = s.1; between = b.2 })
    c.is_empty.ensures.none c.is_empty.ensures.some in
    record { none = both.0; some = both.1 }
