use Rattle.std.proofs.Common.{◌≡◌, ◌+◌, ◌<◌, ◌≤◌, ℕ, length, get_or, sym, ap, ◌∙◌, subst, arith, rules, inl, inr}
use Rattle.std.proofs.lemmas.List.{length-set}
use Rattle.cu_grid.specs.Counts.{IsWithin}
use Rattle.cu_grid.proofs.Meeting.{within_of}
use Rattle.cu_grid.specs.declared.region.Region.{Region}
use Rattle.cu_view_box.proofs.Boxes.{at_axis}
use Rattle.cu_view_box.proofs.MetRuns.{single_more, whole_kept, met_in}
use Rattle.cu_view_box.proofs.Slices.{slice_is, slice_in, slice_some, up_to_none, up_to_all, up_to_more}
use Rattle.cu_view_box.proofs.reshape.+touches_below.Goals as goal

pub at-index-end-requires : goal.at-index-end-requires
at-index-end-requires t c =
    let r = (within_of c.args.out.now.lo c.args.out.now.hi c.args.out.now.lo c.requires.some).hi_rank in
    omega arith

pub loop-index-init : goal.loop-index-init
loop-index-init t c = λ idx w. absurd (up_to_none c.args.out.now c.args.level c.at-index.result c.requires.some (omega arith) c.at-index.ensures idx w)

pub touches_below-requires : goal.touches_below-requires
touches_below-requires t c =
    let made = slice_is c.args.out.now c.slice_at-slice.result c.args.level c.loop-index.index c.slice_at-slice.ensures.lo c.slice_at-slice.ensures.hi in
    let below : c.args.level < length c.args.out.now.lo = omega arith in
    let low : get_or c.args.out.now.lo c.args.level 0 ≤ c.loop-index.index = (let e = c.at-index.ensures in omega arith) in
    let high : c.loop-index.index < get_or c.args.out.now.hi c.args.level 0 = (let e = c.at-index-end.ensures in omega arith) in
    let long : length c.slice_at-slice.result.lo ≡ length c.args.out.now.lo = ap length c.slice_at-slice.ensures.lo ∙ length-set c.args.out.now.lo c.args.level c.loop-index.index in (
      search rules,
      (
        c.requires.reshape,
        (
          subst (λ (r : Region). IsWithin r.lo r.hi r.lo) (sym made) (slice_some c.args.out.now c.args.level c.loop-index.index c.requires.some below low high),
          (
            λ idx w. c.requires.inside idx
                (slice_in c.args.out.now c.args.level c.loop-index.index c.requires.some below low high idx (subst (λ (r : Region). IsWithin r.lo r.hi idx) made w)).0,
            (
              c.requires.part,
              (
                omega arith,
                (
                  subst (λ (r : Region). (k : ℕ) → k < c.args.level + 1 → get_or r.hi k 0 ≡ get_or r.lo k 0 + 1) (sym made)
                      (single_more c.args.out.now c.args.level c.loop-index.index below (within_of c.args.out.now.lo c.args.out.now.hi c.args.out.now.lo c.requires.some).hi_rank c.requires.single),
                  subst (λ (r : Region). (k : ℕ) → c.args.end < k → k < length c.args.shape.now → (get_or r.lo k 0 ≡ 0) × (get_or r.hi k 0 ≡ get_or c.args.shape.now k 0)) (sym made)
                      (whole_kept c.args.shape.now c.args.out.now c.args.level c.loop-index.index c.args.end (omega arith) c.requires.whole),
                ),
              ),
            ),
          ),
        ),
      ),
    )

pub loop-index-preserved : goal.loop-index-preserved
loop-index-preserved t c = λ idx w read.
    let made = slice_is c.args.out.now c.slice_at-slice.result c.args.level c.loop-index.index c.slice_at-slice.ensures.lo c.slice_at-slice.ensures.hi in
    let below : c.args.level < length c.args.out.now.lo = omega arith in
    let low : get_or c.args.out.now.lo c.args.level 0 ≤ c.loop-index.index = (let e = c.at-index.ensures in omega arith) in
    let high : c.loop-index.index < get_or c.args.out.now.hi c.args.level 0 = (let e = c.at-index-end.ensures in omega arith) in
    elim (up_to_more c.args.out.now c.args.level c.loop-index.index c.requires.some below low high idx w) [
      | inl earlier ↦ c.loop-index.invariant idx earlier read
      | inr now ↦
          let found = c.touches_below.ensures.some idx (subst (λ (r : Region). IsWithin r.lo r.hi idx) (sym made) now) read in
          let missed = c.if-touches_below.false in
          cc
    ]

pub returns-clause-some : goal.returns-clause-some
returns-clause-some t c = λ idx w read.
    let a = at_axis c.args.out.now.lo c.args.out.now.hi c.args.out.now.lo c.args.level c.requires.some (omega arith) in
    let a1 = a.1 in
    let e = c.at-index.ensures in
    let f = c.at-index-end.ensures in
    let all = up_to_all c.args.out.now c.args.level c.loop-index.index (omega arith) in
    absurd (c.loop-index.invariant idx (subst (λ (r : Region). IsWithin r.lo r.hi idx) (sym all) w) read)

pub returns-then-level-end-clause-only : goal.returns-then-level-end-clause-only
returns-then-level-end-clause-only t c = λ yes. (
  c.args.out.now,
  record { axis = c.args.end; single = λ k b. c.requires.single k (omega arith); whole = c.requires.whole; of_out = λ idx w. w },
  c.if-not-meets_hull.ensures.some,
)

pub returns-then-touches_below-clause-only : goal.returns-then-touches_below-clause-only
returns-then-touches_below-clause-only t c = λ yes.
    let made = slice_is c.args.out.now c.slice_at-slice.result c.args.level c.loop-index.index c.slice_at-slice.ensures.lo c.slice_at-slice.ensures.hi in
    let below : c.args.level < length c.args.out.now.lo = omega arith in
    let low : get_or c.args.out.now.lo c.args.level 0 ≤ c.loop-index.index = (let e = c.at-index.ensures in omega arith) in
    let high : c.loop-index.index < get_or c.args.out.now.hi c.args.level 0 = (let e = c.at-index-end.ensures in omega arith) in
    met_in c.args.source.now c.args.shape.now c.args.out.now c.slice_at-slice.result c.args.part.now
    (λ idx w. (slice_in c.args.out.now c.args.level c.loop-index.index c.requires.some below low high idx (subst (λ (r : Region). IsWithin r.lo r.hi idx) made w)).0)
    (c.touches_below.ensures.only c.if-touches_below.true)
