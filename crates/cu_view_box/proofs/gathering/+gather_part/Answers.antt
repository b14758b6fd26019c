use Rattle.std.proofs.Common.{◌≡◌, ◌<◌, ◌≤◌, ◌+◌, length, get_or, refl, sym, ap, ◌∙◌, subst, arith, rules}
use Rattle.std.proofs.lemmas.List.{length-set}
use Rattle.cu_grid.proofs.Meeting.{within_of}
use Rattle.cu_grid.specs.declared.region.Region.{Region}
use Rattle.cu_view_box.specs.Drawn.{IsWholeBehind}
use Rattle.cu_view_box.specs.Reshape.{reshaped, IsDrawn, AreOthersLeft, IsPart}
use Rattle.cu_view_box.specs.Row.{IsSingle}
use Rattle.cu_view_box.proofs.Boxes.{at_axis}
use Rattle.cu_view_box.proofs.Drawn.{whole_still}
use Rattle.cu_view_box.proofs.Slices.{slice_single, up_to_none, up_to_all}
use Rattle.cu_view_box.proofs.Stretches.{stretch_is, stretch_part, drawn_more, left_more}
use Rattle.cu_view_box.proofs.gathering.+gather_part.Goals as goal

pub at-index-end-requires : goal.at-index-end-requires
at-index-end-requires t c = let r = (within_of c.args.part.now.lo c.args.part.now.hi c.args.part.now.lo c.requires.part.some).hi_rank in omega arith

pub loop-index-init : goal.loop-index-init
loop-index-init t c =
    let none = up_to_none c.args.part.now c.args.level c.at-index.result c.requires.part.some (omega arith) c.at-index.ensures in
    record { same_length = refl; drawn = λ idx w read. absurd (none idx w); others = λ idx w off. refl }

pub gather_part-requires : goal.gather_part-requires
gather_part-requires t c =
    let made = stretch_is c.args.part.now c.slice_at-slice.result c.args.level c.loop-index.index (c.loop-index.index + 1) c.slice_at-slice.ensures.lo c.slice_at-slice.ensures.hi in
    let below : c.args.level < length c.args.part.now.lo = omega arith in
    let low : get_or c.args.part.now.lo c.args.level 0 ≤ c.loop-index.index = (let e = c.at-index.ensures in omega arith) in
    let order : c.loop-index.index < c.loop-index.index + 1 = omega arith in
    let high : c.loop-index.index + 1 ≤ get_or c.args.part.now.hi c.args.level 0 = (let e = c.at-index-end.ensures in omega arith) in
    let long : length c.slice_at-slice.result.lo ≡ length c.args.part.now.lo = ap length c.slice_at-slice.ensures.lo ∙ length-set c.args.part.now.lo c.args.level c.loop-index.index in (
      search rules,
      (
        c.requires.reshape,
        (
          c.requires.from_region,
          (
            subst (λ (r : Region). IsPart c.args.shape.now r c.args.drawing.now.to.now) (sym made)
                (stretch_part c.args.part.now c.args.level c.loop-index.index (c.loop-index.index + 1) c.requires.part.some below low order high c.args.shape.now c.args.drawing.now.to.now c.requires.part),
            (
              omega arith,
              (
                subst (λ (r : Region). IsSingle r c.args.end (c.args.level + 1)) (sym made)
                    (slice_single c.args.part.now c.args.level c.loop-index.index c.requires.part.some below low (omega arith) c.args.end c.args.level refl c.requires.single),
                (
                  subst (λ (r : Region). IsWholeBehind c.args.shape.now r c.args.drawing.now.to.now.dims c.args.end) (sym made)
                      (whole_still c.args.shape.now c.args.part.now c.args.drawing.now.to.now.dims c.args.level c.loop-index.index (c.loop-index.index + 1) c.args.end (omega arith) c.requires.whole),
                  (
                    c.requires.from_block,
                    (record { inside = c.requires.to_block.inside; long = c.loop-index.invariant.same_length ∙ c.requires.to_block.long }, c.requires.spelled),
                  ),
                ),
              ),
            ),
          ),
        ),
      ),
    )

pub gather_run-requires-clause-together : goal.gather_run-requires-clause-together
gather_run-requires-clause-together t c = record { axis = c.args.end; single = λ k b. c.requires.single k (omega arith) (λ e. (let same : k ≡ c.args.end = e in omega arith)); whole = c.requires.whole }

pub loop-index-preserved : goal.loop-index-preserved
loop-index-preserved t c =
    let made = stretch_is c.args.part.now c.slice_at-slice.result c.args.level c.loop-index.index (c.loop-index.index + 1) c.slice_at-slice.ensures.lo c.slice_at-slice.ensures.hi in
    let below : c.args.level < length c.args.part.now.lo = omega arith in
    let low : get_or c.args.part.now.lo c.args.level 0 ≤ c.loop-index.index = (let e = c.at-index.ensures in omega arith) in
    let order : c.loop-index.index < c.loop-index.index + 1 = omega arith in
    let high : c.loop-index.index + 1 ≤ get_or c.args.part.now.hi c.args.level 0 = (let e = c.at-index-end.ensures in omega arith) in
    let drawn = subst (λ (r : Region). IsDrawn (reshaped c.args.drawing.now.source.now c.args.shape.now) r c.args.drawing.now.from.now c.args.drawing.now.bytes.now c.args.drawing.now.to.now c.gather_part.new.output) made c.gather_part.ensures.drawn in
    let left = subst (λ (r : Region). AreOthersLeft (reshaped c.args.drawing.now.source.now c.args.shape.now) r c.args.drawing.now.from.now c.args.drawing.now.to.now c.loop-index.output c.gather_part.new.output) made c.gather_part.ensures.others in
    record {
      same_length = search rules;
      drawn = drawn_more c.args.part.now c.args.level c.loop-index.index (c.loop-index.index + 1) c.requires.part.some below low order high (reshaped c.args.drawing.now.source.now c.args.shape.now) c.args.drawing.now.from.now c.args.drawing.now.to.now c.args.drawing.now.bytes.now
          c.loop-index.output c.gather_part.new.output c.requires.part.of_result c.loop-index.invariant.drawn drawn left;
      others = left_more c.args.part.now c.args.level c.loop-index.index (c.loop-index.index + 1) c.requires.part.some below low order high (reshaped c.args.drawing.now.source.now c.args.shape.now) c.args.drawing.now.from.now c.args.drawing.now.to.now c.args.output.now
          c.loop-index.output c.gather_part.new.output c.loop-index.invariant.others left;
    }

pub returns-clause-drawn : goal.returns-clause-drawn
returns-clause-drawn t c =
    let a = at_axis c.args.part.now.lo c.args.part.now.hi c.args.part.now.lo c.args.level c.requires.part.some (omega arith) in
    let a1 = a.1 in
    let e = c.at-index.ensures in
    let f = c.at-index-end.ensures in
    let all = up_to_all c.args.part.now c.args.level c.loop-index.index (omega arith) in
    subst (λ (r : Region). IsDrawn (reshaped c.args.drawing.now.source.now c.args.shape.now) r c.args.drawing.now.from.now c.args.drawing.now.bytes.now c.args.drawing.now.to.now c.loop-index.output) all c.loop-index.invariant.drawn

pub returns-clause-others : goal.returns-clause-others
returns-clause-others t c =
    let a = at_axis c.args.part.now.lo c.args.part.now.hi c.args.part.now.lo c.args.level c.requires.part.some (omega arith) in
    let a1 = a.1 in
    let e = c.at-index.ensures in
    let f = c.at-index-end.ensures in
    let all = up_to_all c.args.part.now c.args.level c.loop-index.index (omega arith) in
    subst (λ (r : Region). AreOthersLeft (reshaped c.args.drawing.now.source.now c.args.shape.now) r c.args.drawing.now.from.now c.args.drawing.now.to.now c.args.output.now c.loop-index.output) all c.loop-index.invariant.others
