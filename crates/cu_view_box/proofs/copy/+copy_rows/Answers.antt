use Rattle.std.proofs.Common.{◌≡◌, ◌<◌, ◌≤◌, ◌+◌, length, get_or, refl, sym, ap, ◌∙◌, subst, arith, rules}
use Rattle.std.proofs.lemmas.List.{length-set}
use Rattle.cu_grid.proofs.Meeting.{within_of}
use Rattle.cu_grid.specs.declared.region.Region.{Region}
use Rattle.cu_view_box.specs.Block.{IsMove, IsMoved, IsKept}
use Rattle.cu_view_box.specs.Row.{IsSingle}
use Rattle.cu_view_box.proofs.Boxes.{at_axis}
use Rattle.cu_view_box.proofs.Slices.{slice_is, slice_move, slice_single, moved_more, kept_more, up_to_none, up_to_all}
use Rattle.cu_view_box.proofs.copy.+copy_rows.Goals as goal

pub at-index-end-requires : goal.at-index-end-requires
at-index-end-requires t c =
    let r = (within_of c.args.part.now.lo c.args.part.now.hi c.args.part.now.lo c.requires.moves.some).hi_rank in
    omega arith

pub loop-index-init : goal.loop-index-init
loop-index-init t c =
    let none = up_to_none c.args.part.now c.args.level c.at-index.result c.requires.moves.some (omega arith) c.at-index.ensures in
    record { same_length = refl; moved = λ idx w. absurd (none idx w); others = λ idx w off. refl }

pub copy_rows-requires-in-loop-index : goal.copy_rows-requires-in-loop-index
copy_rows-requires-in-loop-index t c =
    let made = slice_is c.args.part.now c.slice_at-slice.result c.args.level c.loop-index.index c.slice_at-slice.ensures.lo c.slice_at-slice.ensures.hi in
    let below : c.args.level < length c.args.part.now.lo = omega arith in
    let low : get_or c.args.part.now.lo c.args.level 0 ≤ c.loop-index.index = (let e = c.at-index.ensures in omega arith) in
    let high : c.loop-index.index < get_or c.args.part.now.hi c.args.level 0 = (let e = c.at-index-end.ensures in omega arith) in
    let long : length c.slice_at-slice.result.lo ≡ length c.args.part.now.lo = ap length c.slice_at-slice.ensures.lo ∙ length-set c.args.part.now.lo c.args.level c.loop-index.index in (
      search rules,
      (
        omega arith,
        (
          subst (λ (r : Region). IsSingle r c.args.axis (c.args.level + 1)) (sym made)
              (slice_single c.args.part.now c.args.level c.loop-index.index c.requires.moves.some below low high c.args.axis c.args.level refl c.requires.single),
          (
            subst (λ (r : Region). IsMove c.args.copying.now.piece.now r c.args.copying.now.from.now c.args.copying.now.to.now) (sym made)
                (slice_move c.args.part.now c.args.level c.loop-index.index c.requires.moves.some below low high c.args.copying.now.piece.now c.args.copying.now.from.now c.args.copying.now.to.now c.requires.moves),
            (
              c.requires.from_block,
              record { inside = c.requires.to_block.inside; long = c.loop-index.invariant.same_length ∙ c.requires.to_block.long },
            ),
          ),
        ),
      ),
    )

pub loop-index-preserved : goal.loop-index-preserved
loop-index-preserved t c =
    let made = slice_is c.args.part.now c.slice_at-slice.result c.args.level c.loop-index.index c.slice_at-slice.ensures.lo c.slice_at-slice.ensures.hi in
    let below : c.args.level < length c.args.part.now.lo = omega arith in
    let low : get_or c.args.part.now.lo c.args.level 0 ≤ c.loop-index.index = (let e = c.at-index.ensures in omega arith) in
    let high : c.loop-index.index < get_or c.args.part.now.hi c.args.level 0 = (let e = c.at-index-end.ensures in omega arith) in
    let moved = subst (λ (r : Region). IsMoved c.args.copying.now.piece.now r c.args.copying.now.from.now c.args.copying.now.bytes.now c.args.copying.now.to.now c.copy_rows-in-loop-index.new.output) made c.copy_rows-in-loop-index.ensures.moved in
    let kept = subst (λ (r : Region). IsKept r c.args.copying.now.to.now c.loop-index.output c.copy_rows-in-loop-index.new.output) made c.copy_rows-in-loop-index.ensures.others in
    record {
      same_length = search rules;
      moved = moved_more c.args.part.now c.args.level c.loop-index.index c.requires.moves.some below low high c.args.copying.now.piece.now c.args.copying.now.from.now c.args.copying.now.to.now c.args.copying.now.bytes.now
          c.loop-index.output c.copy_rows-in-loop-index.new.output c.requires.moves c.loop-index.invariant.moved moved kept;
      others = kept_more c.args.part.now c.args.level c.loop-index.index c.requires.moves.some below low high c.args.copying.now.to.now c.args.output.now c.loop-index.output
          c.copy_rows-in-loop-index.new.output c.loop-index.invariant.others kept;
    }

pub returns-after-loop-index-clause-moved : goal.returns-after-loop-index-clause-moved
returns-after-loop-index-clause-moved t c =
    let r = (within_of c.args.part.now.lo c.args.part.now.hi c.args.part.now.lo c.requires.moves.some).hi_rank in
    let a = at_axis c.args.part.now.lo c.args.part.now.hi c.args.part.now.lo c.args.level c.requires.moves.some (omega arith) in
    let a1 = a.1 in
    let e = c.at-index.ensures in
    let f = c.at-index-end.ensures in
    let all = up_to_all c.args.part.now c.args.level c.loop-index.index (omega arith) in
    subst (λ (r : Region). IsMoved c.args.copying.now.piece.now r c.args.copying.now.from.now c.args.copying.now.bytes.now c.args.copying.now.to.now c.loop-index.output) all c.loop-index.invariant.moved

pub returns-after-loop-index-clause-others : goal.returns-after-loop-index-clause-others
returns-after-loop-index-clause-others t c =
    let r = (within_of c.args.part.now.lo c.args.part.now.hi c.args.part.now.lo c.requires.moves.some).hi_rank in
    let a = at_axis c.args.part.now.lo c.args.part.now.hi c.args.part.now.lo c.args.level c.requires.moves.some (omega arith) in
    let a1 = a.1 in
    let e = c.at-index.ensures in
    let f = c.at-index-end.ensures in
    let all = up_to_all c.args.part.now c.args.level c.loop-index.index (omega arith) in
    subst (λ (r : Region). IsKept r c.args.copying.now.to.now c.args.output.now c.loop-index.output) all c.loop-index.invariant.others
