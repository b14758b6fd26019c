use Rattle.std.proofs.Common.{arith, ◌∙◌}
use Rattle.cu_view_box.proofs.SharedBoxes.{reads_more, shared_exactly, not_read}
use Rattle.cu_view_box.proofs.shared.shared_box.Goals as goal

pub returns-in-None-clause-none : goal.returns-in-None-clause-none
returns-in-None-clause-none c = λ idx s.
    let l = c.requires.ranks.part_lo in
    not_read c.args.piece.now c.deref.result.now c.args.out.now c.args.part.now idx c.loop-axis.axis c.at.result c.at-in-loop-axis.result
    c.requires.ranks c.deref.ensures.0 (omega arith) c.at.ensures c.at-in-loop-axis.ensures (c.in-None.ensures.none idx) s

pub loop-axis-preserved : goal.loop-axis-preserved
loop-axis-preserved c = record {
  lo_rank = c.in-Some.ensures.lo_rank ∙ c.loop-axis.invariant.lo_rank;
  hi_rank = c.in-Some.ensures.hi_rank ∙ c.loop-axis.invariant.lo_rank;
  exact = λ idx.
      let l = c.requires.ranks.part_lo in
      reads_more c.args.piece.now c.deref.result.now c.args.part.now.lo c.args.part.now.hi idx c.loop-axis.shared.lo c.loop-axis.shared.hi c.in-Some.less.lo c.in-Some.less.hi
      c.loop-axis.axis c.at.result c.at-in-loop-axis.result c.deref.ensures.0 (omega arith) c.at.ensures c.at-in-loop-axis.ensures
      (c.loop-axis.invariant.exact idx) (c.in-Some.ensures.exact idx);
}

pub returns-then-is_empty-clause-none : goal.returns-then-is_empty-clause-none
returns-then-is_empty-clause-none c = λ idx s.
    let l = c.requires.ranks.part_lo in
    c.if-is_empty.ensures.none idx
    ((shared_exactly c.args.piece.now c.args.out.now c.args.part.now idx c.loop-axis.shared.lo c.loop-axis.shared.hi c.loop-axis.axis c.requires.ranks (omega arith) (c.loop-axis.invariant.exact idx)).1 s)

pub returns-else-is_empty-clause-exact : goal.returns-else-is_empty-clause-exact
returns-else-is_empty-clause-exact c = λ idx.
    let l = c.requires.ranks.part_lo in
    shared_exactly c.args.piece.now c.args.out.now c.args.part.now idx c.loop-axis.shared.lo c.loop-axis.shared.hi c.loop-axis.axis c.requires.ranks (omega arith) (c.loop-axis.invariant.exact idx)
