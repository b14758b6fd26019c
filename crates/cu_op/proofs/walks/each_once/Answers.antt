use Rattle.std.proofs.Common.{◌≡◌, ◌++◌, ◌+◌, ◌≤◌, [], take, drop, sym, subst, ◌∙◌, arith}
use Rattle.arrayvec.specs.ArrayVec.{ArrayVec, array_vec_len}
use Rattle.cu_op.specs.declared.walks.Walk.{Walk}
use Rattle.cu_op.specs.Walks.{new_walks}
use Rattle.cu_op.proofs.WalkCells.{keep_walk, pass_walk}
use Rattle.cu_op.proofs.walks.each_once.Goals as goal
use Rattle.cu_op.proofs.walks.each_once.Goals.{then-not-is_among, else-not-is_among}

pub loop-at-preserved : goal.loop-at-preserved
loop-at-preserved c =
    elim c.if-not-is_among.branch [
      | then-not-is_among w ↦
          let items = w.push.ensures.items in
          let long = w.push.ensures.len in
          let so = c.loop-at.invariant.count in
          subst (λ (kept : ArrayVec Walk). record {
            walks : kept.items ++ new_walks (drop (c.loop-at.at + 1) c.args.walks.now) (take (c.loop-at.at + 1) c.args.walks.now) ≡ new_walks c.args.walks.now [];
            count : array_vec_len kept ≤ c.loop-at.at + 1;
          }) (sym w.kept-is) (record {
            walks = rw items (keep_walk c.args.walks.now c.loop-at.kept.items c.loop-at.at c.index-walks-at.result w.index-walks-at-then-not-is_among.result c.loop-at-test.true
                c.index-walks-at.is w.index-walks-at-then-not-is_among.is (sym c.is_among.ensures ∙ w.if-not-is_among.true) c.loop-at.invariant.walks);
            count = omega (arith, long, so);
          })
      | else-not-is_among w ↦
          let so = c.loop-at.invariant.count in
          subst (λ (kept : ArrayVec Walk). record {
            walks : kept.items ++ new_walks (drop (c.loop-at.at + 1) c.args.walks.now) (take (c.loop-at.at + 1) c.args.walks.now) ≡ new_walks c.args.walks.now [];
            count : array_vec_len kept ≤ c.loop-at.at + 1;
          }) (sym w.kept-is) (record {
            walks = pass_walk c.args.walks.now c.loop-at.kept.items c.loop-at.at c.index-walks-at.result c.loop-at-test.true c.index-walks-at.is
                (sym c.is_among.ensures ∙ w.if-not-is_among.false) c.loop-at.invariant.walks;
            count = omega (arith, so);
          })
    ]
