use Rattle.std.proofs.Common.{◌+◌, sym, ◌∙◌, arith}
use Rattle.cu_fold.proofs.SetElements.{set_after, set_stays}
use Rattle.cu_fold.proofs.truths.has_set.Goals as goal

pub returns-then-block_has : goal.returns-then-block_has
returns-then-block_has c =
    let start = c.loop-start.start in
    let n = c.min.result in
    sym (set_stays c.args.bytes.now (start + n) (set_after c.args.bytes.now start n c.loop-start.invariant.none ∙ sym c.block_has.ensures ∙ c.if-block_has.true))

pub loop-start-preserved : goal.loop-start-preserved
loop-start-preserved c =
    let start = c.loop-start.start in
    let n = c.min.result in
    record {
      within = omega (arith, c.min.ensures, c.loop-start.invariant.within);
      none = set_after c.args.bytes.now start n c.loop-start.invariant.none ∙ sym c.block_has.ensures ∙ c.if-block_has.false;
    }
