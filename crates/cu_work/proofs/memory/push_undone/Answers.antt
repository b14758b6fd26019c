use Rattle.std.proofs.Common.{false, refl}
use Rattle.cu_work.proofs.Pushed.{pushed, same_more}
use Rattle.cu_work.proofs.memory.push_undone.Goals as goal

pub loop-preserved : goal.loop-preserved
loop-preserved c =
    same_more c.loop.counter false false c.args.done.now.items c.loop.done.items c.push.new.self.items c.loop.invariant refl
    (pushed _ c.is_err.result c.loop.done.items c.push.new.self.items false c.push.ensures.items c.is_err.ensures.negation c.if-is_err.false)
