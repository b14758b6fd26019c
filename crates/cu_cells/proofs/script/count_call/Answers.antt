use Rattle.std.proofs.Common.{arith}
use Rattle.cu_cells.specs.Script.{counted}
use Rattle.cu_cells.proofs.Lists.{mapped_more}
use Rattle.cu_cells.proofs.script.count_call.Goals as goal

pub loop-counted-preserved : goal.loop-counted-preserved
loop-counted-preserved c =
    mapped_more (counted c.args.kind c.args.key.now) c.args.rules.now c.loop-counted.rules c.loop-counted.counted-index c.counted-item.result c.count_one.new.self
    (omega arith) c.loop-counted.invariant c.counted-item.is c.count_one.ensures
