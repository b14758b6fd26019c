use Rattle.std.proofs.Common.{arith, ◌∙◌, ap, ◌%◌, ◌^◌}
use Rattle.std.proofs.lemmas.List.{take_all}
use Rattle.cu_lane.specs.Folds.{product_of_words}
use Rattle.cu_lane.proofs.Summed.{product_more}
use Rattle.cu_lane.proofs.sums.lane_prod.Goals as goal

pub loop-k-preserved : goal.loop-k-preserved
loop-k-preserved c = product_more c.args.x.now c.loop-k.k c.loop-k.total (omega arith) c.loop-k.invariant

pub returns : goal.returns
returns c = c.loop-k.invariant ∙ ap (λ xs. product_of_words xs % 2 ^ 64) (take_all c.loop-k.k c.args.x.now (omega arith))
