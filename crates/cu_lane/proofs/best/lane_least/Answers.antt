use Rattle.cu_lane.proofs.Lowest.{first_best}
use Rattle.cu_lane.proofs.best.lane_least.Goals as goal

pub returns-clause-some : goal.returns-clause-some
returns-clause-some c = λ xs words. first_best c.args.t c.args.least c.args.x.now c.by_bias.result xs c.by_bias.ensures words
