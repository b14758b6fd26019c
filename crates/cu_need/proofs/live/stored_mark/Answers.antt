use Rattle.cu_need.proofs.LiveNodes.{first_mark}
use Rattle.cu_need.proofs.live.stored_mark.Goals as goal

pub returns-clause-marks : goal.returns-clause-marks
returns-clause-marks c = λ j. first_mark 256 c.args.out j c.requires
