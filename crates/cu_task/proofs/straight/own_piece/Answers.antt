use Rattle.cu_task.proofs.StraightReads.{all_shown}
use Rattle.cu_task.proofs.straight.own_piece.Goals as goal

pub returns-in_default : goal.returns-in_default
returns-in_default c = λ idx. all_shown c.args.pull.now idx c.in_default.not-Triangle
