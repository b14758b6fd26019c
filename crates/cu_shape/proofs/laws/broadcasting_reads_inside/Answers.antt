use Rattle.cu_shape.proofs.InsideBoth.{back_left, back_right}
use Rattle.cu_shape.proofs.laws.broadcasting_reads_inside.Goals as goal

pub returns-clause-left : goal.returns-clause-left
returns-clause-left c = λ a b idx m h. back_left a b idx h

pub returns-clause-right : goal.returns-clause-right
returns-clause-right c = back_right
