-- A fold by labels, as its task is given it. This project's own rules.
use Rattle.cu_op.specs.declared.operation.Op.{Op}
use Rattle.cu_op.specs.declared.operation.Op.TheVariants.{GroupFold}
use Rattle.cu_task.specs.declared.groups.LabelFold.{LabelFold}

-- the operation
abbrev pub fold_by_labels : LabelFold → Op
fold_by_labels f = GroupFold f.kind f.axis f.groups f.source f.labels f.out
