-- The names of the kinds of operations, as they are printed (this project's own rule).
use Rattle.cu_op.specs.Kinds.{kind_of}
use Rattle.cu_op.specs.declared.operation.Op.{Op}
use Rattle.std.specs.Prelude.{ℕ, List}

abbrev pub kind_text : Op → List ℕ
kind_text op = (kind_of op).text
