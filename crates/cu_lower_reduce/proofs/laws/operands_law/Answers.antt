use Rattle.std.proofs.Common.{arith}
use Rattle.std.proofs.lemmas.List.Elements.{All-contains_itself}
use Rattle.cu_lower_reduce.proofs.Operands.{operands_come, operands_given, operands_hold, operands_placed, operands_value}
use Rattle.cu_lower_reduce.proofs.laws.operands_law.Goals as goal

pub returns-clause-steps : goal.returns-clause-steps
returns-clause-steps c = λ arrays s sources rs h i o. operands_hold arrays s sources s.first sources rs h.staged (omega arith) (All-contains_itself sources) i o

pub returns-clause-places : goal.returns-clause-places
returns-clause-places c = operands_placed

pub returns-clause-given : goal.returns-clause-given
returns-clause-given c = λ s sources rs e. operands_given s sources s.first _ sources rs (omega arith) (All-contains_itself sources) (omega arith)

pub returns-clause-sizes : goal.returns-clause-sizes
returns-clause-sizes c = λ s sources rs h e. operands_come s sources rs h.staged e

pub returns-clause-value : goal.returns-clause-value
returns-clause-value c = operands_value
