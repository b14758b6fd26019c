-- Why a node of an expression is refused (this project's own codes).
use Rattle.std.specs.Prelude.{ℕ}
use Rattle.cu_node.specs.declared.faults.FaultCode.{FaultCode}
use Rattle.cu_node.specs.declared.faults.FaultCode.TheVariants.{Promote, Shape, Axis, EmptyReduce, Scalar, Kind, Limit, ReshapeSize, Index}
use Rattle.cu_node.specs.declared.faults.NodeFault.{NodeFault}

abbrev pub code_number : FaultCode → ℕ
code_number Promote = 1
code_number Shape = 2
code_number Axis = 3
code_number EmptyReduce = 4
code_number Scalar = 5
code_number Kind = 6
code_number Limit = 7
code_number ReshapeSize = 8
code_number Index = 9

-- a fault at a place, and one at no place
abbrev pub fault_at : FaultCode → ℕ → NodeFault
fault_at code place = record { code = code; place = place }

abbrev pub fault : FaultCode → NodeFault
fault code = fault_at code 0
