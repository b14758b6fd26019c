use Rattle.cu_num.proofs.Divided.{IsFloorOf-floor_quotient, floor_remainder_is, floor_by_zero}
use Rattle.cu_num.proofs.laws.floor_division_law.Goals as goal

pub returns-clause-floor : goal.returns-clause-floor
returns-clause-floor c = IsFloorOf-floor_quotient

pub returns-clause-rest : goal.returns-clause-rest
returns-clause-rest c = floor_remainder_is

pub returns-clause-by_zero : goal.returns-clause-by_zero
returns-clause-by_zero c = floor_by_zero
