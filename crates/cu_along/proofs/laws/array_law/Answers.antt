use Rattle.cu_along.proofs.TierSums.{scan_arrays, scan_single_array}
use Rattle.cu_along.proofs.laws.array_law.Goals as goal

pub returns-clause-carried : goal.returns-clause-carried
returns-clause-carried c = scan_arrays

pub returns-clause-single : goal.returns-clause-single
returns-clause-single c = scan_single_array
