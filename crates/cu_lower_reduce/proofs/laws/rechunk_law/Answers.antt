use Rattle.cu_lower_reduce.proofs.Copying.{copies_come, copies_end, copies_hold, copies_last, copies_value}
use Rattle.cu_lower_reduce.proofs.Folds.{contains_first}
use Rattle.std.proofs.Common.{[], ◌∷◌, arith, inl}
use Rattle.cu_lower_reduce.proofs.laws.rechunk_law.Goals as goal

pub returns-clause-steps : goal.returns-clause-steps
returns-clause-steps c = λ arrays s source r h i o. copies_hold arrays s (source ∷ []) s.first source r h (omega arith) (inl (contains_first source [])) i o

pub returns-clause-last : goal.returns-clause-last
returns-clause-last c = copies_last

pub returns-clause-ends : goal.returns-clause-ends
returns-clause-ends c = copies_end

pub returns-clause-sizes : goal.returns-clause-sizes
returns-clause-sizes c = copies_come

pub returns-clause-value : goal.returns-clause-value
returns-clause-value c = copies_value
