-- The last of some steps.
use Rattle.std.proofs.Common.{◌≡◌, ℕ, ◌+◌, List, [], ◌∷◌, length, arith}
use Rattle.cu_op.specs.Operation.{target_of}
use Rattle.cu_lower_reduce.specs.Steps.{all_made, last_made}
use Rattle.cu_lower_reduce.specs.declared.step.Step.{Step}

-- the result of the last step
abbrev pub last_target : List Step → ℕ
last_target [] = 0
last_target (s ∷ []) = target_of s.op
last_target (s ∷ t ∷ ss) = last_target (t ∷ ss)

-- it is the last array
pub last_is : (first : ℕ) (steps : List Step) → last_target steps + 1 ≡ first + length (all_made steps) → last_target steps ≡ last_made first steps
last_is first steps e = omega (arith, e)
