-- What typing gave: the array, and the tests that were passed.
use Rattle.std.proofs.Common.{◌≡◌, ℕ, Bool, true, List, Ok, ap}
use Rattle.cu_result.specs.Results.{◌>>=◌, check}
use Rattle.cu_result.proofs.ResultSteps.{check_step_ok}
use Rattle.cu_num.specs.declared.types.Dtype.{Dtype}
use Rattle.cu_node.specs.Limited.{limited}
use Rattle.cu_node.specs.declared.faults.NodeFault.{NodeFault}
use Rattle.cu_node.specs.declared.info.NodeInfo.{NodeInfo}
use Rattle.cu_node.proofs.KeptLimits.{given}

-- an array of this type and shape
pub record IsArray (t : Dtype) (shape : List ℕ) (i : NodeInfo) : Type 0 where
  pub dtype : i.dtype ≡ t
  pub dims : i.dims ≡ shape

pub limited_array : (t : Dtype) (shape chunk : List ℕ) (i : NodeInfo) → limited t shape chunk ≡ Ok i → IsArray t shape i
limited_array t shape chunk i h =
    let e = given true t shape chunk i h in
    record { dtype = ap (λ (n : NodeInfo). n.dtype) e; dims = ap (λ (n : NodeInfo). n.dims) e }

pub checked_array : (b : Bool) (f : NodeFault) (t : Dtype) (shape chunk : List ℕ) (i : NodeInfo) → (check b f >>= λ _. limited t shape chunk) ≡ Ok i → (b ≡ true) × IsArray t shape i
checked_array b f t shape chunk i h =
    let s = check_step_ok b f (λ _. limited t shape chunk) i h in
    (s.0, limited_array t shape chunk i s.1)
