-- What passes the limits keeps them.
use Rattle.std.proofs.Common.{◌≡◌, ℕ, ◌*◌, ◌<◌, ◌≤◌, ◌^◌, Bool, true, List, length, All, Result, Ok}
use Rattle.std.proofs.lemmas.Bool.{leb-true, and_parts}
use Rattle.cu_result.proofs.ResultSteps.{check_step_ok}
use Rattle.cu_num.specs.Dtype.{size_of}
use Rattle.cu_num.specs.declared.types.Dtype.{Dtype}
use Rattle.cu_shape.specs.Counts.{counts_of, at_least_one}
use Rattle.cu_shape.specs.Index.{product}
use Rattle.cu_node.specs.Info.{IsInfo, info_of}
use Rattle.cu_node.specs.Limited.{limit, is_chunk_within, limited_beside}
use Rattle.cu_node.specs.declared.faults.NodeFault.{NodeFault}
use Rattle.cu_node.specs.declared.info.NodeInfo.{NodeInfo}

-- a list of checks that passed: each holds, and the array is the one that was given
passed_all : (beside : Bool) (t : Dtype) (shape chunk : List ℕ) (i : NodeInfo) → limited_beside beside t shape chunk ≡ Ok i → (length shape ≤ 6) × (product (at_least_one shape) ≤ 2 ^ 40) × (is_chunk_within t chunk ≡ true) × (product (at_least_one (counts_of shape chunk)) ≤ 65536) × (i ≡ info_of t shape chunk) × (beside ≡ true)
passed_all beside t shape chunk i passed =
    let a = check_step_ok _ (limit 1) _ _ passed in
    let b = check_step_ok _ (limit 2) _ _ a.1 in
    let c = check_step_ok _ (limit 3) _ _ b.1 in
    let d = check_step_ok _ (limit 4) _ _ c.1 in
    let value : NodeInfo → Result NodeInfo NodeFault = λ x. Ok x in
    let e : value (info_of t shape chunk) ≡ value i = d.1 in
    (leb-true _ _ a.0, leb-true _ _ b.0, (and_parts _ _ c.0).0, leb-true _ _ d.0, cc e, (and_parts _ _ c.0).1)

pub given : (beside : Bool) (t : Dtype) (shape chunk : List ℕ) (i : NodeInfo) → limited_beside beside t shape chunk ≡ Ok i → i ≡ info_of t shape chunk
given beside t shape chunk i passed = (passed_all beside t shape chunk i passed).4

-- the other chunks keep the limit of bytes
pub beside_kept : (beside : Bool) (t : Dtype) (shape chunk : List ℕ) (i : NodeInfo) → limited_beside beside t shape chunk ≡ Ok i → beside ≡ true
beside_kept beside t shape chunk i passed = (passed_all beside t shape chunk i passed).5

record_kept : (beside : Bool) (t : Dtype) (shape chunk : List ℕ) (i : NodeInfo) → length chunk ≡ length shape → All (λ c. 0 < c) chunk → limited_beside beside t shape chunk ≡ Ok i → IsInfo (info_of t shape chunk)
record_kept beside t shape chunk i ranks positive passed =
    let all = passed_all beside t shape chunk i passed in
    let bytes : product chunk * size_of t ≤ 2 ^ 28 = leb-true _ _ all.2 in
    record {
      ranks = ranks;
      short = all.0;
      positive = positive;
      elements = all.1;
      chunks = all.3;
      bytes = bytes;
    }

pub kept : (beside : Bool) (t : Dtype) (shape chunk : List ℕ) (i : NodeInfo) → length chunk ≡ length shape → All (λ c. 0 < c) chunk → limited_beside beside t shape chunk ≡ Ok i → IsInfo i
kept beside t shape chunk i ranks positive passed = rw (given beside t shape chunk i passed) (record_kept beside t shape chunk i ranks positive passed)
