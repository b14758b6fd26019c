-- A view has the type of its array.
use Rattle.std.proofs.Common.{◌≡◌, ℕ, ◌==◌, ◌&&◌, nat_le, ℤ, Bool, true, false, List, length, Option, Some, None, Result, Ok, ap}
use Rattle.cu_result.specs.Results.{◌>>=◌, check}
use Rattle.cu_result.proofs.ResultSteps.{check_step_ok}
use Rattle.cu_num.specs.declared.types.Dtype.{Dtype}
use Rattle.cu_node.specs.Fault.{fault}
use Rattle.cu_node.specs.Limited.{limited, limited_beside}
use Rattle.cu_node.specs.declared.faults.FaultCode.TheVariants.{Axis, Shape}
use Rattle.cu_node.specs.declared.faults.NodeFault.{NodeFault}
use Rattle.cu_node.specs.declared.info.NodeInfo.{NodeInfo}
use Rattle.cu_node.proofs.KeptLimits.{given}
use Rattle.cu_node.specs.declared.index_item.IndexItem.{IndexItem}
use Rattle.cu_typing_view.specs.Entries.{untaken, first_wrong, index_shape, index_chunk, unless_wrong, typed_index}
use Rattle.cu_typing_view.specs.Rearranged.{typed_same, typed_triangle, is_permutation, permuted_sizes, typed_permute, are_axes, typed_flip, typed_roll}
use Rattle.cu_typing_view.specs.Reshaped.{stretches_to, typed_broadcast, typed_rechunk}

pub beside_type : (beside : Bool) (t : Dtype) (shape chunk : List ℕ) (i : NodeInfo) → limited_beside beside t shape chunk ≡ Ok i → i.dtype ≡ t
beside_type beside t shape chunk i h = ap (λ (n : NodeInfo). n.dtype) (given beside t shape chunk i h)

pub limited_type : (t : Dtype) (shape chunk : List ℕ) (i : NodeInfo) → limited t shape chunk ≡ Ok i → i.dtype ≡ t
limited_type t shape chunk i h = beside_type true t shape chunk i h

unless_ok : (o : Option ℕ) (r : Result NodeInfo NodeFault) (i : NodeInfo) → unless_wrong o r ≡ Ok i → r ≡ Ok i
unless_ok None r i h = h
unless_ok (Some k) r i h = cc

same_type : (a i : NodeInfo) → typed_same a ≡ Ok i → i.dtype ≡ a.dtype
same_type a i h = limited_type a.dtype a.dims a.chunk i h

pub triangle_type : (a i : NodeInfo) → typed_triangle a ≡ Ok i → i.dtype ≡ a.dtype
triangle_type a i h = same_type a i (check_step_ok (nat_le 2 (length a.dims)) (fault Axis) (λ _. typed_same a) i h).1

pub index_type : (a : NodeInfo) (items : List IndexItem) (i : NodeInfo) → typed_index a items ≡ Ok i → i.dtype ≡ a.dtype
index_type a items i h =
    let more = untaken (length a.dims) items in
    let shape = index_shape more items a.dims in
    let chunk = index_chunk more items a.dims a.chunk in
    limited_type a.dtype shape chunk i (unless_ok (first_wrong more false 0 items a.dims) (limited a.dtype shape chunk) i h)

-- a test and then an array of the type
pub checked_type : (b : Bool) (e : NodeFault) (t : Dtype) (shape chunk : List ℕ) (i : NodeInfo) → (check b e >>= λ _. limited t shape chunk) ≡ Ok i → i.dtype ≡ t
checked_type b e t shape chunk i h = limited_type t shape chunk i (check_step_ok b e (λ _. limited t shape chunk) i h).1

pub permute_type : (a : NodeInfo) (axes : List ℤ) (i : NodeInfo) → typed_permute a axes ≡ Ok i → i.dtype ≡ a.dtype
permute_type a axes i h = checked_type (is_permutation (length a.dims) axes) (fault Axis) a.dtype (permuted_sizes axes a.dims) (permuted_sizes axes a.chunk) i h

pub flip_type : (a : NodeInfo) (axes : Option (List ℤ)) (i : NodeInfo) → typed_flip a axes ≡ Ok i → i.dtype ≡ a.dtype
flip_type a axes i h = checked_type (are_axes (length a.dims) axes) (fault Axis) a.dtype a.dims a.chunk i h

pub roll_type : (a : NodeInfo) (shifts axes : List ℤ) (i : NodeInfo) → typed_roll a shifts axes ≡ Ok i → i.dtype ≡ a.dtype
roll_type a shifts axes i h = checked_type (length shifts == length axes && are_axes (length a.dims) (Some axes)) (fault Axis) a.dtype a.dims a.chunk i h

pub broadcast_type : (a : NodeInfo) (shape chunk : List ℕ) (i : NodeInfo) → typed_broadcast a shape chunk ≡ Ok i → i.dtype ≡ a.dtype
broadcast_type a shape chunk i h = checked_type (stretches_to a.dims shape && length chunk == length shape) (fault Shape) a.dtype shape chunk i h

pub rechunk_type : (a : NodeInfo) (chunk : List ℕ) (i : NodeInfo) → typed_rechunk a chunk ≡ Ok i → i.dtype ≡ a.dtype
rechunk_type a chunk i h = checked_type (length chunk == length a.dims) (fault Shape) a.dtype a.dims chunk i h
