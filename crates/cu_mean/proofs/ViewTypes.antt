-- What the types of views have to do with those of their arguments.
use Rattle.std.proofs.Common.{◌≡◌, ◌+◌, ◌-◌, ◌<◌, ◌≤◌, ◌==◌, zero, suc, ℕ, ℤ, pos, negsuc, List, [], ◌∷◌, Bool, true, false, length, Some, None, Ok, refl, ap, ◌∙◌, arith}
use Rattle.std.specs.Prelude.{insert, slice_set, nat_lt, nat_le, slice_index, sum_by, ◌&&◌, if◌then◌else◌}
use Rattle.std.specs.List.{list_all}
use Rattle.std.proofs.lemmas.Bool.{and_parts, eqb-true, leb-true, ltb-true}
use Rattle.std.proofs.Math.ListN.{length-set}
use Rattle.cu_result.specs.Results.{◌>>=◌, need}
use Rattle.cu_result.proofs.ResultSteps.{check_step_ok, need_step_ok}
use Rattle.cu_num.specs.declared.types.Dtype.{Dtype}
use Rattle.cu_node.specs.Axes.{axis_of}
use Rattle.cu_node.specs.Fault.{fault}
use Rattle.cu_node.specs.Info.{info_at}
use Rattle.cu_node.specs.Limited.{limited}
use Rattle.cu_node.specs.declared.faults.FaultCode.TheVariants.{Axis, Shape, Promote}
use Rattle.cu_node.specs.declared.info.NodeInfo.{NodeInfo}
use Rattle.cu_node.proofs.KeptLimits.{given}
use Rattle.cu_typing_view.specs.Pieces.{promoted, same_shape, same_off, concat_along, typed_concat, stack_along, typed_stack}
use Rattle.cu_typing_view.specs.Rearranged.{is_permutation, permuted_sizes, typed_permute}
use Rattle.cu_typing_view.specs.Reshaped.{stretches_to, typed_broadcast}

limited_shape : (t : Dtype) (shape chunk : List ℕ) (i : NodeInfo) → limited t shape chunk ≡ Ok i → i.dims ≡ shape
limited_shape t shape chunk i h = ap (λ (j : NodeInfo). j.dims) (given true t shape chunk i h)

-- ---- axes that are moved

pub permuted_axes : (a : NodeInfo) (axes : List ℤ) (i : NodeInfo) → typed_permute a axes ≡ Ok i → length axes ≡ length a.dims
permuted_axes a axes i h =
    let p = check_step_ok (is_permutation (length a.dims) axes) (fault Axis) (λ _. limited a.dtype (permuted_sizes axes a.dims) (permuted_sizes axes a.chunk)) i h in
    eqb-true _ _ (and_parts _ _ p.0).0

-- ---- ranks

pub stretched_rank : (a : NodeInfo) (shape chunk : List ℕ) (i : NodeInfo) → typed_broadcast a shape chunk ≡ Ok i → length a.dims ≤ length i.dims
stretched_rank a shape chunk i h =
    let p = check_step_ok (stretches_to a.dims shape && length chunk == length shape) (fault Shape) (λ _. limited a.dtype shape chunk) i h in
    let s = and_parts (stretches_to a.dims shape) _ p.0 in
    let n : length a.dims ≤ length shape = leb-true _ _ (and_parts (nat_le (length a.dims) (length shape)) _ s.0).0 in
    let e = ap length (limited_shape a.dtype shape chunk i p.1) in
    omega arith

holds : (b : Bool) (x axis : ℕ) → (if b then Some x else None) ≡ Some axis → b ≡ true
holds true x axis h = refl
holds false x axis h = cc

axis_within : (number : ℤ) (rank axis : ℕ) → axis_of number rank ≡ Some axis → 0 < rank
axis_within (pos d) rank axis h = let l : d < rank = ltb-true d rank (holds (nat_lt d rank) d axis h) in omega arith
axis_within (negsuc d) rank axis h = let l : d < rank = ltb-true d rank (holds (nat_lt d rank) (rank - 1 - d) axis h) in omega arith

pub concat_rank : (args : List NodeInfo) (number : ℤ) (i : NodeInfo) → typed_concat args number ≡ Ok i → 0 < length i.dims
concat_rank args number i h =
    let first = info_at args 0 in
    let p = need_step_ok (promoted args) (fault Promote) (λ t. need (axis_of number (length first.dims)) (fault Axis) >>= λ axis. concat_along t axis args) i h in
    let q = need_step_ok (axis_of number (length first.dims)) (fault Axis) (λ axis. concat_along p.0 axis args) i p.2 in
    let shape = slice_set first.dims q.0 (sum_by (λ (j : NodeInfo). slice_index j.dims q.0) args) in
    let r = check_step_ok (list_all (λ (j : NodeInfo). same_off q.0 first.dims j.dims) args) (fault Shape) (λ _. limited p.0 shape first.chunk) i q.2 in
    let e = ap length (limited_shape p.0 shape first.chunk i r.1) ∙ length-set first.dims q.0 _ in
    let w = axis_within number (length first.dims) q.0 q.1 in
    omega arith

some_length : (xs : List ℕ) (k n : ℕ) → 0 < length (insert xs k n)
some_length xs zero n = omega arith
some_length [] (suc k) n = omega arith
some_length (x ∷ xs) (suc k) n = omega arith

pub stack_rank : (args : List NodeInfo) (number : ℤ) (i : NodeInfo) → typed_stack args number ≡ Ok i → 0 < length i.dims
stack_rank args number i h =
    let first = info_at args 0 in
    let p = need_step_ok (promoted args) (fault Promote) (λ t. need (axis_of number (length first.dims + 1)) (fault Axis) >>= λ axis. stack_along t axis args) i h in
    let q = need_step_ok (axis_of number (length first.dims + 1)) (fault Axis) (λ axis. stack_along p.0 axis args) i p.2 in
    let shape = insert first.dims q.0 (length args) in
    let r = check_step_ok (list_all (λ (j : NodeInfo). same_shape first.dims j.dims) args) (fault Shape) (λ _. limited p.0 shape (insert first.chunk q.0 1)) i q.2 in
    let e = ap length (limited_shape p.0 shape (insert first.chunk q.0 1) i r.1) in
    let w = some_length first.dims q.0 (length args) in
    omega arith
