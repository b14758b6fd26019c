-- What the arguments of an accepted reduction and of an accepted matrix product have passed.
use Rattle.std.proofs.Common.{◌≡◌, ℕ, zero, suc, ◌==◌, ◌<◌, Bool, true, ℤ, List, length, Option, Some, Result, Ok, refl, arith}
use Rattle.std.specs.Prelude.{not, ◌&&◌, nat_le}
use Rattle.std.proofs.lemmas.Bool.{and_parts, not-true, eqb-true, eqb-false, leb-true}
use Rattle.cu_result.specs.Results.{◌>>=◌, check, need}
use Rattle.cu_result.proofs.ResultSteps.{step_ok, check_step_ok, need_step_ok, need_ok}
use Rattle.cu_num.specs.Dtype.{is_integer}
use Rattle.cu_num.specs.Promotion.{promotion}
use Rattle.cu_num.specs.declared.types.Dtype.{Dtype}
use Rattle.cu_shape.specs.Index.{product}
use Rattle.cu_node.specs.Fault.{fault}
use Rattle.cu_node.specs.Limited.{limit, limited, limited_beside}
use Rattle.cu_node.proofs.KeptLimits.{given, beside_kept}
use Rattle.cu_node.specs.declared.faults.FaultCode.TheVariants.{Kind, Promote, Axis, Shape, EmptyReduce}
use Rattle.cu_node.specs.declared.faults.NodeFault.{NodeFault}
use Rattle.cu_node.specs.declared.info.NodeInfo.{NodeInfo}
use Rattle.cu_typing.specs.Accepted.{IsAcceptedReduction, IsAcceptedProduct}
use Rattle.cu_typing.specs.Joined.{joined_shape}
use Rattle.cu_typing.specs.Matmul.{left_summed, right_summed, leading_arrays, are_within, product_shape, product_chunk, product_type, product_lead, product_array, typed_matmul}
use Rattle.cu_typing.specs.Reduction.{ReductionRule, marks_of, reduced_sizes, kept_sizes, reduced}
use Rattle.cu_typing.proofs.GoingInto.{joined_go_into}

pub reduction_passed : (rule : ReductionRule) (axes : Option (List ℤ)) (keepdims : Bool) (i r : NodeInfo) → reduced rule axes keepdims i ≡ Ok r → (marks : List Bool) × IsAcceptedReduction rule axes keepdims i marks r
reduction_passed rule axes keepdims i r h =
    let made : List Bool → Result NodeInfo NodeFault = λ marks. limited rule.dtype (kept_sizes keepdims i.dims marks) (kept_sizes keepdims i.chunk marks) in
    let filled : List Bool → Bool = λ marks. not (rule.needs_element && product (reduced_sizes i.dims marks) == 0) in
    let a = check_step_ok rule.accepts (fault Kind) (λ _. need (marks_of (length i.dims) axes) (fault Axis) >>= λ marks. check (filled marks) (fault EmptyReduce) >>= λ _. made marks) r h in
    let b = need_step_ok (marks_of (length i.dims) axes) (fault Axis) (λ marks. check (filled marks) (fault EmptyReduce) >>= λ _. made marks) r a.1 in
    let c = check_step_ok (filled b.0) (fault EmptyReduce) (λ _. made b.0) r b.2 in (
      b.0,
      record {
        accepted = a.0;
        named = b.1;
        elements = not-true _ c.0;
        array = given true rule.dtype (kept_sizes keepdims i.dims b.0) (kept_sizes keepdims i.chunk b.0) r c.1;
      },
    )

-- the types of a product
type_passed : (l r : NodeInfo) (t : Dtype) → product_type l r ≡ Ok t → (is_integer l.dtype ≡ true) × (is_integer r.dtype ≡ true) × (promotion l.dtype r.dtype ≡ Some t)
type_passed l r t h =
    let a = check_step_ok (is_integer l.dtype && is_integer r.dtype) (fault Kind) (λ _. need (promotion l.dtype r.dtype) (fault Promote)) t h in
    let both = and_parts _ _ a.0 in
    (both.0, both.1, need_ok (promotion l.dtype r.dtype) (fault Promote) t a.1)

above_zero : (n : ℕ) → not (n == 0) ≡ true → 0 < n
above_zero zero h = absurd (eqb-false 0 0 (not-true _ h) refl)
above_zero (suc n) h = omega arith

-- its leading axes
lead_passed : (l r : NodeInfo) (lead : List ℕ) → product_lead l r ≡ Ok lead → (0 < length l.dims) × (0 < length r.dims) × (joined_shape (leading_arrays l r) ≡ Ok lead) × (left_summed l.dims ≡ right_summed r.dims)
lead_passed l r lead h =
    let agree = left_summed l.dims == right_summed r.dims in
    let a = check_step_ok (not (length l.dims == 0) && not (length r.dims == 0)) (fault Axis) (λ _. joined_shape (leading_arrays l r) >>= λ lead. check agree (fault Shape) >>= λ _. Ok lead) lead h in
    let b = step_ok (joined_shape (leading_arrays l r)) (λ lead. check agree (fault Shape) >>= λ _. Ok lead) lead a.1 in
    let c = check_step_ok agree (fault Shape) (λ _. Ok b.0) lead b.2 in
    let value : List ℕ → Result (List ℕ) NodeFault = λ x. Ok x in
    let e : value b.0 ≡ value lead = c.1 in
    let same : b.0 ≡ lead = cc e in
    let both = and_parts _ _ a.0 in
    (above_zero _ both.0, above_zero _ both.1, rw same at b.1, eqb-true _ _ c.0)

pub product_passed : (l r i : NodeInfo) → typed_matmul l r ≡ Ok i → (t : Dtype) × ((lead : List ℕ) × IsAcceptedProduct l r t lead i)
product_passed l r i h =
    let a = step_ok (product_type l r) (λ t. product_lead l r >>= λ lead. product_array t lead l r) i h in
    let b = step_ok (product_lead l r) (λ lead. product_array a.0 lead l r) i a.2 in
    let t = a.0 in
    let lead = b.0 in
    let c = check_step_ok (nat_le (length (product_shape lead l r)) 5) (limit 1) (λ _. limited_beside (are_within lead l r) t (product_shape lead l r) (product_chunk lead l r)) i b.2 in
    let types = type_passed l r t a.1 in
    let shapes = lead_passed l r lead b.1 in
    let within = and_parts _ _ (beside_kept (are_within lead l r) t (product_shape lead l r) (product_chunk lead l r) i c.1) in (
      t,
      (
        lead,
        record {
          left_type = types.0;
          right_type = types.1;
          promoted = types.2;
          left_rank = shapes.0;
          right_rank = shapes.1;
          leading = shapes.2;
          broadcast = joined_go_into (leading_arrays l r) lead shapes.2;
          inner = shapes.3;
          short = leb-true _ _ c.0;
          left_within = within.0;
          right_within = within.1;
          array = given (are_within lead l r) t (product_shape lead l r) (product_chunk lead l r) i c.1;
        },
      ),
    )
