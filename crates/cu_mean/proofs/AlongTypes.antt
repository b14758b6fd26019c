-- What the types of the arguments of prefix sums and of groups by labels have to do with the node's own.
use Rattle.std.proofs.Common.{◌≡◌, ◌-◌, ◌<◌, ◌==◌, nat_lt, ℕ, ℤ, pos, negsuc, Bool, true, false, length, Option, Some, None, unwrap_or, Ok, refl, ap, ◌∙◌, arith, if◌then◌else◌}
use Rattle.std.proofs.lemmas.Bool.{ltb-true, eqb-true}
use Rattle.std.proofs.lemmas.List.{length-set}
use Rattle.cu_num.specs.Dtype.{IsInteger}
use Rattle.cu_num.specs.declared.folds.FoldKind.{FoldKind}
use Rattle.cu_num.specs.declared.folds.FoldKind.TheVariants as fold
use Rattle.cu_node.specs.Axes.{axis_of}
use Rattle.cu_node.specs.declared.info.NodeInfo.{NodeInfo}
use Rattle.cu_semantics.specs.Along.{line_axis}
use Rattle.cu_semantics.specs.Index.{axis_in}
use Rattle.cu_typing.specs.Along.{summed_axis, typed_cumulative, typed_groups}
use Rattle.cu_typing.proofs.PassedAlong.{cumulative_passed, groups_passed}
use Rattle.cu_mean.proofs.NodeTypes.{sum_type}

some_when : (b : Bool) (d k : ℕ) → (if b then Some d else None) ≡ Some k → (b ≡ true) × (d ≡ k)
some_when true d k h = (refl, cc)
some_when false d k h = cc

axis_below : (d : ℤ) (rank axis : ℕ) → axis_of d rank ≡ Some axis → axis < rank
axis_below (pos d) rank axis h =
    let s = some_when (nat_lt d rank) d axis h in
    let l = ltb-true d rank s.0 in
    let e = s.1 in
    omega arith
axis_below (negsuc d) rank axis h =
    let s = some_when (nat_lt d rank) (rank - 1 - d) axis h in
    let l = ltb-true d rank s.0 in
    let e = s.1 in
    omega arith

axis_in_below : (d : ℤ) (rank axis : ℕ) → axis_of d rank ≡ Some axis → axis_in rank d < rank
axis_in_below d rank axis h =
    let same : axis_in rank d ≡ axis = ap (λ o. unwrap_or o 0) h in
    let below = axis_below d rank axis h in
    omega arith

summed_below : (rank : ℕ) (axis : Option ℤ) (place : ℕ) → summed_axis rank axis ≡ Some place → line_axis rank axis < rank
summed_below rank (Some d) place h = axis_in_below d rank place h
summed_below rank None place h =
    let one = eqb-true rank 1 (some_when (rank == 1) 0 place h).0 in
    omega arith

pub cumulative_type : (axis : Option ℤ) (i r : NodeInfo) → typed_cumulative axis i ≡ Ok r
    → IsInteger r.dtype × (line_axis (length r.dims) axis < length r.dims)
cumulative_type axis i r h =
    let p = cumulative_passed axis i r h in
    (rw p.1.array (sum_type i.dtype), rw p.1.array (summed_below (length i.dims) axis p.0 p.1.named))

kind_type : (kind : FoldKind) (i : NodeInfo) → kind ≡ fold.Sum → IsInteger (Rattle.cu_num.specs.Fold.fold_type kind i.dtype)
kind_type kind i e = rw e (sum_type i.dtype)

pub groups_type : (kind : FoldKind) (number : ℤ) (groups : ℕ) (i labels r : NodeInfo)
    → typed_groups kind number groups i labels ≡ Ok r
    → (kind ≡ fold.Sum → IsInteger r.dtype) × (axis_in (length r.dims) number < length r.dims)
groups_type kind number groups i labels r h =
    let p = groups_passed kind number groups i labels r h in
    let same : length r.dims ≡ length i.dims =
    ap (λ (j : NodeInfo). length j.dims) p.1.1.array ∙ length-set i.dims p.0 groups in
    let below = axis_in_below number (length i.dims) p.0 p.1.0 in
    (λ e. rw p.1.1.array (kind_type kind i e), rw same below)
