-- The first array of partial results, and the list of steps behind it.
use Rattle.std.proofs.Common.{◌≡◌, ℕ, zero, suc, ◌+◌, ◌-◌, ◌*◌, ◌<◌, ◌≤◌, ◌^◌, List, ◌∷◌, length, Some, slice_get, refl, ap, sym, ◌∙◌, arith}
use Rattle.std.proofs.lemmas.Nat.{mul-le}
use Rattle.cu_num.specs.Dtype.{size_of}
use Rattle.cu_num.specs.declared.types.Dtype.{Dtype}
use Rattle.cu_num.specs.declared.types.Dtype.TheVariants as types
use Rattle.cu_num.specs.declared.folds.FoldKind.TheVariants.{Sum}
use Rattle.cu_shape.specs.Index.{product}
use Rattle.cu_origin.specs.declared.axes.Axes.{Axes}
use Rattle.cu_op.specs.Partial.{partial_grid, IsSqueezed}
use Rattle.cu_node.specs.Info.{IsInfo}
use Rattle.cu_node.specs.declared.info.NodeInfo.{NodeInfo}
use Rattle.cu_tree.specs.Marks.{sought_axes}
use Rattle.cu_tree.specs.Partials.{partial_chunk_from, first_partial, reduction_rounds, product_partial, product_rounds, AreMerges}
use Rattle.cu_tree.specs.declared.round.Round.{Round}
use Rattle.cu_tree.proofs.Orders.{of_reduction, of_product}
use Rattle.cu_lower_reduce.specs.Products.{product_steps}
use Rattle.cu_lower_reduce.specs.Reductions.{merges, reduction_steps, whole_groups}
use Rattle.cu_lower_reduce.specs.Searches.{pair_merges, search_steps, IsSearch}
use Rattle.cu_lower_reduce.specs.Steps.{grid_of}
use Rattle.cu_lower_reduce.specs.declared.product.Product.{Product}
use Rattle.cu_lower_reduce.specs.declared.reduction.Reduction.{Reduction}
use Rattle.cu_lower_reduce.specs.declared.search.Search.{Search}
use Rattle.cu_lower_reduce.specs.declared.step.Setting.{Setting}
use Rattle.cu_lower_reduce.specs.declared.step.Step.{Step}
use Rattle.cu_lower_reduce.proofs.Chains.{length-merges, length-pair_merges}
use Rattle.cu_lower_reduce.proofs.Squeezed.{same_chunk, same_chunks}

-- a chunk of partial results has as many elements as one of the result
pub same_size : (axes : Axes) (from made : NodeInfo) → length from.chunk ≡ length from.dims → IsSqueezed (partial_grid (whole_groups axes from.dims) (grid_of from)) (grid_of made)
    → product (partial_chunk_from axes 0 from.chunk) ≡ product made.chunk
same_size axes from made ranks h =
    ap product (sym (same_chunks axes 0 from.dims from.chunk (sym ranks))) ∙ same_chunk _ _ made.dims made.chunk h

pub first_bytes : (axes : Axes) (from made : NodeInfo) → IsInfo from → IsInfo made → IsSqueezed (partial_grid (whole_groups axes from.dims) (grid_of from)) (grid_of made)
    → product (partial_chunk_from axes 0 from.chunk) * size_of made.dtype ≤ 2 ^ 28
first_bytes axes from made f m h = rw (same_size axes from made f.ranks h) m.bytes

-- no type has more bytes than an integer of 64 bits
pub size_most : (t : Dtype) → size_of t ≤ 8
size_most types.Bool = omega arith
size_most types.Int8 = omega arith
size_most types.Int16 = omega arith
size_most types.Int32 = omega arith
size_most types.Int64 = omega arith
size_most types.Uint8 = omega arith
size_most types.Uint16 = omega arith
size_most types.Uint32 = omega arith
size_most types.Uint64 = omega arith

pub value_room : (x : Search) → IsSearch x → product x.made.chunk * size_of x.from.dtype ≤ 2 ^ 28
value_room x h =
    let b = h.made.bytes in
    let e : size_of x.made.dtype ≡ 8 = ap size_of h.places in
    let w = rw e at b in
    let m : product x.made.chunk * size_of x.from.dtype ≤ product x.made.chunk * 8 = mul-le (product x.made.chunk) (size_of x.from.dtype) (product x.made.chunk) 8 (omega arith) (size_most x.from.dtype) in
    omega arith

pub merges_reduction : (t : Dtype) (axes : Axes) (g : ℕ) (source : NodeInfo) → 2 ≤ g → IsInfo source → AreMerges (first_partial t axes source) (reduction_rounds axes g source)
merges_reduction t axes g source h k = record { axes = axes; split_every = g; groups = h; rule = of_reduction t axes g source h k.ranks }

pub merges_product : (g : ℕ) (left made : NodeInfo) → 2 ≤ g → AreMerges (product_partial left made) (product_rounds g left made)
merges_product g left made h = record { axes = record { 0 = 2 ^ length made.dims }; split_every = g; groups = h; rule = of_product g left made h }

-- ---- the steps behind the first

pub behind : (y : Step) (ys : List Step) (at : ℕ) → 0 < at → slice_get (y ∷ ys) at ≡ slice_get ys (at - 1)
behind y ys zero h = absurd (omega arith)
behind y ys (suc k) h = let e : suc k - 1 ≡ k = omega arith in rw e refl

pub reduction_behind : (s : Setting) (x : Reduction) (at : ℕ) (partial : NodeInfo) (rounds : List Round) (r : Step) → 0 < at → partial ≡ first_partial x.made.dtype x.axes x.from
    → rounds ≡ reduction_rounds x.axes s.split_every x.from → slice_get (merges s x.kind x.made s.first partial rounds) (at - 1) ≡ Some r → slice_get (reduction_steps s x) at ≡ Some r
reduction_behind s x at partial rounds r h p q e =
    let w = rw (p, q) at e in
    behind _ (merges s x.kind x.made s.first (first_partial x.made.dtype x.axes x.from) (reduction_rounds x.axes s.split_every x.from)) at h ∙ w

pub product_behind : (s : Setting) (x : Product) (at : ℕ) (partial : NodeInfo) (rounds : List Round) (r : Step) → 0 < at → partial ≡ product_partial x.left_info x.made
    → rounds ≡ product_rounds s.split_every x.left_info x.made → slice_get (merges s Sum x.made s.first partial rounds) (at - 1) ≡ Some r → slice_get (product_steps s x) at ≡ Some r
product_behind s x at partial rounds r h p q e =
    let w = rw (p, q) at e in
    behind _ (merges s Sum x.made s.first (product_partial x.left_info x.made) (product_rounds s.split_every x.left_info x.made)) at h ∙ w

pub search_behind : (s : Setting) (x : Search) (at : ℕ) (axes : Axes) (values places : NodeInfo) (rounds : List Round) (r : Step) → 0 < at → axes ≡ sought_axes x.axis
    → values ≡ first_partial x.from.dtype axes x.from → places ≡ first_partial types.Int64 axes x.from → rounds ≡ reduction_rounds axes s.split_every x.from
    → slice_get (pair_merges s x s.first values places rounds) (at - 1) ≡ Some r → slice_get (search_steps s x) at ≡ Some r
search_behind s x at axes values places rounds r h a v p q e =
    let w = rw (v, p, q) at e in
    let u = rw a at w in
    behind _ (pair_merges s x s.first (first_partial x.from.dtype (sought_axes x.axis) x.from) (first_partial types.Int64 (sought_axes x.axis) x.from) (reduction_rounds (sought_axes x.axis) s.split_every x.from)) at h ∙ u

-- ---- how many there are

pub reduction_count : (s : Setting) (x : Reduction) → length (reduction_steps s x) ≡ length (reduction_rounds x.axes s.split_every x.from) + 1
reduction_count s x =
    let e = length-merges s x.kind x.made s.first (first_partial x.made.dtype x.axes x.from) (reduction_rounds x.axes s.split_every x.from) in
    omega (arith, e)

pub product_count : (s : Setting) (x : Product) → length (product_steps s x) ≡ length (product_rounds s.split_every x.left_info x.made) + 1
product_count s x =
    let e = length-merges s Sum x.made s.first (product_partial x.left_info x.made) (product_rounds s.split_every x.left_info x.made) in
    omega (arith, e)

pub search_count : (s : Setting) (x : Search) → length (search_steps s x) ≡ length (reduction_rounds (sought_axes x.axis) s.split_every x.from) + 1
search_count s x =
    let e = length-pair_merges s x s.first (first_partial x.from.dtype (sought_axes x.axis) x.from) (first_partial types.Int64 (sought_axes x.axis) x.from) (reduction_rounds (sought_axes x.axis) s.split_every x.from) in
    omega (arith, e)
