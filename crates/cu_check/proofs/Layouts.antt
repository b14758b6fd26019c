-- What a layout of a stored array keeps.
use Rattle.std.proofs.Common.{ℕ, ◌*◌, max, ◌<◌, ◌≤◌, ◌^◌, rules, List, [], ◌∷◌, All, refl, inl, inr, arith}
use Rattle.std.specs.Prelude.{bytes_eq}
use Rattle.std.proofs.lemmas.Bool.{cases_Bool}
use Rattle.std.proofs.lemmas.List.Elements.{All-head, All-tail, All-nil, All-cons}
use Rattle.std.proofs.lemmas.Nat.{mul-le}
use Rattle.cu_num.specs.Dtype.{size_of}
use Rattle.cu_num.specs.declared.types.Dtype.{Dtype}
use Rattle.cu_num.specs.declared.types.Dtype.TheVariants as dtype
use Rattle.cu_shape.specs.Index.{product, IsInside}
use Rattle.cu_grid.specs.Counts.{at_least_one, counts_of}
use Rattle.cu_grid.specs.Grid.{IsCoordinate}
use Rattle.cu_shape.proofs.Products.{product_within}
use Rattle.cu_expr.proofs.LayoutInfo.{stored_info}
use Rattle.cu_expr.specs.declared.inputs.InputInfo.{InputInfo}
use Rattle.cu_op.specs.Arrays.{no_array}
use Rattle.cu_op.specs.declared.layout.Layout.{Layout}
use Rattle.cu_command.specs.Stored.{IsArrayLayout}
use Rattle.cu_expr.specs.Inputs.{layout_named}

pub few_elements : (l : Layout) → IsArrayLayout l → product l.grid.shape ≤ 2 ^ 40
few_elements l ok =
    let info = stored_info l (record { axes = ok.storable.axes; grid = ok.storable.grid }) in
    let most = info.elements in
    let whole = product_within l.grid.shape in
    omega arith

most_wide : (t : Dtype) → size_of t ≤ 8
most_wide dtype.Bool = omega arith
most_wide dtype.Int8 = omega arith
most_wide dtype.Int16 = omega arith
most_wide dtype.Int32 = omega arith
most_wide dtype.Int64 = omega arith
most_wide dtype.Uint8 = omega arith
most_wide dtype.Uint16 = omega arith
most_wide dtype.Uint32 = omega arith
most_wide dtype.Uint64 = omega arith

-- the bytes of so few elements
pub few_bytes : (n : ℕ) (t : Dtype) → n ≤ 2 ^ 40 → n * size_of t ≤ 2 ^ 40 * 8
few_bytes n t few = mul-le n (size_of t) (2 ^ 40) 8 few (most_wide t)

some_product : (ns : List ℕ) → 0 < product (at_least_one ns)
some_product [] = omega arith
some_product (n ∷ ns) =
    let rest = some_product ns in
    let most : 1 * 1 ≤ max 1 n * product (at_least_one ns) = mul-le 1 1 (max 1 n) (product (at_least_one ns)) (omega arith) (omega arith) in
    omega arith

below_most : (m : ℕ) (ns is : List ℕ) → product (at_least_one ns) ≤ m → IsInside ns is → All (λ i. i < m) is
below_most m [] [] few h = All-nil (λ i. i < m)
below_most m [] (i ∷ is) few h = absurd h
below_most m (n ∷ ns) [] few h = absurd h
below_most m (n ∷ ns) (i ∷ is) few h =
    let rest = some_product ns in
    let own : max 1 n * 1 ≤ max 1 n * product (at_least_one ns) = mul-le (max 1 n) 1 (max 1 n) (product (at_least_one ns)) (omega arith) (omega arith) in
    let tail : 1 * product (at_least_one ns) ≤ max 1 n * product (at_least_one ns) = mul-le 1 (product (at_least_one ns)) (max 1 n) (product (at_least_one ns)) (omega arith) (omega arith) in
    let first = h.0 in
    All-cons (λ j. j < m) i is (omega arith) (below_most m ns is (omega arith) h.1)

-- the coordinate of a chunk is one that a key can have
pub small_coordinate : (l : Layout) (coord : List ℕ) → IsArrayLayout l → IsCoordinate l.grid coord → All (λ i. i < 1048576) coord
small_coordinate l coord ok inside =
    let info = stored_info l (record { axes = ok.storable.axes; grid = ok.storable.grid }) in
    let most = info.chunks in
    below_most 1048576 (counts_of l.grid.shape l.grid.chunk) coord (omega arith) inside

no_layout : IsArrayLayout no_array.layout
no_layout = record {
  grid = record { ranks = refl; short = omega arith; positive = All-nil (λ c. 0 < c); elements = omega arith; chunk_elements = omega arith };
  storable = record { axes = omega arith; grid = refl; fill = search rules; endian = λ one. refl };
}

-- each layout that is looked up by a name is one
pub named_fits : (inputs : List InputInfo) (name : List ℕ) → All (λ i. IsArrayLayout i.layout) inputs → IsArrayLayout (layout_named inputs name)
named_fits [] name h = no_layout
named_fits (i ∷ is) name h =
    elim (cases_Bool (bytes_eq name i.name)) [
      | inl same ↦ rw same (All-head (λ (x : InputInfo). IsArrayLayout x.layout) i is h)
      | inr other ↦ rw other (named_fits is name (All-tail (λ (x : InputInfo). IsArrayLayout x.layout) i is h))
    ]
