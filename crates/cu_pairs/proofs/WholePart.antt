-- The best of all elements of a part of an array.
use Rattle.std.proofs.Common.{◌≡◌, ℕ, ◌+◌, ◌*◌, ◌/◌, ◌^◌, ◌<◌, ◌≤◌, pos, false, List, length, get_or, None, refl, sym, ap, ◌∙◌, subst, arith}
use Rattle.std.specs.Prelude.{Bool as Test, int_lt}
use Rattle.std.proofs.lemmas.Int.{ints}
use Rattle.cu_num.specs.Dtype.{size_of}
use Rattle.cu_num.specs.Element.{element_at}
use Rattle.cu_num.specs.declared.types.Dtype.{Dtype}
use Rattle.cu_num.specs.declared.layout.Endian.TheVariants.{Little}
use Rattle.cu_shape.specs.Index.{product, place_of, index_at, sums}
use Rattle.cu_shape.proofs.Axes.{get_or-axis_by_axis, length-axis_by_axis}
use Rattle.cu_shape.proofs.Places.{inside-length, inside-positive, length-index_at, place-index}
use Rattle.cu_grid.specs.Counts.{IsRegion}
use Rattle.cu_grid.proofs.Regions.{inside-at}
use Rattle.cu_reduce.specs.Places.{Found}
use Rattle.cu_pairs.specs.Elements.{found_in_area, area}
use Rattle.cu_pairs.specs.Runs.{elements, IsFirstBest}
use Rattle.cu_pairs.specs.Columns.{IsBestOf}
use Rattle.cu_pairs.proofs.Parts.{element_count}
use Rattle.cu_pairs.proofs.Leading.{first_is_best, same_first}
use Rattle.cu_pairs.proofs.Sizes.{size_below}
use Rattle.cu_pairs.proofs.Ordered.{inside_whole, places_rise}

length-region : (shape lo dims : List ℕ) → IsRegion shape lo (sums lo dims) → length dims ≡ length lo → (p : ℕ) → p < product dims → length shape ≡ length lo
length-region shape lo dims r e p h =
    let inside = inside_whole shape lo dims p r e h in
    sym (inside-length shape (sums lo (index_at dims p)) inside) ∙ length-sums lo (index_at dims p) (sym e ∙ sym (length-index_at dims p))
  where
    length-sums : (xs ys : List ℕ) → length xs ≡ length ys → length (sums xs ys) ≡ length xs
    length-sums xs ys e = length-axis_by_axis (λ i j. i + j) xs ys e

pub below_limit : (shape lo dims : List ℕ) (p k : ℕ) → IsRegion shape lo (sums lo dims) → length dims ≡ length lo → product shape ≤ 2 ^ 56 → p < product dims → k < length dims
    → get_or lo k 0 + get_or (index_at dims p) k 0 < 2 ^ 64
below_limit shape lo dims p k r e small h b =
    let inside = inside_whole shape lo dims p r e h in
    let ranks = length-region shape lo dims r e p h in
    let own = length-index_at dims p in
    let at : get_or (sums lo (index_at dims p)) k 0 < get_or shape k 0 = inside-at shape (sums lo (index_at dims p)) k inside (omega arith) in
    let sum = get_or-axis_by_axis (λ i j. i + j) lo (index_at dims p) k (omega arith) (omega arith) in
    let most = size_below shape k (omega arith) (inside-positive shape (sums lo (index_at dims p)) inside) in
    omega arith

abbrev pub in_part : Dtype → List ℕ → List ℕ → List ℕ → List ℕ → ℕ → Found
in_part t input shape lo dims p = found_in_area t input (area shape lo dims None) (index_at dims p)

pub best_of_part : (least : Test) (t : Dtype) (input shape lo dims : List ℕ) (at : ℕ) → IsRegion shape lo (sums lo dims) → length dims ≡ length lo → length input ≡ product dims * size_of t
    → IsFirstBest least (elements t input) (length input / size_of t) at → IsBestOf least (in_part t input shape lo dims) (product dims) (in_part t input shape lo dims at)
best_of_part least t input shape lo dims at r e long h =
    let count : length input / size_of t ≡ product dims = element_count t (product dims) (size_of t) (length input) refl long in
    first_is_best least (in_part t input shape lo dims) (product dims) at
    (same_first least (elements t input) (λ j. (in_part t input shape lo dims j).value) (product dims) at (λ j b. ap (element_at Little t input) (sym (place-index dims j b)))
    (subst (λ n. IsFirstBest least (elements t input) n at) count h))
    (λ i j o b. let rise = places_rise shape lo dims i j r e o b in
    let places : int_lt (pos (place_of shape (sums lo (index_at dims j)))) (pos (place_of shape (sums lo (index_at dims i)))) ≡ false = grind (arith, ints) in places)
