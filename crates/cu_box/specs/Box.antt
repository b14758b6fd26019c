-- Boxes of elements that stand in larger arrays, each array being row-major bytes (this project's own words).
use Rattle.std.specs.Prelude.{◌≡◌, ◌≢◌, ℕ, ◌<◌, List, length}
use Rattle.cu_num.specs.Element.{in_order}
use Rattle.cu_num.specs.declared.layout.Endian.{Endian}
use Rattle.cu_shape.specs.Index.{product, place_of, sums, IsInside}
use Rattle.cu_box.specs.Order.{part_at}
use Rattle.cu_box.specs.declared.boxes.Placing.{Placing}

-- a box of these sizes stands in an array of this shape with its first index at `corner`
pub record IsBox (sizes shape corner : List ℕ) : Type 0 where
  pub corner_rank : length corner ≡ length sizes
  pub shape_rank : length shape ≡ length sizes
  pub inside : (i : List ℕ) → IsInside sizes i → IsInside shape (sums corner i)

-- The box at `corner` of `new` is the box at `start` of `source`, each element with its bytes in the order; each other element is as before.
pub record IsCopied (size : ℕ) (e : Endian) (b : Placing) (source old new : List ℕ) : Type 0 where
  pub copied : (i : List ℕ) → IsInside b.sizes i → part_at size new (place_of b.to (sums b.corner i)) ≡ in_order e (part_at size source (place_of b.from (sums b.start i)))
  pub others : (q : ℕ) → q < product b.to → ((i : List ℕ) → IsInside b.sizes i → place_of b.to (sums b.corner i) ≢ q) → part_at size new q ≡ part_at size old q
