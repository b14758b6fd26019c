-- Elements that are copied between two buffers. In each buffer an index stands at a first place and, for each axis, its number times a
-- signed stride behind it (this project's own words; strides as in NumPy, but in elements).
use Rattle.std.specs.Prelude.{◌≡◌, ◌≢◌, ℕ, ◌+◌, ◌-◌, ◌*◌, ◌≤◌, List, [], ◌∷◌, length, map}
use Rattle.cu_num.specs.Element.{in_order}
use Rattle.cu_num.specs.declared.layout.Endian.{Endian}
use Rattle.cu_shape.specs.Index.{IsInside}
use Rattle.cu_box.specs.Order.{part_at}
use Rattle.cu_box.specs.declared.strides.Axis.{Axis}
use Rattle.cu_box.specs.declared.strides.Start.{Start}
use Rattle.cu_box.specs.declared.strides.Stride.{Stride}
use Rattle.cu_box.specs.declared.strides.Stride.TheVariants.{Up, Down}

-- how far a stride goes up, and how far down
abbrev pub up : Stride → ℕ
up (Up n) = n
up (Down n) = 0

abbrev pub down : Stride → ℕ
down (Up n) = 0
down (Down n) = n

-- the sum over the axes of the index times a number of the axis
abbrev pub distance : (Axis → ℕ) → List Axis → List ℕ → ℕ
distance number (a ∷ axes) (i ∷ idx) = i * number a + distance number axes idx
distance number [] idx = 0
distance number (a ∷ axes) [] = 0

abbrev pub counts : List Axis → List ℕ
counts = map (λ a. a.count)

-- the place that is read for an index, and the one that is written
abbrev pub read_place : List Axis → Start → List ℕ → ℕ
read_place axes start idx = start.from + distance (λ a. up a.from) axes idx - distance (λ a. down a.from) axes idx

abbrev pub written_place : List Axis → Start → List ℕ → ℕ
written_place axes start idx = start.to + distance (λ a. up a.to) axes idx - distance (λ a. down a.to) axes idx

-- each index has a place in both buffers, which have so many bytes
pub record HavePlaces (size : ℕ) (axes : List Axis) (start : Start) (source target : ℕ) : Type 0 where
  pub read_natural : (i : List ℕ) → IsInside (counts axes) i → distance (λ a. down a.from) axes i ≤ start.from + distance (λ a. up a.from) axes i
  pub reads : (i : List ℕ) → IsInside (counts axes) i → read_place axes start i * size + size ≤ source
  pub written_natural : (i : List ℕ) → IsInside (counts axes) i → distance (λ a. down a.to) axes i ≤ start.to + distance (λ a. up a.to) axes i
  pub writes : (i : List ℕ) → IsInside (counts axes) i → written_place axes start i * size + size ≤ target

-- indices for which one place is written read elements of the same bytes
pub record IsEachFromOne (size : ℕ) (axes : List Axis) (start : Start) (source : List ℕ) : Type 0 where
  pub one : (i j : List ℕ) → IsInside (counts axes) i → IsInside (counts axes) j → written_place axes start i ≡ written_place axes start j
      → part_at size source (read_place axes start i) ≡ part_at size source (read_place axes start j)

-- The element that is written for each index is the one that is read, its bytes in the order; each other element is as before.
pub record IsStridedCopy (size : ℕ) (e : Endian) (axes : List Axis) (start : Start) (source old new : List ℕ) : Type 0 where
  pub same_length : length new ≡ length old
  pub copied : (i : List ℕ) → IsInside (counts axes) i
      → part_at size new (written_place axes start i) ≡ in_order e (part_at size source (read_place axes start i))
  pub others : (q : ℕ) → ((i : List ℕ) → IsInside (counts axes) i → written_place axes start i ≢ q) → part_at size new q ≡ part_at size old q

-- two indices, of two lists of axes, that are as far up and down from the first places on both sides
pub record AreAsFar (axes others : List Axis) (i j : List ℕ) : Type 0 where
  pub read_up : distance (λ a. up a.from) axes i ≡ distance (λ a. up a.from) others j
  pub read_down : distance (λ a. down a.from) axes i ≡ distance (λ a. down a.from) others j
  pub written_up : distance (λ a. up a.to) axes i ≡ distance (λ a. up a.to) others j
  pub written_down : distance (λ a. down a.to) axes i ≡ distance (λ a. down a.to) others j

pub record HasLike (axes others : List Axis) (i : List ℕ) : Type 0 where
  pub index : List ℕ
  pub inside : IsInside (counts others) index
  pub far : AreAsFar axes others i index

-- two lists of axes that stand for the same pairs of places: each index of one is as far as some index of the other
pub record AreSameAxes (axes others : List Axis) : Type 0 where
  pub there : (i : List ℕ) → IsInside (counts axes) i → HasLike axes others i
  pub back : (j : List ℕ) → IsInside (counts others) j → HasLike others axes j
