-- Steps along the axes of a copy (this project's own words).
use Rattle.std.specs.Prelude.{◌≡◌, ℕ, ◌+◌, ◌-◌, ◌*◌, ◌<◌, ◌≤◌, ◌^◌, List, [], ◌∷◌, length}
use Rattle.cu_num.specs.Element.{IsSize}
use Rattle.cu_shape.specs.Index.{product}
use Rattle.cu_box.specs.Strided.{up, down, HavePlaces, IsEachFromOne}
use Rattle.cu_box.specs.declared.strides.Axis.{Axis}
use Rattle.cu_box.specs.declared.strides.Start.{Start}
use Rattle.cu_box.specs.declared.strides.Stride.TheVariants.{Up}
use Rattle.cu_box.specs.declared.planes.Plane.{Plane}

-- the axis with so many indices
abbrev pub with_count : Axis → ℕ → Axis
with_count a n = record { count = n; from = a.from; to = a.to }

-- the first places behind so many indices of an axis
abbrev pub later_start : Start → Axis → ℕ → Start
later_start start a k = record { from = start.from + k * up a.from - k * down a.from; to = start.to + k * up a.to - k * down a.to }

-- these are places
pub record IsStart (start : Start) (axis : Axis) (k : ℕ) : Type 0 where
  pub read : k * down axis.from ≤ start.from + k * up axis.from
  pub written : k * down axis.to ≤ start.to + k * up axis.to
  pub read_small : start.from + k * up axis.from - k * down axis.from < 2 ^ 64
  pub written_small : start.to + k * up axis.to - k * down axis.to < 2 ^ 64

-- the outer axis goes on where the inner one ends, in both buffers, and the third one is both
pub record AreJoined (outer inner whole : Axis) : Type 0 where
  pub count : whole.count ≡ outer.count * inner.count
  pub from : whole.from ≡ inner.from
  pub to : whole.to ≡ inner.to
  pub read_up : up outer.from ≡ inner.count * up inner.from
  pub read_down : down outer.from ≡ inner.count * down inner.from
  pub written_up : up outer.to ≡ inner.count * up inner.to
  pub written_down : down outer.to ≡ inner.count * down inner.to

-- elements along this axis follow one another in both buffers
pub record IsDenseAxis (axis : Axis) : Type 0 where
  pub read : axis.from ≡ Up 1
  pub written : axis.to ≡ Up 1

-- the elements of these axes can be copied into a buffer of so many bytes
pub record CanCopy (size : ℕ) (axes : List Axis) (start : Start) (source : List ℕ) (target : ℕ) : Type 0 where
  pub sized : IsSize size
  pub places : HavePlaces size axes start (length source) target
  pub each : IsEachFromOne size axes start source

abbrev pub plane_axes : Plane → List Axis
plane_axes plane = plane.outer ∷ plane.inner ∷ []

-- a plane's part of so many indices of an axis, from one of them on
abbrev pub inner_block_of : Plane → ℕ → ℕ → Plane
inner_block_of plane at count = record { outer = plane.outer; inner = with_count plane.inner count; start = later_start plane.start plane.inner at }

abbrev pub outer_block_of : Plane → ℕ → ℕ → Plane
outer_block_of plane at count = record { outer = with_count plane.outer count; inner = plane.inner; start = later_start plane.start plane.outer at }

-- the axes of a box of these sizes in two row-major arrays: each stride is the number of elements of the later axes
abbrev pub box_axes : List ℕ → List ℕ → List ℕ → List Axis
box_axes (n ∷ ns) (f ∷ fs) (t ∷ ts) = record { count = n; from = Up (product fs); to = Up (product ts) } ∷ box_axes ns fs ts
box_axes [] fs ts = []
box_axes (n ∷ ns) [] ts = []
box_axes (n ∷ ns) (f ∷ fs) [] = []
