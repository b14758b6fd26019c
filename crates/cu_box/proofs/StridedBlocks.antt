-- Copies along strides of blocks of an axis, one after another.
use Rattle.std.proofs.Common.{◌≡◌, ℕ, ◌+◌, ◌-◌, ◌*◌, ◌<◌, ◌≤◌, ◌^◌, List, [], ◌∷◌, length, sym, ap, ◌∙◌, subst, arith}
use Rattle.cu_num.specs.declared.layout.Endian.{Endian}
use Rattle.cu_shape.specs.Index.{product, IsInside}
use Rattle.cu_box.specs.Order.{part_at}
use Rattle.cu_box.specs.Strided.{up, down, distance, counts, read_place, written_place, IsStridedCopy}
use Rattle.cu_box.specs.StridedSteps.{with_count, later_start, IsStart, CanCopy, plane_axes, inner_block_of, outer_block_of}
use Rattle.cu_box.specs.declared.planes.Plane.{Plane}
use Rattle.cu_box.specs.declared.strides.Axis.{Axis}
use Rattle.cu_box.specs.declared.strides.Start.{Start}
use Rattle.cu_box.proofs.StridedAxes.{same_exchanged, copied_as}
use Rattle.cu_box.proofs.StridedNormal.{can_as}
use Rattle.cu_box.proofs.StridedLoops.{IsAbove, above_at, read_later, written_later, more_copied, each_of_fewer, start_of, one_axis}

module _ (size : ℕ) (a : Axis) (xs : List Axis) (start : Start) (k n : ℕ) (source : List ℕ) (target : ℕ) (can : CanCopy size (a ∷ xs) start source target)
    (some : 0 < product (counts xs)) (more : 0 < n) (within : k + n ≤ a.count) where
  abbrev place : Start
  place = later_start start a k

  abbrev block : List Axis
  block = with_count a n ∷ xs

  above : IsAbove start a k
  above = above_at size a xs start k (length source) target can.places some (omega (arith, more, within))

  -- an index of the block as one of the whole axis
  record IsOfWhole (i : List ℕ) : Type 0 where
    pub index : List ℕ
    pub inside : IsInside (counts (a ∷ xs)) index
    pub read : read_place block place i ≡ read_place (a ∷ xs) start index
    pub written : written_place block place i ≡ written_place (a ∷ xs) start index
    pub read_natural : distance (λ x. down x.from) block i ≤ place.from + distance (λ x. up x.from) block i
    pub written_natural : distance (λ x. down x.to) block i ≤ place.to + distance (λ x. up x.to) block i

  of_whole : (i : List ℕ) → IsInside (counts block) i → IsOfWhole i
  of_whole [] h = absurd h
  of_whole (i ∷ is) h =
      let b : i < n = h.0 in
      let g : IsInside (counts (a ∷ xs)) ((k + i) ∷ is) = (omega (arith, b, within), h.1) in
      let r = can.places.read_natural ((k + i) ∷ is) g in
      let w = can.places.written_natural ((k + i) ∷ is) g in
      let ar = above.read in
      let aw = above.written in
      record {
        index = (k + i) ∷ is;
        inside = g;
        read = read_later a n a.count xs start k i is above;
        written = written_later a n a.count xs start k i is above;
        read_natural = natural k i (up a.from) (down a.from) start.from (distance (λ x. up x.from) xs is) (distance (λ x. down x.from) xs is) r ar;
        written_natural = natural k i (up a.to) (down a.to) start.to (distance (λ x. up x.to) xs is) (distance (λ x. down x.to) xs is) w aw;
      }
    where
      natural : (k i u d s U D : ℕ) → (k + i) * d + D ≤ s + ((k + i) * u + U) → k * d ≤ s + k * u → i * d + D ≤ s + k * u - k * d + (i * u + U)
      natural k i u d s U D p q =
          let x : (k + i) * u ≡ k * u + i * u = omega arith in
          let y : (k + i) * d ≡ k * d + i * d = omega arith in
          omega (arith, x, y, p, q)

  pub can_block : CanCopy size (with_count a n ∷ xs) (later_start start a k) source target
  can_block = record {
    sized = can.sized;
    places = record {
      read_natural = λ i h. (of_whole i h).read_natural;
      reads = λ i h. (let m = of_whole i h in subst (λ (x : ℕ). x * size + size ≤ length source) (sym m.read) (can.places.reads m.index m.inside));
      written_natural = λ i h. (of_whole i h).written_natural;
      writes = λ i h. (let m = of_whole i h in subst (λ (x : ℕ). x * size + size ≤ target) (sym m.written) (can.places.writes m.index m.inside));
    };
    each = record {
      one = λ i j h g is.
          (let m = of_whole i h in let l = of_whole j g in
          ap (part_at size source) m.read ∙ can.each.one m.index l.index m.inside l.inside (sym m.written ∙ is ∙ l.written) ∙ ap (part_at size source) (sym l.read));
    };
  }

  pub block_copied : (e : Endian) (old mid new : List ℕ) → IsStridedCopy size e (with_count a k ∷ xs) start source old mid → IsStridedCopy size e (with_count a n ∷ xs) (later_start start a k) source mid new
      → IsStridedCopy size e (with_count a (k + n) ∷ xs) start source old new
  block_copied e old mid new first second = more_copied size e a xs start k n source old mid new (each_of_fewer size a (k + n) xs start source within can.each) above first second

-- the same along the inner one of two axes
pub can_exchanged : (size : ℕ) (a b : Axis) (start : Start) (source : List ℕ) (target : ℕ) → CanCopy size (a ∷ b ∷ []) start source target → CanCopy size (b ∷ a ∷ []) start source target
can_exchanged size a b start source target can = can_as size (a ∷ b ∷ []) (b ∷ a ∷ []) start source target (same_exchanged a b []) can

pub copied_exchanged : (size : ℕ) (e : Endian) (a b : Axis) (start : Start) (source old new : List ℕ) → IsStridedCopy size e (a ∷ b ∷ []) start source old new → IsStridedCopy size e (b ∷ a ∷ []) start source old new
copied_exchanged size e a b start source old new c = copied_as size e (b ∷ a ∷ []) (a ∷ b ∷ []) start source old new (same_exchanged b a []) c

-- ---- the same for planes

module _ (size : ℕ) (plane part : Plane) (at count : ℕ) (source : List ℕ) (target : ℕ) (can : CanCopy size (plane_axes plane) plane.start source target)
    (some : 0 < plane.outer.count) (more : 0 < count) (within : at + count ≤ plane.inner.count) (is : part ≡ inner_block_of plane at count) where
  inner_first : CanCopy size (plane.inner ∷ plane.outer ∷ []) plane.start source target
  inner_first = can_exchanged size plane.outer plane.inner plane.start source target can

  own : CanCopy size (plane_axes (inner_block_of plane at count)) (later_start plane.start plane.inner at) source target
  own = can_exchanged size (with_count plane.inner count) plane.outer (later_start plane.start plane.inner at) source target
      (can_block size plane.inner (plane.outer ∷ []) plane.start at count source target inner_first (one_axis plane.outer some) more within)

  pub inner_start : length source < 2 ^ 64 → target < 2 ^ 64 → IsStart plane.start plane.inner at
  inner_start s t = start_of size plane.inner (plane.outer ∷ []) plane.start at source target inner_first (one_axis plane.outer some) (omega (arith, more, within)) s t

  pub inner_can : (n : ℕ) → n ≡ target → CanCopy size (plane_axes part) part.start source n
  inner_can n e =
      subst (λ (p : Plane). CanCopy size (plane_axes p) p.start source n) (sym is)
      (subst (λ (m : ℕ). CanCopy size (plane_axes (inner_block_of plane at count)) (later_start plane.start plane.inner at) source m) (sym e) own)

  pub inner_counts : (part.outer.count ≡ plane.outer.count) × (part.inner.count ≡ count)
  inner_counts = (ap (λ (p : Plane). p.outer.count) is, ap (λ (p : Plane). p.inner.count) is)

  pub inner_copied : (e : Endian) (old mid new : List ℕ) → IsStridedCopy size e (with_count plane.inner at ∷ plane.outer ∷ []) plane.start source old mid → IsStridedCopy size e (plane_axes part) part.start source mid new
      → IsStridedCopy size e (with_count plane.inner (at + count) ∷ plane.outer ∷ []) plane.start source old new
  inner_copied e old mid new first second =
      block_copied size plane.inner (plane.outer ∷ []) plane.start at count source target inner_first (one_axis plane.outer some) more within e old mid new first
      (copied_exchanged size e plane.outer (with_count plane.inner count) (later_start plane.start plane.inner at) source mid new
      (subst (λ (p : Plane). IsStridedCopy size e (plane_axes p) p.start source mid new) is second))

module _ (size : ℕ) (plane part : Plane) (at count : ℕ) (source : List ℕ) (target : ℕ) (can : CanCopy size (plane_axes plane) plane.start source target)
    (some : 0 < plane.inner.count) (more : 0 < count) (within : at + count ≤ plane.outer.count) (is : part ≡ outer_block_of plane at count) where
  pub outer_start : length source < 2 ^ 64 → target < 2 ^ 64 → IsStart plane.start plane.outer at
  outer_start s t = start_of size plane.outer (plane.inner ∷ []) plane.start at source target can (one_axis plane.inner some) (omega (arith, more, within)) s t

  pub outer_can : (n : ℕ) → n ≡ target → CanCopy size (plane_axes part) part.start source n
  outer_can n e =
      subst (λ (p : Plane). CanCopy size (plane_axes p) p.start source n) (sym is)
      (subst (λ (m : ℕ). CanCopy size (plane_axes (outer_block_of plane at count)) (later_start plane.start plane.outer at) source m) (sym e)
      (can_block size plane.outer (plane.inner ∷ []) plane.start at count source target can (one_axis plane.inner some) more within))

  pub outer_counts : (part.outer.count ≡ count) × (part.inner.count ≡ plane.inner.count)
  outer_counts = (ap (λ (p : Plane). p.outer.count) is, ap (λ (p : Plane). p.inner.count) is)

  pub outer_copied : (e : Endian) (old mid new : List ℕ) → IsStridedCopy size e (with_count plane.outer at ∷ plane.inner ∷ []) plane.start source old mid → IsStridedCopy size e (plane_axes part) part.start source mid new
      → IsStridedCopy size e (with_count plane.outer (at + count) ∷ plane.inner ∷ []) plane.start source old new
  outer_copied e old mid new first second =
      block_copied size plane.outer (plane.inner ∷ []) plane.start at count source target can (one_axis plane.inner some) more within e old mid new first
      (subst (λ (p : Plane). IsStridedCopy size e (plane_axes p) p.start source mid new) is second)
