-- The stages of a copy tile: what they keep, together.
use Rattle.std.proofs.Common.{◌≡◌, ℕ, ◌<◌, ◌≤◌, ◌*◌, ◌/◌, ◌^◌, List, length, max, All, refl, sym, ◌∙◌, arith}
use Rattle.std.proofs.Math.Nat.{div-mul-le_self, le-div_iff_mul-le}
use Rattle.std.proofs.lemmas.Nat.{mul-le}
use Rattle.cu_shape.specs.Index.{product, axis_by_axis}
use Rattle.cu_shape.proofs.Axes.{length-axis_by_axis}
use Rattle.cu_shape.specs.Counts.{at_least_one}
use Rattle.cu_rechunk.specs.Stages.{cut, consolidated, write_sizes, wide_sizes, read_sizes, middle_sizes}
use Rattle.cu_rechunk.specs.Tiles.{IsTile, Tiles}
use Rattle.cu_rechunk.proofs.Sizes.{AreWithin, product_of_within, within_more, cut_kept}
use Rattle.cu_rechunk.proofs.Grown.{IsConsolidated, consolidated_kept}
use Rattle.cu_rechunk.proofs.Lowering.{AreLowered, lowered_along_kept, smaller_kept, cut_nested}

-- a chunk that the memory holds, with what its bytes say of the room
pub room_of : (elements item most : ℕ) → 0 < item → elements * item ≤ most → elements ≤ most / item
room_of elements item most h fits = (le-div_iff_mul-le {k = item} {x = elements} {y = most} h).1 fits

pub bytes_of : (elements item most : ℕ) → elements ≤ most / item → elements * item ≤ most
bytes_of elements item most h =
    let p : elements * item ≤ most / item * item = mul-le elements item (most / item) item h (omega arith) in
    let q : most / item * item ≤ most = div-mul-le_self most item in
    omega arith

-- where the greater chunk fits, both do
pub fits_of : (s t item most bytes : ℕ) → 0 < item → bytes ≡ max s t * item → bytes ≤ most → (s ≤ most / item) × (t ≤ most / item)
fits_of s t item most bytes h e fits =
    let p : s * item ≤ max s t * item = mul-le s item (max s t) item (omega arith) (omega arith) in
    let q : t * item ≤ max s t * item = mul-le t item (max s t) item (omega arith) (omega arith) in
    (room_of s item most h (omega arith), room_of t item most h (omega arith))

pub small_bytes : (elements item : ℕ) → elements ≤ 2 ^ 40 → item ≤ 8 → elements * item < 2 ^ 64
small_bytes elements item h k = let p : elements * item ≤ 2 ^ 40 * 8 = mul-le elements item (2 ^ 40) 8 h k in omega arith

-- consolidated from a chunk that fits
pub grown_from : (shape chunk limit : List ℕ) (room : ℕ) → length chunk ≡ length shape → length limit ≡ length shape → All (λ c. 0 < c) chunk → product chunk ≤ room
    → IsConsolidated room 1 shape (cut shape chunk) (consolidated room 1 shape (cut shape chunk) limit)
grown_from shape chunk limit room e f p fits =
    let c = cut_kept shape chunk e p in
    let less : product (cut shape chunk) ≤ product chunk = product_of_within (cut shape chunk) chunk c.chunk in
    consolidated_kept room 1 shape (cut shape chunk) limit c.ranks f (omega arith) c.positive c.shape (omega arith)

pub record IsPlanned (shape source target : List ℕ) (room : ℕ) : Type 0 where
  pub write : IsConsolidated room 1 shape (cut shape target) (write_sizes shape target room)
  pub limit : length (axis_by_axis max (cut shape source) (write_sizes shape target room)) ≡ length shape
  pub wide : IsConsolidated room 1 shape (cut shape source) (wide_sizes shape source target room)
  pub read : AreLowered shape (wide_sizes shape source target room) (write_sizes shape target room) (read_sizes shape source target room)

pub planned : (shape source target : List ℕ) (room : ℕ) → length source ≡ length shape → length target ≡ length shape → All (λ c. 0 < c) source → All (λ c. 0 < c) target
    → product source ≤ room → product target ≤ room → IsPlanned shape source target room
planned shape source target room es et ps pt fs ft =
    let write = grown_from shape target shape room et refl pt ft in
    let first = cut_kept shape source es ps in
    let limit : length (axis_by_axis max (cut shape source) (write_sizes shape target room)) ≡ length shape =
    length-axis_by_axis max (cut shape source) (write_sizes shape target room) (first.ranks ∙ sym write.ranks) ∙ first.ranks in
    let wide = grown_from shape source (axis_by_axis max (cut shape source) (write_sizes shape target room)) room es limit ps fs in
    record {
      write = write;
      limit = limit;
      wide = wide;
      read = lowered_along_kept shape (wide_sizes shape source target room) (write_sizes shape target room) wide.ranks write.ranks wide.positive write.positive;
    }

tile_of : (shape sizes : List ℕ) (item most : ℕ) → length sizes ≡ length shape → All (λ c. 0 < c) sizes → AreWithin sizes (at_least_one shape) → product sizes ≤ most / item
    → IsTile shape item most sizes
tile_of shape sizes item most e p w fits =
    record { ranks = e; positive = p; elements = product_of_within sizes (at_least_one shape) w; bytes = bytes_of (product sizes) item most fits }

pub tiles_of : (shape source target : List ℕ) (item most : ℕ) → length target ≡ length shape → IsPlanned shape source target (most / item)
    → Tiles shape target item most (record { read = read_sizes shape source target (most / item); middle = middle_sizes shape source target (most / item); write = write_sizes shape target (most / item) })
tiles_of shape source target item most et h =
    let room = most / item in
    let read = read_sizes shape source target (most / item) in
    let write = write_sizes shape target (most / item) in
    let middle = middle_sizes shape source target (most / item) in
    let m = smaller_kept (read_sizes shape source target (most / item)) (write_sizes shape target (most / item)) (h.write.ranks ∙ sym h.read.ranks) h.read.positive h.write.positive in
    let fit_write = h.write.fits in
    let fit_wide = h.wide.fits in
    let read_within : AreWithin read (at_least_one shape) = within_more read (wide_sizes shape source target (most / item)) (at_least_one shape) h.read.within h.wide.shape in
    let read_less = product_of_within read (wide_sizes shape source target (most / item)) h.read.within in
    let middle_less = product_of_within middle read m.within in
    record {
      reads = tile_of shape read item most h.read.ranks h.read.positive read_within (omega arith);
      between = tile_of shape middle item most (m.ranks ∙ h.read.ranks) m.positive (within_more middle read (at_least_one shape) m.within read_within) (omega arith);
      writes = tile_of shape write item most h.write.ranks h.write.positive h.write.shape (omega arith);
      middle_in_read = h.read.nested;
      target_in_write = cut_nested shape target write h.write.positive h.write.nested et;
    }
