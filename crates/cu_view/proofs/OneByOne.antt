-- Places of elements in a block.
use Rattle.std.proofs.Common.{◌≡◌, ◌≢◌, ℕ, suc, ◌+◌, ◌-◌, ◌*◌, ◌≤◌, List, [], ◌∷◌, length, get_or, drop, refl, ap, sym, ◌∙◌, arith}
use Rattle.std.proofs.lemmas.Nat.{mul-le}
use Rattle.cu_num.specs.Dtype.{size_of}
use Rattle.cu_shape.specs.Index.{product, index_at, differences}
use Rattle.cu_shape.proofs.Places.{place-below, index-place}
use Rattle.cu_grid.specs.Counts.{IsWithin}
use Rattle.cu_grid.proofs.Meeting.{within_of}
use Rattle.cu_view_box.specs.Block.{buffer_place, IsBlock}
use Rattle.cu_view_box.specs.declared.block.Block.{Block}

-- how far an index lies from the region's first tells it
same_from : (lo hi idx other : List ℕ) → IsWithin lo hi idx → IsWithin lo hi other → differences idx lo ≡ differences other lo → idx ≡ other
same_from [] [] [] [] w v e = refl
same_from (l ∷ ls) (h ∷ hs) (i ∷ is) (j ∷ js) w v e =
    let first : i - l ≡ j - l = ap (λ (x : List ℕ). get_or x 0 0) e in
    let rest = same_from ls hs is js w.2 v.2 (ap (λ (x : List ℕ). drop 1 x) e) in
    let a = w.0 in
    let b = v.0 in
    let same : i ≡ j = omega (arith, first, a, b) in
    cc
same_from lo hi idx other w v e = absurd assumption

pub place_apart : (block : Block) (bytes idx other : List ℕ) → IsBlock block bytes → IsWithin block.region.lo block.region.hi idx → IsWithin block.region.lo block.region.hi other → other ≢ idx
    → buffer_place block other ≢ buffer_place block idx
place_apart block bytes idx other ok w v apart same =
    apart (same_from block.region.lo block.region.hi other idx v w
    (sym (index-place block.dims (differences other block.region.lo) (ok.inside other v)) ∙ ap (index_at block.dims) same ∙ index-place block.dims (differences idx block.region.lo) (ok.inside idx w)))

pub place_fits : (block : Block) (bytes idx : List ℕ) → IsBlock block bytes → IsWithin block.region.lo block.region.hi idx → buffer_place block idx * size_of block.dtype + size_of block.dtype ≤ length bytes
place_fits block bytes idx ok w =
    let below = place-below block.dims (differences idx block.region.lo) (ok.inside idx w) in
    let far : suc (buffer_place block idx) * size_of block.dtype ≤ product block.dims * size_of block.dtype = mul-le _ (size_of block.dtype) (product block.dims) (size_of block.dtype) below (omega arith) in
    let long = ok.long in
    omega (arith, far, long)

-- the parts of an index
pub within_ranks : (lo hi idx : List ℕ) → IsWithin lo hi idx → (length lo ≡ length idx) × (length hi ≡ length idx)
within_ranks lo hi idx w = let v = within_of lo hi idx w in (v.lo_rank, v.hi_rank)

pub block_same : (block : Block) (old new : List ℕ) → IsBlock block old → length new ≡ length old → IsBlock block new
block_same block old new ok same = record { inside = ok.inside; long = same ∙ ok.long }
