-- What a way reads over a box.
use Rattle.std.proofs.Common.{◌≡◌, ℕ, ◌+◌, ◌-◌, ◌*◌, ◌<◌, ◌≤◌, ◌^◌, List, length, get_or, All, min, max, refl, subst, arith}
use Rattle.std.proofs.lemmas.List.{length-map}
use Rattle.std.proofs.lemmas.List.Elements.{All-get_or}
use Rattle.std.proofs.lemmas.Nat.{mul-le}
use Rattle.cu_grid.specs.Counts.{IsWithin, IsRegion}
use Rattle.cu_grid.proofs.Regions.{inside-at}
use Rattle.cu_shape.specs.Index.{IsInside}
use Rattle.cu_shape.proofs.Places.{inside-length}
use Rattle.cu_view_box.specs.Way.{read_by}
use Rattle.cu_view_box.specs.Piece.{count_along, read_by_ways, read_at, IsWayOver}
use Rattle.cu_view_box.specs.declared.piece.Piece.{Piece}
use Rattle.cu_view_box.specs.declared.way.Way.{Way}
use Rattle.cu_view_box.specs.declared.way.Way.TheVariants.{Fixed, Up, Down}
use Rattle.cu_view_box.proofs.Boxes.{at_axis, region_from}
use Rattle.cu_view_box.proofs.SharedBoxes.{read_axis}
use Rattle.cu_grid.proofs.Meeting.{within_of, within_from}

-- a way along an axis, at an index of its box: its count lies in the box
pub record Along (lo hi idx : List ℕ) (axis : ℕ) : Type 0 where
  pub rank : axis < length lo
  pub idx_rank : axis < length idx
  pub low : get_or lo axis 0 ≤ get_or idx axis 0
  pub high : get_or idx axis 0 < get_or hi axis 0

pub along_of : (lo hi idx : List ℕ) (axis : ℕ) → axis < length lo → IsWithin lo hi idx → Along lo hi idx axis
along_of lo hi idx axis b w =
    let v = within_of lo hi idx w in
    let r = v.lo_rank in
    let p = at_axis lo hi idx axis w b in
    record { rank = b; idx_rank = omega arith; low = p.0; high = p.1 }

pub along_up : (lo hi idx : List ℕ) (way : Way) (axis first step : ℕ) → IsWayOver lo hi way → IsWithin lo hi idx → way ≡ Up axis first step → Along lo hi idx axis
along_up lo hi idx way axis first step ok w is = let o = subst (λ (x : Way). IsWayOver lo hi x) is ok in along_of lo hi idx axis o.0 w

pub along_down : (lo hi idx : List ℕ) (way : Way) (axis first step : ℕ) → IsWayOver lo hi way → IsWithin lo hi idx → way ≡ Down axis first step → Along lo hi idx axis
along_down lo hi idx way axis first step ok w is = let o = subst (λ (x : Way). IsWayOver lo hi x) is ok in along_of lo hi idx axis o.0 w

pub down_fits : (lo hi idx : List ℕ) (way : Way) (axis first step : ℕ) → IsWayOver lo hi way → IsWithin lo hi idx → way ≡ Down axis first step
    → ((get_or idx axis 0 - get_or lo axis 0) * step ≤ first) × (first < 2 ^ 63)
down_fits lo hi idx way axis first step ok w is =
    let o = subst (λ (x : Way). IsWayOver lo hi x) is ok in
    let a = along_of lo hi idx axis o.0 w in
    (o.1.2 (get_or idx axis 0 - get_or lo axis 0) (let p = a.low in let q = a.high in omega arith), o.1.1)

-- between two ends a way reads between what it reads there
pub read_between : (way : Way) (lo hi a i b : List ℕ) → IsWayOver lo hi way → ((k : ℕ) → k < length lo → (get_or a k 0 ≤ get_or i k 0) × (get_or i k 0 ≤ get_or b k 0))
    → (min (read_by way (count_along lo a way)) (read_by way (count_along lo b way)) ≤ read_by way (count_along lo i way))
    × (read_by way (count_along lo i way) ≤ max (read_by way (count_along lo a way)) (read_by way (count_along lo b way)))
read_between (Fixed index) lo hi a i b ok h = (omega arith, omega arith)
read_between (Up axis first step) lo hi a i b ok h =
    let p = h axis ok.0 in
    let p0 = p.0 in
    let p1 = p.1 in
    let q : (get_or a axis 0 - get_or lo axis 0) * step ≤ (get_or i axis 0 - get_or lo axis 0) * step = mul-le (get_or a axis 0 - get_or lo axis 0) step (get_or i axis 0 - get_or lo axis 0) step (omega arith) (omega arith) in
    let r : (get_or i axis 0 - get_or lo axis 0) * step ≤ (get_or b axis 0 - get_or lo axis 0) * step = mul-le (get_or i axis 0 - get_or lo axis 0) step (get_or b axis 0 - get_or lo axis 0) step (omega arith) (omega arith) in
    between_up first ((get_or a axis 0 - get_or lo axis 0) * step) ((get_or i axis 0 - get_or lo axis 0) * step) ((get_or b axis 0 - get_or lo axis 0) * step) q r
  where
    between_up : (f x y z : ℕ) → x ≤ y → y ≤ z → (min (f + x) (f + z) ≤ f + y) × (f + y ≤ max (f + x) (f + z))
    between_up f x y z q r = (omega arith, omega arith)
read_between (Down axis first step) lo hi a i b ok h =
    let p = h axis ok.0 in
    let p0 = p.0 in
    let p1 = p.1 in
    let q : (get_or a axis 0 - get_or lo axis 0) * step ≤ (get_or i axis 0 - get_or lo axis 0) * step = mul-le (get_or a axis 0 - get_or lo axis 0) step (get_or i axis 0 - get_or lo axis 0) step (omega arith) (omega arith) in
    let r : (get_or i axis 0 - get_or lo axis 0) * step ≤ (get_or b axis 0 - get_or lo axis 0) * step = mul-le (get_or i axis 0 - get_or lo axis 0) step (get_or b axis 0 - get_or lo axis 0) step (omega arith) (omega arith) in
    between_down first ((get_or a axis 0 - get_or lo axis 0) * step) ((get_or i axis 0 - get_or lo axis 0) * step) ((get_or b axis 0 - get_or lo axis 0) * step) q r
  where
    between_down : (f x y z : ℕ) → x ≤ y → y ≤ z → (min (f - x) (f - z) ≤ f - y) × (f - y ≤ max (f - x) (f - z))
    between_down f x y z q r = (omega arith, omega arith)

pub length-read : (lo idx : List ℕ) (ways : List Way) → length (read_by_ways lo ways idx) ≡ length ways
length-read lo idx ways = length-map ways (λ (way : Way). read_by way (count_along lo idx way))

-- what the piece reads on an axis of its source, by the way of that axis
pub record ReadOn (piece : Piece) (ws : List Way) (idx : List ℕ) (k : ℕ) : Type 0 where
  pub below : k < length ws
  pub is : get_or (read_at piece idx) k 0 ≡ read_by (get_or ws k (Fixed 0)) (count_along piece.region.lo idx (get_or ws k (Fixed 0)))

pub read_on_axis : (piece : Piece) (ws : List Way) (idx : List ℕ) (k : ℕ) → ws ≡ piece.ways.items → k < length (read_at piece idx) → ReadOn piece ws idx k
read_on_axis piece ws idx k e b =
    let l = length-read piece.region.lo idx piece.ways.items in
    let n : length ws ≡ length piece.ways.items = rw e refl in
    record { below = omega arith; is = read_axis piece.region.lo idx piece.ways.items ws k e (omega arith) }

-- ... and in a region that holds what is read
pub record ReadWithin (piece : Piece) (ws : List Way) (idx lo hi : List ℕ) (k : ℕ) : Type 0 where
  pub below : k < length ws
  pub hi_below : k < length hi
  pub is : get_or (read_at piece idx) k 0 ≡ read_by (get_or ws k (Fixed 0)) (count_along piece.region.lo idx (get_or ws k (Fixed 0)))
  pub low : get_or lo k 0 ≤ read_by (get_or ws k (Fixed 0)) (count_along piece.region.lo idx (get_or ws k (Fixed 0)))
  pub high : read_by (get_or ws k (Fixed 0)) (count_along piece.region.lo idx (get_or ws k (Fixed 0))) < get_or hi k 0

pub read_within : (piece : Piece) (ws : List Way) (idx lo hi : List ℕ) (k : ℕ) → ws ≡ piece.ways.items → IsWithin lo hi (read_at piece idx) → k < length lo → ReadWithin piece ws idx lo hi k
read_within piece ws idx lo hi k e w b =
    let v = within_of lo hi (read_at piece idx) w in
    let v0 = v.lo_rank in
    let v1 = v.hi_rank in
    let r = read_on_axis piece ws idx k e (omega arith) in
    let p = v.at k (omega arith) in
    record { below = r.below; hi_below = omega arith; is = r.is; low = rw (← r.is) p.0; high = rw (← r.is) p.1 }

pub read_inside : (piece : Piece) (ws : List Way) (idx source : List ℕ) (k : ℕ) → ws ≡ piece.ways.items → IsInside source (read_at piece idx) → k < length source
    → ReadOn piece ws idx k × (read_by (get_or ws k (Fixed 0)) (count_along piece.region.lo idx (get_or ws k (Fixed 0))) < get_or source k 0)
read_inside piece ws idx source k e h b =
    let l = inside-length source (read_at piece idx) h in
    let r = read_on_axis piece ws idx k e (omega arith) in
    (r, rw (← r.is) (inside-at source (read_at piece idx) k h b))

-- the hull of what is read at the two ends holds what is read between
pub hull_holds : (piece : Piece) (part_lo part_hi last source hull_lo hull_hi idx : List ℕ) (end : ℕ)
    → All (IsWayOver piece.region.lo piece.region.hi) piece.ways.items → IsWithin part_lo part_hi part_lo → IsWithin piece.region.lo piece.region.hi part_lo
    → IsInside source (read_at piece part_lo) → end ≡ length source
    → ((k : ℕ) → k < length part_lo → get_or last k 0 ≡ get_or part_hi k 0 - 1)
    → length hull_lo ≡ length source → length hull_hi ≡ length source
    → ((k : ℕ) → k < end → get_or hull_lo k 0 ≡ min (get_or (read_at piece part_lo) k 0) (get_or (read_at piece last) k 0))
    → ((k : ℕ) → k < end → get_or hull_hi k 0 ≡ max (get_or (read_at piece part_lo) k 0) (get_or (read_at piece last) k 0) + 1)
    → IsWithin part_lo part_hi idx → IsWithin hull_lo hull_hi (read_at piece idx)
hull_holds piece part_lo part_hi last source hull_lo hull_hi idx end ways some own inside ee ends el eh low high w =
    let n0 = inside-length source (read_at piece part_lo) inside in
    let n1 = length-read piece.region.lo part_lo piece.ways.items in
    let n2 = length-read piece.region.lo idx piece.ways.items in
    let n3 = length-read piece.region.lo last piece.ways.items in
    let r = (within_of piece.region.lo piece.region.hi part_lo own).lo_rank in
    within_from hull_lo hull_hi (read_at piece idx) (omega arith) (omega arith)
    (λ k b. let a = read_on_axis piece piece.ways.items part_lo k refl (omega arith) in
    let i = read_on_axis piece piece.ways.items idx k refl b in
    let z = read_on_axis piece piece.ways.items last k refl (omega arith) in
    let m = read_between (get_or piece.ways.items k (Fixed 0)) piece.region.lo piece.region.hi part_lo idx last
    (All-get_or (IsWayOver piece.region.lo piece.region.hi) piece.ways.items k (Fixed 0) a.below ways)
    (λ j c. let p = at_axis part_lo part_hi idx j w (omega arith) in let p0 = p.0 in let p1 = p.1 in let q = ends j (omega arith) in (omega arith, omega arith)) in
    let m0 : min (get_or (read_at piece part_lo) k 0) (get_or (read_at piece last) k 0) ≤ get_or (read_at piece idx) k 0 = rw (a.is, i.is, z.is) m.0 in
    let m1 : get_or (read_at piece idx) k 0 ≤ max (get_or (read_at piece part_lo) k 0) (get_or (read_at piece last) k 0) = rw (a.is, i.is, z.is) m.1 in
    let lo_k = low k (omega arith) in
    let hi_k = high k (omega arith) in
    (omega arith, omega arith))

pub hull_region : (piece : Piece) (first last source hull_lo hull_hi : List ℕ) (end : ℕ) → IsInside source (read_at piece first) → IsInside source (read_at piece last) → end ≡ length source
    → length hull_lo ≡ length source → length hull_hi ≡ length source
    → ((k : ℕ) → k < end → get_or hull_lo k 0 ≡ min (get_or (read_at piece first) k 0) (get_or (read_at piece last) k 0))
    → ((k : ℕ) → k < end → get_or hull_hi k 0 ≡ max (get_or (read_at piece first) k 0) (get_or (read_at piece last) k 0) + 1)
    → IsRegion source hull_lo hull_hi
hull_region piece first last source hull_lo hull_hi end a z ee el eh low high =
    region_from source hull_lo hull_hi el eh
    (λ k b. let p = inside-at source (read_at piece first) k a b in
    let q = inside-at source (read_at piece last) k z b in
    let lo_k = low k (omega arith) in
    let hi_k = high k (omega arith) in
    (omega arith, omega arith))
