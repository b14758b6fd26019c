-- The least region that holds two regions.
use Rattle.std.proofs.Common.{◌≡◌, ℕ, ◌+◌, ◌<◌, List, [], ◌∷◌, length, get_or, set, min, max, ◌∙◌, arith, Option, Some, None}
use Rattle.std.specs.Option.{IfSome, IfNone}
use Rattle.cu_grid.specs.Counts.{IsRegion, IsWithin}
use Rattle.cu_grid.specs.declared.region.Region.{Region}
use Rattle.cu_grid.proofs.Regions.{written_more}
use Rattle.cu_grid.proofs.Meeting.{within_from, within_of}
use Rattle.cu_view.specs.Hull.{HoldsIndex}
use Rattle.cu_view.proofs.Ranges.{ends_of, region_from}

pub hull_region : (ns al ah bl bh lo hi : List ℕ) → IsRegion ns al ah → IsRegion ns bl bh → length lo ≡ length al → length hi ≡ length ah
    → ((k : ℕ) → k < length ns → get_or lo k 0 ≡ min (get_or al k 0) (get_or bl k 0)) → ((k : ℕ) → k < length ns → get_or hi k 0 ≡ max (get_or ah k 0) (get_or bh k 0)) → IsRegion ns lo hi
hull_region ns al ah bl bh lo hi a b p q f g =
    let x = ends_of ns al ah a in
    let y = ends_of ns bl bh b in
    region_from ns lo hi (p ∙ x.lo_rank) (q ∙ x.hi_rank)
    (λ k l. let u = x.at k l in let v = y.at k l in let u0 = u.0 in let u1 = u.1 in let v0 = v.0 in let v1 = v.1 in let e = f k l in let h = g k l in (omega arith, omega arith))

pub hull_first : (ns al ah bl bh lo hi idx : List ℕ) → IsRegion ns al ah → IsRegion ns bl bh → length lo ≡ length al → length hi ≡ length ah
    → ((k : ℕ) → k < length ns → get_or lo k 0 ≡ min (get_or al k 0) (get_or bl k 0)) → ((k : ℕ) → k < length ns → get_or hi k 0 ≡ max (get_or ah k 0) (get_or bh k 0)) → IsWithin al ah idx → IsWithin lo hi idx
hull_first ns al ah bl bh lo hi idx a b p q f g w =
    let x = ends_of ns al ah a in
    let v = within_of al ah idx w in
    let n = v.lo_rank in
    let m = v.hi_rank in
    let r = x.lo_rank in
    within_from lo hi idx (p ∙ n) (q ∙ m)
    (λ k l. let d = v.at k l in let d0 = d.0 in let d1 = d.1 in let e = f k (omega arith) in let h = g k (omega arith) in (omega arith, omega arith))

pub hull_second : (ns al ah bl bh lo hi idx : List ℕ) → IsRegion ns al ah → IsRegion ns bl bh → length lo ≡ length al → length hi ≡ length ah
    → ((k : ℕ) → k < length ns → get_or lo k 0 ≡ min (get_or al k 0) (get_or bl k 0)) → ((k : ℕ) → k < length ns → get_or hi k 0 ≡ max (get_or ah k 0) (get_or bh k 0)) → IsWithin bl bh idx → IsWithin lo hi idx
hull_second ns al ah bl bh lo hi idx a b p q f g w =
    let x = ends_of ns al ah a in
    let y = ends_of ns bl bh b in
    let v = within_of bl bh idx w in
    let n = v.lo_rank in
    let m = v.hi_rank in
    let r = x.lo_rank in
    let s = y.lo_rank in
    let t = x.hi_rank in
    let u = y.hi_rank in
    within_from lo hi idx (omega arith) (omega arith)
    (λ k l. let d = v.at k l in let d0 = d.0 in let d1 = d.1 in let e = f k (omega arith) in let h = g k (omega arith) in (omega arith, omega arith))

pub put_more : (xs ys : List ℕ) (f : ℕ → ℕ) (n v : ℕ) → n < length xs → ys ≡ set xs n v → v ≡ f n → ((k : ℕ) → k < n → get_or xs k 0 ≡ f k) → (k : ℕ) → k < n + 1 → get_or ys k 0 ≡ f k
put_more xs ys f n v l e w h k b = written_more xs ys f n v l e w h k b

-- a region that isn't there, or holds each index that is read
pub holds_of : (o : Option Region) (P : List ℕ → Type 0) (R : List ℕ → List ℕ → Type 0) → ((idx i : List ℕ) → P idx → R idx i → HoldsIndex o i) → IfSome o (λ r. (idx i : List ℕ) → P idx → R idx i → IsWithin r.lo r.hi i)
holds_of (Some r) P R h = h
holds_of None P R h = tt

pub none_of : (o : Option Region) (P : List ℕ → Type 0) (R : List ℕ → List ℕ → Type 0) → ((idx i : List ℕ) → P idx → R idx i → HoldsIndex o i) → IfNone o ((idx i : List ℕ) → P idx → ¬ R idx i)
none_of (Some r) P R h = tt
none_of None P R h = h

pub self_region : (ns : List ℕ) → IsRegion ns ns ns
self_region [] = tt
self_region (n ∷ ns) = (omega arith, omega arith, self_region ns)
