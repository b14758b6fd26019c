-- The walks of a task and its input cells: each chunk of the one is a chunk of the other.
use Rattle.std.proofs.Common.{◌≡◌, ◌↔◌, inl, inr, ℕ, zero, suc, ◌<◌, ◌≤◌, ◌+◌, ◌*◌, ◌/◌, min, List, [], ◌∷◌, length, All, Contains, refl, ap, sym, ◌∙◌, subst, arith}
use Rattle.std.proofs.Math.Nat.{eq_of_mul-eq-mul_right}
use Rattle.std.proofs.lemmas.Nat.{div_below, le-div}
use Rattle.std.proofs.lemmas.List.Elements.{All-head, All-tail}
use Rattle.cu_shape.specs.Index.{is_inside, quotients}
use Rattle.cu_shape.proofs.Places.{inside_from_test, test_from_inside}
use Rattle.cu_grid.specs.Counts.{chunk_lo, chunk_hi, IsWithin}
use Rattle.cu_grid.specs.Grid.{IsGrid, IsCoordinate}
use Rattle.cu_grid.proofs.Parting.{only_chunk}
use Rattle.cu_op.specs.declared.cells.Cell.{Cell}
use Rattle.cu_op.specs.declared.layout.ArrayInfo.{ArrayInfo}
use Rattle.cu_op.specs.Arrays.{grid_at, grid_counts}
use Rattle.cu_op.specs.Chunks.{cell, chunk_where, walk}
use Rattle.cu_op.specs.Walks.{IsWalkOver, walk_cells}
use Rattle.cu_op.proofs.Nested.{begins_within}
use Rattle.cu_op.proofs.Spans.{IsSpanOn, IsSpan}
use Rattle.cu_op.proofs.Members.{bool_cases}
use Rattle.cu_op.proofs.WalkCells.{walk_meets, meets_walk}

cons_same : (x y : ℕ) (xs ys : List ℕ) → x ≡ y → xs ≡ ys → x ∷ xs ≡ y ∷ ys
cons_same x y xs ys e f = cc

-- ---- a region that is one chunk

-- a box that has an index is the box of its quotients
pub number_on : (n c w i : ℕ) → 0 < c → w * c ≤ i → i < min ((w + 1) * c) n → w ≡ i / c
number_on n c w i positive lo hi =
    let a : i / c < w + 1 = div_below i c (w + 1) positive (omega arith) in
    let b : w ≤ i / c = le-div w i c positive lo in
    omega (arith, a, b)

pub number_of : (ns cs ws is : List ℕ) → All (λ c. 0 < c) cs → length cs ≡ length ns → length ws ≡ length ns → IsWithin (chunk_lo cs ws) (chunk_hi ns cs ws) is → ws ≡ quotients is cs
number_of [] [] [] [] p e f w = refl
number_of (n ∷ ns) (c ∷ cs) (x ∷ ws) (i ∷ is) p e f w =
    cons_same x (i / c) ws (quotients is cs) (number_on n c x i (All-head (λ y. 0 < y) c cs p) w.0 w.1) (number_of ns cs ws is (All-tail (λ y. 0 < y) c cs p) (omega arith) (omega arith) w.2)
number_of ns cs ws is p e f w = absurd (first_of (assumption, omega arith))

-- it ends where the chunk does that begins with it
ends_on : (n c w h : ℕ) → 0 < c → IsSpanOn n c (w * c) h → h ≡ min ((w + 1) * c) n
ends_on n zero w h positive s = absurd (omega arith)
ends_on n (suc c) w h positive s =
    let a : w * suc c ≡ s.number * suc c = s.starts in
    let e : w ≡ s.number = same w s.number a in
    let b = s.ends in
    let m : min n ((s.number + 1) * suc c) ≡ min ((s.number + 1) * suc c) n = omega arith in
    b ∙ m ∙ ap (λ x. min ((x + 1) * suc c) n) (sym e)
  where
    same : (x y : ℕ) → x * suc c ≡ y * suc c → x ≡ y
    same x y e = eq_of_mul-eq-mul_right (suc c) (omega arith) x y e

pub span_ends : (ns cs ws hs : List ℕ) → All (λ c. 0 < c) cs → length ws ≡ length ns → IsSpan ns cs (chunk_lo cs ws) hs → hs ≡ chunk_hi ns cs ws
span_ends [] [] [] [] p e s = refl
span_ends (n ∷ ns) (c ∷ cs) (w ∷ ws) (h ∷ hs) p e s =
    cons_same h (min ((w + 1) * c) n) hs (chunk_hi ns cs ws) (ends_on n c w h (All-head (λ y. 0 < y) c cs p) s.0) (span_ends ns cs ws hs (All-tail (λ y. 0 < y) c cs p) (omega arith) s.1)
span_ends ns cs ws hs p e s = absurd (first_of (assumption, omega arith))

module _ (arrays : List ArrayInfo) where
  where_inside : (a : ℕ) (at : List ℕ) (c : Cell) → c.array ≡ a → c.coord ≡ at → IsCoordinate (grid_at arrays a) at → Contains (chunk_where arrays a at) c
  where_inside a at c e f h =
      let t = test_from_inside (grid_counts (grid_at arrays a)) at h in
      rw t (0, omega arith, λ i. record { array = sym e i; coord = sym f i })

  inside_where : (a : ℕ) (at : List ℕ) (c : Cell) → Contains (chunk_where arrays a at) c → (c ≡ cell a at) × IsCoordinate (grid_at arrays a) at
  inside_where a at c h =
      elim (bool_cases (is_inside (grid_counts (grid_at arrays a)) at)) [
        | inl t ↦ (first (cell a at) c (rw t at h), inside_from_test (grid_counts (grid_at arrays a)) at t)
        | inr f ↦ absurd (none c (rw f at h))
      ]
    where
      first : (d c : Cell) → Contains (d ∷ []) c → c ≡ d
      first d c (zero, l, e) = sym e
      first d c (suc k, l, e) = absurd (omega arith)

      none : (c : Cell) → Contains [] c → ⊥
      none c (k, l, e) = omega arith

  -- the chunks of a walk over one chunk
  pub own_chunk : (a : ℕ) (lo hi at : List ℕ) (c : Cell) → IsGrid (grid_at arrays a) → IsWalkOver arrays (walk a lo hi) → length at ≡ length (grid_at arrays a).shape
      → lo ≡ chunk_lo (grid_at arrays a).chunk at → hi ≡ chunk_hi (grid_at arrays a).shape (grid_at arrays a).chunk at
      → (Contains (walk_cells arrays (walk a lo hi)) c) ↔ (Contains (chunk_where arrays a at) c)
  own_chunk a lo hi at c ok over long begins ends =
      let g = grid_at arrays a in (
        λ there.
            let (array, (here, (i, within, own))) = walk_meets arrays (walk a lo hi) c ok over there in
            let w : IsWithin (chunk_lo g.chunk at) (chunk_hi g.shape g.chunk at) i = subst (λ (ls : List ℕ). IsWithin ls (chunk_hi g.shape g.chunk at) i) begins (subst (λ (hs : List ℕ). IsWithin lo hs i) ends within) in
            let same : c.coord ≡ at = only_chunk g c.coord i ok here own ∙ sym (number_of g.shape g.chunk at i ok.positive ok.ranks long w) in
            where_inside a at c array same (subst (IsCoordinate g) same here),
        λ there.
            let (e, here) = inside_where a at c there in
            let first = begins_within g at ok here in
            let in_region : IsWithin lo hi (chunk_lo g.chunk at) = subst (λ (ls : List ℕ). IsWithin ls hi (chunk_lo g.chunk at)) (sym begins) (subst (λ (hs : List ℕ). IsWithin (chunk_lo g.chunk at) hs (chunk_lo g.chunk at)) (sym ends) first) in
            subst (Contains (walk_cells arrays (walk a lo hi))) (sym e) (meets_walk arrays (walk a lo hi) at ok over (here, (chunk_lo g.chunk at, in_region, first))),
      )
