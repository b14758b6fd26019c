-- Chunks of a plan's arrays: how many there are, and lists of them.
use Rattle.cu_op.proofs.Members.{bool_cases}
use Rattle.std.proofs.Common.{◌≡◌, ◌≢◌, ◌⊎◌, inl, inr, ℕ, zero, suc, ◌<◌, ◌≤◌, ◌*◌, List, [], ◌∷◌, length, map, All, Contains, Option, None, Some, refl, ap, ◌∙◌, arith}
use Rattle.std.proofs.lemmas.List.{get_or-map, length-map}
use Rattle.std.proofs.Math.Nat.{le-mul_of_pos_right}
use Rattle.std.proofs.lemmas.List.Elements.{All-cons, All-nil, All-weaker}
use Rattle.std.proofs.lemmas.List.Sums.{get_or-le-sum_by}
use Rattle.cu_shape.specs.Index.{product, IsInside}
use Rattle.cu_shape.proofs.Places.{inside-positive}
use Rattle.cu_op.specs.declared.cells.Cell.{Cell}
use Rattle.cu_op.specs.Arrays.{array_at, grid_at, maker_at, grid_counts, array_chunk_count, no_array, is_inlined}
use Rattle.cu_op.specs.PlanView.{PlanView}
use Rattle.cu_op.specs.Sound.{Sound, made_chunks, cells_by}

pub same_array : (c d : Cell) → c ≡ d → c.array ≡ d.array
same_array c d e = ap (λ (x : Cell). x.array) e

pub same_coord : (c d : Cell) → c ≡ d → c.coord ≡ d.coord
same_coord c d e = ap (λ (x : Cell). x.coord) e

pub map_contains : {A B : Type 0} (f : A → B) (xs : List A) (a : A) → Contains xs a → Contains (map f xs) (f a)
map_contains f xs a (k, l, e) = (k, (rw length-map l), get_or-map f xs k a (f a) l ∙ ap f e)

-- the coordinates of an array's chunks are small
below_product : (ns is : List ℕ) → IsInside ns is → All (λ i. i < product ns) is
below_product [] [] h = All-nil (λ i. i < 1)
below_product [] (i ∷ is) h = absurd h
below_product (n ∷ ns) [] h = absurd h
below_product (n ∷ ns) (i ∷ is) h =
    let rest = inside-positive ns is h.1 in
    let whole : n ≤ n * product ns = le-mul_of_pos_right n rest in
    let tail : product ns ≤ n * product ns = le_times n (product ns) (let w = h.0 in omega arith) in
    All-cons (λ i. i < n * product ns) i is (let w = h.0 in omega arith)
    (All-weaker (λ j. j < product ns) (λ j. j < n * product ns) (λ j b. omega arith) is (below_product ns is h.1))
  where
    le_times : (n m : ℕ) → 0 < n → m ≤ n * m
    le_times zero m h = omega arith
    le_times (suc k) m h = omega arith

counted : (m : Option ℕ) (chunks : ℕ) → m ≢ None → cells_by m chunks ≡ chunks
counted None chunks h = absurd (h refl)
counted (Some k) chunks h = refl

pub chunks_few : (p : PlanView) (a : ℕ) → Sound p → a < length p.arrays → array_chunk_count (array_at p.arrays a) ≤ 262144
chunks_few p a s h =
    elim (bool_cases (is_inlined p.arrays a)) [
      | inl inner ↦ let e = (s.inlined a h inner).chunks in omega (arith, e)
      | inr stored ↦ elim (input_or_made (maker_at p.arrays a)) [
        | inl none ↦ let e = s.input_chunks a h none in omega (arith, e)
        | inr made ↦
            let one = get_or-le-sum_by made_chunks p.arrays a no_array h in
            let own : made_chunks (array_at p.arrays a) ≡ cells_by (maker_at p.arrays a) (array_chunk_count (array_at p.arrays a)) = rw stored refl in
            let e = counted (maker_at p.arrays a) (array_chunk_count (array_at p.arrays a)) made in
            let all = s.cells in
            omega (arith, one, own, e, all)
      ]
    ]
  where
    input_or_made : (m : Option ℕ) → (m ≡ None) ⊎ (m ≢ None)
    input_or_made None = inl refl
    input_or_made (Some k) = inr (λ e. cc)

pub coordinates_small : (p : PlanView) (a : ℕ) (coord : List ℕ) → Sound p → a < length p.arrays → IsInside (grid_counts (grid_at p.arrays a)) coord → All (λ i. i < 1048576) coord
coordinates_small p a coord s h inside =
    let few = chunks_few p a s h in
    All-weaker (λ i. i < product (grid_counts (grid_at p.arrays a))) (λ i. i < 1048576) (λ i b. omega (arith, few, b)) coord (below_product (grid_counts (grid_at p.arrays a)) coord inside)
