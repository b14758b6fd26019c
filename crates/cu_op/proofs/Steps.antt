-- Steps of loops: lists that are copied or mapped an item at a time, and rounds over walks.
use Rattle.std.proofs.Common.{◌≡◌, ℕ, ◌<◌, ◌≤◌, ◌+◌, List, [], ◌∷◌, ◌++◌, All, length, take, drop, map, get_or, sym, ap, subst, ◌∙◌}
use Rattle.std.proofs.lemmas.List.{take_more, take_all, map_more, drop_more, get_or_read}
use Rattle.cu_grid.specs.declared.region.Region.{Region}
use Rattle.cu_op.specs.declared.cells.Cell.{Cell}
use Rattle.cu_op.specs.declared.layout.ArrayInfo.{ArrayInfo}
use Rattle.cu_op.specs.declared.walks.Walk.{Walk}
use Rattle.cu_op.specs.Arrays.{grid_at, no_array}
use Rattle.cu_op.specs.Chunks.{cell, walk}
use Rattle.cu_op.specs.Walks.{IsWalkOver, back_as, walk_cells, cells_of_walks}
use Rattle.cu_op.specs.Kind.Map.{read_walk}

-- ---- a list that is made an item at a time

pub one_mapped : {A B : Type 0} (f : A → B) (xs : List A) (k : ℕ) (d x : A) (made : List B) (y : B) → k < length xs → x ≡ get_or xs k d → y ≡ f x → made ≡ map f (take k xs)
    → made ++ y ∷ [] ≡ map f (take (k + 1) xs)
one_mapped f xs k d x made y within is so made_so =
    ap (λ ys. ys ++ y ∷ []) made_so ∙ ap (λ z. map f (take k xs) ++ z ∷ []) (so ∙ ap f is) ∙ sym (map_more f xs k d within)

pub all_mapped : {A B : Type 0} (f : A → B) (xs : List A) (k : ℕ) (made : List B) → length xs ≤ k → made ≡ map f (take k xs) → made ≡ map f xs
all_mapped f xs k made past so = so ∙ ap (map f) (take_all k xs past)

pub one_taken : {A : Type 0} (xs : List A) (k : ℕ) (x y : A) (made : List A) → k < length xs → x ≡ get_or xs k x → y ≡ x → made ≡ take k xs → made ++ y ∷ [] ≡ take (k + 1) xs
one_taken xs k x y made within is so made_so =
    ap (λ ys. ys ++ y ∷ []) made_so ∙ ap (λ z. take k xs ++ z ∷ []) (so ∙ is) ∙ sym (take_more xs k x within)

-- the walk over the region of an array that is read through broadcasting
pub read_as : (arrays : List ArrayInfo) (a : ℕ) (info : ArrayInfo) (shape lo hi : List ℕ) (r : Region) → a < length arrays → info ≡ get_or arrays a info → shape ≡ (get_or arrays a info).layout.grid.shape
    → r.lo ≡ back_as 0 shape lo → r.hi ≡ back_as 1 shape hi → record { array = a; region = r } ≡ read_walk arrays lo hi a
read_as arrays a info shape lo hi r within is shape_is first last =
    let same : shape ≡ (grid_at arrays a).shape = shape_is ∙ ap (λ (i : ArrayInfo). i.layout.grid.shape) (sym is ∙ get_or_read arrays a info within is no_array) in
    ap (λ (ns : List ℕ). walk a ns r.hi) (first ∙ ap (λ ns. back_as 0 ns lo) same) ∙ ap (walk a (back_as 0 (grid_at arrays a).shape lo)) (last ∙ ap (λ ns. back_as 1 ns hi) same)

-- ---- a round over walks

pub over_at : (arrays : List ArrayInfo) (walks : List Walk) (k : ℕ) (w : Walk) → All (IsWalkOver arrays) walks → k < length walks → w ≡ get_or walks k w → IsWalkOver arrays w
over_at arrays walks k w over within is = subst (IsWalkOver arrays) (sym is) (over k w within)

-- the chunks of the next walk, and those of the walks behind it
pub next_walk : (arrays : List ArrayInfo) (walks : List Walk) (k : ℕ) (w : Walk) (coords : List (List ℕ)) (chunks : List Cell) → k < length walks → w ≡ get_or walks k w
    → map (cell w.array) coords ≡ walk_cells arrays w → map (cell w.array) coords ≡ chunks → cells_of_walks arrays (drop k walks) ≡ chunks ++ cells_of_walks arrays (drop (k + 1) walks)
next_walk arrays walks k w coords chunks within is opened so =
    ap (cells_of_walks arrays) (drop_more walks k w within ∙ ap (λ v. v ∷ drop (k + 1) walks) (sym is))
    ∙ ap (λ cs. cs ++ cells_of_walks arrays (drop (k + 1) walks)) (sym opened ∙ so)
