-- The best of the columns of one more block.
use Rattle.std.proofs.Common.{◌≡◌, ℕ, ◌+◌, ◌*◌, ◌<◌, false, List, Option, sym, ap, ◌∙◌, subst, arith, ⊎_elim}
use Rattle.std.specs.Prelude.{Bool as Test}
use Rattle.std.proofs.lemmas.Nat.{mul-add-lt}
use Rattle.cu_num.specs.Element.{element_at}
use Rattle.cu_num.specs.declared.types.Dtype.{Dtype}
use Rattle.cu_num.specs.declared.layout.Endian.TheVariants.{Little}
use Rattle.cu_reduce.specs.Places.{Found, is_better}
use Rattle.cu_pairs.specs.Elements.{found, HasFound}
use Rattle.cu_pairs.specs.Columns.{Table, table, found_in, sought_place, IsBestOf, HasBests}
use Rattle.cu_pairs.specs.Blocks.{found_along, sizes, HasBestsAlong, IsTablePart}
use Rattle.cu_num.specs.declared.types.Dtype.TheVariants.{Int64}
use Rattle.std.proofs.lemmas.Bool.{cases_lt}
use Rattle.cu_pairs.proofs.BlockParts.{BlockWritten}

pub best_same : (least : Test) (f g : ℕ → Found) (count : ℕ) (best : Found) → ((j : ℕ) → j < count → f j ≡ g j) → IsBestOf least f count best → IsBestOf least g count best
best_same least f g count best e h = record {
  number = h.number;
  within = h.within;
  is = sym (e h.number h.within) ∙ h.is;
  none = λ j b. subst (λ x. is_better least x best ≡ false) (e j b) (h.none j b);
}

-- a column of a block that was taken out
pub block_best : (least : Test) (t : Dtype) (width : ℕ) (bytes : List ℕ) (first : Option ℕ) (places : List ℕ) (own_width : ℕ) (own_bytes : List ℕ) (own_first : Option ℕ) (own_places : List ℕ) (block count k : ℕ) (best : Found)
    → IsTablePart (table t width bytes first places) (table t own_width own_bytes own_first own_places) (block * count * width) (count * width) → own_width ≡ width → k < width
    → IsBestOf least (found_in (table t own_width own_bytes own_first own_places) k) count best → IsBestOf least (found_along (table t width bytes first places) count block k) count best
block_best least t width bytes first places own_width own_bytes own_first own_places block count k best part e below h =
    best_same least (found_in (table t own_width own_bytes own_first own_places) k) (found_along (table t width bytes first places) count block k) count best
    (λ j b.
    let row : j * own_width + k ≡ j * width + k = ap (λ w. j * w + k) e in
    let within : j * width + k < width * count = mul-add-lt j width k count b below in
    let at : block * count * width + (j * width + k) ≡ (block * count + j) * width + k = omega arith in
    let value : element_at Little t own_bytes (j * own_width + k) ≡ element_at Little t bytes ((block * count + j) * width + k) =
    ap (element_at Little t own_bytes) row ∙ part.elements (j * width + k) (omega arith) ∙ ap (element_at Little t bytes) at in
    let place : sought_place own_first own_places j (j * own_width + k) ≡ sought_place first places j ((block * count + j) * width + k) =
    ap (sought_place own_first own_places j) row ∙ part.beside (j * width + k) j (omega arith) ∙ ap (sought_place first places j) at in
    λ i. found (value i) (place i))
    h

-- the best of column k of block b stands in the results
abbrev pub HasBestAlong : Test → Table → ℕ → ℕ → List ℕ → List ℕ → ℕ → Type 0
HasBestAlong least r count b values places k =
    (best : Found) × IsBestOf least (found_along r count b k) count best × HasFound r.t values places (b * r.width + k) best

pub blocks_more : (least : Test) (t : Dtype) (width : ℕ) (bytes : List ℕ) (first : Option ℕ) (places : List ℕ) (own_width : ℕ) (own_bytes : List ℕ) (own_first : Option ℕ) (own_places : List ℕ) (block count : ℕ)
    → IsTablePart (table t width bytes first places) (table t own_width own_bytes own_first own_places) (block * count * width) (count * width) → own_width ≡ width → 0 < count
    → (values found_places own_values found_own whole_values whole_places : List ℕ) → HasBests least (table t own_width own_bytes own_first own_places) count own_values found_own
    → BlockWritten t block width values own_values whole_values → BlockWritten Int64 block width found_places found_own whole_places
    → HasBestsAlong least (table t width bytes first places) (sizes block count) values found_places → HasBestsAlong least (table t width bytes first places) (sizes (block + 1) count) whole_values whole_places
blocks_more least t width bytes first places own_width own_bytes own_first own_places block count part e some values found_places own_values found_own whole_values whole_places own v p done = record {
  along = λ b k less below.
      ⊎_elim
      (λ before.
      let old = done.along b k before below in
      (old.0, old.1, (v.before b k before below ∙ old.2.0, p.before b k before below ∙ old.2.1)))
      (λ after.
      let same : block ≡ b = omega arith in
      let new = own.column k (omega arith) some in
      subst (λ n. HasBestAlong least (table t width bytes first places) count n whole_values whole_places k) same (
        new.0,
        block_best least t width bytes first places own_width own_bytes own_first own_places block count k new.0 part e below new.1,
        (v.here k below ∙ new.2.0, p.here k below ∙ new.2.1),
      ))
      (cases_lt b block);
}
