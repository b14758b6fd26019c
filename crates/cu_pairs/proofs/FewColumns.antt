-- Elements of a column of rows of few elements, put side by side.
use Rattle.std.proofs.Common.{◌≡◌, ◌≢◌, ℕ, suc, ◌+◌, ◌-◌, ◌*◌, ◌/◌, ◌<◌, ◌≤◌, false, true, ℤ, pos, List, length, Option, Some, sym, ap, ◌∙◌, subst, arith, ⊎_elim}
use Rattle.std.specs.Prelude.{Bool as Test, int_lt}
use Rattle.std.proofs.lemmas.Bool.{cases_lt}
use Rattle.std.proofs.lemmas.Int.{ints}
use Rattle.std.proofs.Math.Nat.{mul-le-mul_right}
use Rattle.std.proofs.lemmas.Nat.{mul-add-lt}
use Rattle.cu_num.specs.Dtype.{size_of}
use Rattle.cu_num.specs.declared.types.Dtype.{Dtype}
use Rattle.cu_num.specs.declared.types.Dtype.TheVariants.{Int64}
use Rattle.cu_reduce.specs.Numbers.{HasNumber}
use Rattle.cu_reduce.specs.Places.{is_beyond}
use Rattle.cu_pairs.specs.Elements.{found}
use Rattle.cu_pairs.specs.Runs.{elements, IsBestValue, IsFirstBest, IsLeading}
use Rattle.cu_pairs.specs.Columns.{table, found_in, sought_place, column_of, HasBest}
use Rattle.cu_pairs.proofs.BlockParts.{factor_below}
use Rattle.cu_pairs.proofs.Leading.{first_is_best, beyond_apart}
use Rattle.cu_pairs.proofs.Parts.{size_positive}

-- the element of a column in a row that the bytes have
pub column_fits : (t : Dtype) (width k row rows bytes : ℕ) → k < width → row < rows → rows * width * size_of t ≤ bytes → (row * width + k) * size_of t + size_of t ≤ bytes
column_fits t width k row rows bytes h b room =
    let within : row * width + k < width * rows = mul-add-lt row width k rows b h in
    let far : suc (row * width + k) * size_of t ≤ rows * width * size_of t = mul-le-mul_right (size_of t) (let l : suc (row * width + k) ≤ rows * width = omega arith in l) in
    omega arith

-- so the numbers of its row and of the element are small
pub column_small : (t : Dtype) (width k row rows bytes : ℕ) → k < width → row < rows → rows * width * size_of t ≤ bytes → (row ≤ bytes) × (row * width + k ≤ bytes)
column_small t width k row rows bytes h b room =
    let fits = column_fits t width k row rows bytes h b room in
    let number = factor_below (row * width + k) (size_of t) bytes (size_positive t) (omega arith) in
    (factor_below row width bytes (omega arith) (omega arith), number)

-- the best of elements that were put side by side
pub best_of_gathered : (least : Test) (t : Dtype) (own : List ℕ) (f : ℕ → ℤ) (n : ℕ) (value : ℤ) → length own / size_of t ≡ n → ((j : ℕ) → j < n → elements t own j ≡ f j)
    → IsBestValue least (elements t own) (length own / size_of t) value → IsBestValue least f n value
best_of_gathered least t own f n value count read h =
    let within = h.within in
    record {
      number = h.number;
      within = omega arith;
      is = sym (read h.number (omega arith)) ∙ h.is;
      none = λ j b. subst (λ v. is_beyond least v value ≡ false) (read j b) (h.none j (omega arith));
    }

pub from_start : (least : Test) (f : ℕ → ℤ) (n : ℕ) (value : ℤ) → IsBestValue least (λ j. f (0 + j)) (n - 0) value → IsBestValue least f n value
from_start least f n value h =
    let same : (j : ℕ) → 0 + j ≡ j = λ j. omega arith in
    let all : n - 0 ≡ n = omega arith in
    subst (λ m. IsBestValue least f m value) all (subst (λ g. IsBestValue least g (n - 0) value) (λ i j. f (same j i)) h)

-- the first row from `start` on that has the best value
pub first_row_of : (least : Test) (f : ℕ → ℤ) (count start row : ℕ) (best : ℤ) → IsLeading least f count start best → start ≤ row → row ≤ count → ((k : ℕ) → start ≤ k → k < row → f k ≢ best)
    → (row < count → f row ≡ best) → IsFirstBest least f count row
first_row_of least f count start row best h after within before found =
    let own = h.after in
    let inside = h.within in
    let near : row < count = ⊎_elim (λ less. less) (λ past. absurd (before h.number own (omega arith) h.is)) (cases_lt row count) in
    let is = found near in
    record {
      within = near;
      none = λ j b. subst (λ v. is_beyond least (f j) v ≡ false) (sym is) (h.none j b);
      first = λ j b. subst (λ v. is_beyond least v (f j) ≡ true) (sym is) (⊎_elim
          (λ less. h.before j less)
          (λ far. beyond_apart least (f j) best (h.none j (omega arith)) (before j far b))
          (cases_lt j start));
    }

-- the best of a column and its place stand in the results
pub column_done : (least : Test) (t : Dtype) (width : ℕ) (bytes : List ℕ) (from : Option ℕ) (places : List ℕ) (first count k at : ℕ) (value place : ℤ) (new_values new_places : List ℕ) → from ≡ Some first
    → IsFirstBest least (column_of t width bytes k) count at → value ≡ column_of t width bytes k at → place ≡ pos (first + at) → HasNumber t new_values k value → HasNumber Int64 new_places k place
    → HasBest least (table t width bytes from places) count new_values new_places k
column_done least t width bytes from places first count k at value place new_values new_places counted h is there v p some =
    let r = table t width bytes from places in
    let order : (i j : ℕ) → i ≤ j → j < count → int_lt (sought_place from places j (j * width + k)) (sought_place from places i (i * width + k)) ≡ false = λ i j o b.
    let own : int_lt (pos (first + j)) (pos (first + i)) ≡ false = grind (arith, ints) in
    subst (λ g. int_lt (sought_place g places j (j * width + k)) (sought_place g places i (i * width + k)) ≡ false) (sym counted) own in
    let here : place ≡ (found_in r k at).place = there ∙ ap (λ g. sought_place g places at (at * width + k)) (sym counted) in
    (found_in r k at, first_is_best least (found_in r k) count at h order, (subst (HasNumber t new_values k) is v, subst (HasNumber Int64 new_places k) here p))
