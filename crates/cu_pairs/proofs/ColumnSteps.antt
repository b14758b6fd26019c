-- One row more of the best of a column.
use Rattle.std.proofs.Common.{◌≡◌, ℕ, ◌+◌, ◌*◌, ◌<◌, ℤ, pos, true, false, List, Option, None, Some, refl, sym, ap, ◌∙◌, subst, arith, below_more, if◌then◌else◌}
use Rattle.std.specs.Prelude.{Bool as Test, int_lt}
use Rattle.std.proofs.lemmas.Int.{ints}
use Rattle.cu_num.specs.Dtype.{size_of, InRange}
use Rattle.cu_num.specs.Wrap.{residue, wrapped}
use Rattle.cu_num.specs.Element.{element_at, element_bytes, bytes_at, low_bytes}
use Rattle.cu_num.specs.declared.types.Dtype.{Dtype}
use Rattle.cu_num.specs.declared.types.Dtype.TheVariants.{Int64}
use Rattle.cu_num.specs.declared.layout.Endian.TheVariants.{Little}
use Rattle.cu_num.proofs.Wrapped.{wrapped-wrapped, wrapped_in_range}
use Rattle.cu_num.proofs.ElementBytes.{element_at_own, element_at-element_bytes, InRange-element_at}
use Rattle.cu_reduce.specs.Numbers.{HasNumber}
use Rattle.cu_reduce.specs.Places.{Found, is_beyond, is_better}
use Rattle.cu_pairs.specs.Elements.{found, HasFound}
use Rattle.cu_pairs.specs.Columns.{Table, found_in, is_taken, IsBestOf, HasBest}
use Rattle.cu_pairs.proofs.BestOf.{not_better_more, not_better_own, better_value, not_better_later}

-- ---- what stands in a buffer

-- a number that stands there is read wrapped, and the bytes of what is read are its own
pub read_number : (t : Dtype) (bytes : List ℕ) (at : ℕ) (x : ℤ) → HasNumber t bytes at x → element_at Little t bytes at ≡ wrapped t x
read_number t bytes at x h = element_at_own Little t bytes at ∙ ap (λ own. element_at Little t own 0) h ∙ element_at-element_bytes Little t x

pub bytes_wrapped : (t : Dtype) (x : ℤ) → element_bytes Little t (wrapped t x) ≡ element_bytes Little t x
unfolding element_bytes
bytes_wrapped t x = ap (λ z. low_bytes (size_of t) (residue (8 * size_of t) z)) (wrapped-wrapped t x)

-- what was read and written again
pub number_kept : (t : Dtype) (bytes other : List ℕ) (at place : ℕ) (x : ℤ) → HasNumber t bytes at x → HasNumber t other place (element_at Little t bytes at) → HasNumber t other place x
number_kept t bytes other at place x h g = g ∙ ap (element_bytes Little t) (read_number t bytes at x h) ∙ bytes_wrapped t x

-- ---- one row more

found_range : (r : Table) (k i : ℕ) → InRange r.t (found_in r k i).value
found_range r k i = InRange-element_at Little r.t r.bytes (i * r.width + k)

value_read : (r : Table) (k row : ℕ) (least : Test) (values : List ℕ) (best : Found) → IsBestOf least (found_in r k) row best → HasNumber r.t values k best.value → element_at Little r.t values k ≡ best.value
value_read r k row least values best is has =
    let range : InRange r.t best.value = subst (λ b. InRange r.t b.value) is.is (found_range r k is.number) in
    read_number r.t values k best.value has ∙ wrapped_in_range r.t best.value range

one_more : (least : Test) (f : ℕ → Found) (row : ℕ) (best : Found) → IsBestOf least f row best → is_better least (f row) best ≡ true → IsBestOf least f (row + 1) (f row)
one_more least f row best h e = record {
  number = row;
  within = omega arith;
  is = refl;
  none = below_more _ _ (λ j b. not_better_more least (f j) best (f row) (h.none j b) e) (not_better_own least (f row));
}

still : (least : Test) (f : ℕ → Found) (row : ℕ) (best : Found) → IsBestOf least f row best → is_better least (f row) best ≡ false → IsBestOf least f (row + 1) best
still least f row best h e = record {
  number = h.number;
  within = let w = h.within in omega arith;
  is = h.is;
  none = below_more _ _ h.none e;
}

-- the test of the code is that of the order
taken_is : (least : Test) (t : Dtype) (width : ℕ) (bytes : List ℕ) (first : Option ℕ) (places : List ℕ) (k row : ℕ) (best : Found) (value place : ℤ)
    → IsBestOf least (found_in (record { t = t; width = width; bytes = bytes; first = first; places = places }) k) row best → value ≡ best.value → place ≡ wrapped Int64 best.place
    → (choice : Test) → is_taken least first (found_in (record { t = t; width = width; bytes = bytes; first = first; places = places }) k row) (found value place) ≡ choice
    → is_better least (found_in (record { t = t; width = width; bytes = bytes; first = first; places = places }) k row) best ≡ choice
taken_is least t width bytes (Some first) places k row best value place is own there true e =
    better_value least (found (element_at Little t bytes (row * width + k)) (pos (first + row))) best (ap (is_beyond least (element_at Little t bytes (row * width + k))) (sym own) ∙ e)
taken_is least t width bytes (Some first) places k row best value place is own there false e =
    let within = is.within in
    let at : best.place ≡ pos (first + is.number) = sym (ap (λ b. b.place) is.is) in
    let later : int_lt (pos (first + row)) (pos (first + is.number)) ≡ false = grind (arith, ints) in
    not_better_later least (found (element_at Little t bytes (row * width + k)) (pos (first + row))) best (ap (is_beyond least (element_at Little t bytes (row * width + k))) (sym own) ∙ e)
    (ap (int_lt (pos (first + row))) at ∙ later)
taken_is least t width bytes None places k row best value place is own there choice e =
    let range : InRange Int64 best.place = subst (λ b. InRange Int64 b.place) is.is (InRange-element_at Little Int64 places (is.number * width + k)) in
    let same : place ≡ best.place = there ∙ wrapped_in_range Int64 best.place range in
    sym (λ i. is_better least (found (element_at Little t bytes (row * width + k)) (element_at Little Int64 places (row * width + k))) (found (own i) (same i))) ∙ e

pub first_row : (least : Test) (r : Table) (row k : ℕ) (values places : List ℕ) → row ≡ 0 → HasFound r.t values places k (found_in r k row) → HasBest least r (row + 1) values places k
first_row least r row k values places e has some = (
  found_in r k row,
  record {
    number = row;
    within = omega arith;
    is = refl;
    none = λ j b. let same : row ≡ j = omega arith in subst (λ i. is_better least (found_in r k i) (found_in r k row) ≡ false) same (not_better_own least (found_in r k row));
  },
  has,
)

by_choice : (least : Test) (r : Table) (row k : ℕ) (values places new_values new_places : List ℕ) (best : Found) (choice : Test) → IsBestOf least (found_in r k) row best
    → HasFound r.t values places k best → is_better least (found_in r k row) best ≡ choice
    → HasNumber r.t new_values k (if choice then (found_in r k row).value else element_at Little r.t values k)
    → HasNumber Int64 new_places k (if choice then (found_in r k row).place else element_at Little Int64 places k) → HasBest least r (row + 1) new_values new_places k
by_choice least r row k values places new_values new_places best true is has e value place some =
    (found_in r k row, one_more least (found_in r k) row best is e, (value, place))
by_choice least r row k values places new_values new_places best false is has e value place some =
    (best, still least (found_in r k) row best is e, (number_kept r.t values new_values k k best.value has.0 value, number_kept Int64 places new_places k k best.place has.1 place))

pub later_row : (least : Test) (r : Table) (row k : ℕ) (values places new_values new_places : List ℕ) (choice : Test) → 0 < row → HasBest least r row values places k
    → is_taken least r.first (found_in r k row) (found (element_at Little r.t values k) (element_at Little Int64 places k)) ≡ choice
    → HasNumber r.t new_values k (if choice then (found_in r k row).value else element_at Little r.t values k)
    → HasNumber Int64 new_places k (if choice then (found_in r k row).place else element_at Little Int64 places k) → HasBest least r (row + 1) new_values new_places k
later_row least r row k values places new_values new_places choice later before test value place =
    let h = before later in
    by_choice least r row k values places new_values new_places h.0 choice h.1 h.2
    (taken_is least r.t r.width r.bytes r.first r.places k row h.0 (element_at Little r.t values k) (element_at Little Int64 places k) h.1 (value_read r k row least values h.0 h.1 h.2.0) (read_number Int64 places k h.0.place h.2.1) choice test)
    value place

-- the other columns
pub same_column : (least : Test) (r : Table) (row k : ℕ) (values places new_values new_places : List ℕ) → bytes_at r.t new_values k ≡ bytes_at r.t values k → bytes_at Int64 new_places k ≡ bytes_at Int64 places k
    → HasBest least r row values places k → HasBest least r row new_values new_places k
same_column least r row k values places new_values new_places v p h some = let b = h some in (b.0, b.1, (v ∙ b.2.0, p ∙ b.2.1))

-- what is read of the old bytes, and written
pub chosen_number : (t : Dtype) (bytes : List ℕ) (at : ℕ) (x own best own_read best_read : ℤ) (choice : Test) → own_read ≡ own → best_read ≡ best → x ≡ (if choice then own_read else best_read)
    → HasNumber t bytes at x → HasNumber t bytes at (if choice then own else best)
chosen_number t bytes at x own best own_read best_read choice e f is has = has ∙ ap (element_bytes Little t) (is ∙ (λ i. if choice then e i else f i))
