-- Prefix sums in buffers of little-endian elements. A region has rows of `inner` elements, which
-- stand one after another along the axis; so many rows are a block, and blocks stand one after
-- another.
use Rattle.std.specs.Prelude.{◌≡◌, ℕ, suc, ◌+◌, ◌*◌, ◌<◌, ◌≤◌, ℤ, pos, ◌+ℤ◌, List, [], ◌∷◌, length, slice_set}
use Rattle.cu_num.specs.Dtype.{size_of}
use Rattle.cu_num.specs.Element.{element_at, bytes_at}
use Rattle.cu_num.specs.Wrap.{wrapped}
use Rattle.cu_num.specs.declared.types.Dtype.{Dtype}
use Rattle.cu_num.specs.declared.layout.Endian.TheVariants.{Little}
use Rattle.cu_shape.specs.Index.{place_of}
use Rattle.cu_reduce.specs.Numbers.{HasNumber}
use Rattle.cu_reduce.specs.Prefix.{sum_below}

-- an element of what is carried in, which counts as zeros where there is nothing
abbrev pub carried_at : Dtype → List ℕ → ℕ → ℤ
carried_at acc [] p = pos 0
carried_at acc (b ∷ bytes) p = element_at Little acc (b ∷ bytes) p

-- what is carried into the line through an index, which has one place for each line
abbrev pub given_into : Dtype → List ℕ → ℕ → List ℕ → List ℕ → ℤ
given_into acc dims axis carry idx =
    carried_at acc carry (place_of (slice_set dims axis 1) (slice_set idx axis 0))

-- nothing, or at least so many elements
abbrev pub IsCarriedInto : Dtype → ℕ → List ℕ → Type 0
IsCarriedInto acc count bytes = 0 < length bytes → count * size_of acc ≤ length bytes

-- these places of a row have the sums of what stood there before and of the elements
abbrev pub AddsRow : Dtype → Dtype → ℕ → (ℕ → ℤ) → (ℕ → ℤ) → ℕ → List ℕ → Type 0
AddsRow t acc count before elements row out =
    (q : ℕ) → q < count → HasNumber acc out (row * count + q) (before q +ℤ elements q)

-- the rows before this one are as they were
abbrev pub KeepsRows : Dtype → ℕ → ℕ → List ℕ → List ℕ → Type 0
KeepsRows acc inner row old new =
    (r q : ℕ) → r < row → q < inner
    → bytes_at acc new (r * inner + q) ≡ bytes_at acc old (r * inner + q)

-- the element at q of a row
abbrev pub row_element : Dtype → ℕ → List ℕ → ℕ → ℕ → ℤ
row_element t inner input row q = element_at Little t input (row * inner + q)

-- the sum of the elements at q of the first n rows of block o, and what is carried in
abbrev pub column_sum : Dtype → Dtype → ℕ → ℕ → List ℕ → List ℕ → ℕ → ℕ → ℕ → ℤ
column_sum t acc rows inner input carry o q n =
    carried_at acc carry (o * inner + q)
    +ℤ sum_below (λ k. row_element t inner input (o * rows + k) q) n

-- each element of the first `count` rows of block o has the sum of its column up to it
abbrev pub HasSummedRows : Dtype → Dtype → ℕ → ℕ → ℕ → ℕ → List ℕ → List ℕ → List ℕ → Type 0
HasSummedRows t acc rows inner o count input carry out = (j q : ℕ) → j < count → q < inner
    → HasNumber acc out ((o * rows + j) * inner + q) (column_sum t acc rows inner input carry o q
    (suc j))

-- the same in the first `count` blocks
abbrev pub HasBlocks : Dtype → Dtype → ℕ → ℕ → ℕ → List ℕ → List ℕ → List ℕ → Type 0
HasBlocks t acc rows inner count input carry out =
    (o : ℕ) → o < count → HasSummedRows t acc rows inner o rows input carry out

-- ---- sums of whole columns

-- row `at` has what is carried in
abbrev pub StartsRow : Dtype → ℕ → ℕ → List ℕ → List ℕ → Type 0
StartsRow acc inner at carry out =
    (q : ℕ) → q < inner → row_element acc inner out at q ≡ carried_at acc carry (at * inner + q)

-- row o has the sums of the first n rows of block o, wrapped
abbrev pub HasTotal : Dtype → ℕ → ℕ → ℕ → ℕ → List ℕ → List ℕ → List ℕ → Type 0
HasTotal acc rows inner o n sums above out =
    (q : ℕ) → q < inner → row_element acc inner out o q
    ≡ wrapped acc (column_sum acc acc rows inner sums above o q n)

abbrev pub HasTotals : Dtype → ℕ → ℕ → ℕ → List ℕ → List ℕ → List ℕ → Type 0
HasTotals acc rows inner count sums above out =
    (o : ℕ) → o < count → HasTotal acc rows inner o rows sums above out
