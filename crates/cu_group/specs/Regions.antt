-- Grouped results in a buffer of rows of little-endian elements.
use Rattle.std.specs.Prelude.{ℕ, ◌+◌, ◌*◌, ◌<◌, ℤ, List, map}
use Rattle.std.specs.List.{range_with_len}
use Rattle.cu_num.specs.Element.{element_at}
use Rattle.cu_num.specs.declared.types.Dtype.{Dtype}
use Rattle.cu_num.specs.declared.layout.Endian.TheVariants.{Little}
use Rattle.cu_num.specs.declared.folds.FoldKind.{FoldKind}
use Rattle.cu_reduce.specs.Labels.{members, group_fold}
use Rattle.cu_reduce.specs.Numbers.{HasNumber}
use Rattle.cu_group.specs.declared.rows.Sizes.{Sizes}

-- the labels that stand in a buffer
abbrev pub label_in : Dtype → List ℕ → ℕ → ℤ
label_in t bytes p = element_at Little t bytes p

-- Of rows of `inner` elements the places that element j of the row of group q is made of, among
-- `count` rows from number `first` on.
abbrev pub row_sources : (ℕ → ℤ) → ℕ → ℕ → ℕ → ℕ → ℕ → List ℕ
row_sources label inner first count q j =
    map (λ k. (first + k) * inner + j) (members label q (range_with_len 0 count))

-- each element of each group's row has what is made of the elements in the same place of the rows
-- that have its label
abbrev pub HasGroups : FoldKind → Dtype → Sizes → (ℕ → ℤ) → (ℕ → ℤ) → List ℕ → Type 0
HasGroups kind acc sizes label element out =
    (o q j : ℕ) → o < sizes.outer → q < sizes.groups → j < sizes.inner
    → HasNumber acc out ((o * sizes.groups + q) * sizes.inner + j)
    (group_fold kind acc (map element (row_sources label sizes.inner
    (o * sizes.count) sizes.count q j)))
