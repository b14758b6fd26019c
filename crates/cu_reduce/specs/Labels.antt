-- Elements with labels, and what is made of those of a group (this project's own operators).
use Rattle.std.specs.Prelude.{◌≡◌, ◌<◌, ℕ, ◌-◌, ◌*◌, suc, min, max, ℤ, pos, Bool, List, [], ◌∷◌, map, filter, Option, option_map, option_and_then}
use Rattle.std.specs.Int.{div_ceil}
use Rattle.std.specs.List.{range_with_len}
use Rattle.std.specs.Ordering.{int_eq}
use Rattle.cu_num.specs.Wrap.{wrapped}
use Rattle.cu_num.specs.declared.folds.FoldKind.{FoldKind}
use Rattle.cu_num.specs.declared.types.Dtype.{Dtype}
use Rattle.cu_reduce.specs.Folds.{fold_of, all_some}
use Rattle.cu_reduce.specs.Kinds.{unit_of}

-- ---- a group over places

-- the label is the number of the group
abbrev pub is_label : ℕ → ℤ → Bool
is_label q label = int_eq label (pos q)

-- the label is the number of one of so many groups
abbrev pub IsGroup : ℕ → ℤ → Type 0
IsGroup groups label = (q : ℕ) × (q < groups) × (label ≡ pos q)

-- the places whose label it is, in order
abbrev pub members : (ℕ → ℤ) → ℕ → List ℕ → List ℕ
members label q places = filter (λ p. is_label q (label p)) places

-- what is made of the elements of a group, exactly; of none 0 for a sum, and for the least number
-- the greatest of the type
abbrev pub group_fold : FoldKind → Dtype → List ℤ → ℤ
group_fold kind acc [] = unit_of kind acc
group_fold kind acc (x ∷ xs) = fold_of kind (x ∷ xs)

-- of the places whose label is q
abbrev pub grouped_at : FoldKind → Dtype → (ℕ → ℤ) → (ℕ → ℤ) → ℕ → List ℕ → ℤ
grouped_at kind acc label element q places =
    group_fold kind acc (map element (members label q places))

-- ---- where labels and elements may be missing

pub record Labelled : Type 0 where
  pub label : ℤ
  pub element : ℤ

abbrev pub with_label : Option ℤ → Option ℤ → Option Labelled
with_label label element =
    option_and_then (λ l. option_map (λ x. record { label = l; element = x }) element) label

-- the elements of a group
abbrev pub picked : ℕ → List Labelled → List ℤ
picked q xs = map (λ x. x.element) (filter (λ x. is_label q x.label) xs)

-- what is made of them, wrapped once to the type of the result, where no element and no label is
-- missing
abbrev pub grouped_to : FoldKind → Dtype → ℕ → List (Option Labelled) → Option ℤ
grouped_to kind acc q xs =
    option_map (λ ys. wrapped acc (group_fold kind acc (picked q ys))) (all_some xs)

-- the elements at these places with their labels
abbrev pub marked : (ℕ → Option ℤ) → (ℕ → Option ℤ) → List ℕ → List (Option Labelled)
marked label element places = map (λ p. with_label (label p) (element p)) places

-- ---- chunks of an axis

-- the places of an axis of size n in chunk number c, where chunks have this size
abbrev pub chunk_places : ℕ → ℕ → ℕ → List ℕ
chunk_places size n c = range_with_len (min n (c * size)) (min n (suc c * size) - min n (c * size))

-- how many chunks are counted, of an axis without elements one
abbrev pub chunks_on : ℕ → ℕ → ℕ
chunks_on size n = max 1 (div_ceil n size)
