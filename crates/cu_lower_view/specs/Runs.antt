-- The runs that an index takes of an array, one for each axis (Python array API, "Indexing": multi-axis indexing with integers,
-- slices, new axes and an ellipsis).
use Rattle.std.specs.Prelude.{ℕ, ◌-◌, ℤ, pos, List, [], ◌∷◌, ◌++◌, length, map, take, drop, slice_index, Option, if◌then◌else◌}
use Rattle.std.specs.Ordering.{int_eq}
use Rattle.cu_shape.specs.Slice.{at_least_zero, from_end, first_of, count_of}
use Rattle.cu_shape.specs.declared.slice.Run.{Run}
use Rattle.cu_node.specs.declared.index_item.IndexItem.{IndexItem}
use Rattle.cu_node.specs.declared.index_item.IndexItem.TheVariants.{At, Slice, New, Ellipsis}
use Rattle.cu_typing_view.specs.Entries.{width_of, step_of}

-- all indices of an axis of size n
abbrev pub whole_run : ℕ → Run
whole_run n = record { first = 0; step = pos 1; count = n }

-- the one index that an integer names, a negative one counted from the end
abbrev pub single_run : ℤ → ℕ → Run
single_run i n = record { first = at_least_zero (from_end i n); step = pos 1; count = 1 }

-- the indices that a slice takes; none where the step is 0
unfoldable pub slice_run : Option ℤ → Option ℤ → ℤ → ℕ → Run
slice_run start stop step n =
    if int_eq step (pos 0) then whole_run 0 else record { first = first_of start stop step n; step = step; count = count_of start stop step n }

-- ---- the entries, each with the sizes of the axes that are left for it and those behind it

-- the runs of the axes that an entry takes, where the ellipsis stands for `more` axes
abbrev pub runs_left : ℕ → IndexItem → List ℕ → List Run
runs_left more (At i) ns = single_run i (slice_index ns 0) ∷ []
runs_left more (Slice start stop step) ns = slice_run start stop (step_of step) (slice_index ns 0) ∷ []
runs_left more New ns = []
runs_left more Ellipsis ns = map whole_run (take more ns)

-- the run of each axis: axes that no entry takes follow at the end, whole
abbrev pub index_runs : ℕ → List IndexItem → List ℕ → List Run
index_runs more [] ns = map whole_run ns
index_runs more (item ∷ items) ns = runs_left more item ns ++ index_runs more items (drop (width_of more item) ns)

-- an integer takes its axis out of the result
abbrev pub axis_taken : IndexItem → ℕ → List ℕ
axis_taken (At i) d = d ∷ []
axis_taken item d = []

-- the axes that the result lacks, of an array of this rank: that of an entry is the first that is left for it
abbrev pub axes_taken : ℕ → ℕ → List IndexItem → List ℕ → List ℕ
axes_taken more rank [] ns = []
axes_taken more rank (item ∷ items) ns = axis_taken item (rank - length ns) ++ axes_taken more rank items (drop (width_of more item) ns)
