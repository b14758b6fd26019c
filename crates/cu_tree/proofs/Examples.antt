-- The definitions on worked examples.
use Rattle.std.proofs.Common.{◌≡◌, [], ◌∷◌, None, refl}
use Rattle.cu_num.specs.declared.types.Dtype.TheVariants.{Int32, Int64}
use Rattle.cu_node.specs.Info.{info_of}
use Rattle.cu_tree.specs.Marks.{sought_axes}
use Rattle.cu_tree.specs.Needs.{fold_need, pair_fold_need, pair_merge_need, product_need}
use Rattle.cu_tree.specs.Partials.{first_partial}
use Rattle.cu_tree.specs.Outlines.{cumulative_outline, outline_cells, outline_tasks, product_outline, reduction_outline, search_outline}
use Rattle.cu_tree.specs.Rounds.{rounds_of}

-- 5 elements in chunks of 2 have 3 partial results; in pairs they are merged in two rounds
pairs : rounds_of (record { 0 = 1 }) 2 (3 ∷ []) ≡ record { axis = 0; from = 3; to = 2 } ∷ record { axis = 0; from = 2; to = 1 } ∷ []
pairs = refl

-- the lowest reduced axis comes first, and an axis that isn't reduced has no round
two_axes : rounds_of (record { 0 = 5 }) 4 (5 ∷ 9 ∷ 4 ∷ []) ≡ record { axis = 0; from = 5; to = 2 } ∷ record { axis = 0; from = 2; to = 1 } ∷ record { axis = 2; from = 4; to = 1 } ∷ []
two_axes = refl

one_each : rounds_of (record { 0 = 3 }) 2 (1 ∷ 0 ∷ []) ≡ []
one_each = refl

-- ---- the arrays, their chunks and their memory

-- 6 elements in chunks of 4 have two partial results, each a chunk
two_partials : first_partial Int64 (record { 0 = 1 }) (info_of Int32 (6 ∷ []) (4 ∷ [])) ≡ info_of Int64 (2 ∷ []) (1 ∷ [])
two_partials = refl

-- of no elements there is one, which one task makes
none : outline_tasks (reduction_outline 4 (info_of Int64 [] []) (info_of Int32 (0 ∷ []) (4 ∷ [])) (record { 0 = 1 })) ≡ 1
none = refl

none_need : fold_need 0 16 8 ≡ 40
none_need = refl

-- three tasks, then two, then one; all but the last store values too
place_tasks : outline_tasks (search_outline 2 (info_of Int64 [] []) (info_of Int32 (5 ∷ []) (2 ∷ [])) (sought_axes None)) ≡ 6
place_tasks = refl

place_cells : outline_cells (search_outline 2 (info_of Int64 [] []) (info_of Int32 (5 ∷ []) (2 ∷ [])) (sought_axes None)) ≡ 11
place_cells = refl

place_needs : (pair_fold_need 0 8 4 8 ≡ 28) × (pair_merge_need 0 2 4 8 ≡ 44)
place_needs = (refl, refl)

-- two chunks of the inner axis, and one merge
product_tasks : outline_tasks (product_outline 4 (info_of Int32 (2 ∷ []) (2 ∷ [])) (info_of Int32 (2 ∷ 3 ∷ []) (2 ∷ 2 ∷ [])) 16 8) ≡ 3
product_tasks = refl

-- three chunks in pairs: a fold, a merge, two carries and a scan
sums_tasks : outline_tasks (cumulative_outline 2 (info_of Int32 (6 ∷ []) (2 ∷ [])) (info_of Int32 (6 ∷ []) (2 ∷ [])) 0) ≡ 13
sums_tasks = refl

product_chunks : product_need 0 16 8 8 ≡ 48
product_chunks = refl
