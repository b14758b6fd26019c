-- The definitions on worked examples.
use Rattle.std.proofs.Common.{◌≡◌, [], ◌∷◌, None, Some, true, sum_by, refl}
use Rattle.cu_num.specs.declared.folds.FoldKind.TheVariants.{Sum, Min}
use Rattle.cu_num.specs.declared.types.Dtype.TheVariants.{Int16, Int32, Int64}
use Rattle.cu_op.specs.declared.operation.Op.TheVariants.{Carry, Copy, Fold, Merge, PairFold, PairMerge, Mul, Scan, GroupFold}
use Rattle.cu_node.specs.Info.{info_of}
use Rattle.cu_copy.specs.Copies.{in_chunks}
use Rattle.cu_tree.specs.Outlines.{cumulative_outline, outline_tasks}
use Rattle.cu_tree.specs.Sums.{cumulative_need}
use Rattle.cu_lower_reduce.specs.Copies.{copy_steps}
use Rattle.cu_lower_reduce.specs.Cumulative.{cumulative_steps}
use Rattle.cu_lower_reduce.specs.Grouped.{grouped_steps}
use Rattle.cu_lower_reduce.specs.Products.{product_steps}
use Rattle.cu_lower_reduce.specs.Reductions.{reduction_steps}
use Rattle.cu_lower_reduce.specs.Searches.{search_steps}
use Rattle.cu_lower_reduce.specs.Steps.{step_tasks}
use Rattle.cu_lower_reduce.specs.declared.cumulative.Cumulative.{Cumulative}
use Rattle.cu_lower_reduce.specs.declared.grouped.Grouped.{Grouped}
use Rattle.cu_lower_reduce.specs.declared.step.Setting.{Setting}

-- a sum of no elements is one fold
empty_sum : reduction_steps (record { first = 1; split_every = 4; reserved = 0 }) (record { kind = Sum; axes = record { 0 = 1 }; source = 0; from = info_of Int32 (0 ∷ []) (4 ∷ []); made = info_of Int64 [] [] })
    ≡ record { op = Fold Sum (record { 0 = 1 }) 0 1; values = None; made = info_of Int64 [] []; need = 40 } ∷ []
empty_sum = refl

-- 6 elements in chunks of 4: a fold to two partial results, and a merge
two_chunks : reduction_steps (record { first = 1; split_every = 4; reserved = 0 }) (record { kind = Sum; axes = record { 0 = 1 }; source = 0; from = info_of Int32 (6 ∷ []) (4 ∷ []); made = info_of Int64 [] [] })
    ≡ record { op = Fold Sum (record { 0 = 1 }) 0 1; values = None; made = info_of Int64 (2 ∷ []) (1 ∷ []); need = 40 }
    ∷ record { op = Merge Sum 0 4 1 2; values = None; made = info_of Int64 [] []; need = 48 } ∷ []
two_chunks = refl

-- the least of 5 elements in chunks of 2, merged in pairs; the last step stores no values
places : search_steps (record { first = 1; split_every = 2; reserved = 0 }) (record { least = true; axis = None; source = 0; from = info_of Int32 (5 ∷ []) (2 ∷ []); made = info_of Int64 [] [] })
    ≡ record { op = PairFold true None 0 (Some 1) 2; values = Some (info_of Int32 (3 ∷ []) (1 ∷ [])); made = info_of Int64 (3 ∷ []) (1 ∷ []); need = 28 }
    ∷ record { op = PairMerge true 0 2 1 2 (Some 3) 4; values = Some (info_of Int32 (2 ∷ []) (1 ∷ [])); made = info_of Int64 (2 ∷ []) (1 ∷ []); need = 44 }
    ∷ record { op = PairMerge true 0 2 3 4 None 5; values = None; made = info_of Int64 [] []; need = 44 } ∷ []
places = refl

-- a matrix by a vector, the inner axis of which has two chunks
product : product_steps (record { first = 2; split_every = 4; reserved = 0 })
    (record { left = 0; right = 1; left_info = info_of Int32 (2 ∷ 3 ∷ []) (2 ∷ 2 ∷ []); right_info = info_of Int32 (3 ∷ []) (2 ∷ []); made = info_of Int32 (2 ∷ []) (2 ∷ []) })
    ≡ record { op = Mul 0 1 2; values = None; made = info_of Int32 (2 ∷ 2 ∷ []) (2 ∷ 1 ∷ []); need = 48 }
    ∷ record { op = Merge Sum 1 4 2 3; values = None; made = info_of Int32 (2 ∷ []) (2 ∷ []); need = 48 } ∷ []
product = refl

-- 5 elements with labels in chunks of 2, in 3 groups: the groups of each chunk are numbered on a further axis, and merged along it
abbrev labelled_sum : Grouped
labelled_sum =
    record { kind = Sum; axis = 0; groups = 3; source = 0; labels = 1; source_info = info_of Int32 (5 ∷ []) (2 ∷ []); labels_info = info_of Int32 (5 ∷ []) (2 ∷ []); made = info_of Int64 (3 ∷ []) (3 ∷ []) }

abbrev four_together : Setting
four_together = record { first = 2; split_every = 4; reserved = 0 }

group_sums : grouped_steps four_together labelled_sum
    ≡ record { op = GroupFold Sum 0 3 0 1 2; values = None; made = info_of Int64 (3 ∷ 3 ∷ []) (3 ∷ 1 ∷ []); need = 64 }
    ∷ record { op = Merge Sum 1 4 2 3; values = None; made = info_of Int64 (3 ∷ []) (3 ∷ []); need = 144 } ∷ []
group_sums = refl

group_tasks : sum_by step_tasks (grouped_steps four_together labelled_sum) ≡ 4
group_tasks = refl

-- the least of them, in their own type
abbrev labelled_least : Grouped
labelled_least =
    record { kind = Min; axis = 0; groups = 3; source = 0; labels = 1; source_info = info_of Int32 (5 ∷ []) (2 ∷ []); labels_info = info_of Int32 (5 ∷ []) (2 ∷ []); made = info_of Int32 (3 ∷ []) (3 ∷ []) }

group_least : grouped_steps four_together labelled_least
    ≡ record { op = GroupFold Min 0 3 0 1 2; values = None; made = info_of Int32 (3 ∷ 3 ∷ []) (3 ∷ 1 ∷ []); need = 40 }
    ∷ record { op = Merge Min 1 4 2 3; values = None; made = info_of Int32 (3 ∷ []) (3 ∷ []); need = 72 } ∷ []
group_least = refl

-- 512 times 512 elements of 4 bytes from [512,64] to [64,512], where a region has at most 500,000 bytes: two copies
square : copy_steps (record { first = 1; reserved = 0; most = 500000 }) 0 (in_chunks (info_of Int32 (512 ∷ 512 ∷ []) (512 ∷ 64 ∷ [])) (64 ∷ 512 ∷ []))
    ≡ record { op = Copy (512 ∷ 192 ∷ []) 0 1; values = None; made = info_of Int32 (512 ∷ 512 ∷ []) (192 ∷ 192 ∷ []); need = 540672 }
    ∷ record { op = Copy (192 ∷ 512 ∷ []) 1 2; values = None; made = info_of Int32 (512 ∷ 512 ∷ []) (64 ∷ 512 ∷ []); need = 540672 } ∷ []
square = refl

-- 7 elements of 2 bytes from chunks of 5 to 3, where a region has at most 10 bytes: one copy
tight : copy_steps (record { first = 1; reserved = 0; most = 10 }) 0 (in_chunks (info_of Int16 (7 ∷ []) (5 ∷ [])) (3 ∷ []))
    ≡ record { op = Copy (3 ∷ []) 0 1; values = None; made = info_of Int16 (7 ∷ []) (3 ∷ []); need = 16 } ∷ []
tight = refl

-- prefix sums of 5 elements in chunks of 1, in groups of 2: the sums number 5, 3 and 2, and are carried back from the last
abbrev ones : Cumulative
ones = record { source = 0; from = info_of Int32 (5 ∷ []) (1 ∷ []); made = info_of Int64 (5 ∷ []) (1 ∷ []); axis = 0 }

abbrev pairs : Setting
pairs = record { first = 1; split_every = 2; reserved = 0 }

running : cumulative_steps pairs ones
    ≡ record { op = Fold Sum (record { 0 = 1 }) 0 1; values = None; made = info_of Int64 (5 ∷ []) (1 ∷ []); need = 20 }
    ∷ record { op = Merge Sum 0 2 1 2; values = None; made = info_of Int64 (3 ∷ []) (1 ∷ []); need = 32 }
    ∷ record { op = Merge Sum 0 2 2 3; values = None; made = info_of Int64 (2 ∷ []) (1 ∷ []); need = 32 }
    ∷ record { op = Carry 0 2 3 None 4; values = None; made = info_of Int64 (2 ∷ []) (1 ∷ []); need = 40 }
    ∷ record { op = Carry 0 2 2 (Some 4) 5; values = None; made = info_of Int64 (3 ∷ []) (1 ∷ []); need = 40 }
    ∷ record { op = Carry 0 2 1 (Some 5) 6; values = None; made = info_of Int64 (5 ∷ []) (1 ∷ []); need = 40 }
    ∷ record { op = Scan 0 0 (Some 6) 7; values = None; made = info_of Int64 (5 ∷ []) (1 ∷ []); need = 28 } ∷ []
running = refl

-- 10 tasks for the sums, 10 for what is carried and 5 for the scan
running_tasks : sum_by step_tasks (cumulative_steps pairs ones) ≡ outline_tasks (cumulative_outline 2 ones.made ones.from 0)
running_tasks = refl

running_count : outline_tasks (cumulative_outline 2 ones.made ones.from 0) ≡ 25
running_count = refl

running_need : cumulative_need 0 2 ones.made ones.from 0 ≡ 40
running_need = refl

-- of one chunk there is a scan alone
lone : cumulative_steps pairs (record { source = 0; from = info_of Int32 (5 ∷ []) (8 ∷ []); made = info_of Int64 (5 ∷ []) (8 ∷ []); axis = 0 })
    ≡ record { op = Scan 0 0 None 1; values = None; made = info_of Int64 (5 ∷ []) (8 ∷ []); need = 160 } ∷ []
lone = refl
