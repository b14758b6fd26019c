-- The memory of the operations of reductions and products, in bytes (this project's own rule): the greatest chunk as scratch, the chunks
-- that are read, and those that are written, besides what is reserved.
use Rattle.std.specs.Prelude.{ℕ, ◌+◌, ◌*◌, max, List, [], ◌∷◌}
use Rattle.cu_tree.specs.declared.round.Round.{Round}

-- a fold of chunks of `source` bytes to chunks of `partial` bytes
abbrev pub fold_bytes : ℕ → ℕ → ℕ
fold_bytes source partial = max source partial + source + partial

-- a merge of groups of so many partial results
abbrev pub merge_bytes : ℕ → ℕ → ℕ
merge_bytes group partial = partial + (group + 1) * partial

-- the same for values with their places; a chunk of places has at least as many bytes as one of values
abbrev pub pair_fold_bytes : ℕ → ℕ → ℕ → ℕ
pair_fold_bytes source values places = max source places + source + values + places

abbrev pub pair_merge_bytes : ℕ → ℕ → ℕ → ℕ
pair_merge_bytes group values places = places + (group + 1) * (values + places)

-- a product of aligned chunks of so many bytes
abbrev pub product_bytes : ℕ → ℕ → ℕ → ℕ
product_bytes left right partial = max left (max right partial) + left + right + partial

-- ---- with what is reserved

abbrev pub fold_need : ℕ → ℕ → ℕ → ℕ
fold_need reserved source partial = reserved + fold_bytes source partial

abbrev pub merge_need : ℕ → ℕ → ℕ → ℕ
merge_need reserved group partial = reserved + merge_bytes group partial

abbrev pub pair_fold_need : ℕ → ℕ → ℕ → ℕ → ℕ
pair_fold_need reserved source values places = reserved + pair_fold_bytes source values places

abbrev pub pair_merge_need : ℕ → ℕ → ℕ → ℕ → ℕ
pair_merge_need reserved group values places = reserved + pair_merge_bytes group values places

abbrev pub product_need : ℕ → ℕ → ℕ → ℕ → ℕ
product_need reserved left right partial = reserved + product_bytes left right partial

-- the greater of what the first operation needs and what a merge needs, where rounds of merges follow
abbrev pub with_merges : List Round → ℕ → ℕ → ℕ
with_merges [] first merge = first
with_merges (r ∷ rs) first merge = max first merge
