-- The arrays between an array and its prefix sums along an axis, their rounds and memory (this project's own rule). The first has
-- the sums of the chunks on the axis, each further one the sums of groups of `split_every` of the one before it, until one group is left.
-- For each there is an array of what comes before each of its sums. `made` and `source` tell of the node's array and of its argument's.
use Rattle.std.specs.Prelude.{◌≡◌, ℕ, zero, suc, ◌+◌, ◌<◌, ◌≤◌, nat_lt, if◌then◌else◌, max, List, [], ◌∷◌, length, slice_index, slice_set, Some}
use Rattle.std.specs.Int.{div_ceil}
use Rattle.cu_node.specs.Info.{IsInfo, chunk_bytes}
use Rattle.cu_node.specs.declared.info.NodeInfo.{NodeInfo}
use Rattle.cu_tree.specs.Marks.{sought_axes}
use Rattle.cu_tree.specs.Needs.{fold_need, merge_bytes, product_need}
use Rattle.cu_tree.specs.Partials.{first_partial, merged}
use Rattle.cu_tree.specs.Rounds.{merge_round}
use Rattle.cu_tree.specs.declared.round.Round.{Round}

-- ---- the arrays

-- the first array of sums, which a fold makes: one for each chunk on the axis, in chunks of one there
abbrev pub sums_array : NodeInfo → NodeInfo → ℕ → NodeInfo
sums_array made source axis = first_partial made.dtype (sought_axes (Some axis)) source

-- how many chunks the axis has, at least one
abbrev pub sums_count : NodeInfo → NodeInfo → ℕ → ℕ
sums_count made source axis = slice_index (sums_array made source axis).dims axis

-- The rounds of an axis with n sums: as long as there are more than `split_every`. There are at most n of them.
abbrev pub sum_rounds : ℕ → ℕ → ℕ → ℕ → List Round
sum_rounds split_every axis zero n = []
sum_rounds split_every axis (suc most) n =
    if nat_lt split_every n then merge_round split_every axis n ∷ sum_rounds split_every axis most (div_ceil n split_every) else []

abbrev pub cumulative_rounds : ℕ → NodeInfo → NodeInfo → ℕ → List Round
cumulative_rounds split_every made source axis = sum_rounds split_every axis (sums_count made source axis) (sums_count made source axis)

-- the arrays from one on: one more than there are rounds
abbrev pub sums_from : NodeInfo → List Round → List NodeInfo
sums_from sums [] = sums ∷ []
sums_from sums (r ∷ rs) = sums ∷ sums_from (merged r sums) rs

-- the same by how many rounds there may be at most
abbrev pub sums_arrays : ℕ → ℕ → ℕ → NodeInfo → List NodeInfo
sums_arrays split_every axis most sums = sums_from sums (sum_rounds split_every axis most (slice_index sums.dims axis))

-- ---- memory

-- a carry of a group of sums, and of what is above them
abbrev pub carry_bytes : ℕ → ℕ → ℕ
carry_bytes split_every sums = merge_bytes (split_every + 1) sums

abbrev pub carry_need : ℕ → ℕ → ℕ → ℕ
carry_need reserved split_every sums = reserved + carry_bytes split_every sums

-- A scan alone where there is at most one chunk on the axis. Otherwise a fold, carries, and a scan with what is carried in. A merge needs
-- less than a carry.
abbrev pub cumulative_need : ℕ → ℕ → NodeInfo → NodeInfo → ℕ → ℕ
cumulative_need reserved split_every made source axis =
    if nat_lt 1 (sums_count made source axis) then
    max (fold_need reserved (chunk_bytes source) (chunk_bytes (sums_array made source axis)))
    (max (carry_need reserved split_every (chunk_bytes (sums_array made source axis)))
    (product_need reserved (chunk_bytes source) (chunk_bytes (sums_array made source axis)) (chunk_bytes made)))
    else fold_need reserved (chunk_bytes source) (chunk_bytes made)

-- ---- what they keep

-- a round merges groups of the sums on the axis, of which there are more than a group has
pub record IsSumRound (split_every along : ℕ) (counts : List ℕ) (r : Round) : Type 0 where
  pub inside : along < length counts
  pub axis : r.axis ≡ along
  pub from : r.from ≡ slice_index counts along
  pub more : split_every < r.from
  pub to : r.to ≡ div_ceil r.from split_every

-- round by round, until one group is left
abbrev pub AreSumRounds : ℕ → ℕ → List ℕ → List Round → Type 0
AreSumRounds split_every along counts [] = slice_index counts along ≤ split_every
AreSumRounds split_every along counts (r ∷ rs) = IsSumRound split_every along counts r × AreSumRounds split_every along (slice_set counts r.axis r.to) rs

-- An array and that of its prefix sums along an axis: these have its shape and its chunks.
pub record IsSummed (made source : NodeInfo) (axis : ℕ) : Type 0 where
  pub source_info : IsInfo source
  pub made_info : IsInfo made
  pub along : axis < length source.dims
  pub dims : made.dims ≡ source.dims
  pub chunk : made.chunk ≡ source.chunk
