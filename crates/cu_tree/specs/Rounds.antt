-- The rounds in which the partial results of a reduction are merged (after Cubed's tree reduction; the order of the axes is the
-- project's own rule).
use Rattle.std.specs.Prelude.{◌≡◌, ℕ, zero, suc, ◌+◌, ◌<◌, ◌≤◌, nat_lt, IsTrue, if◌then◌else◌, List, [], ◌∷◌, ◌++◌, length, slice_index, slice_set}
use Rattle.std.specs.Int.{div_ceil}
use Rattle.cu_origin.specs.Pull.{has_axis}
use Rattle.cu_origin.specs.declared.axes.Axes.{Axes}
use Rattle.cu_tree.specs.declared.round.Round.{Round}

-- merges groups of `split_every` of the partial results on an axis, the last of which may be shorter
abbrev pub merge_round : ℕ → ℕ → ℕ → Round
merge_round split_every axis n = record { axis = axis; from = n; to = div_ceil n split_every }

-- The rounds of an axis with n partial results: as long as there is more than one. There are at most n of them.
abbrev pub axis_rounds : ℕ → ℕ → ℕ → ℕ → List Round
axis_rounds split_every axis zero n = []
axis_rounds split_every axis (suc most) n = if nat_lt 1 n then merge_round split_every axis n ∷ axis_rounds split_every axis most (div_ceil n split_every) else []

-- the partial results of an axis that are to be merged; an axis that isn't reduced counts as one, and has no round
abbrev pub merged_on : Axes → ℕ → ℕ → ℕ
merged_on axes axis n = if has_axis axes axis then n else 1

-- the rounds of the axes from `first` on
abbrev pub rounds_from : Axes → ℕ → ℕ → List ℕ → List Round
rounds_from axes split_every first [] = []
rounds_from axes split_every first (n ∷ ns) = axis_rounds split_every first (merged_on axes first n) (merged_on axes first n) ++ rounds_from axes split_every (first + 1) ns

abbrev pub rounds_of : Axes → ℕ → List ℕ → List Round
rounds_of axes split_every counts = rounds_from axes split_every 0 counts

-- ---- the rule of a round in words

-- at most one partial result is left on each reduced axis below `end`
abbrev pub AreMerged : Axes → List ℕ → ℕ → Type 0
AreMerged axes counts end = (d : ℕ) → d < end → IsTrue (has_axis axes d) → slice_index counts d ≤ 1

-- a round takes the lowest reduced axis that has more than one partial result, and leaves one for each group
pub record IsRound (axes : Axes) (split_every : ℕ) (counts : List ℕ) (r : Round) : Type 0 where
  pub inside : r.axis < length counts
  pub reduced : IsTrue (has_axis axes r.axis)
  pub lowest : AreMerged axes counts r.axis
  pub from : r.from ≡ slice_index counts r.axis
  pub several : 1 < r.from
  pub to : r.to ≡ div_ceil r.from split_every

-- round by round, until no reduced axis has more than one
abbrev pub AreRounds : Axes → ℕ → List ℕ → List Round → Type 0
AreRounds axes split_every counts [] = AreMerged axes counts (length counts)
AreRounds axes split_every counts (r ∷ rs) = IsRound axes split_every counts r × AreRounds axes split_every (slice_set counts r.axis r.to) rs
