-- The steps of prefix sums along an axis (this project's own rule). Where the axis has one chunk they are one scan. Otherwise a fold makes
-- the sums of its chunks, merges make the sums of groups of them until one group is left, carries give each of these what comes before it,
-- from the last array of sums to the first, and a scan sums in each chunk on top of what is carried into it.
use Rattle.std.specs.Prelude.{ℕ, zero, suc, ◌+◌, List, [], ◌∷◌, ◌++◌, length, nat_lt, if◌then◌else◌, Option, Some, None}
use Rattle.cu_num.specs.Dtype.{IsInteger}
use Rattle.cu_num.specs.declared.folds.FoldKind.TheVariants.{Sum}
use Rattle.cu_op.specs.declared.operation.Op.{Op}
use Rattle.cu_op.specs.declared.operation.Op.TheVariants.{Fold, Merge, Carry, Scan}
use Rattle.cu_node.specs.declared.info.NodeInfo.{NodeInfo}
use Rattle.cu_tree.specs.Marks.{sought_axes}
use Rattle.cu_tree.specs.Needs.{fold_need, merge_need, product_need}
use Rattle.cu_tree.specs.Partials.{merged}
use Rattle.cu_tree.specs.Sums.{sums_array, sums_count, cumulative_rounds, carry_need, IsSummed}
use Rattle.cu_tree.specs.declared.round.Round.{Round}
use Rattle.cu_lower_reduce.specs.declared.cumulative.Cumulative.{Cumulative}
use Rattle.cu_lower_reduce.specs.declared.step.Setting.{Setting}
use Rattle.cu_lower_reduce.specs.declared.step.Step.{Step}
use Rattle.cu_node.specs.Info.{chunk_bytes}

-- ---- one step of each kind

-- the sums of the chunks on the axis
abbrev pub summed_step : Setting → Cumulative → NodeInfo → Step
summed_step s x sums = record {
  op = Fold Sum (sought_axes (Some x.axis)) x.source s.first;
  values = None;
  made = sums;
  need = fold_need s.reserved (chunk_bytes x.from) (chunk_bytes sums);
}

-- the sums of groups of those in array number `source`, which is `sums`
abbrev pub regrouped_step : Setting → ℕ → NodeInfo → Round → Step
regrouped_step s source sums r = record {
  op = Merge Sum r.axis s.split_every source (source + 1);
  values = None;
  made = merged r sums;
  need = merge_need s.reserved s.split_every (chunk_bytes sums);
}

-- what comes before each of them, with what comes before their groups, where there are several
abbrev pub carried_step : Setting → ℕ → ℕ → NodeInfo → Option ℕ → ℕ → Step
carried_step s axis source sums above out = record {
  op = Carry axis s.split_every source above out;
  values = None;
  made = sums;
  need = carry_need s.reserved s.split_every (chunk_bytes sums);
}

-- the prefix sums
abbrev pub scan_of : Cumulative → Option ℕ → ℕ → Op
scan_of x carry out = Scan x.axis x.source carry out

abbrev pub scanned_step : Cumulative → Option ℕ → ℕ → ℕ → Step
scanned_step x carry out need = record { op = scan_of x carry out; values = None; made = x.made; need = need }

-- ---- all of them

-- a merge for each round, from array number `source` on
abbrev pub sum_merges : Setting → ℕ → NodeInfo → List Round → List Step
sum_merges s source sums [] = []
sum_merges s source sums (r ∷ rs) = regrouped_step s source sums r ∷ sum_merges s (source + 1) (merged r sums) rs

-- A carry for each array of sums from number `source` on, the last first, whose array has number `next`. The others follow it, and each
-- reads the one before it.
abbrev pub sum_carries : Setting → ℕ → ℕ → NodeInfo → List Round → ℕ → List Step
sum_carries s axis source sums [] next = carried_step s axis source sums None next ∷ []
sum_carries s axis source sums (r ∷ rs) next =
    sum_carries s axis (source + 1) (merged r sums) rs next ++ carried_step s axis source sums (Some (next + length rs)) (next + length rs + 1) ∷ []

-- the number of the carried array before the one of this place, where there is one
abbrev pub carry_before : ℕ → ℕ → Option ℕ
carry_before next zero = None
carry_before next (suc at) = Some (next + at)

-- the numbers of the first array that is carried and of the last
abbrev pub first_carry : Setting → List Round → ℕ
first_carry s rs = s.first + length rs + 1

abbrev pub last_carry : Setting → List Round → ℕ
last_carry s rs = first_carry s rs + length rs

-- the last of several steps
abbrev pub last_scan : Setting → Cumulative → NodeInfo → List Round → Step
last_scan s x sums rs =
    scanned_step x (Some (last_carry s rs)) (last_carry s rs + 1) (product_need s.reserved (chunk_bytes x.from) (chunk_bytes sums) (chunk_bytes x.made))

-- of an axis with several chunks
abbrev pub summed_steps : Setting → Cumulative → NodeInfo → List Round → List Step
summed_steps s x sums rs =
    summed_step s x sums ∷ (sum_merges s s.first sums rs ++ (sum_carries s x.axis s.first sums rs (first_carry s rs) ++ last_scan s x sums rs ∷ []))

abbrev pub cumulative_steps : Setting → Cumulative → List Step
cumulative_steps s x =
    if nat_lt 1 (sums_count x.made x.from x.axis)
    then summed_steps s x (sums_array x.made x.from x.axis) (cumulative_rounds s.split_every x.made x.from x.axis)
    else scanned_step x None s.first (fold_need s.reserved (chunk_bytes x.from) (chunk_bytes x.made)) ∷ []

-- ---- what is summed

-- the prefix sums have an integer type, and the shape and the chunks of what is summed
pub record IsCumulative (x : Cumulative) : Type 0 where
  pub summed : IsSummed x.made x.from x.axis
  pub integer : IsInteger x.made.dtype
