-- What is known of an array of sums while its rounds go on.
use Rattle.std.proofs.Common.{◌≡◌, ℕ, ◌<◌, ◌≤◌, ◌==◌, Bool, true, false, List, ◌∷◌, length, get_or, Some, refl, ap, sym, ◌∙◌, arith, inl, inr}
use Rattle.std.proofs.lemmas.Bool.Decides.{eqb_tells}
use Rattle.cu_reduce.specs.Groups.{groups_of}
use Rattle.cu_reduce.specs.Tiers.{IsOnly}
use Rattle.cu_origin.specs.Pull.{has_axis}
use Rattle.cu_op.specs.Partial.{partial_grid, merge_groups, place_groups}
use Rattle.cu_node.specs.declared.info.NodeInfo.{NodeInfo}
use Rattle.cu_tree.specs.Partials.{merged}
use Rattle.cu_tree.specs.Rounds.{IsRound}
use Rattle.cu_tree.specs.Sums.{sums_array, sums_count, cumulative_rounds, IsSumRound, AreSumRounds}
use Rattle.cu_tree.specs.declared.round.Round.{Round}
use Rattle.cu_tree.proofs.Bits.{along}
use Rattle.cu_tree.proofs.Sizes.{length-chunk}
use Rattle.cu_tree.proofs.SumArrays.{axis_below}
use Rattle.cu_tree.proofs.SumRounds.{are_sum_rounds}
use Rattle.cu_lower_reduce.specs.Cumulative.{IsCumulative}
use Rattle.cu_lower_reduce.specs.Partials.{IsSetting}
use Rattle.cu_lower_reduce.specs.Steps.{grid_of}
use Rattle.cu_lower_reduce.specs.declared.cumulative.Cumulative.{Cumulative}
use Rattle.cu_lower_reduce.specs.declared.step.Setting.{Setting}
use Rattle.cu_lower_reduce.proofs.Folds.{first_grid}
use Rattle.cu_lower_reduce.proofs.LastAxis.{axis_alone, has_own, has_other}
use Rattle.cu_lower_reduce.proofs.Standing.{IsPartial, first_stands, merged_grid, merged_stands, one_along}

-- ---- the axis alone

pub has_alone : (axis : ℕ) → has_axis (axis_alone axis) ≡ (λ d. d == axis)
has_alone axis j d = along axis d j

pub only_axis : (axis : ℕ) → IsOnly (λ d. d == axis) axis
only_axis axis = record {
  own = elim (eqb_tells axis axis) [
    | inl p ↦ p.0
    | inr p ↦ absurd (p.1 refl)
  ];
  others = λ d h. elim (eqb_tells d axis) [
    | inl p ↦ absurd (h p.1)
    | inr p ↦ p.0
  ];
}

-- ---- a round, as one that merges partial results of that axis

pub as_round : (g axis : ℕ) (counts : List ℕ) (r : Round) → 2 ≤ g → IsSumRound g axis counts r → IsRound (axis_alone axis) g counts r
as_round g axis counts r h w =
    let a = w.axis in
    let i = w.inside in
    let m = w.more in
    record {
      inside = omega arith;
      reduced = has_own axis r.axis w.axis;
      lowest = λ d b t. absurd (let n = has_other axis d (λ e. absurd (omega arith)) in let q : false ≡ true = sym n ∙ t in cc q);
      from = w.from ∙ ap (λ (d : ℕ). get_or counts d 0) (sym w.axis);
      several = omega arith;
      to = w.to;
    }

-- what is known of an array of sums before its rounds
pub record IsSumTurn (s : Setting) (x : Cumulative) (i : NodeInfo) (rounds : List Round) : Type 0 where
  pub stands : IsPartial (axis_alone x.axis) x.from i
  pub dtype : i.dtype ≡ x.made.dtype
  pub rule : AreSumRounds s.split_every x.axis i.dims rounds

pub first_turn : (s : Setting) (x : Cumulative) → IsSetting s → IsCumulative x → IsSumTurn s x (sums_array x.made x.from x.axis) (cumulative_rounds s.split_every x.made x.from x.axis)
first_turn s x k h = record {
  stands = first_stands x.made.dtype (axis_alone x.axis) x.from h.summed.source_info.ranks;
  dtype = refl;
  rule = are_sum_rounds s.split_every x.axis (sums_count x.made x.from x.axis) (sums_array x.made x.from x.axis).dims k.several (axis_below x.made x.from x.axis h.summed) (omega arith);
}

pub next_turn : (s : Setting) (x : Cumulative) (i : NodeInfo) (r : Round) (rs : List Round) → 2 ≤ s.split_every → IsSumTurn s x i (r ∷ rs) → IsSumTurn s x (merged r i) rs
next_turn s x i r rs h t = record {
  stands = merged_stands (axis_alone x.axis) s.split_every x.from i r h t.stands (as_round s.split_every x.axis i.dims r h t.rule.0);
  dtype = t.dtype;
  rule = t.rule.1;
}

-- ---- what it has on the axis, and its grid

pub turn_below : (s : Setting) (x : Cumulative) (i : NodeInfo) (rs : List Round) → IsCumulative x → IsSumTurn s x i rs → x.axis < length i.dims
turn_below s x i rs h t = let n = t.stands.ranks in let a = h.summed.along in omega arith

pub turn_ranks : (s : Setting) (x : Cumulative) (i : NodeInfo) (rs : List Round) → IsSumTurn s x i rs → length i.chunk ≡ length i.dims
turn_ranks s x i rs t = ap length t.stands.chunk ∙ length-chunk (axis_alone x.axis) 0 x.from.chunk ∙ t.stands.base_ranks ∙ sym t.stands.ranks

-- a chunk of one
pub turn_single : (s : Setting) (x : Cumulative) (i : NodeInfo) (rs : List Round) → IsCumulative x → IsSumTurn s x i rs → get_or i.chunk x.axis 0 ≡ 1
turn_single s x i rs h t = one_along (axis_alone x.axis) x.from i x.axis t.stands h.summed.along (has_own x.axis x.axis refl)

-- the grid of what a merge makes of it, along the axis
pub turn_grid : (s : Setting) (x : Cumulative) (i : NodeInfo) (r : Round) (rs : List Round) → 2 ≤ s.split_every → IsSumTurn s x i (r ∷ rs)
    → partial_grid (merge_groups x.axis s.split_every (grid_of i)) (grid_of i) ≡ grid_of (merged r i)
turn_grid s x i r rs h t =
    ap (λ (d : ℕ). partial_grid (merge_groups d s.split_every (grid_of i)) (grid_of i)) (sym t.rule.0.axis)
    ∙ merged_grid (axis_alone x.axis) s.split_every x.from i r h t.stands (as_round s.split_every x.axis i.dims r h t.rule.0)

-- that of the first array of sums
pub sums_grid : (x : Cumulative) → partial_grid (place_groups (Some x.axis) (grid_of x.from)) (grid_of x.from) ≡ grid_of (sums_array x.made x.from x.axis)
sums_grid x =
    ap (λ (p : ℕ → Bool). partial_grid (groups_of p x.from.chunk) (grid_of x.from)) (sym (has_alone x.axis))
    ∙ first_grid x.made.dtype (axis_alone x.axis) x.from
