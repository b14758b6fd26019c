-- The arrays of partial results by how many rounds are done.
use Rattle.std.specs.Prelude.{ℕ, zero, suc, ◌^◌, ◌<◌, ◌≤◌, List, [], ◌∷◌}
use Rattle.cu_node.specs.declared.info.NodeInfo.{NodeInfo}
use Rattle.cu_tree.specs.Partials.{merged}
use Rattle.cu_tree.specs.declared.round.Round.{Round}
use Rattle.cu_lower_reduce.specs.declared.step.Setting.{Setting}

-- after so many of these rounds
abbrev pub partial_after : NodeInfo → List Round → ℕ → NodeInfo
partial_after partial rounds zero = partial
partial_after partial [] (suc k) = partial
partial_after partial (r ∷ rs) (suc k) = partial_after (merged r partial) rs k

-- the options of a run lie in their ranges, and the numbers of the arrays fit
pub record IsSetting (s : Setting) : Type 0 where
  pub several : 2 ≤ s.split_every
  pub few : s.split_every ≤ 64
  pub reserved : s.reserved ≤ 2 ^ 40
  pub room : s.first < 2 ^ 31
