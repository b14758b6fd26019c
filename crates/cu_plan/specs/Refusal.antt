-- Why an expression has no plan (this project's own rule).
use Rattle.std.specs.Prelude.{◌≡◌, ◌⊎◌, ◌<◌, ◌≤◌, ℕ, List, Option, Some, option_map}
use Rattle.std.specs.Option.{option_or}
use Rattle.cu_copy.specs.Copies.{max_mem}
use Rattle.cu_form.specs.Expression.{Expression}
use Rattle.cu_form.specs.declared.expr.Node.{Node}
use Rattle.cu_lower.specs.declared.options.Options.{Options}
use Rattle.cu_need.specs.Counts.{plan_counts, over_limit}
use Rattle.cu_need.specs.Need.{need_of, first_over, IsLiveNode, IsFirstOver}
use Rattle.cu_need.specs.declared.counts.OverLimit.{OverLimit as Exceeded}
use Rattle.cu_need.specs.declared.counts.PlanCounts.{PlanCounts}
use Rattle.cu_need.specs.declared.need.NodeNeed.{NodeNeed}
use Rattle.cu_node.specs.declared.info.NodeInfo.{NodeInfo}
use Rattle.cu_plan.specs.declared.fault.PlanFault.{PlanFault}
use Rattle.cu_plan.specs.declared.fault.PlanFault.TheVariants.{OverMemory, OverLimit, NoMemory}

-- a node that needs more than is allowed, and a limit that is exceeded, as faults
abbrev pub memory_fault : ℕ → NodeNeed → PlanFault
memory_fault allowed n = OverMemory n.node n.need allowed

abbrev pub limit_fault : Exceeded → PlanFault
limit_fault o = OverLimit o.which o.count

-- the tasks and the stored chunks of the plan in which nothing is merged, whose copies are made
-- within what is allowed
abbrev pub planned_counts : Options → Expression → List NodeInfo → PlanCounts
planned_counts options e infos =
    plan_counts (max_mem options.allowed options.reserved) options.split_every e infos

-- the first live node that needs more than is allowed; where none does, the first limit that is
-- exceeded; else there is none
abbrev pub refusal_of : Options → Expression → List NodeInfo → Option PlanFault
refusal_of options e infos =
    option_or
    (option_map (memory_fault options.allowed)
    (first_over options.allowed options.reserved options.split_every e infos))
    (option_map limit_fault (over_limit (planned_counts options e infos)))

-- ---- the same in other words

-- no live node needs more than is allowed
abbrev pub AreWithin : Options → Expression → List NodeInfo → Type 0
AreWithin options e infos = (k : ℕ) (node : Node) → IsLiveNode e k node
    → need_of options.reserved options.split_every infos e.out k node.form ≤ options.allowed

-- this is the first live node that does, with what it needs
abbrev pub IsFirstNode : Options → Expression → List NodeInfo → ℕ → ℕ → Type 0
IsFirstNode options e infos node need =
    IsFirstOver options.allowed options.reserved options.split_every e infos
    (record { node = node; need = need })

-- the limit of 65,536 tasks is exceeded; or it is kept, and that of 262,144 stored chunks is
-- exceeded
abbrev pub IsFirstLimit : PlanCounts → ℕ → ℕ → Type 0
IsFirstLimit c which count =
    ((which ≡ 1) × (count ≡ c.tasks) × (65536 < c.tasks))
    ⊎ ((which ≡ 2) × (count ≡ c.cells) × (c.tasks ≤ 65536) × (262144 < c.cells))

-- ---- an answer

-- why making a plan ends; want of memory has no reason
abbrev pub IsRefusal : Options → Expression → List NodeInfo → PlanFault → Type 0
IsRefusal options e infos NoMemory = Unit {0}
IsRefusal options e infos fault = refusal_of options e infos ≡ Some fault
