-- The counts of an expression's plan in which nothing is merged, and their limits (this project's own rule).
use Rattle.std.specs.Prelude.{ℕ, ◌+◌, nat_lt, List, Option, Some, None, sum_by, if◌then◌else◌}
use Rattle.cu_form.specs.Expression.{Expression}
use Rattle.cu_form.specs.declared.form.Form.{Form}
use Rattle.cu_node.specs.declared.info.NodeInfo.{NodeInfo}
use Rattle.cu_copy.specs.Copies.{rechunk_tasks, rechunk_cells}
use Rattle.cu_need.specs.Live.{live_nodes}
use Rattle.cu_need.specs.Operands.{copies_of}
use Rattle.cu_need.specs.Outline.{outline_of}
use Rattle.cu_tree.specs.Outlines.{outline_cells, outline_tasks}
use Rattle.cu_need.specs.declared.counts.PlanCounts.{PlanCounts}
use Rattle.cu_need.specs.declared.counts.OverLimit.{OverLimit}

-- the tasks that make node k besides copies, and the chunks that they store
abbrev pub form_tasks : ℕ → List NodeInfo → ℕ → Form → ℕ
form_tasks split_every infos k form = outline_tasks (outline_of split_every infos k form)

abbrev pub form_cells : ℕ → List NodeInfo → ℕ → Form → ℕ
form_cells split_every infos k form = outline_cells (outline_of split_every infos k form)

-- With those of the copies, each region of which has at most `most` bytes: a copy has a task for each region, and each task stores all
-- chunks in its region.
abbrev pub node_tasks : ℕ → ℕ → List NodeInfo → ℕ → ℕ → Form → ℕ
node_tasks most split_every infos out k form = sum_by (rechunk_tasks most) (copies_of infos out k form) + form_tasks split_every infos k form

abbrev pub node_cells : ℕ → ℕ → List NodeInfo → ℕ → ℕ → Form → ℕ
node_cells most split_every infos out k form = sum_by (rechunk_cells most) (copies_of infos out k form) + form_cells split_every infos k form

-- the sums over the live nodes
abbrev pub plan_counts : ℕ → ℕ → Expression → List NodeInfo → PlanCounts
plan_counts most split_every e infos = record {
  tasks = sum_by (λ numbered. node_tasks most split_every infos e.out numbered.0 numbered.1.form) (live_nodes e);
  cells = sum_by (λ numbered. node_cells most split_every infos e.out numbered.0 numbered.1.form) (live_nodes e);
}

-- The first limit that a plan exceeds, with the count: 1 is that of 65,536 tasks, 2 that of 262,144 stored chunks.
abbrev pub over_limit : PlanCounts → Option OverLimit
over_limit c =
    if nat_lt 65536 c.tasks then Some (record { which = 1; count = c.tasks })
    else if nat_lt 262144 c.cells then Some (record { which = 2; count = c.cells })
    else None
