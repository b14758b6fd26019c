use Rattle.std.proofs.Common.{option_map}
use Rattle.std.specs.Option.{option_or}
use Rattle.cu_copy.specs.Copies.{max_mem}
use Rattle.cu_need.specs.Counts.{over_limit, plan_counts}
use Rattle.cu_need.specs.Need.{first_over}
use Rattle.cu_plan.proofs.Refused.{none_refused, memory_refused, limit_refused, refused_node, refused_limit, refused_none, first_limit, limit_found, node_found}
use Rattle.cu_plan.specs.Refusal.{limit_fault, memory_fault, planned_counts}
use Rattle.cu_plan.proofs.laws.refusal_law.Goals as goal

pub returns-clause-over_memory : goal.returns-clause-over_memory
returns-clause-over_memory c = λ options e infos node need allowed.
    let o = first_over options.allowed options.reserved options.split_every e infos in
    let l = over_limit (planned_counts options e infos) in (
      λ refused.
          let found = refused_node options.allowed o l node need allowed refused in
          (found.0, c.over_law.ensures.found options.allowed options.reserved options.split_every e infos (record { node = node; need = need }) found.1),
      λ first.
          let found = node_found options e infos (record { node = node; need = need }) o (c.over_law.ensures.none options.allowed options.reserved options.split_every e infos).0
          (λ n. c.over_law.ensures.found options.allowed options.reserved options.split_every e infos n) first.1 in
          rw first.0 (memory_refused options.allowed o l (record { node = node; need = need }) found),
    )

pub returns-clause-over_limit : goal.returns-clause-over_limit
returns-clause-over_limit c = λ options e infos which count.
    let o = first_over options.allowed options.reserved options.split_every e infos in
    let l = over_limit (planned_counts options e infos) in
    let none = c.over_law.ensures.none options.allowed options.reserved options.split_every e infos in (
      λ refused. let found = refused_limit options.allowed o l which count refused in (none.0 found.0, first_limit (planned_counts options e infos) which count found.1),
      λ both. limit_refused options.allowed o l (record { which = which; count = count }) (none.1 both.0) (limit_found (planned_counts options e infos) which count both.1),
    )

pub returns-clause-none : goal.returns-clause-none
returns-clause-none c = λ options e infos.
    let o = first_over options.allowed options.reserved options.split_every e infos in
    let l = over_limit (planned_counts options e infos) in
    let none = c.over_law.ensures.none options.allowed options.reserved options.split_every e infos in
    let kept = c.counts_law.ensures (planned_counts options e infos) in (
      λ refused.
          let found = refused_none options.allowed o l refused in
          let few = kept.0 found.1 in
          (none.0 found.0, few.0, few.1),
      λ both. none_refused options.allowed o l (none.1 both.0) (kept.1 (both.1, both.2)),
    )

pub returns-clause-alike : goal.returns-clause-alike
returns-clause-alike c = λ options other e infos allowed reserved several.
    λ i. option_or (option_map (memory_fault (allowed i)) (first_over (allowed i) (reserved i) (several i) e infos))
    (option_map limit_fault (over_limit (plan_counts (max_mem (allowed i) (reserved i)) (several i) e infos)))
