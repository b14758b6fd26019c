use Rattle.std.proofs.Common.{◌+◌, ◌∙◌, length, ap, sym, subst}
use Rattle.cu_work.specs.Order.{plan_keys}
use Rattle.cu_work.specs.Search.{NamesStored}
use Rattle.cu_work.specs.World.{IsFound}
use Rattle.cu_work.proofs.Searching.{fault_calls, fault_once}
use Rattle.cu_work.proofs.SearchedTasks.{searched_once, found_done, named_stored, written_back}
use Rattle.cu_work.proofs.find.find_done.Goals as goal

pub returns-in-Err-clause-step : goal.returns-in-Err-clause-step
returns-in-Err-clause-step g c =
    fault_calls (c.args.retries + 1) (plan_keys c.args.plan.now (length c.args.plan.now.ops)) (g.D.PutStore.shown c.args.depot.now) (g.D.PutStore.shown c.find_tasks.new.depot) c.in-Err.fault c.in-Err.ensures.cause

pub returns-in-Err-clause-once : goal.returns-in-Err-clause-once
returns-in-Err-clause-once g c =
    fault_once (c.args.retries + 1) (plan_keys c.args.plan.now (length c.args.plan.now.ops)) (g.D.PutStore.shown c.args.depot.now) (g.D.PutStore.shown c.find_tasks.new.depot) c.in-Err.fault c.in-Err.ensures.cause

pub returns-in-Ok-find_tasks-clause-once : goal.returns-in-Ok-find_tasks-clause-once
returns-in-Ok-find_tasks-clause-once g c =
    searched_once (c.args.retries + 1) c.args.plan.now (g.D.PutStore.shown c.args.depot.now) (g.D.PutStore.shown c.find_tasks.new.depot) c.find_tasks.new.done c.in-Ok-find_tasks.ensures.searched

pub returns-in-Ok-find_tasks-clause-found : goal.returns-in-Ok-find_tasks-clause-found
returns-in-Ok-find_tasks-clause-found g c = λ held told.
    subst (IsFound c.args.plan.now held) (sym (written_back _ _ _ (c.in-Ok.ensures.len ∙ c.count_tasks-count.ensures ∙ sym c.in-Ok-find_tasks.ensures.searched.tasks)))
    (found_done (c.args.retries + 1) c.args.plan.now (g.D.PutStore.shown c.args.depot.now) (g.D.PutStore.shown c.find_tasks.new.depot) c.find_tasks.new.done c.in-Ok-find_tasks.ensures.searched held told)

pub returns-in-Ok-find_tasks-clause-all : goal.returns-in-Ok-find_tasks-clause-all
returns-in-Ok-find_tasks-clause-all g c = λ held told.
    subst (NamesStored c.args.plan.now held) (sym (written_back _ _ _ (c.in-Ok.ensures.len ∙ c.count_tasks-count.ensures ∙ sym c.in-Ok-find_tasks.ensures.searched.tasks)))
    (named_stored (c.args.retries + 1) c.args.plan.now (g.D.PutStore.shown c.args.depot.now) (g.D.PutStore.shown c.find_tasks.new.depot) c.find_tasks.new.done c.in-Ok-find_tasks.ensures.searched held told)

pub returns-in-Ok-find_tasks-clause-cause : goal.returns-in-Ok-find_tasks-clause-cause
returns-in-Ok-find_tasks-clause-cause g c = tt

pub returns-in-Err-clause-tasks : goal.returns-in-Err-clause-tasks
returns-in-Err-clause-tasks g c = tt

pub returns-in-Err-clause-asked : goal.returns-in-Err-clause-asked
returns-in-Err-clause-asked g c = tt

pub returns-in-Err-clause-found : goal.returns-in-Err-clause-found
returns-in-Err-clause-found g c = λ held told. tt

pub returns-in-Err-clause-all : goal.returns-in-Err-clause-all
returns-in-Err-clause-all g c = λ held told. tt

pub returns-in-Ok-find_tasks-clause-tasks : goal.returns-in-Ok-find_tasks-clause-tasks
returns-in-Ok-find_tasks-clause-tasks g c =
    ap length (written_back _ _ _ (c.in-Ok.ensures.len ∙ c.count_tasks-count.ensures ∙ sym c.in-Ok-find_tasks.ensures.searched.tasks)) ∙ c.in-Ok-find_tasks.ensures.searched.tasks
