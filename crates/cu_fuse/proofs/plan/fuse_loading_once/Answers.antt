use Rattle.std.proofs.Common.{rules, ◌≡◌, sym, subst}
use Rattle.std.proofs.lemmas.Result.{IfOk-weaker}
use Rattle.cu_op.specs.Arrays.{AllStored}
use Rattle.cu_op.specs.PlanView.{PlanView}
use Rattle.cu_fuse.specs.Close.{fused_loading_once}
use Rattle.cu_fuse.proofs.plan.fuse_loading_once.Goals as goal

pub merged_plan-requires-clause-sound : goal.merged_plan-requires-clause-sound
merged_plan-requires-clause-sound c =
    c.fused_loading_once_law.ensures.sound c.args.plan (search rules) c.requires.stored c.requires.names (search rules)

pub returns-clause-stored : goal.returns-clause-stored
returns-clause-stored c =
    let p = c.args.plan in
    let all = c.fused_loading_once_law.ensures.stored p c.requires.stored in
    IfOk-weaker c.map_err.result (λ (q : PlanView). q ≡ fused_loading_once p) (λ (q : PlanView). AllStored q.arrays)
    (λ q e. subst (λ (r : PlanView). AllStored r.arrays) (sym e) all) (search rules)
