use Rattle.std.proofs.Common.{rules, ◌≡◌, sym, subst}
use Rattle.std.proofs.lemmas.Result.{IfOk-weaker}
use Rattle.cu_op.specs.Arrays.{AllStored}
use Rattle.cu_op.specs.PlanView.{PlanView}
use Rattle.cu_fuse.specs.Copies.{copies_joined}
use Rattle.cu_fuse.proofs.copies.join_copies.Goals as goal

pub joined_plan-requires-clause-sound : goal.joined_plan-requires-clause-sound
joined_plan-requires-clause-sound c =
    c.copies_joined_law.ensures.sound c.args.plan (search rules) c.requires.stored c.requires.names (search rules)

pub returns-clause-stored : goal.returns-clause-stored
returns-clause-stored c =
    let p = c.args.plan in
    let all = c.copies_joined_law.ensures.stored p c.requires.stored in
    IfOk-weaker c.map_err.result (λ (q : PlanView). q ≡ copies_joined p) (λ (q : PlanView). AllStored q.arrays)
    (λ q e. subst (λ (r : PlanView). AllStored r.arrays) (sym e) all) (search rules)
