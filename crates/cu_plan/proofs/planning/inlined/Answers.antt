use Rattle.std.proofs.Common.{◌≡◌, ◌∙◌, Result, Ok, Err, IfOk, ap, subst, sym}
use Rattle.cu_fuse.specs.Close.{fused_loading_once, HasMadeNames}
use Rattle.cu_fuse.specs.Copies.{copies_joined}
use Rattle.cu_fuse.specs.Inlining.{IsInlinedOf}
use Rattle.cu_op.specs.PlanView.{PlanView}
use Rattle.cu_plan.proofs.Choice.{is_inlined_of}
use Rattle.cu_plan.proofs.planning.inlined.Goals as goal
use Rattle.cu_plan.specs.Inlined.{inlined_of}

-- where there is one plan alone that it may be
ok_same : {E : Type 0} (p q : PlanView) (r : Result PlanView E) → IfOk r (λ x. IsInlinedOf p x) → ((x : PlanView) → IsInlinedOf p x → x ≡ q) → IfOk r (λ x. x ≡ q)
ok_same p q (Ok x) is only = only x is
ok_same p q (Err e) is only = tt

pub join_copies-requires-clause-names : goal.join_copies-requires-clause-names
join_copies-requires-clause-names c =
    subst HasMadeNames (sym c.in_ok-fused.ensures.plan) (c.made_names_law.ensures.loading_once c.args.plan c.requires.sound c.requires.names c.requires.room)

pub inline_arrays-requires-clause-names : goal.inline_arrays-requires-clause-names
inline_arrays-requires-clause-names c =
    subst HasMadeNames (sym c.in_ok-joined.ensures.plan)
    (c.copies_joined_law.ensures.made_names c.in_ok-fused.fused c.in_ok-fused.ensures.sound
    (subst HasMadeNames (sym c.in_ok-fused.ensures.plan) (c.made_names_law.ensures.loading_once c.args.plan c.requires.sound c.requires.names c.requires.room)))

pub returns-clause-plan : goal.returns-clause-plan
returns-clause-plan c =
    let joined = c.in_ok-joined.joined in
    let same = c.in_ok-joined.ensures.plan ∙ ap copies_joined c.in_ok-fused.ensures.plan in
    ok_same joined (inlined_of (copies_joined (fused_loading_once c.args.plan))) c.inline_arrays.result c.inline_arrays.ensures.plan
    (λ q is. c.inlining_law.ensures.only joined q (inlined_of joined) is (is_inlined_of joined) ∙ ap inlined_of same)
