use Rattle.std.proofs.Common.{◌≡◌, ◌≢◌, ◌∙◌, inl, inr, ◌==◌, true, false, ◌<◌, ◌≤◌, ℕ, All, List, Result, Ok, Err, IfOk, length, ap, subst, sym}
use Rattle.std.proofs.lemmas.Bool.Decides.{eqb_tells}
use Rattle.std.proofs.lemmas.List.{get_or_default}
use Rattle.cu_expr.specs.declared.inputs.InputInfo.{InputInfo}
use Rattle.cu_form.specs.Expression.{Expression}
use Rattle.cu_fuse.specs.Close.{fused, HasMadeNames}
use Rattle.cu_lower.specs.Plan.{plan_of}
use Rattle.cu_lower.specs.Premises.{HasArraysInOrder, IsLowerable, IsOutput}
use Rattle.cu_lower.specs.declared.options.Options.{Options}
use Rattle.cu_node.specs.declared.info.NodeInfo.{NodeInfo}
use Rattle.cu_op.specs.Arrays.{array_at}
use Rattle.cu_op.specs.PlanView.{PlanView, no_operation, operation_at}
use Rattle.cu_op.specs.declared.operation.Planned.{Planned}
use Rattle.cu_plan.specs.Plan.{inlined_plan_of, merged_plan_of}
use Rattle.cu_plan.proofs.Merged.{has_names, plan_inlined, plan_merged}
use Rattle.cu_plan.proofs.planning.merged.Goals as goal

-- what the law says of each operation by its number
all_within : (n : ℕ) (p q : PlanView) → p ≡ q → ((j : ℕ) → j < length q.ops → (operation_at q.ops j).projected ≤ n) → All (λ (o : Planned). o.projected ≤ n) p.ops
all_within n p q same needs =
    subst (λ (x : PlanView). All (λ (o : Planned). o.projected ≤ n) x.ops) (sym same)
    (λ k d below. subst (λ (o : Planned). o.projected ≤ n) (get_or_default q.ops k no_operation d below) (needs k below))

ok_within : {E : Type 0} (n : ℕ) (q : PlanView) (r : Result PlanView E) → IfOk r (λ p. p ≡ q) → ((j : ℕ) → j < length q.ops → (operation_at q.ops j).projected ≤ n)
    → IfOk r (λ p. All (λ (o : Planned). o.projected ≤ n) p.ops)
ok_within n q (Ok p) same needs = all_within n p q same needs
ok_within n q (Err f) same needs = tt

ok_is : {E : Type 0} (p q : PlanView) (r : Result PlanView E) → IfOk r (λ x. x ≡ p) → p ≡ q → IfOk r (λ x. x ≡ q)
ok_is p q (Ok x) is same = is ∙ same
ok_is p q (Err e) is same = tt

is_two : (n : ℕ) → n ≡ 2 → (n == 2) ≡ true
is_two n h = elim (eqb_tells n 2) [ inl t ↦ t.0 | inr f ↦ absurd (f.1 h) ]

not_two : (n : ℕ) → n ≢ 2 → (n == 2) ≡ false
not_two n h = elim (eqb_tells n 2) [ inl t ↦ absurd (h t.1) | inr f ↦ f.0 ]

-- the names of the plan before the steps
names_of : (e : Expression) (infos : List NodeInfo) (inputs : List InputInfo) (options : Options) (p : PlanView) → IsLowerable e infos inputs options
    → IsOutput e infos (array_at (plan_of e infos inputs options).arrays (plan_of e infos inputs options).out) → HasArraysInOrder e (plan_of e infos inputs options)
    → p ≡ plan_of e infos inputs options → HasMadeNames p
names_of e infos inputs options p ok output order same = subst HasMadeNames (sym same) (has_names e infos inputs options ok output order)

pub inlined-requires-clause-names : goal.inlined-requires-clause-names
inlined-requires-clause-names c =
    let e = c.args.expr.now in
    let infos = c.args.infos.now in
    let inputs = c.args.inputs.now in
    let options = c.args.options.now in
    names_of e infos inputs options c.in_ok-plan.plan c.requires (c.array_law.ensures.output e infos inputs options c.requires) (c.array_law.ensures.order e infos inputs options c.requires)
    c.in_ok-plan.ensures.plan

pub fuse-requires-clause-names : goal.fuse-requires-clause-names
fuse-requires-clause-names c =
    let e = c.args.expr.now in
    let infos = c.args.infos.now in
    let inputs = c.args.inputs.now in
    let options = c.args.options.now in
    names_of e infos inputs options c.in_ok-plan.plan c.requires (c.array_law.ensures.output e infos inputs options c.requires) (c.array_law.ensures.order e infos inputs options c.requires)
    c.in_ok-plan.ensures.plan

pub returns-then-options-eq2 : goal.returns-then-options-eq2
returns-then-options-eq2 c =
    let e = c.args.expr.now in
    let infos = c.args.infos.now in
    let inputs = c.args.inputs.now in
    let options = c.args.options.now in
    let q = merged_plan_of e infos inputs options in
    let is = ok_is (inlined_plan_of c.in_ok-plan.plan) q c.inlined.result c.inlined.ensures.plan
    (ap inlined_plan_of c.in_ok-plan.ensures.plan ∙ plan_inlined e infos inputs options (is_two options.fusion c.if-options-eq2.true)) in
    record {
      plan = is;
      sound = c.inlined.ensures.sound;
      needs = ok_within options.allowed q c.inlined.result is (λ j below. c.merged_plan_law.ensures.needs e infos inputs options j c.requires below);
    }

pub returns-else-options-eq2 : goal.returns-else-options-eq2
returns-else-options-eq2 c =
    let e = c.args.expr.now in
    let infos = c.args.infos.now in
    let inputs = c.args.inputs.now in
    let options = c.args.options.now in
    let q = merged_plan_of e infos inputs options in
    let is = ok_is (fused c.in_ok-plan.plan) q c.fuse.result c.fuse.ensures.plan
    (ap fused c.in_ok-plan.ensures.plan ∙ plan_merged e infos inputs options (not_two options.fusion c.if-options-eq2.false)) in
    record {
      plan = is;
      sound = c.fuse.ensures.sound;
      needs = ok_within options.allowed q c.fuse.result is (λ j below. c.merged_plan_law.ensures.needs e infos inputs options j c.requires below);
    }
