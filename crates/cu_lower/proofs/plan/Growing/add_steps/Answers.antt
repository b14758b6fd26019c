use Rattle.std.proofs.Common.{◌≡◌, ◌∷◌, [], ◌==◌, ◌-◌, ◌≤◌, Bool, List, All, length, refl, sym, ap, subst, ◌∙◌, arith}
use Rattle.std.specs.Vec.Iter.{into_iter_items}
use Rattle.cu_lower_reduce.specs.Steps.{made_infos, all_made}
use Rattle.cu_lower_reduce.specs.declared.step.Step.{Step}
use Rattle.cu_lower.specs.Parts.{Grown, IsGrowing, is_none, with_step, with_steps}
use Rattle.cu_lower.proofs.Growing.{HasGrid, all_front, all_back, step_growing, step_ops, left_last, none_left}
use Rattle.cu_lower.proofs.plan.Growing.add_steps.Goals as goal

pub loop-step-init : goal.loop-step-init
loop-step-init c =
    let items : into_iter_items c.into_iter-step-iterator.result ≡ c.args.steps.items = c.into_iter-step-iterator.ensures.into_iter_gives.0 in
    let same = ap length items in
    let few = c.requires.few in
    record {
      rest = refl;
      count = c.len-left.ensures ∙ c.args.steps.ok.0 ∙ sym same;
      long = c.into_iter-step-iterator.ensures.into_iter_gives.1 ∙ c.args.steps.ok.0 ∙ sym same;
      growing = c.requires.growing;
      nodes = c.requires.nodes;
      few = omega (arith, same, few);
      grids = subst (λ (ss : List Step). All HasGrid (all_made ss)) (sym items) c.requires.grids;
    }

pub overflow_sub-left : goal.overflow_sub-left
overflow_sub-left c =
    let steps = ap length c.in-Some.ensures.steps.0 in
    let count = c.loop-step.invariant.count in
    omega (arith, steps, count)

pub add_step-requires-clause-growing : goal.add_step-requires-clause-growing
add_step-requires-clause-growing c = c.loop-step.invariant.growing

pub add_step-requires-clause-nodes : goal.add_step-requires-clause-nodes
add_step-requires-clause-nodes c = c.loop-step.invariant.nodes

pub add_step-requires-clause-few : goal.add_step-requires-clause-few
add_step-requires-clause-few c =
    let steps = ap length c.in-Some.ensures.steps.0 in
    let few = c.loop-step.invariant.few in
    omega (arith, steps, few)

pub add_step-requires-clause-grids : goal.add_step-requires-clause-grids
add_step-requires-clause-grids c =
    let steps : into_iter_items c.loop-step.step-iterator ≡ c.in-Some.step ∷ into_iter_items c.next.new.self = c.in-Some.ensures.steps.0 in
    all_front (made_infos c.in-Some.step) (all_made (into_iter_items c.next.new.self)) (subst (λ (ss : List Step). All HasGrid (all_made ss)) steps c.loop-step.invariant.grids)

pub loop-step-preserved : goal.loop-step-preserved
loop-step-preserved c =
    let e = c.args.expr.now in
    let s : Step = c.in-Some.step in
    let g : Grown = c.loop-step.self in
    let rest : List Step = into_iter_items c.next.new.self in
    let steps : into_iter_items c.loop-step.step-iterator ≡ c.in-Some.step ∷ into_iter_items c.next.new.self = c.in-Some.ensures.steps.0 in
    let gone = c.in-Some.ensures.steps.1 in
    let short = ap length steps in
    let count = c.loop-step.invariant.count in
    let long = c.loop-step.invariant.long in
    let few = c.loop-step.invariant.few in
    let last : ((c.loop-step.left - 1) == 0) ≡ is_none (into_iter_items c.next.new.self) = left_last (c.loop-step.left - 1) (into_iter_items c.next.new.self) (omega (arith, count, short)) in
    let new : c.add_step.new.self ≡ with_step c.args.expr.now (is_none (into_iter_items c.next.new.self)) c.loop-step.self c.in-Some.step =
    c.in_ok-add_step.ensures ∙ ap (λ (b : Bool). with_step c.args.expr.now b c.loop-step.self c.in-Some.step) last in
    let ops = ap (λ (h : Grown). length h.ops) new in
    let more = step_ops e (is_none rest) g s in
    let nodes = c.loop-step.invariant.nodes in
    record {
      rest = ap (λ (h : Grown). with_steps c.args.expr.now h (into_iter_items c.next.new.self)) new ∙ sym (ap (with_steps c.args.expr.now c.loop-step.self) steps) ∙ c.loop-step.invariant.rest;
      count = omega (arith, count, short);
      long = omega (arith, gone, long, short);
      growing = subst (IsGrowing e) (sym new) (step_growing e (is_none rest) g s c.loop-step.invariant.growing);
      nodes = subst (λ (h : Grown). length h.places ≤ 256) (sym new) nodes;
      few = omega (arith, ops, more, few, short);
      grids = all_back (made_infos s) (all_made rest) (subst (λ (ss : List Step). All HasGrid (all_made ss)) steps c.loop-step.invariant.grids);
    }

pub returns : goal.returns
returns c =
    let none = c.in-None.ensures.steps in
    let empty : into_iter_items c.loop-step.step-iterator ≡ [] = none_left (into_iter_items c.loop-step.step-iterator) (sym c.loop-step.invariant.long ∙ none.0) in
    let items : into_iter_items c.into_iter-step-iterator.result ≡ c.args.steps.items = c.into_iter-step-iterator.ensures.into_iter_gives.0 in
    sym (ap (with_steps c.args.expr.now c.loop-step.self) empty) ∙ c.loop-step.invariant.rest ∙ ap (with_steps c.args.expr.now c.args.self.now) items
