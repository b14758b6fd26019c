-- One operation of a node needs as much as the node does besides its copies.
use Rattle.std.proofs.Common.{◌≡◌, ℕ, ◌<◌, true, false, List, [], ◌∷◌, length, refl, ap, ◌∙◌, inl, inr}
use Rattle.cu_op.specs.PlanView.{operation_at}
use Rattle.cu_op.specs.declared.operation.Planned.{Planned}
use Rattle.cu_form.specs.Expression.{Expression}
use Rattle.cu_form.specs.declared.expr.Node.{Node}
use Rattle.cu_form.specs.declared.form.Form.{Form}
use Rattle.cu_node.specs.declared.info.NodeInfo.{NodeInfo}
use Rattle.cu_expr.specs.declared.inputs.InputInfo.{InputInfo}
use Rattle.cu_need.specs.Live.{is_live, IsClosed}
use Rattle.cu_need.specs.Need.{own_need}
use Rattle.cu_lower_reduce.specs.Copies.{is_copy}
use Rattle.cu_lower_reduce.specs.declared.step.Step.{Step}
use Rattle.cu_lower.specs.Parts.{Grown, is_computed, is_given, is_none, with_step, with_steps}
use Rattle.cu_lower.specs.Plan.{plan_of}
use Rattle.cu_lower.specs.Premises.{IsComputedNode, IsLowerable, NeedsAsMuch}
use Rattle.cu_lower.specs.declared.options.Options.{Options}
use Rattle.cu_lower.proofs.Growing.{Front}
use Rattle.cu_lower.proofs.NodeSteps.{node_own}
use Rattle.cu_lower.proofs.OutlinedSteps.{Attain}
use Rattle.cu_lower.proofs.Placed as placed
use Rattle.cu_lower.proofs.StepLaws.{HaveLaws}
use Rattle.cu_lower.proofs.Stepped.{first_front, step_operation, step_within}

-- a form that computes something isn't an input
computed_made : (e : Expression) (k : ℕ) (f : Form) → is_computed f ≡ true → is_given e k f ≡ false
computed_made e k (Form.Input name) h = cc
computed_made e k f h = refl

-- one of these operations is node k's, isn't a copy and needs so many bytes
record HasOperation (ops : List Planned) (k need : ℕ) : Type 0 where
  pub at : ℕ
  pub below : at < length ops
  pub of_node : (operation_at ops at).node ≡ k
  pub other : is_copy (operation_at ops at).op ≡ false
  pub is : (operation_at ops at).projected ≡ need

-- each step is an operation of the next node
steps_attain : (e : Expression) (g f : Grown) (ss : List Step) (need : ℕ) → Front (with_steps e g ss) f → Attain need ss → HasOperation f.ops (length g.places) need
steps_attain e g f [] need front none = absurd none
steps_attain e g f (s ∷ ss) need front (inl own) =
    let here = first_front e g f s ss front in
    let is : operation_at f.ops (length g.ops) ≡ record { op = s.op; node = length g.places; projected = s.need } = step_operation e (is_none ss) g f s here in
    record {
      at = length g.ops;
      below = step_within e (is_none ss) g f s here;
      of_node = ap (λ (o : Planned). o.node) is;
      other = ap (λ (o : Planned). is_copy o.op) is ∙ own.0;
      is = ap (λ (o : Planned). o.projected) is ∙ own.1;
    }
steps_attain e g f (s ∷ ss) need front (inr more) = steps_attain e (with_step e (is_none ss) g s) f ss need front more

module _ (e : Expression) (infos : List NodeInfo) (inputs : List InputInfo) (options : Options) (ok : IsLowerable e infos inputs options) (laws : HaveLaws) (closed : IsClosed e (is_live e)) where
  pub attained : (k : ℕ) (node : Node) → IsComputedNode e k node → NeedsAsMuch infos options (plan_of e infos inputs options).ops k node
  attained k node m =
      let other = computed_made e k node.form m.form in
      let s = placed.node_stands e infos inputs options ok laws k node node.form m.at refl other m.live in
      let steps = placed.steps_at e infos inputs options ok laws k node.form (length s.before.arrays) in
      let grown = placed.grown e infos inputs options ok laws in
      let own = node_own e infos inputs options ok laws k node node.form m.at refl m.live other grown.places (length s.before.arrays) s.small in
      let w = steps_attain e s.before grown steps (own_need options.reserved options.split_every infos k node.form) s.front (own.attained m.form) in
      record { at = w.at; below = w.below; of_node = w.of_node ∙ s.number; other = w.other; need = w.is }
