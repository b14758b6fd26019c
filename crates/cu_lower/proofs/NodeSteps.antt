-- The steps of each live node that isn't given make its array.
use Rattle.std.proofs.Common.{◌≡◌, ℕ, ◌<◌, ◌^◌, true, false, List, [], Some, refl, arith}
use Rattle.std.specs.Prelude.{slice_get}
use Rattle.cu_form.specs.Expression.{Expression}
use Rattle.cu_form.specs.declared.expr.Node.{Node}
use Rattle.cu_form.specs.declared.form.Form.{Form}
use Rattle.cu_node.specs.declared.info.NodeInfo.{NodeInfo}
use Rattle.cu_expr.specs.declared.inputs.InputInfo.{InputInfo}
use Rattle.cu_need.specs.Live.{is_live}
use Rattle.cu_lower.specs.Parts.{is_given, source_places, steps_of}
use Rattle.cu_lower.specs.Premises.{IsLowerable}
use Rattle.cu_lower.specs.declared.options.Options.{Options}
use Rattle.cu_lower.proofs.Growing as growing
use Rattle.cu_lower.proofs.Names.{inputs_few}
use Rattle.cu_lower.proofs.NodeLaws.{laws_of}
use Rattle.cu_lower.proofs.OperandSteps.{AreOwn}
use Rattle.cu_lower.proofs.Ready as ready
use Rattle.cu_lower.proofs.StepLaws.{HaveLaws}
use Rattle.cu_lower.proofs.Typed as typed

module _ (e : Expression) (infos : List NodeInfo) (inputs : List InputInfo) (options : Options) (ok : IsLowerable e infos inputs options) (laws : HaveLaws) where
  pub node_own : (k : ℕ) (n : Node) (f : Form) → slice_get e.nodes k ≡ Some n → n.form ≡ f → is_live e k ≡ true → is_given e k f ≡ false
      → (places : List ℕ) (first : ℕ) → first < 2 ^ 30 → AreOwn infos options e.out k f (steps_of infos options k f (source_places e places f) first)
  node_own k n f at is live made places first small =
      let accepted = typed.accepted e infos inputs options ok k n f at is in
      (laws_of f accepted.args).own laws (record { e = e; infos = infos; options = options; arrays = []; places = places; first = first }) inputs k accepted made
      (ready.fitting e infos inputs options ok k n f at is live made) (ready.has_room e infos inputs options ok k n first at live small)

  pub all_steps : growing.AllHaveSteps e infos options
  all_steps = record {
    nodes = ok.form.few;
    inputs = (let a = inputs_few e in let b = ok.form.few in omega (arith, a, b));
    steps = λ k n at live made places first small. (node_own k n n.form at refl live made places first small).make;
  }
