-- What the typing of an accepted expression says of each node.
use Rattle.std.proofs.Common.{◌≡◌, ℕ, ◌≤◌, true, List, Some, Ok, Result, ap, sym, ◌∙◌, subst}
use Rattle.std.specs.Prelude.{slice_get, unwrap_or}
use Rattle.cu_form.specs.Expression.{Expression}
use Rattle.cu_form.specs.Form.{takes_args, in_ranges}
use Rattle.cu_form.specs.declared.expr.Node.{Node}
use Rattle.cu_form.specs.declared.form.Form.{Form}
use Rattle.cu_node.specs.Info.{IsInfo, info_at, no_info}
use Rattle.cu_node.specs.declared.info.NodeInfo.{NodeInfo}
use Rattle.cu_node.specs.declared.faults.NodeFault.{NodeFault}
use Rattle.cu_expr.specs.Inputs.{layout_info, named_input, layout_named}
use Rattle.cu_expr.specs.Typing.{typed_node}
use Rattle.cu_expr.specs.declared.inputs.InputInfo.{InputInfo}
use Rattle.cu_expr.proofs.NamedLayouts.{known_layout}
use Rattle.cu_expr.proofs.Nodes.{typed_at, over_all}
use Rattle.cu_expr.proofs.ToldArguments.{info_kept}
use Rattle.cu_need.specs.Live.{is_live}
use Rattle.cu_need.specs.Need.{need_of, IsTyped}
use Rattle.cu_need.proofs.FirstLive.{over_none}
use Rattle.cu_lower.specs.Premises.{IsLowerable}
use Rattle.cu_lower.specs.declared.options.Options.{Options}
use Rattle.cu_lower.proofs.Node.{IsAccepted}
use Rattle.cu_lower.proofs.TypedForms.{form_typed}

module _ (e : Expression) (infos : List NodeInfo) (inputs : List InputInfo) (options : Options) (ok : IsLowerable e infos inputs options) where
  -- each live node needs no more than is allowed
  pub need_within : (k : ℕ) (n : Node) → slice_get e.nodes k ≡ Some n → is_live e k ≡ true → need_of options.reserved options.split_every infos e.out k n.form ≤ options.allowed
  need_within k n at live = (over_none options.allowed options.reserved options.split_every e infos).0 ok.memory k n (record { at = at; live = live })

  -- a node's type
  pub typed_whole : (k : ℕ) (n : Node) → slice_get e.nodes k ≡ Some n → typed_node inputs infos n.form ≡ Ok (info_at infos k)
  typed_whole k n at = sym (over_all inputs infos k n.form (ok.form.nodes k n at).form.earlier) ∙ typed_at inputs e.nodes infos k n ok.types at

  pub node_typed : (k : ℕ) (n : Node) → slice_get e.nodes k ≡ Some n → IsTyped infos k n.form
  node_typed k n at = form_typed inputs infos k n.form (ok.form.nodes k n at).form.args (typed_whole k n at)

  -- a node with its form, as its laws want it
  pub accepted : (k : ℕ) (n : Node) (f : Form) → slice_get e.nodes k ≡ Some n → n.form ≡ f → IsAccepted inputs infos k f
  accepted k n f at is =
      let own = (ok.form.nodes k n at).form in
      record {
        args = subst (λ (x : Form). takes_args x ≡ true) is own.args;
        ranges = subst (λ (x : Form). in_ranges x ≡ true) is own.ranges;
        kept = ok.kept;
        typed = ap (typed_node inputs infos) (sym is) ∙ typed_whole k n at;
      }

  -- what is known of an input node is its layout
  pub input_info : (k : ℕ) (n : Node) (name : List ℕ) → slice_get e.nodes k ≡ Some n → n.form ≡ Form.Input name → info_at infos k ≡ layout_info (layout_named inputs name)
  input_info k n name at is =
      let value : NodeInfo → Result NodeInfo NodeFault = λ x. Ok x in
      let t : value (unwrap_or (named_input inputs name) no_info) ≡ value (info_at infos k) = ap (typed_node inputs infos) (sym is) ∙ typed_whole k n at in
      let same : unwrap_or (named_input inputs name) no_info ≡ info_at infos k = cc t in
      sym same ∙ known_layout inputs name

  -- what is known of each node keeps the limits
  pub known_kept : (k : ℕ) → IsInfo (info_at infos k)
  known_kept k = info_kept infos k ok.kept
