use Rattle.std.proofs.Common.{◌+◌, List, ℕ, drop, get_or, sym, ap, ◌∙◌}
use Rattle.std.proofs.lemmas.List.{drop_more}
use Rattle.cu_form.specs.declared.expr.Node.{Node}
use Rattle.cu_need.specs.Live.{is_live}
use Rattle.cu_lower.specs.Inputs.{names_after}
use Rattle.cu_lower.proofs.InputNames.{names_taken, names_passed}
use Rattle.cu_lower.proofs.NoNode.{no_node}
use Rattle.cu_lower.proofs.inputs.input_names.Goals as goal
use Rattle.cu_lower.proofs.inputs.input_names.Goals.{then-marks-k+in_ok-add_name, else-marks-k}

pub loop-k-preserved : goal.loop-k-preserved
loop-k-preserved c =
    let nodes : List Node = c.nodes-nodes.result.now in
    let k = c.loop-k.k in
    elim c.if-marks-k.branch [
      | then-marks-k+in_ok-add_name w ↦
          let d : Node = w.index-nodes-k.result in
          ap (λ names. names_after (is_live c.args.expr.now) (k + 1) (drop (k + 1) nodes) names.items) w.names-is
          ∙ ap (λ (names : List (List ℕ)). names_after (is_live c.args.expr.now) (k + 1) (drop (k + 1) nodes) names) w.in_ok-add_name.ensures
          ∙ names_taken (is_live c.args.expr.now) nodes k (get_or nodes k d) c.loop-k.names.items (sym (c.requires k) ∙ w.if-marks-k.true) (drop_more nodes k d c.loop-k-test.true)
          ∙ c.loop-k.invariant
      | else-marks-k w ↦
          ap (λ names. names_after (is_live c.args.expr.now) (k + 1) (drop (k + 1) nodes) names.items) w.names-is
          ∙ names_passed (is_live c.args.expr.now) nodes k (get_or nodes k no_node) c.loop-k.names.items (sym (c.requires k) ∙ w.if-marks-k.false) (drop_more nodes k no_node c.loop-k-test.true)
          ∙ c.loop-k.invariant
    ]
