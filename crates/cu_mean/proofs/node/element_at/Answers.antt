use Rattle.std.proofs.Common.{◌≡◌, ℤ, sym, ap, ◌∙◌, rules}
use mir.Val.{SFits}
use Rattle.std.specs.Int.{w64, w128}
use Rattle.std.proofs.lemmas.Int.{to_z-of_z}
use Rattle.cu_form.specs.declared.form.Form.{Form}
use Rattle.cu_semantics.specs.Rule.{rule_of}
use Rattle.cu_mean.specs.Node.{IsElementAt}
use Rattle.cu_mean.specs.Reading.{elements_in}
use Rattle.cu_mean.specs.declared.scope.Scope.{Scope}
use Rattle.cu_mean.proofs.node.element_at.Goals as goal

-- what an operator's function gives, at the form that it is called for
given : (scope : Scope) (form called : Form) (x y : ℤ) → form ≡ called → x ≡ y → IsElementAt called scope y → IsElementAt form scope x
given scope form called x y is same h env k e =
    same ∙ h env k e ∙ ap (λ (f : Form). rule_of scope.infos.now env (elements_in scope.plains.now) k f scope.idx.now) (sym is)

pub returns-in-Elementwise : goal.returns-in-Elementwise
returns-in-Elementwise c = given c.args.scope.now _ _ _ _ c.in-Elementwise.is (to_z-of_z w128 c.elementwise_at.result (record { sfits = c.elementwise_at.type_inv })) c.elementwise_at.ensures

pub returns-in-Triangle : goal.returns-in-Triangle
returns-in-Triangle c =
    let fits : SFits w64 c.in-Triangle.k = search rules in
    given c.args.scope.now _ _ _ _ c.in-Triangle.is (to_z-of_z w128 c.triangle_node.result (record { sfits = c.triangle_node.type_inv }))
    (rw (to_z-of_z w64 c.in-Triangle.k fits) at c.triangle_node.ensures)

pub returns-in-Index : goal.returns-in-Index
returns-in-Index c = given c.args.scope.now _ _ _ _ c.in-Index.is (to_z-of_z w128 c.indexed_node.result (record { sfits = c.indexed_node.type_inv })) c.indexed_node.ensures

pub returns-in-Concat : goal.returns-in-Concat
returns-in-Concat c =
    let fits : SFits w64 c.in-Concat.axis = search rules in
    given c.args.scope.now _ _ _ _ c.in-Concat.is (to_z-of_z w128 c.concat_node.result (record { sfits = c.concat_node.type_inv }))
    (rw (to_z-of_z w64 c.in-Concat.axis fits) at c.concat_node.ensures)

pub returns-in-Stack : goal.returns-in-Stack
returns-in-Stack c =
    let fits : SFits w64 c.in-Stack.axis = search rules in
    given c.args.scope.now _ _ _ _ c.in-Stack.is (to_z-of_z w128 c.stack_node.result (record { sfits = c.stack_node.type_inv }))
    (rw (to_z-of_z w64 c.in-Stack.axis fits) at c.stack_node.ensures)

pub returns-in-PermuteDims : goal.returns-in-PermuteDims
returns-in-PermuteDims c = given c.args.scope.now _ _ _ _ c.in-PermuteDims.is (to_z-of_z w128 c.permuted_node.result (record { sfits = c.permuted_node.type_inv })) c.permuted_node.ensures

pub returns-in-Reshape : goal.returns-in-Reshape
returns-in-Reshape c = given c.args.scope.now _ _ _ _ c.in-Reshape.is (to_z-of_z w128 c.reshaped_node.result (record { sfits = c.reshaped_node.type_inv })) c.reshaped_node.ensures

pub returns-in-Flip : goal.returns-in-Flip
returns-in-Flip c = given c.args.scope.now _ _ _ _ c.in-Flip.is (to_z-of_z w128 c.flipped_node.result (record { sfits = c.flipped_node.type_inv })) c.flipped_node.ensures

pub returns-in-Roll : goal.returns-in-Roll
returns-in-Roll c = given c.args.scope.now _ _ _ _ c.in-Roll.is (to_z-of_z w128 c.rolled_node.result (record { sfits = c.rolled_node.type_inv })) c.rolled_node.ensures

pub returns-in-BroadcastTo : goal.returns-in-BroadcastTo
returns-in-BroadcastTo c = given c.args.scope.now _ _ _ _ c.in-BroadcastTo.is (to_z-of_z w128 c.stretched_node.result (record { sfits = c.stretched_node.type_inv })) c.stretched_node.ensures

pub returns-in-Rechunk : goal.returns-in-Rechunk
returns-in-Rechunk c = given c.args.scope.now _ _ _ _ c.in-Rechunk.is (to_z-of_z w128 c.rechunked_node.result (record { sfits = c.rechunked_node.type_inv })) c.rechunked_node.ensures

pub returns-in-Reduce : goal.returns-in-Reduce
returns-in-Reduce c = given c.args.scope.now _ _ _ _ c.in-Reduce.is (to_z-of_z w128 c.reduced_at.result (record { sfits = c.reduced_at.type_inv })) c.reduced_at.ensures

pub returns-in-ArgPlace : goal.returns-in-ArgPlace
returns-in-ArgPlace c = given c.args.scope.now _ _ _ _ c.in-ArgPlace.is (to_z-of_z w128 c.arg_place_at.result (record { sfits = c.arg_place_at.type_inv })) c.arg_place_at.ensures

pub returns-in-Matmul : goal.returns-in-Matmul
returns-in-Matmul c = given c.args.scope.now _ _ _ _ c.in-Matmul.is (to_z-of_z w128 c.product_at.result (record { sfits = c.product_at.type_inv })) c.product_at.ensures

pub returns-in-CumulativeSum : goal.returns-in-CumulativeSum
returns-in-CumulativeSum c = given c.args.scope.now _ _ _ _ c.in-CumulativeSum.is (to_z-of_z w128 c.cumulative_node.result (record { sfits = c.cumulative_node.type_inv })) c.cumulative_node.ensures

pub returns-in-GroupBy : goal.returns-in-GroupBy
returns-in-GroupBy c =
    let fits : SFits w64 c.in-GroupBy.axis = search rules in
    given c.args.scope.now _ _ _ _ c.in-GroupBy.is (to_z-of_z w128 c.grouped_node.result (record { sfits = c.grouped_node.type_inv }))
    (rw (to_z-of_z w64 c.in-GroupBy.axis fits) at c.grouped_node.ensures)
