use Rattle.std.proofs.Common.{[], ◌∷◌, ◌∙◌}
use Rattle.std.specs.Int.{w128}
use Rattle.std.proofs.lemmas.Int.{to_z-of_z}
use Rattle.cu_num.specs.Scalar.{op2}
use Rattle.cu_node.specs.declared.element_op.ElementOp.{ElementOp}
use Rattle.cu_expr.specs.Typing.{argument_of}
use Rattle.cu_mean.proofs.OperandTypes.{shared_passed, first_fits, second_fits, value_by_result}
use Rattle.cu_mean.proofs.elementwise.two.Goals as goal

pub scalar2-requires-clause-first : goal.scalar2-requires-clause-first
scalar2-requires-clause-first c =
    let s = shared_passed (ElementOp.Two c.args.f) (argument_of c.args.scope.now.infos.now c.args.a ∷ argument_of c.args.scope.now.infos.now c.args.b ∷ []) c.args.t c.requires.typed in
    rw (to_z-of_z w128 c.argument-x.result (record { sfits = c.argument-x.type_inv }), c.pair_type.ensures s.0 s.1)
    (first_fits c.args.scope.now.infos.now c.args.a c.args.b s.0 c.argument-x.result s.1 c.argument-x.ensures.range)

pub scalar2-requires-clause-second : goal.scalar2-requires-clause-second
scalar2-requires-clause-second c =
    let s = shared_passed (ElementOp.Two c.args.f) (argument_of c.args.scope.now.infos.now c.args.a ∷ argument_of c.args.scope.now.infos.now c.args.b ∷ []) c.args.t c.requires.typed in
    rw (to_z-of_z w128 c.argument-y.result (record { sfits = c.argument-y.type_inv }), c.pair_type.ensures s.0 s.1)
    (second_fits c.args.scope.now.infos.now c.args.a c.args.b s.0 c.argument-y.result s.1 c.argument-y.ensures.range)

pub returns : goal.returns
returns c =
    let s = shared_passed (ElementOp.Two c.args.f) (argument_of c.args.scope.now.infos.now c.args.a ∷ argument_of c.args.scope.now.infos.now c.args.b ∷ []) c.args.t c.requires.typed in
    let x = to_z-of_z w128 c.argument-x.result (record { sfits = c.argument-x.type_inv }) in
    let y = to_z-of_z w128 c.argument-y.result (record { sfits = c.argument-y.type_inv }) in
    let p = c.pair_type.ensures s.0 s.1 in
    to_z-of_z w128 c.scalar2.result (record { sfits = c.scalar2.type_inv })
    ∙ (c.scalar2.ensures.value ∙ (λ i. op2 c.args.f (p i) ((x ∙ c.argument-x.ensures.value) i) ((y ∙ c.argument-y.ensures.value) i)))
    ∙ value_by_result c.args.f s.0 c.args.t _ _ s.2
