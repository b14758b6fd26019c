use Rattle.std.proofs.Common.{map, sym, ◌∙◌}
use Rattle.std.specs.Int.{w128}
use Rattle.std.proofs.lemmas.Int.{to_z-of_z}
use Rattle.cu_shape.proofs.Places.{inside-length}
use Rattle.cu_expr.specs.Typing.{argument_of}
use Rattle.cu_typing.proofs.Passed.{passed}
use Rattle.cu_semantics.specs.Rule.{function_value}
use Rattle.cu_mean.specs.Elementwise.{argument_in}
use Rattle.cu_mean.proofs.NodeTypes.{element_types, go_back}
use Rattle.cu_mean.proofs.node.elementwise_at.Goals as goal

pub function_at-requires-clause-typed : goal.function_at-requires-clause-typed
function_at-requires-clause-typed c =
    rw c.as_slice-args.ensures (element_types c.args.op (map (argument_of c.args.scope.now.infos.now) c.args.args.now) c.args.scope.now.info.now c.requires.ready.typed)

pub function_at-requires-clause-ranks : goal.function_at-requires-clause-ranks
function_at-requires-clause-ranks c =
    let is = (passed c.args.op (map (argument_of c.args.scope.now.infos.now) c.args.args.now) c.args.scope.now.info.now c.requires.ready.typed).1 in
    rw c.as_slice-args.ensures (go_back c.args.scope.now.infos.now c.args.args.now c.args.scope.now.info.now.dims c.args.scope.now.idx.now (inside-length c.args.scope.now.info.now.dims c.args.scope.now.idx.now c.requires.inside) is.broadcast)

pub returns : goal.returns
returns c env k e =
    let s = c.as_slice-args.ensures in
    let d = sym e in
    to_z-of_z w128 c.function_at.result (record { sfits = c.function_at.type_inv })
    ∙ c.function_at.ensures
    ∙ (λ i. function_value c.args.op (d i).dtype (map (argument_in c.args.scope.now) (s i)))
