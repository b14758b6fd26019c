use Rattle.std.proofs.Common.{map, ap, sym, ◌∙◌}
use Rattle.cu_shape.specs.Index.{product}
use Rattle.cu_node.specs.Info.{info_at}
use Rattle.cu_typing.specs.Joined.{arrays_of}
use Rattle.cu_typing_view.proofs.NewShapes.{new_shape_count}
use Rattle.cu_expr.specs.Typing.{argument_of}
use Rattle.cu_mean.proofs.NodeTypes.{all_arrays, told_shape}
use Rattle.cu_mean.proofs.node.reshaped_node.Goals as goal

pub replaced_at-requires-clause-count : goal.replaced_at-requires-clause-count
replaced_at-requires-clause-count c =
    let told = arrays_of (map (argument_of c.args.scope.now.infos.now) c.args.args.now) in
    ap product (sym (told_shape c.args.scope.now.infos.now c.args.args.now 0 (all_arrays 1 1 c.args.args.now c.requires.ready.args)))
    ∙ new_shape_count (info_at told 0) c.args.scope.now.info.now c.args.shape.now c.requires.ready.ranges c.requires.ready.typed
