use Rattle.std.proofs.Common.{map, length, ap, sym, ◌∙◌, arith}
use Rattle.cu_shape.proofs.Places.{inside-length}
use Rattle.cu_node.specs.Info.{info_at}
use Rattle.cu_semantics.specs.Argument.{source_shape}
use Rattle.cu_typing.specs.Joined.{arrays_of}
use Rattle.cu_expr.specs.Typing.{argument_of}
use Rattle.cu_mean.proofs.NodeTypes.{all_arrays, told_shape}
use Rattle.cu_mean.proofs.ViewTypes.{stretched_rank}
use Rattle.cu_mean.proofs.node.stretched_node.Goals as goal

pub back-read-requires : goal.back-read-requires
back-read-requires c =
    let told = arrays_of (map (argument_of c.args.scope.now.infos.now) c.args.args.now) in
    let r = stretched_rank (info_at told 0) c.args.shape.now c.args.chunk.now c.args.scope.now.info.now c.requires.ready.typed in
    let e = ap length (c.source_dims.ensures ∙ ap (λ args. source_shape c.args.scope.now.infos.now args 0) c.as_slice-args.ensures ∙ sym (told_shape c.args.scope.now.infos.now c.args.args.now 0 (all_arrays 1 1 c.args.args.now c.requires.ready.args))) in
    let l = inside-length c.args.scope.now.info.now.dims c.args.scope.now.idx.now c.requires.inside in
    omega arith
