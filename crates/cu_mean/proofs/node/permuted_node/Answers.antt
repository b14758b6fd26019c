use Rattle.std.proofs.Common.{map, length, ap, arith}
use Rattle.cu_node.specs.Info.{info_at}
use Rattle.cu_typing.specs.Joined.{arrays_of}
use Rattle.cu_expr.specs.Typing.{argument_of}
use Rattle.cu_expr.proofs.ToldArguments.{told_kept, info_kept}
use Rattle.cu_mean.proofs.ViewTypes.{permuted_axes}
use Rattle.cu_mean.proofs.node.permuted_node.Goals as goal

pub permuted-read-requires : goal.permuted-read-requires
permuted-read-requires c =
    let told = arrays_of (map (argument_of c.args.scope.now.infos.now) c.args.args.now) in
    let a = permuted_axes (info_at told 0) c.args.axes.now c.args.scope.now.info.now c.requires.ready.typed in
    let s = (info_kept told 0 (told_kept c.args.scope.now.infos.now c.args.args.now c.requires.ready.kept)).short in
    let e = ap length c.as_slice.ensures in
    omega arith
