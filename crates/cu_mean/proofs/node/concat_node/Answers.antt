use Rattle.std.proofs.Common.{map, arith}
use Rattle.cu_shape.proofs.Places.{inside-length}
use Rattle.cu_typing.specs.Joined.{arrays_of}
use Rattle.cu_expr.specs.Typing.{argument_of}
use Rattle.cu_mean.proofs.ViewTypes.{concat_rank}
use Rattle.cu_mean.proofs.node.concat_node.Goals as goal

pub concat_at-requires : goal.concat_at-requires
concat_at-requires c =
    let told = arrays_of (map (argument_of c.args.scope.now.infos.now) c.args.args.now) in
    let some = concat_rank told c.args.axis c.args.scope.now.info.now c.requires.ready.typed in
    let same = inside-length c.args.scope.now.info.now.dims c.args.scope.now.idx.now c.requires.inside in
    let rank = c.rank.ensures.rank in
    let below = c.axis_in.ensures.below (omega arith) in
    omega arith
