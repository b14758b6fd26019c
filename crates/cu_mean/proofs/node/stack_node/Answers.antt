use Rattle.std.proofs.Common.{map, arith}
use Rattle.cu_shape.proofs.Places.{inside-length}
use Rattle.cu_typing.specs.Joined.{arrays_of}
use Rattle.cu_expr.specs.Typing.{argument_of}
use Rattle.cu_mean.proofs.ViewTypes.{stack_rank}
use Rattle.cu_mean.proofs.node.stack_node.Goals as goal

pub stack_at-requires : goal.stack_at-requires
stack_at-requires c =
    let told = arrays_of (map (argument_of c.args.scope.now.infos.now) c.args.args.now) in
    let some = stack_rank told c.args.axis c.args.scope.now.info.now c.requires.ready.typed in
    let same = inside-length c.args.scope.now.info.now.dims c.args.scope.now.idx.now c.requires.inside in
    let rank = c.rank.ensures.rank in
    let below = c.axis_in.ensures.below (omega arith) in
    omega arith
