use Rattle.std.proofs.Common.{◌≡◌, Ok}
use Rattle.std.proofs.Common.{arith}
use Rattle.std.proofs.lemmas.Grind.{common_steps}
use Rattle.cu_typing.proofs.Together.{length-joined_shape}
use Rattle.cu_typing.specs.Joined.{arrays_of, joined_shape}
use Rattle.cu_typing.proofs.joining.shape_joined.Goals as goal

joined : (c : goal.After-loop-arg) → joined_shape (arrays_of c.args.args.now) ≡ Ok c.loop-arg.shape
joined c = grind (arith, common_steps, c.loop-arg.invariant)

pub returns-clause-rank : goal.returns-clause-rank
returns-clause-rank c = length-joined_shape (arrays_of c.args.args.now) c.loop-arg.shape (joined c)
