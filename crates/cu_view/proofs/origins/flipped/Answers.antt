use Rattle.std.proofs.Common.{◌<◌, ◌∙◌, length, get_or, arith}
use Rattle.std.proofs.lemmas.List.FromFn.{fill_by_all}
use Rattle.cu_shape.proofs.Places.{inside-length}
use Rattle.cu_origin.specs.Pull.{flipped_on}
use Rattle.cu_origin.proofs.AxesInside.{inside_at}
use Rattle.cu_view.proofs.origins.flipped.Goals as goal

pub returns : goal.returns
returns c =
    let n = inside-length c.args.shape.now c.args.idx.now c.requires in
    fill_by_all (flipped_on c.args.axes c.args.shape.now c.args.idx.now) c.loop-axis.read (length c.args.shape.now) 0 (c.loop-axis.invariant.ranks ∙ n)
    (λ k b. c.loop-axis.invariant.done k (omega arith))

pub at-requires : goal.at-requires
at-requires c = let n = inside-length c.args.shape.now c.args.idx.now c.requires in omega arith

pub from_end-at-requires : goal.from_end-at-requires
from_end-at-requires c =
    let n = inside-length c.args.shape.now c.args.idx.now c.requires in
    let b : get_or c.args.idx.now c.loop-axis.axis 0 < get_or c.args.shape.now c.loop-axis.axis 0 = inside_at c.args.shape.now c.args.idx.now c.loop-axis.axis c.requires (omega arith) in
    omega arith
