use Rattle.std.proofs.Common.{◌<◌, ◌∙◌, length, get_or, arith}
use Rattle.std.proofs.lemmas.List.FromFn.{fill_by_all}
use Rattle.cu_shape.proofs.Places.{inside-length}
use Rattle.cu_origin.specs.Pull.{rolled_on}
use Rattle.cu_origin.proofs.AxesInside.{inside_at}
use Rattle.cu_view.proofs.origins.rolled.Goals as goal

pub returns : goal.returns
returns c =
    let n = inside-length c.args.shape.now c.args.idx.now c.requires.inside in
    fill_by_all (rolled_on c.args.shifts.now c.args.shape.now c.args.idx.now) c.loop-axis.read (length c.args.shape.now) 0 (c.loop-axis.invariant.ranks ∙ n)
    (λ k b. c.loop-axis.invariant.done k (omega arith))

pub bounds-shifts-axis : goal.bounds-shifts-axis
bounds-shifts-axis c = let n = inside-length c.args.shape.now c.args.idx.now c.requires.inside in omega arith

pub at-requires : goal.at-requires
at-requires c = let n = inside-length c.args.shape.now c.args.idx.now c.requires.inside in omega arith

pub before_roll-requires : goal.before_roll-requires
before_roll-requires c =
    let n = inside-length c.args.shape.now c.args.idx.now c.requires.inside in
    let b : get_or c.args.idx.now c.loop-axis.axis 0 < get_or c.args.shape.now c.loop-axis.axis 0 = inside_at c.args.shape.now c.args.idx.now c.loop-axis.axis c.requires.inside (omega arith) in
    omega arith
