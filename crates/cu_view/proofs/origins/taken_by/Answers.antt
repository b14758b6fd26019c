use Rattle.std.proofs.Common.{◌<◌, length, get_or, arith, rules}
use mir.Syntax.{w64}
use mir.Val.{SFits, to_z, of_z}
use Rattle.std.proofs.lemmas.Int.{to_z-of_z}
use Rattle.cu_view.specs.Boxes.{no_run}
use Rattle.cu_view.proofs.Taken.{taken_from, length-counts, runs-length, taken_inside, count_at}
use Rattle.cu_view.proofs.origins.taken_by.Goals as goal

pub bounds-runs-axis : goal.bounds-runs-axis
bounds-runs-axis c = let n = length-counts c.args.runs.now c.args.at.now c.requires.inside in omega arith

pub at-requires-in-loop-axis : goal.at-requires-in-loop-axis
at-requires-in-loop-axis c =
    let n = length-counts c.args.runs.now c.args.at.now c.requires.inside in
    let m = runs-length c.args.runs.now c.args.source.now c.requires.runs in
    omega arith

pub taken-requires : goal.taken-requires
taken-requires c =
    let n = length-counts c.args.runs.now c.args.at.now c.requires.inside in
    let l : c.loop-axis.axis < length c.args.runs.now = omega arith in
    let step = (get_or c.args.runs.now c.loop-axis.axis no_run).step in
    let fits : SFits w64 step = search rules in
    taken_inside c.args.runs.now c.args.source.now c.loop-axis.axis c.at.result c.at-in-loop-axis.result (to_z w64 (of_z w64 step)) (to_z-of_z w64 step fits) c.requires.runs l c.args.at.now
    (c.at.ensures) (c.at-in-loop-axis.ensures) (count_at c.args.runs.now c.args.at.now c.loop-axis.axis no_run c.requires.inside l)

pub returns : goal.returns
returns c = taken_from c.loop-axis.read c.args.runs.now c.args.at.now no_run c.loop-axis.invariant.ranks (length-counts c.args.runs.now c.args.at.now c.requires.inside)
    (λ k b. c.loop-axis.invariant.done k (omega arith))
