use Rattle.std.proofs.Common.{◌≡◌, to_z, of_z, rules}
use mir.Syntax.{w128, w64}
use Rattle.std.proofs.lemmas.Int.{to_z-of_z}
use Rattle.cu_shape.specs.Slice.{lowest, highest}
use Rattle.std.specs.Int.{int_min, int_max}
use Rattle.cu_shape.proofs.Ends.{clipped_inside}
use Rattle.cu_shape.proofs.slice.clip.Goals as goal

pub returns-clause-inside : goal.returns-clause-inside
returns-clause-inside c =
    let s = to_z-of_z w64 c.args.step c.ranges.step in
    let x = to_z-of_z w128 c.max.result (search rules) in
    let m = to_z-of_z w128 c.min.result (search rules) in
    let b = to_z-of_z w128 c.bottom.result (search rules) in
    let t = to_z-of_z w128 c.top.result (search rules) in
    let f = to_z-of_z w128 c.from_start.result (search rules) in
    let e : to_z w128 (of_z w128 c.max.result) ≡ int_max (int_min c.from_start.result (highest c.args.step c.args.n)) (lowest c.args.step) =
    cc (c.max.ensures.value, c.min.ensures.value, c.top.ensures, c.bottom.ensures) in
    rw e (clipped_inside c.from_start.result c.args.step c.args.n)
