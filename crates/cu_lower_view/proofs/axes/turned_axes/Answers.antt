use Rattle.std.proofs.Common.{◌<◌, ◌-◌, ◌^◌, map, arith}
use Rattle.std.specs.Prelude.{option_map}
use Rattle.std.specs.List.{range_with_len}
use Rattle.std.proofs.lemmas.List.FromFn.{length-map-range_with_len}
use Rattle.cu_lower_view.specs.Axes.{byte_of, is_turned}
use Rattle.cu_lower_view.proofs.Loops.{byte_below}
use Rattle.cu_lower_view.proofs.axes.turned_axes.Goals as goal

pub with_bit-byte-requires : goal.with_bit-byte-requires
with_bit-byte-requires c =
    let f = is_turned c.args.rank (option_map (λ a. a.now) c.args.axes) in
    let axis = c.loop-axis.axis in
    let l = length-map-range_with_len f axis (c.args.rank - axis) in
    let r = c.requires in
    let b : byte_of (map f (range_with_len axis (c.args.rank - axis))) < 2 ^ 6 = byte_below 6 (map f (range_with_len axis (c.args.rank - axis))) (omega arith) in
    let e = c.loop-axis.invariant in
    omega arith
