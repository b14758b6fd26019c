use Rattle.std.proofs.Common.{◌≡◌, ℕ, List, length, ap, ◌∙◌, sym, arith}
use Rattle.std.proofs.lemmas.List.{length-map}
use Rattle.cu_shape.specs.declared.slice.Run.{Run}
use Rattle.cu_origin.specs.Fits.{without_ones}
use Rattle.cu_origin.specs.Pull.{counts_of_runs}
use Rattle.cu_view.specs.Boxes.{longer_before}
use Rattle.cu_view.proofs.Slices.{longer_below, longer_all, count_is}
use Rattle.cu_view.proofs.ways.sliced_way.Goals as goal

pub longer_axis-along-requires : goal.longer_axis-along-requires
longer_axis-along-requires c =
    let n = length-map c.args.runs.now (λ (run : Run). run.count) in
    let e = count_is c.args.runs.now c.args.axis c.requires.axis in
    let b = longer_below (counts_of_runs c.args.runs.now) c.args.axis (omega arith) (λ p. c.if-count-eq1.false (sym e ∙ p)) in
    let s = longer_all c.args.shape.now in
    let t = longer_all (counts_of_runs c.args.runs.now) in
    let q : length (without_ones c.args.shape.now) ≡ length (without_ones (counts_of_runs c.args.runs.now)) = ap length c.requires.sizes in
    let v : c.longer_before.result ≡ longer_before (counts_of_runs c.args.runs.now) c.args.axis = c.longer_before.ensures.value ∙ ap (λ (x : List ℕ). longer_before x c.args.axis) c.counts_of_runs.ensures in
    omega arith
