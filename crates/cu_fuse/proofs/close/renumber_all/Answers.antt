use Rattle.std.proofs.Common.{◌<◌, length, get_or, ap, ◌∙◌, arith}
use Rattle.std.proofs.Math.ListN.{set}
use Rattle.cu_op.specs.declared.operation.Planned.{Planned}
use Rattle.cu_fuse.specs.Close.{renumbered_planned}
use Rattle.cu_op.specs.Numbers.{number_in}
use Rattle.cu_fuse.proofs.Renumbering.{mapped_next}
use Rattle.cu_fuse.proofs.close.renumber_all.Goals as goal

pub loop-planned-preserved : goal.loop-planned-preserved
loop-planned-preserved c =
    let f = renumbered_planned (number_in c.args.numbers.now) in
    let init = c.deref_mut-planned-items.result.now in
    let cur = c.loop-planned.planned-items in
    let k = c.loop-planned.planned-index in
    let x : Planned = get_or cur k c.planned-item.result in
    let below : k < length cur = (let same = c.loop-planned.auto.planned-items in let t = c.loop-planned-test.true in omega (arith, same, t)) in
    ap (set cur k) (λ i. record { op = c.renumber.ensures i; node = x.node; projected = x.projected })
    ∙ mapped_next f init cur k x c.loop-planned.invariant below (ap (get_or cur k) c.planned-item.is)
