use Rattle.std.proofs.Common.{◌≡◌, ◌+◌, min, length, get_or, pos}
use Rattle.std.proofs.lemmas.List.{drop_more}
use Rattle.cu_node.specs.declared.index_item.IndexItem.TheVariants.{At}
use Rattle.cu_typing_view.specs.Entries.{width_of}
use Rattle.cu_lower_view.proofs.Loops.{taking_few, taking_more}
use Rattle.cu_lower_view.proofs.entries.axes_taken.Goals as goal

pub with_axis-taken-requires : goal.with_axis-taken-requires
with_axis-taken-requires c =
    let k = c.loop-item.item-index in
    let item = get_or c.args.items.now k (At (pos 0)) in
    taking_few c.args.more k c.loop-item.axis c.args.items.now item c.args.sizes.now c.loop-item.taken.items (drop_more c.args.items.now k (At (pos 0)) c.loop-item-test.true) c.loop-item.invariant

pub loop-item-preserved : goal.loop-item-preserved
loop-item-preserved c =
    let k = c.loop-item.item-index in
    let item = get_or c.args.items.now k (At (pos 0)) in
    let next : c.min-axis.result ≡ min (c.loop-item.axis + width_of c.args.more item) (length c.args.sizes.now) = cc (c.min-axis.ensures, c.width_of.ensures.value, c.rank-rank.ensures.rank) in
    taking_more c.args.more k c.loop-item.axis c.min-axis.result c.args.items.now item c.args.sizes.now c.loop-item.taken.items c.with_axis-taken.result.items (drop_more c.args.items.now k (At (pos 0)) c.loop-item-test.true) c.loop-item.invariant next c.with_axis-taken.ensures
