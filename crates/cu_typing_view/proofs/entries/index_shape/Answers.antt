use Rattle.std.proofs.Common.{◌+◌, length, get_or, min, pos, ap, ◌∙◌}
use Rattle.std.proofs.lemmas.List.{drop_more}
use Rattle.cu_node.specs.declared.index_item.IndexItem.TheVariants.{At}
use Rattle.cu_typing_view.specs.Entries.{index_shape}
use Rattle.cu_typing_view.proofs.IndexSteps.{more_shape, still_within}
use Rattle.cu_typing_view.proofs.entries.index_shape.Goals as goal

pub loop-item-preserved : goal.loop-item-preserved
loop-item-preserved c =
    let items = c.args.items.now in
    let ns = c.args.sizes.now in
    let i = c.loop-item.item-index in
    let item = get_or items i (At (pos 0)) in
    record {
      within = still_within c.loop-item.axis c.width_of.result c.min-axis.result (length ns) (c.min-axis.ensures ∙ ap (λ n. min (c.loop-item.axis + c.width_of.result) n) c.rank-rank.ensures.rank);
      whole = more_shape c.args.more item items ns (index_shape c.args.more items ns) c.loop-item.left c.in_ok-left.left i c.loop-item.axis c.width_of.result c.min-axis.result c.rank-rank.result
          (drop_more items i (At (pos 0)) c.loop-item-test.true) c.width_of.ensures.value c.rank-rank.ensures.rank c.min-axis.ensures c.in_ok-left.ensures.left c.loop-item.invariant.whole;
    }
