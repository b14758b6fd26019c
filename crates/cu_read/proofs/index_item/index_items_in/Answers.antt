use Rattle.cu_read.specs.IndexItem.{index_item_of}
use Rattle.cu_read.specs.declared.faults.NodeCode.{NodeCode}
use Rattle.cu_read.proofs.EntriesRead.{one_more, no_entry, all_entries}
use Rattle.cu_read.proofs.index_item.index_items_in.Goals as goal

pub returns-in_default : goal.returns-in_default
returns-in_default c =
    no_entry index_item_of NodeCode.Form c.args.items.now.items c.deref-item-items.result.now c.loop-item.item-index c.item-item.result c.index_item_of.result c.loop-item.entries.items
    c.deref-item-items.ensures.value c.loop-item-test.true c.item-item.is c.index_item_of.ensures c.in_default.is c.loop-item.invariant

pub loop-item-preserved : goal.loop-item-preserved
loop-item-preserved c =
    one_more index_item_of c.deref-item-items.result.now c.loop-item.item-index c.item-item.result c.index_item_of.result c.in-Some.entry c.push.result c.is_err.result c.loop-item.entries.items c.push.new.self.items _
    c.loop-item-test.true c.item-item.is c.index_item_of.ensures c.in-Some.is c.is_err.ensures.value c.if-is_err.false c.push.ensures.items c.loop-item.invariant

pub returns : goal.returns
returns c =
    all_entries index_item_of NodeCode.Form c.args.items.now.items c.deref-item-items.result.now c.loop-item.item-index c.loop-item.entries.items c.make.result
    c.deref-item-items.ensures.value c.loop-item-test.false c.make.ensures c.loop-item.invariant
