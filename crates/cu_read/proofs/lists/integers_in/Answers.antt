use Rattle.std.proofs.Common.{Some, to_z, of_z, sym, ap, ◌∙◌, rules}
use Rattle.std.proofs.lemmas.Int.{to_z-of_z}
use Rattle.std.specs.Int.{w64}
use Rattle.cu_read.specs.Members.{integer_of}
use Rattle.cu_read.specs.declared.faults.NodeCode.{NodeCode}
use Rattle.cu_read.proofs.EntriesRead.{one_more, no_entry, all_entries}
use Rattle.cu_read.proofs.lists.integers_in.Goals as goal

pub returns-in_default : goal.returns-in_default
returns-in_default c =
    no_entry integer_of NodeCode.Form c.args.items.now.items c.deref-item-items.result.now c.loop-item.item-index c.item-item.result c.as_i64.result c.loop-item.integers.items
    c.deref-item-items.ensures.value c.loop-item-test.true c.item-item.is c.as_i64.ensures c.in_default.is c.loop-item.invariant

pub loop-item-preserved : goal.loop-item-preserved
loop-item-preserved c =
    one_more integer_of c.deref-item-items.result.now c.loop-item.item-index c.item-item.result c.as_i64.result (to_z w64 (of_z w64 c.in-Some.integer)) c.push.result c.is_err.result c.loop-item.integers.items c.push.new.self.items _
    c.loop-item-test.true c.item-item.is c.as_i64.ensures (c.in-Some.is ∙ ap Some (sym (to_z-of_z w64 c.in-Some.integer (search rules)))) c.is_err.ensures.value c.if-is_err.false c.push.ensures.items c.loop-item.invariant

pub returns : goal.returns
returns c =
    all_entries integer_of NodeCode.Form c.args.items.now.items c.deref-item-items.result.now c.loop-item.item-index c.loop-item.integers.items c.make.result
    c.deref-item-items.ensures.value c.loop-item-test.false c.make.ensures c.loop-item.invariant
