use Rattle.std.proofs.Common.{◌+◌, pos, ℕ, List, drop, get_or, sym, ap, ◌∙◌, subst}
use Rattle.std.proofs.lemmas.List.{drop_more, drop_all}
use Rattle.cu_node.specs.declared.index_item.IndexItem.{IndexItem}
use Rattle.cu_mean.specs.Indexing.{read_from, IsFoundIndex, IsOutsideEach, TakesEntry}
use Rattle.cu_mean.specs.declared.indexing.Taken.{Taken}
use Rattle.cu_mean.proofs.IndexEntries.{entry_taken}
use Rattle.cu_mean.proofs.indexing.indexed.Goals as goal

pub returns-in-Outside : goal.returns-in-Outside
returns-in-Outside c =
    let items = c.args.items.now in
    let i = c.loop-item.item-index in
    let item : IndexItem = get_or items i (IndexItem.At (pos 0)) in
    let read : List IndexItem → _ → _ = read_from c.spare_axes-spare.result c.args.shape.now c.args.idx.now in
    let taken : TakesEntry read c.args.idx.now item c.loop-item.front c.take_item.new.front Taken.Outside =
    subst (λ (t : Taken). TakesEntry read c.args.idx.now item c.loop-item.front c.take_item.new.front t) c.in-Outside.is c.take_item.ensures.taken in
    subst IsOutsideEach (sym (ap (λ (rest : List IndexItem). read rest c.loop-item.front) (drop_more items i (IndexItem.At (pos 0)) c.loop-item-test.true)) ∙ c.loop-item.invariant.whole)
    (taken (drop (i + 1) items))

pub returns-in-Rest : goal.returns-in-Rest
returns-in-Rest c =
    let read : List IndexItem → _ → _ = read_from c.spare_axes-spare.result c.args.shape.now c.args.idx.now in
    subst (λ (idx : List ℕ). IsFoundIndex idx c.with_rest.result)
    (entry_taken read c.args.items.now c.loop-item.item-index (IndexItem.At (pos 0)) c.loop-item.front _ _ c.loop-item-test.true c.loop-item.invariant.whole
    (c.in-Rest.ensures.taken (drop (c.loop-item.item-index + 1) c.args.items.now)))
    c.with_rest.ensures

pub loop-item-preserved : goal.loop-item-preserved
loop-item-preserved c =
    let read : List IndexItem → _ → _ = read_from c.spare_axes-spare.result c.args.shape.now c.args.idx.now in
    record {
      front = c.in-Next.ensures.front;
      whole = entry_taken read c.args.items.now c.loop-item.item-index (IndexItem.At (pos 0)) c.loop-item.front _ _ c.loop-item-test.true c.loop-item.invariant.whole
          (c.in-Next.ensures.taken (drop (c.loop-item.item-index + 1) c.args.items.now));
    }

pub returns : goal.returns
returns c =
    let read : List IndexItem → _ → _ = read_from c.spare_axes-spare.result c.args.shape.now c.args.idx.now in
    subst (λ (idx : List ℕ). IsFoundIndex idx c.with_rest-2.result)
    (sym (ap (λ (rest : List IndexItem). read rest c.loop-item.front) (drop_all c.loop-item.item-index c.args.items.now c.loop-item-test.false)) ∙ c.loop-item.invariant.whole)
    c.with_rest-2.ensures
