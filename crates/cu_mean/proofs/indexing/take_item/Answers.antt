use Rattle.std.proofs.Common.{sym, ap, ◌∙◌, subst, rules}
use mir.Val.{SFits}
use Rattle.std.specs.Int.{w64}
use Rattle.std.proofs.lemmas.Int.{to_z-of_z}
use Rattle.cu_node.specs.declared.index_item.IndexItem.{IndexItem}
use Rattle.cu_mean.specs.Indexing.{read_from, TakesEntry}
use Rattle.cu_mean.proofs.indexing.take_item.Goals as goal

pub returns-in-At-clause-taken : goal.returns-in-At-clause-taken
returns-in-At-clause-taken c =
    let fits : SFits w64 c.in-At.x = search rules in
    subst (λ (i : IndexItem). TakesEntry (read_from c.args.spare c.args.shape.now c.args.idx.now) c.args.idx.now i c.args.front.now c.take_place.new.front c.take_place.result)
    (ap IndexItem.At (to_z-of_z w64 c.in-At.x fits) ∙ sym c.in-At.is) (c.take_place.ensures.taken c.args.spare)

pub returns-in-Slice-clause-taken : goal.returns-in-Slice-clause-taken
returns-in-Slice-clause-taken c =
    subst (λ (i : IndexItem). TakesEntry (read_from c.args.spare c.args.shape.now c.args.idx.now) c.args.idx.now i c.args.front.now c.take_slice.new.front c.take_slice.result)
    (sym c.in-Slice.is) (c.take_slice.ensures.taken c.args.spare)

pub returns-in-New-clause-taken : goal.returns-in-New-clause-taken
returns-in-New-clause-taken c =
    subst (λ (i : IndexItem). TakesEntry (read_from c.args.spare c.args.shape.now c.args.idx.now) c.args.idx.now i c.args.front.now c.take_new.new.front c.take_new.result)
    (sym c.in-New.is) (c.take_new.ensures.taken c.args.spare)
