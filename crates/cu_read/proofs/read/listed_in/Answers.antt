use Rattle.std.proofs.Common.{Err, ap, sym, ◌∙◌, arith}
use Rattle.cu_read.specs.declared.faults.ReadFault.{ReadFault}
use Rattle.cu_read.proofs.NodesRead.{too_many, listed_ok, listed_err, are_short}
use Rattle.cu_read.proofs.read.listed_in.Goals as goal

pub returns-then-len-gt-MOST_NODES : goal.returns-then-len-gt-MOST_NODES
returns-then-len-gt-MOST_NODES c =
    too_many c.args.items.now.items c.args.out.now c.args.store_as.now (omega arith) ∙ ap (λ (f : ReadFault). Err f) (sym c.whole_fault.ensures)

pub returns-in-Ok : goal.returns-in-Ok
returns-in-Ok c =
    listed_ok c.args.items.now.items c.args.out.now c.args.store_as.now c.in-Ok.nodes.list.items c.in-Ok.nodes.ids c.expression_with.result
    (omega arith) c.in-Ok.ensures.nodes c.in-Ok.ensures.ids c.expression_with.ensures

pub returns-in-Err : goal.returns-in-Err
returns-in-Err c = listed_err c.args.items.now.items c.args.out.now c.args.store_as.now c.in-Err.refused (omega arith) c.in-Err.ensures.nodes

pub expression_with-requires-clause-indices : goal.expression_with-requires-clause-indices
expression_with-requires-clause-indices c = are_short c.args.items.now.items c.in-Ok.nodes.list.items (omega arith) c.requires c.in-Ok.ensures.nodes
