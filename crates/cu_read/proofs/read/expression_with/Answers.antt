use Rattle.std.proofs.Common.{sym}
use Rattle.cu_read.proofs.NodesRead.{is_stored}
use Rattle.cu_read.proofs.read.expression_with.Goals as goal

pub make-requires : goal.make-requires
make-requires c =
    is_stored c.args.nodes.list.items c.args.nodes.ids c.args.out.now c.args.store_as.now c.in-Some.number c.in-Some-named.name
    c.requires.nodes c.requires.indices c.requires.ids (sym c.in-Some.ensures) (sym c.in-Some-named.ensures)
