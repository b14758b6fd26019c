use Rattle.cu_tree.proofs.Middles.{of_product}
use Rattle.cu_tree.proofs.partials.product_partial.Goals as goal

pub returns-clause-kept : goal.returns-clause-kept
returns-clause-kept c =
    rw (c.grown.ensures, c.grown-2.ensures, c.part_count.ensures)
    (of_product c.args.left.now c.args.made.now c.requires.left c.requires.rank c.requires.made c.requires.room)
