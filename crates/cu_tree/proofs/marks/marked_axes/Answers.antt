use Rattle.cu_tree.proofs.Bits.{marked}
use Rattle.cu_tree.proofs.marks.marked_axes.Goals as goal

pub returns-clause-has : goal.returns-clause-has
returns-clause-has c = λ d. rw (c.packed.ensures) (marked c.args.marks.now d)
