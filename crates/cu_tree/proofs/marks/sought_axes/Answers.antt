use Rattle.cu_tree.proofs.Bits.{sought}
use Rattle.cu_tree.proofs.marks.sought_axes.Goals as goal

pub returns-clause-has : goal.returns-clause-has
returns-clause-has c = λ d h. rw (c.one_or_all.ensures) (sought c.args.axis d h)
