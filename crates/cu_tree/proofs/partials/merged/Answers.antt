use Rattle.cu_tree.proofs.Middles.{of_merged}
use Rattle.cu_tree.proofs.partials.merged.Goals as goal

pub returns-clause-kept : goal.returns-clause-kept
returns-clause-kept c = λ le m. rw (c.put.ensures) (of_merged c.args.round.now c.args.partial.now c.requires.axis le m)
