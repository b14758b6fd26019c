use Rattle.cu_lower.proofs.Growing.{pair_values, pair_last}
use Rattle.cu_lower.proofs.plan.Growing.add_step.Goals as goal

pub add_arrays-requires-clause-values : goal.add_arrays-requires-clause-values
add_arrays-requires-clause-values c = pair_values c.args.step.values c.args.step.made c.requires.grids

pub add_arrays-requires-clause-made : goal.add_arrays-requires-clause-made
add_arrays-requires-clause-made c = pair_last c.args.step.values c.args.step.made c.requires.grids
