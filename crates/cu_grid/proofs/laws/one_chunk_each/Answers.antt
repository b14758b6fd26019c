use Rattle.cu_grid.proofs.Parting.{has_coordinate, lies_within, inner_inside, only_chunk, in_array}
use Rattle.cu_grid.proofs.laws.one_chunk_each.Goals as goal

pub returns-clause-coordinate : goal.returns-clause-coordinate
returns-clause-coordinate c = has_coordinate

pub returns-clause-within : goal.returns-clause-within
returns-clause-within c = lies_within

pub returns-clause-inner : goal.returns-clause-inner
returns-clause-inner c = inner_inside

pub returns-clause-only : goal.returns-clause-only
returns-clause-only c = only_chunk

pub returns-clause-array : goal.returns-clause-array
returns-clause-array c = in_array
