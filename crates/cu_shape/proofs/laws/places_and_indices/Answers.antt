use Rattle.cu_shape.proofs.Places.{place-below, index-inside, place-index, index-place}
use Rattle.cu_shape.proofs.laws.places_and_indices.Goals as goal

pub returns-clause-below : goal.returns-clause-below
returns-clause-below c = place-below

pub returns-clause-inside : goal.returns-clause-inside
returns-clause-inside c = index-inside

pub returns-clause-place : goal.returns-clause-place
returns-clause-place c = place-index

pub returns-clause-index : goal.returns-clause-index
returns-clause-index c = index-place
