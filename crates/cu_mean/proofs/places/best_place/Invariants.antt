use Rattle.cu_mean.specs.Places.{IsBestFrom}
use Rattle.cu_mean.specs.Reading.{named_element}
use Rattle.cu_mean.proofs.Along.{along_from}
use Rattle.cu_mean.proofs.places.best_place.Given as goal

abbrev pub invariant-loop-place : goal.invariant-loop-place
invariant-loop-place l = IsBestFrom l.least l.place (along_from (named_element l.arrays 0) l.start l.sizes l.place l.count) l.best
