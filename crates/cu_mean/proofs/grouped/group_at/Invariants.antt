use Rattle.std.proofs.Common.{[], ◌∷◌}
use Rattle.cu_semantics.specs.Along.{along}
use Rattle.cu_mean.specs.Grouped.{HasKept}
use Rattle.cu_mean.specs.Reading.{named_element}
use Rattle.cu_mean.proofs.LabelledPlaces.{members_from}
use Rattle.cu_mean.proofs.grouped.group_at.Given as goal

abbrev pub invariant-loop-place : goal.invariant-loop-place
invariant-loop-place l =
    HasKept l.kind l.t
    (members_from (λ p. named_element l.arrays 1 (p ∷ [])) (along (named_element l.arrays 0) l.axis l.idx) l.group l.place l.count)
    l.members
