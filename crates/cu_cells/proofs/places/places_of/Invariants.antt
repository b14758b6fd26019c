-- The keys so far have their places.
use Rattle.std.proofs.Common.{◌≡◌, map, take}
use Rattle.cu_store.specs.declared.yard.Spec.{Spec}
use Rattle.cu_cells.proofs.places.places_of.Given as goal

abbrev pub invariant-loop-spec : goal.invariant-loop-spec
invariant-loop-spec l = l.places ≡ map (λ (s : Spec). s.key) (take l.spec-index l.specs)
