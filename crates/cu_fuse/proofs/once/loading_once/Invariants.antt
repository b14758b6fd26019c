use Rattle.std.proofs.Common.{◌≡◌, map}
use Rattle.std.specs.List.{filter, range_with_len}
use Rattle.cu_fuse.specs.Once.{at_places, places, stays, step_at}
use Rattle.cu_fuse.proofs.once.loading_once.Given as goal

abbrev pub invariant-loop-n : goal.invariant-loop-n
invariant-loop-n l = record {
  so_far : l.once.items ≡ map (λ n. at_places (places l.code n) (step_at l.code n))
      (filter (stays l.code) (range_with_len 0 l.n));
  at : l.places.items ≡ places l.code l.n;
}
