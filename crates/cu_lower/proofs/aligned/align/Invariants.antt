use Rattle.std.proofs.Common.{◌≡◌, ◌≤◌, ◌+◌, ◌*◌, ◌++◌, length, drop}
use Rattle.cu_lower_reduce.specs.Copies.{aligned_places, aligned_steps}
use Rattle.cu_lower_reduce.specs.Steps.{all_made}
use Rattle.cu_lower.proofs.Aligning.{from_array}
use Rattle.cu_lower.proofs.aligned.align.Given as goal

-- what is left, from the next array on, adds its own
abbrev pub invariant-loop-j : goal.invariant-loop-j
invariant-loop-j l = record {
  long : length l.aligned.places.items ≡ l.j;
  few : l.aligned.next ≤ l.s.first + 2 * l.j;
  next : l.aligned.next ≡ l.s.first + length (all_made l.aligned.steps.items);
  steps : l.aligned.steps.items ++ aligned_steps (from_array l.s l.aligned.next) (drop l.j l.sources) (drop l.j l.wanted) ≡ aligned_steps l.s l.sources l.wanted;
  places : l.aligned.places.items ++ aligned_places (from_array l.s l.aligned.next) (drop l.j l.sources) (drop l.j l.wanted) ≡ aligned_places l.s l.sources l.wanted;
}
