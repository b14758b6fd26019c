use Rattle.std.proofs.Common.{◌≡◌, ◌<◌, ℕ, ◌==◌, drop, get_or}
use Rattle.std.specs.List.{list_any}
use Rattle.cu_shape.proofs.dims.Dims.has_zero.Given as goal

abbrev pub invariant-loop-axis : goal.invariant-loop-axis
invariant-loop-axis l = record {
  rest : list_any (λ n. n == 0) (drop l.axis l.self) ≡ list_any (λ n. n == 0) l.self;
  positive : (k : ℕ) → k < l.axis → 0 < get_or l.self k 0;
}
