use Rattle.std.proofs.Common.{◌≡◌, ◌≤◌, ◌++◌, length, drop}
use Rattle.cu_lower.specs.Parts.{array_places}
use Rattle.cu_lower.proofs.parts.array_places.Given as goal

abbrev pub invariant-loop-arg : goal.invariant-loop-arg
invariant-loop-arg l = record {
  so_far : l.ins.items ++ array_places l.places (drop l.arg-index l.args) ≡ array_places l.places l.args;
  few : length l.ins.items ≤ l.arg-index;
}
