use Rattle.std.proofs.Common.{◌≡◌, ◌≤◌}
use Rattle.cu_view.specs.Boxes.{longer_before}
use Rattle.cu_view.proofs.ways.longer_before.Given as goal

abbrev pub invariant-loop-before : goal.invariant-loop-before
invariant-loop-before l = record {
  count : l.longer ≡ longer_before l.sizes l.before;
  within : l.longer ≤ l.before;
}
