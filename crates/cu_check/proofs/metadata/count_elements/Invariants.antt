use Rattle.std.proofs.Common.{◌≡◌, ◌≤◌, ◌*◌, ◌^◌, take}
use Rattle.cu_check.specs.Check.{elements_in_all}
use Rattle.cu_check.proofs.metadata.count_elements.Given as goal

abbrev pub invariant-loop-node : goal.invariant-loop-node
invariant-loop-node l = record {
  count : l.count ≡ elements_in_all (take l.node l.types);
  few : l.count ≤ l.node * 2 ^ 40;
}
