use Rattle.std.proofs.Common.{◌≡◌, ◌+◌, ◌*◌, ◌-◌, ◌≤◌, ◌++◌, length, drop}
use Rattle.cu_zarr.specs.Key.{separator, separated}
use Rattle.cu_codec.proofs.keys.push_separated.Given as goal

abbrev pub invariant-loop-axis : goal.invariant-loop-axis
invariant-loop-axis l = record {
  room : length l.text.bytes + 8 * (length l.coord - l.axis) ≤ 96;
  written : l.text.bytes ++ separated (separator l.sep) (drop l.axis l.coord) ≡ l.initial.text.bytes ++ separated (separator l.sep) (drop l.initial.axis l.coord);
}
