use Rattle.std.proofs.Common.{◌≡◌, ◌≤◌, drop, length, false}
use Rattle.cu_typing_view.specs.Entries.{first_wrong}
use Rattle.cu_typing_view.proofs.entries.first_wrong.Given as goal

abbrev pub invariant-loop-place : goal.invariant-loop-place
invariant-loop-place l = record {
  within : l.axis ≤ length l.sizes;
  rest : first_wrong l.more false 0 l.items l.sizes ≡ first_wrong l.more l.seen l.place (drop l.place l.items) (drop l.axis l.sizes);
}
