use Rattle.std.proofs.Common.{◌≡◌, length, drop}
use Rattle.cu_node.specs.Axes.{marked_after, marked_of}
use Rattle.cu_node.proofs.axes.named_axes.Given as goal

-- what is left decides
abbrev pub invariant-loop-number : goal.invariant-loop-number
invariant-loop-number l = record {
  six : length l.marks ≡ 6;
  rest : marked_after l.rank l.marks (drop l.number-index l.numbers) ≡ marked_of l.rank l.numbers;
}
