use Rattle.std.proofs.Common.{◌≡◌, ◌≤◌, ◌++◌, length, drop}
use Rattle.std.specs.Prelude.{filter}
use Rattle.cu_copy.specs.Copies.{is_misaligned}
use Rattle.cu_need.proofs.operands.misaligned.Given as goal

-- what is left adds its own
abbrev pub invariant-loop-rechunk : goal.invariant-loop-rechunk
invariant-loop-rechunk l = record {
  few : length l.copies.items ≤ l.rechunk-index;
  rest : l.copies.items ++ filter is_misaligned (drop l.rechunk-index l.operands) ≡ filter is_misaligned l.operands;
}
