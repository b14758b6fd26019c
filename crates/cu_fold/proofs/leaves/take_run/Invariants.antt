use Rattle.std.proofs.Common.{◌≡◌, length}
use Rattle.std.specs.List.{range_with_len}
use Rattle.cu_take.specs.Taken.{HasTaken, elements_at_places}
use Rattle.cu_fold.proofs.leaves.take_run.Given as goal

abbrev pub invariant-loop-place : goal.invariant-loop-place
invariant-loop-place l = record {
  length : length l.own ≡ 8;
  takes : HasTaken l.kind l.acc l.out l.own 0 (elements_at_places l.from l.input (range_with_len 0 l.place));
}
