use Rattle.std.proofs.Common.{◌≡◌, ◌+◌, ◌<◌, ◌≤◌, ℕ, length, get_or}
use Rattle.cu_view_box.proofs.runs.box_end.Given as goal

abbrev pub invariant-loop-before : goal.invariant-loop-before
invariant-loop-before l = record {
  rank : length l.end ≡ length l.dims;
  single : (k : ℕ) → k < l.before → get_or l.end k 0 ≡ get_or l.index k 0 + 1;
  rest : (k : ℕ) → l.before ≤ k → get_or l.end k 0 ≡ get_or l.dims k 0;
}
