use Rattle.std.proofs.Common.{◌≡◌, ◌*◌, ◌<◌, ◌≤◌, ℕ, length}
use Rattle.std.specs.List.{range_with_len}
use Rattle.cu_num.specs.Element.{bytes_at}
use Rattle.cu_take.specs.Taken.{HasTaken, elements_at_places}
use Rattle.cu_fold.proofs.leaves.take_each.Given as goal

abbrev pub invariant-loop-q : goal.invariant-loop-q
invariant-loop-q l = record {
  same_length : length l.out ≡ length l.fn.out;
  done : (k : ℕ) → k < l.q → HasTaken l.kind l.acc l.fn.out l.out k (elements_at_places l.from l.input (range_with_len (k * l.width) l.width));
  left : (k : ℕ) → l.q ≤ k → bytes_at l.acc l.out k ≡ bytes_at l.acc l.fn.out k;
}
