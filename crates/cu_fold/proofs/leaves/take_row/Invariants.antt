use Rattle.std.proofs.Common.{◌≡◌, ◌<◌, ◌≤◌, ℕ, [], ◌∷◌, length}
use Rattle.cu_num.specs.Element.{bytes_at}
use Rattle.cu_take.specs.Taken.{HasTaken, elements_at_places}
use Rattle.cu_fold.proofs.leaves.take_row.Given as goal

abbrev pub invariant-loop-at : goal.invariant-loop-at
invariant-loop-at l = record {
  same_length : length l.out ≡ length l.fn.out;
  done : (q : ℕ) → q < l.at → HasTaken l.kind l.acc l.fn.out l.out q (elements_at_places l.from l.input (q ∷ []));
  left : (q : ℕ) → l.at ≤ q → bytes_at l.acc l.out q ≡ bytes_at l.acc l.fn.out q;
}
