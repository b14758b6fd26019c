use Rattle.std.proofs.Common.{◌≡◌, ◌<◌, ◌≤◌, ◌-◌, ◌%◌, ℕ, length}
use Rattle.cu_num.specs.Element.{bytes_at}
use Rattle.cu_kern.proofs.fills.repeat.Given as goal

abbrev pub invariant-loop-done : goal.invariant-loop-done
invariant-loop-done l = record {
  begun : l.first ≤ l.done;
  within : l.done ≤ l.all;
  out_length : length l.out ≡ length l.fn.out;
  whole : l.done < l.all → l.done % l.first ≡ 0;
  values : (k : ℕ) → k < l.done → bytes_at l.fn.t l.out k ≡ bytes_at l.fn.t l.fn.out (k % l.first);
}

abbrev pub decreases-loop-done : goal.decreases-loop-done
decreases-loop-done l = l.all - l.done
