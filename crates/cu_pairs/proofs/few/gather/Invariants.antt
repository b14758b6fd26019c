use Rattle.std.proofs.Common.{◌≡◌, ◌+◌, ◌*◌, ◌<◌, ℕ, length}
use Rattle.cu_num.specs.Dtype.{size_of}
use Rattle.cu_pairs.specs.Columns.{column_of}
use Rattle.cu_pairs.specs.Runs.{elements}
use Rattle.cu_pairs.proofs.few.gather.Given as goal

abbrev pub invariant-loop-j : goal.invariant-loop-j
invariant-loop-j l = record {
  same_length : length l.own ≡ l.count * size_of l.t;
  done : (k : ℕ) → k < l.j → elements l.t l.own k ≡ column_of l.t l.rows.width l.rows.bytes.now l.column (l.from + k);
}
