use Rattle.std.proofs.Common.{◌≡◌, ◌<◌, ℕ, suc, ◌+ℤ◌, length}
use Rattle.cu_num.specs.Dtype.{InRange}
use Rattle.cu_num.specs.Element.{element_at}
use Rattle.cu_num.specs.Wrap.{wrapped}
use Rattle.cu_num.specs.declared.layout.Endian.TheVariants.{Little}
use Rattle.cu_reduce.specs.Numbers.{HasNumber}
use Rattle.cu_reduce.specs.Prefix.{sum_below}
use Rattle.cu_scan.proofs.rows.scan_run.Given as goal

abbrev pub invariant-loop-at : goal.invariant-loop-at
invariant-loop-at l = record {
  same_length : length l.out ≡ length l.fn.out;
  range : InRange l.acc l.sum;
  so_far : l.sum ≡ wrapped l.acc (l.first +ℤ sum_below (λ k. element_at Little l.t l.input k) l.at);
  done : (j : ℕ) → j < l.at → HasNumber l.acc l.out j (l.first
      +ℤ sum_below (λ k. element_at Little l.t l.input k) (suc j));
}
