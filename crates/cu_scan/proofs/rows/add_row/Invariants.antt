use Rattle.std.proofs.Common.{◌≡◌, ◌<◌, ℕ, ◌+ℤ◌, length}
use Rattle.cu_num.specs.Element.{element_at}
use Rattle.cu_num.specs.declared.layout.Endian.TheVariants.{Little}
use Rattle.cu_reduce.specs.Numbers.{HasNumber}
use Rattle.cu_scan.proofs.rows.add_row.Given as goal

abbrev pub invariant-loop-at : goal.invariant-loop-at
invariant-loop-at l = record {
  same_length : length l.out ≡ length l.fn.out;
  done : (q : ℕ) → q < l.at → HasNumber l.acc l.out q (element_at Little l.acc l.before q
      +ℤ element_at Little l.t l.input q);
}
