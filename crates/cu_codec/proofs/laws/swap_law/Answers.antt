use Rattle.cu_codec.proofs.Swapped.{swap_twice, little_reads_big, big_reads_little, big_from_little}
use Rattle.cu_codec.proofs.laws.swap_law.Goals as goal

pub returns : goal.returns
returns c = record {
  twice = swap_twice;
  little = λ t a b at swapped fits. little_reads_big t a b at at (swapped.reversed at fits);
  big = λ t a b at swapped fits. big_reads_little t a b at at (swapped.reversed at fits);
  number = big_from_little;
}
