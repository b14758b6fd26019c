use Rattle.cu_op.proofs.Ranges.{value_range, stored_range}
use Rattle.cu_op.proofs.KernelRanges.{kernel_range}
use Rattle.cu_op.proofs.laws.range_law.Goals as goal

pub returns : goal.returns
returns c = record {
  values = λ p env a idx x s typed l inside v. value_range p env s typed a idx x l inside v;
  stored = stored_range;
  kernel = kernel_range;
}
