use Rattle.cu_fuse.proofs.CopyRules.{joins_met, joins_of}
use Rattle.cu_fuse.proofs.LeastSizes.{least_common}
use Rattle.cu_fuse.proofs.copy_laws.joining_law.Goals as goal

pub returns : goal.returns
returns c = record {
  rule = λ s maker reader behind a. (joins_of s maker reader behind a, joins_met s maker reader behind a);
  multiple = least_common;
}
