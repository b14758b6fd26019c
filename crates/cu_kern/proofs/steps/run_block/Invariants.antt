use Rattle.std.proofs.Common.{◌≡◌, length}
use Rattle.cu_kern.proofs.Running.{Running, block_of}
use Rattle.cu_kern.proofs.steps.run_block.Given as goal

abbrev pub invariant-loop-number : goal.invariant-loop-number
invariant-loop-number l = record {
  same_length : length l.words ≡ length l.fn.words;
  running : Running (block_of l.code l.inputs.lays.now l.t l.inputs.dims.now l.inputs.ins.now l.from l.count) l.words l.number;
}
