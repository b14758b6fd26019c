use Rattle.std.proofs.Common.{◌≡◌, ◌<◌, ◌+◌, ◌*◌, ℕ, length}
use Rattle.cu_kern.specs.Lays.{HasValue}
use Rattle.cu_kern.specs.Steps.{value_by_place}
use Rattle.cu_kern.proofs.run.run_blocks.Given as goal

abbrev pub invariant-loop-block : goal.invariant-loop-block
invariant-loop-block l = record {
  out_length : length l.out ≡ length l.fn.out;
  words_length : length l.words ≡ length l.fn.words;
  values : (k : ℕ) → k < 64 * l.block → k < l.range.count → HasValue l.t l.out k (value_by_place l.code l.inputs.lays.now l.inputs.ins.now l.inputs.dims.now (l.range.from + k));
}
