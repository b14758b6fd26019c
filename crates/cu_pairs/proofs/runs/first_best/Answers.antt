use Rattle.std.proofs.Common.{◌≡◌, ◌+◌, ◌-◌, ◌*◌, ◌/◌, ◌≤◌, min, length, ap, subst, arith}
use Rattle.cu_num.specs.Dtype.{size_of}
use Rattle.cu_pairs.specs.Runs.{elements, IsFirstBest}
use Rattle.cu_pairs.proofs.Parts.{elements_fit}
use Rattle.cu_pairs.proofs.Leading.{first_of_part, same_first}
use Rattle.cu_pairs.proofs.runs.first_best.Goals as goal

pub loop-block-init : goal.loop-block-init
loop-block-init c =
    let t = c.args.t in
    let bytes = c.args.bytes.now in
    let size = c.size-size.result in
    let own : size ≡ size_of t = c.size-size.ensures in
    let n = c.min-first.result in
    let is : n ≡ min 64 (length bytes / size) = omega (arith, c.min-first.ensures) in
    let long : n * size ≡ n * size_of t = ap (λ s. n * s) own in
    let room : n * size_of t ≤ length bytes = elements_fit t n size (length bytes) own (omega arith) in
    let at = c.first_best_of_block-best.result in
    let part = first_of_part c.args.least t bytes 0 n 0 (n * size) at (omega arith) long (omega arith) c.first_best_of_block-best.ensures in
    let whole = same_first c.args.least (λ j. elements t bytes (0 + j)) (elements t bytes) n at (λ j b. ap (elements t bytes) (omega arith)) part in
    subst (λ m. IsFirstBest c.args.least (elements t bytes) m at) is whole

pub returns : goal.returns
returns c =
    let t = c.args.t in
    let bytes = c.args.bytes.now in
    let size = c.size-size.result in
    let own : size ≡ size_of t = c.size-size.ensures in
    let count = length bytes / size in
    let same_count : count ≡ length bytes / size_of t = ap (λ s. length bytes / s) own in
    let from = c.max-from.result in
    let all : from + (count - from) ≡ length bytes / size_of t = omega (arith, c.max-from.ensures, c.min-first.ensures) in
    subst (λ m. IsFirstBest c.args.least (elements t bytes) m c.after_block.result) all c.after_block.ensures
