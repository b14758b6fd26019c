use Rattle.std.proofs.Common.{◌≡◌, ◌≤◌, ◌+◌, ◌-◌, ◌*◌, ◌/◌, arith, ◌∙◌, ap, sym, ◌%◌, ◌^◌, length, take}
use Rattle.std.proofs.lemmas.List.{take_all}
use Rattle.std.proofs.lemmas.Simd.{length-zip2, length-chunk}
use Rattle.std.specs.List.{sum}
use Rattle.std.specs.Simd.Lanes.{zip2, sum_l}
use Rattle.cu_lane.proofs.Blocks.{all_of_part}
use Rattle.cu_lane.proofs.Summed.{sum_more, block_more, folded}
use Rattle.cu_lane.proofs.sums.lane_sum.Goals as goal

pub loop-at-preserved : goal.loop-at-preserved
loop-at-preserved c =
    let at = c.loop-at.at in
    let xs = c.args.x.now in
    let room : at * 8 + 8 ≤ length xs = omega arith in
    let read = all_of_part xs (at * 8) (at * 8 + 8 - at * 8) (omega arith) room in
    record {
      eight = length-zip2 (λ a b. (a + b) % 2 ^ 64) c.loop-at.all _ (c.loop-at.invariant.eight ∙ sym (ap length read ∙ length-chunk (at * 8) 8 xs room)) ∙ c.loop-at.invariant.eight;
      so_far = ap (λ l. sum_l (zip2 (λ a b. (a + b) % 2 ^ 64) c.loop-at.all l) % 2 ^ 64) read ∙ block_more xs c.loop-at.all at c.loop-at.invariant.eight room c.loop-at.invariant.so_far;
    }

pub loop-k-init : goal.loop-k-init
loop-k-init c =
    let all = c.loop-at.all in
    let ends : c.loop-at.at ≡ length c.args.x.now / 8 = omega arith in
    folded all 0 (omega arith) ∙ ap (λ n. n % 2 ^ 64) (let e : 0 + sum_l all ≡ sum_l all = omega arith in e) ∙ c.loop-at.invariant.so_far ∙ ap (λ n. sum (take (n * 8) c.args.x.now) % 2 ^ 64) ends

pub loop-k-preserved : goal.loop-k-preserved
loop-k-preserved c = sum_more c.args.x.now c.loop-k.k c.loop-k.total (omega arith) c.loop-k.invariant

pub returns : goal.returns
returns c = c.loop-k.invariant ∙ ap (λ xs. sum xs % 2 ^ 64) (take_all c.loop-k.k c.args.x.now (omega arith))
