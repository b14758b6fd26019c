use Rattle.std.proofs.Common.{◌≡◌, ◌≤◌, ◌<◌, ◌+◌, ◌-◌, ◌*◌, ℕ, min, length, take, drop, get_or, sym, subst, arith}
use Rattle.cu_lane.specs.Compared.{rank}
use Rattle.cu_lane.specs.Folds.{IsLowest}
use Rattle.cu_lane.proofs.Blocks.{length_part}
use Rattle.cu_lane.proofs.Lowest.{IsLeading, leading_none, leading_more, leading_kept, first_found, part_rank}
use Rattle.cu_lane.proofs.best.first_lowest.Goals as goal
use Rattle.cu_lane.proofs.best.first_lowest.Goals.{then-value-best, else-value-best}

pub loop-block-init : goal.loop-block-init
loop-block-init c =
    let ranks = λ (k : ℕ). rank c.args.least c.args.bias (get_or c.args.x.now k 0) in
    subst (λ s. IsLeading ranks (length c.args.x.now) s 0 c.rank-best.result) (let e : 0 ≡ min (0 * 256) (length c.args.x.now) = omega arith in e)
    (leading_none ranks (length c.args.x.now) c.rank-best.result c.requires.some c.rank-best.ensures)

pub loop-block-preserved : goal.loop-block-preserved
loop-block-preserved c =
    let xs = c.args.x.now in
    let count = length xs in
    let ranks = λ (k : ℕ). rank c.args.least c.args.bias (get_or xs k 0) in
    let block = c.loop-block.block in
    let from = block * 256 in
    let end = c.min.result in
    let n = end - from in
    let before : from < count = omega (arith, c.loop-block-test.true, c.div_ceil-block-end.ensures) in
    let ends : end ≡ min (from + 256) count = c.min.ensures in
    let seen : min from count ≡ from = omega arith in
    let all : from + n ≡ min ((block + 1) * 256) count = omega arith in
    let long : length (take n (drop from xs)) ≡ n = length_part xs from n (omega arith) in
    let value = c.lowest-value.result in
    let part = λ (k : ℕ). rank c.args.least c.args.bias (get_or (take n (drop from xs)) k 0) in
    let own : IsLowest part n value = subst (λ m. IsLowest part m value) long c.lowest-value.ensures in
    let at = λ (j : ℕ) (b : j < n). part_rank c.args.least c.args.bias xs from n j b in
    let led : IsLeading ranks count from c.loop-block.start c.loop-block.best = subst (λ s. IsLeading ranks count s c.loop-block.start c.loop-block.best) seen c.loop-block.invariant in
    let room : from + n ≤ count = omega arith in
    let Goal = λ (s : ℕ) (r : ℕ). IsLeading ranks count (min ((block + 1) * 256) count) s r in
    elim c.if-value-best.branch [
      | then-value-best w ↦
          subst (λ s. Goal s c.if-value-best.best) (sym w.start-is) (subst (λ r. Goal from r) (sym w.best-is)
          (subst (λ s. IsLeading ranks count s from value) all (leading_more ranks part count from n c.loop-block.start c.loop-block.best value led own at room w.if-value-best.true)))
      | else-value-best w ↦
          subst (λ s. Goal s c.if-value-best.best) (sym w.start-is) (subst (λ r. Goal c.loop-block.start r) (sym w.best-is)
          (subst (λ s. IsLeading ranks count s c.loop-block.start c.loop-block.best) all (leading_kept ranks part count from n c.loop-block.start c.loop-block.best value led own at w.if-value-best.false)))
    ]

pub returns : goal.returns
returns c =
    let xs = c.args.x.now in
    let count = length xs in
    let ranks = λ (k : ℕ). rank c.args.least c.args.bias (get_or xs k 0) in
    let start = c.loop-block.start in
    let best = c.loop-block.best in
    let n = count - start in
    let rest = λ (k : ℕ). rank c.args.least c.args.bias (get_or (take n (drop start xs)) k 0) in
    let all : min (c.loop-block.block * 256) count ≡ count = omega (arith, c.loop-block-test.false, c.div_ceil-block-end.ensures) in
    let led : IsLeading ranks count count start best = subst (λ s. IsLeading ranks count s start best) all c.loop-block.invariant in
    let near = led.after in
    let within = led.inside in
    let long : length (take n (drop start xs)) ≡ n = length_part xs start n (omega arith) in
    first_found ranks rest count start best c.position.result led
    (λ j b. part_rank c.args.least c.args.bias xs start n j (omega arith))
    c.position.ensures.before
    (λ b. c.position.ensures.found (omega arith))
