use Rattle.std.proofs.Common.{◌≡◌, ◌<◌, ◌≤◌, length, get_or, arith, ⊎_elim, below_more, ◌∙◌, sym, min}
use Rattle.std.proofs.lemmas.Bool.{cases_lt}
use Rattle.cu_lane.specs.Compared.{rank}
use Rattle.cu_lane.proofs.best.lowest.Goals as goal

pub loop-at-preserved : goal.loop-at-preserved
loop-at-preserved c =
    let at = c.loop-at.at in
    let old = c.loop-at.best in
    let own = c.rank.result in
    let is : own ≡ rank c.args.least c.args.bias (get_or c.args.x.now at 0) = c.rank.ensures in
    let new : c.min-best.result ≡ min old own = c.min-best.ensures in
    let h = c.loop-at.invariant.one in
    let there = h.2 in
    let here : at < length c.args.x.now = omega arith in
    record {
      one = ⊎_elim
          (λ less. (h.0, h.1, there ∙ (let e : old ≡ c.min-best.result = omega arith in e)))
          (λ more. (at, here, (let e : own ≡ c.min-best.result = omega arith in sym is ∙ e)))
          (cases_lt old own);
      lowest = below_more (λ k. c.min-best.result ≤ rank c.args.least c.args.bias (get_or c.args.x.now k 0)) at (λ k b. let l = c.loop-at.invariant.lowest k b in omega arith) (omega arith);
    }
