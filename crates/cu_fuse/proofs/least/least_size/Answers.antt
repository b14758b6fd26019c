use Rattle.std.proofs.Common.{◌≡◌, ◌+◌, ◌*◌, ◌/◌, ◌%◌, ◌<◌, suc, ap, sym, ◌∙◌, arith}
use Rattle.cu_fuse.proofs.LeastSizes.{least_found, least_whole}
use Rattle.cu_fuse.proofs.least.least_size.Goals as goal

pub returns-then-size-second-eq0 : goal.returns-then-size-second-eq0
returns-then-size-second-eq0 c =
    let a = c.args in
    let k = c.loop-more.more in
    let below : k < a.all / a.first = (let b = c.loop-more-test.true in omega arith) in
    let next : k + 1 ≡ suc k = omega arith in
    let none : a.first * suc k % a.second ≡ 0 = ap (λ n. a.first * n % a.second) (sym next) ∙ c.if-size-second-eq0.true in
    ap (λ n. a.first * n) next
    ∙ sym (least_found a.all a.first a.second k c.requires.axis c.requires.first c.requires.second below c.loop-more.invariant none)

pub returns : goal.returns
returns c =
    let a = c.args in
    sym (least_whole a.all a.first a.second c.requires.axis c.requires.first c.requires.second
    (λ j b. c.loop-more.invariant j (let t = c.loop-more-test.false in omega arith)))
