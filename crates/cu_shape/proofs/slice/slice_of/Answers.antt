use Rattle.std.proofs.Common.{◌≡◌, ap, to_z, of_z, sym, ◌∙◌, rules, refl}
use mir.Syntax.{w128, w64}
use Rattle.std.proofs.lemmas.Int.{to_z-of_z}
use Rattle.cu_shape.specs.Slice.{count_of, start_of, at_least_zero}
use Rattle.cu_shape.proofs.Runs.{taken_at}
use Rattle.cu_shape.proofs.slice.slice_of.Goals as goal
use Rattle.cu_shape.proofs.slice.slice_of.Goals.{After-div_ceil-count}

counted : (c : After-div_ceil-count) → c.div_ceil-count.result ≡ count_of c.args.start c.args.stop c.args.step c.args.n
counted c =
    let s = to_z-of_z w64 c.args.step c.ranges.step in
    let b = to_z-of_z w128 c.start_at-begin.result (search rules) in
    let e = to_z-of_z w128 c.stop_at-end.result (search rules) in
    let g = to_z-of_z w128 c.gap.result (search rules) in
    cc (c.start_at-begin.ensures.value, c.stop_at-end.ensures.value, c.gap.ensures.value, c.natural-distance.ensures, c.unsigned_abs.ensures.value, c.div_ceil-count.ensures)

pub returns-else-count-eq0-clause-count : goal.returns-else-count-eq0-clause-count
returns-else-count-eq0-clause-count c = counted c.before.before

pub returns-then-count-eq0-clause-count : goal.returns-then-count-eq0-clause-count
returns-then-count-eq0-clause-count c = counted c.before

pub returns-then-count-eq0-clause-first : goal.returns-then-count-eq0-clause-first
returns-then-count-eq0-clause-first c =
    let e : count_of c.args.start c.args.stop c.args.step c.args.n ≡ 0 = sym (counted c.before) ∙ c.if-count-eq0.true in
    rw e refl

pub returns-else-count-eq0-clause-inside : goal.returns-else-count-eq0-clause-inside
returns-else-count-eq0-clause-inside c = λ k h.
    let s = to_z-of_z w64 c.args.step c.ranges.step in
    let b = to_z-of_z w128 c.start_at-begin.result (search rules) in
    let z = c.if-step-eq0.false in
    let e : c.natural-first.result ≡ at_least_zero (start_of c.args.start c.args.step c.args.n) = cc (c.natural-first.ensures, c.start_at-begin.ensures.value) in
    taken_at c.args.start c.args.stop c.args.step c.args.n k c.natural-first.result (to_z w64 (of_z w64 c.args.step)) e s (λ q. z (ap (of_z w64) q)) (rw (← counted c.before.before) h)
