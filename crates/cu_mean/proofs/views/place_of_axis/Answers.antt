use Rattle.std.proofs.Common.{◌≡◌, true, get_or, pos, sym, arith, rules}
use Rattle.std.specs.Ordering.{int_eq}
use Rattle.std.proofs.lemmas.List.Sums.{position_or_len_is}
use Rattle.cu_mean.proofs.views.place_of_axis.Goals as goal

pub returns-then-is_axis-clause-place : goal.returns-then-is_axis-clause-place
returns-then-is_axis-clause-place c =
    let t : int_eq (get_or c.args.axes.now c.loop-place.place (pos 0)) (pos c.args.axis) ≡ true = search rules in
    sym (position_or_len_is (λ number. int_eq number (pos c.args.axis)) c.args.axes.now c.loop-place.place (pos 0) (omega arith) c.loop-place.invariant (λ lt. t))

pub returns-clause-place : goal.returns-clause-place
returns-clause-place c = sym (position_or_len_is (λ number. int_eq number (pos c.args.axis)) c.args.axes.now _ (pos 0) (omega arith) (λ k lt. c.loop-place.invariant k (omega arith)) (λ lt. absurd (omega arith)))
