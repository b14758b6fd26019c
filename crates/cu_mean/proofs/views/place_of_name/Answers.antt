use Rattle.std.proofs.Common.{◌≡◌, ◌==◌, true, get_or, pos, sym, arith, rules}
use Rattle.std.proofs.lemmas.List.Sums.{position_or_len_is}
use Rattle.cu_semantics.specs.Index.{axis_in}
use Rattle.cu_mean.proofs.views.place_of_name.Goals as goal

pub returns-then-names : goal.returns-then-names
returns-then-names c =
    let t : (axis_in c.args.rank (get_or c.args.axes.now c.loop-place.place (pos 0)) == c.args.axis) ≡ true = search rules in
    sym (position_or_len_is (λ number. axis_in c.args.rank number == c.args.axis) c.args.axes.now c.loop-place.place (pos 0) (omega arith) c.loop-place.invariant (λ lt. t))

pub returns : goal.returns
returns c = sym (position_or_len_is (λ number. axis_in c.args.rank number == c.args.axis) c.args.axes.now _ (pos 0) (omega arith) (λ k lt. c.loop-place.invariant k (omega arith)) (λ lt. absurd (omega arith)))
