use Rattle.std.proofs.Common.{◌≡◌, ◌++◌, [], ◌∷◌, ap, ◌∙◌, rules}
use mir.Syntax.{w64}
use Rattle.std.proofs.lemmas.Int.{to_z-of_z}
use Rattle.cu_lower_view.specs.Axes.{shift_along}
use Rattle.cu_lower_view.proofs.Loops.{each_more, one_longer}
use Rattle.cu_lower_view.proofs.axes.shifts_along.Goals as goal

pub loop-axis-preserved : goal.loop-axis-preserved
loop-axis-preserved c =
    let whole = to_z-of_z w64 c.shift_along.result (search rules) in
    let pushed : c.push.new.self.items ≡ c.loop-axis.each.items ++ c.shift_along.result ∷ [] = c.push.ensures.items ∙ ap (λ x. c.loop-axis.each.items ++ x ∷ []) whole in
    record {
      count = one_longer _ _ _ _ c.loop-axis.invariant.count pushed;
      whole = each_more (shift_along c.args.rank c.args.shifts.now c.args.numbers.now) _ _ _ _ c.loop-axis.axis c.args.rank c.loop-axis-test.true c.loop-axis.invariant.whole c.shift_along.ensures pushed;
    }
