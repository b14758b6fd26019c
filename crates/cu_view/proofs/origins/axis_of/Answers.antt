use Rattle.std.proofs.Common.{◌≡◌, ℕ, ◌==◌, ◌<◌, Bool, true, false, length, get_or, sym, ◌∙◌, arith, eq-eqb}
use Rattle.std.proofs.lemmas.Grind.{get_or_default_zero}
use Rattle.std.proofs.lemmas.List.Sums.{position_or_len_is}
use Rattle.cu_view.proofs.origins.axis_of.Goals as goal

pub returns-then-axes-at-clause-place : goal.returns-then-axes-at-clause-place
returns-then-axes-at-clause-place c =
    sym (position_or_len_is (λ (a : ℕ). a == c.args.axis) c.args.axes.now c.loop-at.at 0 (omega arith) c.loop-at.invariant (λ l. eq-eqb _ c.args.axis c.if-axes-at.true))

true_false : {P : Type 0} (b : Bool) → b ≡ true → b ≡ false → P
true_false true h g = cc
true_false false h g = cc

pub returns-clause-place : goal.returns-clause-place
returns-clause-place c =
    let h = c.requires.has in
    let l : h.0 < length c.args.axes.now = h.1 in
    true_false (get_or c.args.axes.now h.0 0 == c.args.axis) (eq-eqb _ c.args.axis (sym (get_or_default_zero c.args.axes.now h.0 c.args.axis l) ∙ h.2)) (c.loop-at.invariant h.0 (omega arith))
