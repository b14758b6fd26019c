use Rattle.std.proofs.Common.{◌≡◌, ◌+◌, ◌*◌, ◌/◌, ◌%◌, ◌^◌, ◌<◌, arith, ap, ◌∙◌, refl}
use Rattle.std.proofs.Math.Nat.{mod-eq_of_lt}
use Rattle.std.proofs.lemmas.Nat.{pow_below, pow-add}
use Rattle.cu_kern.proofs.SameQuotient.{rounded_up}
use Rattle.cu_kern.proofs.reciprocals.reciprocal_of.Goals as goal

pub returns-clause-exact : goal.returns-clause-exact
returns-clause-exact c =
    let d = c.from-own.result in
    let shift = c.saturating_sub-shift.result in
    let fits : shift < 32 = omega (arith, c.saturating_sub-shift.ensures) in
    let less : 2 ^ (32 + shift) < 2 ^ 64 = pow_below (32 + shift) 64 (omega (arith, fits)) in
    let whole : 1 * 2 ^ (32 + shift) % 2 ^ 64 ≡ 2 ^ 32 * 2 ^ shift = mod-eq_of_lt (omega (arith, less)) ∙ omega arith ∙ pow-add 2 32 shift in
    let some : 0 < d = omega (arith, c.if-divisor-lt2.false, c.from-own.ensures) in
    record {
      some = omega (arith, c.if-divisor-lt2.false);
      shift_fits = fits;
      quotient = λ u b. rounded_up d shift _ _ _ u some whole refl refl c.if-excess-power.false b ∙ ap (λ n. u / n) c.from-own.ensures;
    }
