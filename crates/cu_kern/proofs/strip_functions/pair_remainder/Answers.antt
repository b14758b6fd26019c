use Rattle.std.proofs.Common.{◌≡◌, ℕ, refl, sym, subst, arith}
use Rattle.cu_num.specs.declared.functions.Fn2.TheVariants.{Remainder}
use Rattle.cu_kern.specs.declared.calls.Call.TheVariants.{Two}
use Rattle.cu_kern.specs.Strips.{strip, HasResults}
use Rattle.cu_kern.proofs.strip_functions.pair_remainder.Goals as goal

pub returns-then-divide_by_type : goal.returns-then-divide_by_type
returns-then-divide_by_type c =
    let one : c.args.x_step ≡ 1 = omega (arith, c.requires.arguments.first.step, c.if-x_step-ne0.true) in
    let none : c.args.y_step ≡ 0 = c.if-y_step-eq0.true in
    let P : ℕ → Type 0 = λ step. HasResults (Two Remainder c.args.t) (strip c.args.x.now step) (strip c.args.y.now 0) (strip c.args.y.now 0) c.divide_by_type.new.out in
    let Q : ℕ → Type 0 = λ step. HasResults (Two Remainder c.args.t) (strip c.args.x.now c.args.x_step) (strip c.args.y.now step) (strip c.args.y.now step) c.divide_by_type.new.out in
    subst Q (sym none) (subst P (sym one) (c.if-divide_by_type.ensures refl))
