use Rattle.std.proofs.Common.{◌≡◌, ℕ, sym, subst, arith}
use Rattle.cu_kern.specs.declared.calls.Call.TheVariants.{Two}
use Rattle.cu_kern.specs.Strips.{strip, HasResults}
use Rattle.cu_kern.proofs.strip_loops.by_first_step.Goals as goal

pub returns-else-x_step-eq0 : goal.returns-else-x_step-eq0
returns-else-x_step-eq0 c =
    let one : c.args.x_step ≡ 1 = omega (arith, c.requires.arguments.first.step, c.if-x_step-eq0.false) in
    let P : ℕ → Type 0 = λ step. HasResults (Two c.args.f c.args.t) (strip c.args.x.now step) (strip c.args.y.now c.args.y_step) (strip c.args.y.now c.args.y_step) c.by_second_step-else-x_step-eq0.new.out in
    subst P (sym one) c.by_second_step-else-x_step-eq0.ensures
