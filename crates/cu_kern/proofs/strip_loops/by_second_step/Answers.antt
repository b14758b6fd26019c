use Rattle.std.proofs.Common.{◌≡◌, ℕ, sym, subst, arith}
use Rattle.cu_kern.specs.declared.calls.Call.TheVariants.{Two}
use Rattle.cu_kern.specs.Strips.{strip, HasResults}
use Rattle.cu_kern.proofs.strip_loops.by_second_step.Goals as goal

pub returns-else-y_step-eq0 : goal.returns-else-y_step-eq0
returns-else-y_step-eq0 c =
    let one : c.args.y_step ≡ 1 = omega (arith, c.requires.arguments.second.step, c.if-y_step-eq0.false) in
    let P : ℕ → Type 0 = λ step. HasResults (Two c.args.f c.args.t) (strip c.args.x.now c.args.x_step) (strip c.args.y.now step) (strip c.args.y.now step) c.pair_each-else-y_step-eq0.new.out in
    subst P (sym one) c.pair_each-else-y_step-eq0.ensures
