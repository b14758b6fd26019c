use Rattle.std.proofs.Common.{◌≡◌, ◌≤◌, ◌+◌, ◌-◌, length, List, ℕ, ℤ, sym, ap, ◌∙◌, subst}
use Rattle.cu_num.specs.Dtype.{size_of}
use Rattle.cu_num.specs.Scalar.{result_type2}
use Rattle.cu_kern.specs.declared.calls.Call.TheVariants.{Two}
use Rattle.cu_kern.specs.Strips.{strip, value_along, HasPart}
use Rattle.cu_kern.proofs.StripResults.{part_more}
use Rattle.cu_kern.proofs.strips.put_sixteen.Goals as goal

pub returns : goal.returns
returns c =
    let call = Two c.args.f c.args.t in
    let x = strip c.args.x.now 1 in
    let y = strip c.args.y.now c.args.y_step in
    let value : ℕ → ℤ = value_along call x y y in
    let from = c.args.from in
    let out = c.args.out.now in
    let part = c.write.new.place in
    let fits : from + 16 ≤ length out = c.requires.room in
    let long : length part ≡ 16 = ap length c.write.ensures ∙ c.gather.ensures.len in
    let P : List ℕ → Type 0 = HasPart call x y y from in
    let new : P part = subst P (sym c.write.ensures) c.gather.ensures.values in
    part_more (result_type2 c.args.f c.args.t) value out part from 16 (from + 16 - from) (ap size_of c.requires.truth) long fits c.requires.done new
