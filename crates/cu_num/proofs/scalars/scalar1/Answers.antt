use Rattle.std.proofs.Common.{◌≡◌, ℤ, sym, subst, ap, ◌∙◌}
use Rattle.std.proofs.lemmas.Int.{to_z-of_z}
use Rattle.std.specs.Int.{w128, cast_signed, cast_unsigned}
use Rattle.cu_num.specs.Dtype.{InRange}
use Rattle.cu_num.specs.Scalar.{op1, result_type1}
use Rattle.cu_num.proofs.Masked.{passed}
use Rattle.cu_num.proofs.ScalarRange.{InRange-op1}
use Rattle.cu_num.proofs.scalars.scalar1.Goals as goal

pub returns-clause-range : goal.returns-clause-range
returns-clause-range c =
    let P : ℤ → Type 0 = InRange (result_type1 c.args.f c.args.t) in
    let value : cast_signed w128 (cast_unsigned w128 c.value1.result) ≡ op1 c.args.f c.args.t c.args.x =
    passed c.value1.result _ (record { sfits = c.value1.type_inv }) (c.value1.ensures ∙ ap (op1 c.args.f c.args.t) (to_z-of_z w128 c.args.x c.ranges.x)) in
    subst P (sym value) (InRange-op1 c.args.f c.args.t c.args.x)
