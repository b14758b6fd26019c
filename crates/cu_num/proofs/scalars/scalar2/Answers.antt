use Rattle.std.proofs.Common.{◌≡◌, ℤ, sym, subst, ◌∙◌}
use Rattle.std.proofs.lemmas.Int.{to_z-of_z}
use Rattle.std.specs.Int.{w128, cast_signed, cast_unsigned}
use Rattle.cu_num.specs.Dtype.{InRange}
use Rattle.cu_num.specs.Scalar.{op2, result_type2}
use Rattle.cu_num.proofs.Masked.{passed}
use Rattle.cu_num.proofs.ScalarRange.{InRange-op2}
use Rattle.cu_num.proofs.scalars.scalar2.Goals as goal

pub returns-clause-range : goal.returns-clause-range
returns-clause-range c =
    let P : ℤ → Type 0 = InRange (result_type2 c.args.f c.args.t) in
    let value : cast_signed w128 (cast_unsigned w128 c.value2.result) ≡ op2 c.args.f c.args.t c.args.x c.args.y =
    passed c.value2.result _ (record { sfits = c.value2.type_inv }) (c.value2.ensures ∙ (λ i. op2 c.args.f c.args.t (to_z-of_z w128 c.args.x c.ranges.x i) (to_z-of_z w128 c.args.y c.ranges.y i))) in
    subst P (sym value) (InRange-op2 c.args.f c.args.t c.args.x c.args.y)
