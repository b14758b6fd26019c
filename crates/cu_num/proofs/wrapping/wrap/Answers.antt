use Rattle.std.proofs.Common.{◌≡◌, ℤ, sym, subst, ap, ◌∙◌}
use Rattle.std.proofs.lemmas.Int.{to_z-of_z}
use Rattle.std.specs.Int.{w128, cast_signed, cast_unsigned}
use Rattle.cu_num.specs.Dtype.{InRange}
use Rattle.cu_num.specs.Wrap.{wrapped, IsWrapOf}
use Rattle.cu_num.proofs.Masked.{passed}
use Rattle.cu_num.proofs.Wrapped.{wrapped_is_wrap, InRange-wrapped}
use Rattle.cu_num.proofs.wrapping.wrap.Goals as goal

-- the answer is the number wrapped
value : (c : goal.After-wrap_by_type) → cast_signed w128 (cast_unsigned w128 c.wrap_by_type.result) ≡ wrapped c.args.t c.args.x
value c = passed c.wrap_by_type.result _ (record { sfits = c.wrap_by_type.type_inv }) (c.wrap_by_type.ensures ∙ ap (wrapped c.args.t) (to_z-of_z w128 c.args.x c.ranges.x))

pub returns-clause-congruent : goal.returns-clause-congruent
returns-clause-congruent c = let P : ℤ → Type 0 = IsWrapOf c.args.t c.args.x in subst P (sym (value c)) (wrapped_is_wrap c.args.t c.args.x)

pub returns-clause-range : goal.returns-clause-range
returns-clause-range c = let P : ℤ → Type 0 = InRange c.args.t in subst P (sym (value c)) (InRange-wrapped c.args.t c.args.x)
