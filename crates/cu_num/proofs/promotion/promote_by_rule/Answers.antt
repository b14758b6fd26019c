use Rattle.std.proofs.Common.{◌≡◌, ◌↔◌, true, false, refl, sym, IsTrue}
use Rattle.cu_num.specs.declared.types.Dtype.{Dtype}
use Rattle.cu_num.specs.declared.types.Dtype.TheVariants.{Bool}
use Rattle.cu_num.proofs.Promoted.{both_bools, first_bool, second_bool}
use Rattle.cu_num.proofs.promotion.promote_by_rule.Goals as goal

yes_bool : (t : Dtype) → (IsTrue true ↔ (t ≡ Bool)) → t ≡ Bool
yes_bool t h = h.0 refl

other : (t : Dtype) → (IsTrue false ↔ (t ≡ Bool)) → t ≡ Bool → ⊥
other t h is = let wrong : IsTrue false = h.1 is in cc

pub returns-in-true-true : goal.returns-in-true-true
returns-in-true-true c = sym (both_bools c.args.a c.args.b (yes_bool c.args.a c.in-true-true.ensures) (yes_bool c.args.b c.in-true-true.ensures'))

pub returns-in-true-false : goal.returns-in-true-false
returns-in-true-false c = sym (first_bool c.args.a c.args.b (yes_bool c.args.a c.in-true-false.ensures) (other c.args.b c.in-true-false.ensures'))

pub returns-in-false-true : goal.returns-in-false-true
returns-in-false-true c = sym (second_bool c.args.a c.args.b (other c.args.a c.in-false-true.ensures) (yes_bool c.args.b c.in-false-true.ensures'))
