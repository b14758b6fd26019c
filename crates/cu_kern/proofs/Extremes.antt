-- The first of two numbers where a comparison holds, else the second, is the least of them, or the greatest.
use Rattle.std.proofs.Common.{◌≡◌, ℤ, true, false, refl, ◌∙◌, arith, if◌then◌else◌}
use Rattle.std.specs.Prelude.{Bool as Test, int_lt, int_le}
use Rattle.std.specs.Int.{int_min, int_max}
use Rattle.std.proofs.lemmas.Int.{ints, int_min_is, int_max_is}
use Rattle.cu_num.specs.Scalar.{truth_number}
use Rattle.cu_num.specs.declared.functions.Fn2.TheVariants.{Less, LessEqual, Greater, GreaterEqual}
use Rattle.cu_op.specs.Kernel.{selected}
use Rattle.cu_kern.specs.Rows.{IsExtreme}

chosen : (b : Test) (x y : ℤ) → selected (truth_number b) x y ≡ (if b then x else y)
chosen true x y = refl
chosen false x y = refl

least_below : (b : Test) (x y : ℤ) → int_lt x y ≡ b → (if b then x else y) ≡ int_min x y
least_below true x y e = grind (arith, ints, int_min_is x y)
least_below false x y e = grind (arith, ints, int_min_is x y)

least_within : (b : Test) (x y : ℤ) → int_le x y ≡ b → (if b then x else y) ≡ int_min x y
least_within true x y e = grind (arith, ints, int_min_is x y)
least_within false x y e = grind (arith, ints, int_min_is x y)

greatest_above : (b : Test) (x y : ℤ) → int_lt y x ≡ b → (if b then x else y) ≡ int_max x y
greatest_above true x y e = grind (arith, ints, int_max_is x y)
greatest_above false x y e = grind (arith, ints, int_max_is x y)

greatest_from : (b : Test) (x y : ℤ) → int_le y x ≡ b → (if b then x else y) ≡ int_max x y
greatest_from true x y e = grind (arith, ints, int_max_is x y)
greatest_from false x y e = grind (arith, ints, int_max_is x y)

pub by_less : IsExtreme true Less
by_less t x y = chosen (int_lt x y) x y ∙ least_below (int_lt x y) x y refl

pub by_less_equal : IsExtreme true LessEqual
by_less_equal t x y = chosen (int_le x y) x y ∙ least_within (int_le x y) x y refl

pub by_greater : IsExtreme false Greater
by_greater t x y = chosen (int_lt y x) x y ∙ greatest_above (int_lt y x) x y refl

pub by_greater_equal : IsExtreme false GreaterEqual
by_greater_equal t x y = chosen (int_le y x) x y ∙ greatest_from (int_le y x) x y refl
