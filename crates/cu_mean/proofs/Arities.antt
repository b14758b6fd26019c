-- How many arguments an elementwise function takes.
use Rattle.std.proofs.Common.{◌≡◌, ◌≢◌, ◌<◌, ◌≤◌, ℕ, ℤ, pos, List, [], ◌∷◌, length, map, get_or, refl, arith}
use Rattle.cu_num.specs.declared.types.Dtype.{Dtype}
use Rattle.cu_form.specs.declared.args.Arg.{Arg}
use Rattle.cu_node.specs.declared.element_op.ElementOp.{ElementOp}
use Rattle.cu_semantics.specs.Rule.{function_value}

abbrev pub arity : ElementOp → ℕ
arity (ElementOp.One f) = 1
arity (ElementOp.Two f) = 2
arity ElementOp.Where = 3
arity (ElementOp.Astype t) = 1
arity (ElementOp.Extreme least) = 2
arity (ElementOp.Clip min max) = 1

-- with another number of arguments it gives 0
pub other_arity : (op : ElementOp) (t : Dtype) (value : Arg → ℤ) (args : List Arg) → length args ≢ arity op → pos 0 ≡ function_value op t (map value args)
other_arity (ElementOp.One f) t value (x ∷ []) other = absurd (other refl)
other_arity (ElementOp.Two f) t value (x ∷ y ∷ []) other = absurd (other refl)
other_arity ElementOp.Where t value (x ∷ y ∷ z ∷ []) other = absurd (other refl)
other_arity (ElementOp.Astype d) t value (x ∷ []) other = absurd (other refl)
other_arity (ElementOp.Extreme least) t value (x ∷ y ∷ []) other = absurd (other refl)
other_arity (ElementOp.Clip min max) t value (x ∷ []) other = absurd (other refl)
other_arity op t value args other = refl

-- ---- the arguments of a list of so many

pub one_listed : {X : Type 0} (xs : List X) (d : X) → 1 ≤ length xs → length xs < 2 → xs ≡ get_or xs 0 d ∷ []
one_listed [] d least most = absurd (omega arith)
one_listed (x ∷ []) d least most = refl
one_listed (x ∷ y ∷ xs) d least most = absurd (omega arith)

pub two_listed : {X : Type 0} (xs : List X) (d : X) → 2 ≤ length xs → length xs < 3 → xs ≡ get_or xs 0 d ∷ get_or xs 1 d ∷ []
two_listed [] d least most = absurd (omega arith)
two_listed (x ∷ []) d least most = absurd (omega arith)
two_listed (x ∷ y ∷ []) d least most = refl
two_listed (x ∷ y ∷ z ∷ xs) d least most = absurd (omega arith)

pub three_listed : {X : Type 0} (xs : List X) (d : X) → 3 ≤ length xs → length xs < 4 → xs ≡ get_or xs 0 d ∷ get_or xs 1 d ∷ get_or xs 2 d ∷ []
three_listed [] d least most = absurd (omega arith)
three_listed (x ∷ []) d least most = absurd (omega arith)
three_listed (x ∷ y ∷ []) d least most = absurd (omega arith)
three_listed (x ∷ y ∷ z ∷ []) d least most = refl
three_listed (x ∷ y ∷ z ∷ w ∷ xs) d least most = absurd (omega arith)
