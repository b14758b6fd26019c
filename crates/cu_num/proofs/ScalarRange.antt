-- What the elementwise functions give and accept. A function that is not named here gives a number of its arguments' type, and
-- accepts the integer types.
use Rattle.std.proofs.Common.{◌≡◌, ◌⊎◌, inl, inr, true, false, refl, ap, sym, ◌∙◌, arith, ℤ, pos, Some}
use Rattle.std.specs.Prelude.{Bool as Test}
use Rattle.std.proofs.lemmas.Int.{ints}
use Rattle.cu_num.specs.Dtype.{InRange, is_bool, is_integer}
use Rattle.cu_num.specs.Functions.{accepts2}
use Rattle.cu_num.specs.Promotion.{promotion}
use Rattle.cu_num.specs.Scalar.{op1, op2, result_type1, result_type2, truth_number}
use Rattle.cu_num.specs.Wrap.{wrapped}
use Rattle.cu_num.proofs.Promoted.{promoted_bool, promoted_integer}
use Rattle.cu_num.proofs.TypeTests.{IsInteger-is_integer, is_integer-IsInteger, bool-is_bool, is_bool-bool}
use Rattle.cu_num.proofs.Wrapped.{InRange-wrapped}
use Rattle.cu_num.specs.declared.types.Dtype.{Dtype}
use Rattle.cu_num.specs.declared.types.Dtype.TheVariants.{Bool}
use Rattle.cu_num.specs.declared.functions.Fn1.{Fn1}
use Rattle.cu_num.specs.declared.functions.Fn1.TheVariants.{LogicalNot}
use Rattle.cu_num.specs.declared.functions.Fn2.{Fn2}
use Rattle.cu_num.specs.declared.functions.Fn2.TheVariants.{BitwiseAnd, BitwiseOr, BitwiseXor, Equal, NotEqual, Less, LessEqual, Greater, GreaterEqual, LogicalAnd, LogicalOr, LogicalXor}

pub truth_number_in_range : (b : Test) → InRange Bool (truth_number b)
truth_number_in_range true = (omega (arith, ints), omega (arith, ints))
truth_number_in_range false = (omega (arith, ints), omega (arith, ints))

-- ---- what a function gives

-- Of the arguments' type it makes the type of the result and its value: a number wrapped once to the arguments' type, or a truth
-- value that doesn't depend on that type.
abbrev IsWrappedOrTruth : (Dtype → Dtype) → (Dtype → ℤ) → Type 0
IsWrappedOrTruth type value = ((t : Dtype) → (n : ℤ) × (type t ≡ t) × (value t ≡ wrapped t n)) ⊎ ((b : Test) × ((t : Dtype) → (type t ≡ Bool) × (value t ≡ truth_number b)))

gives1 : (f : Fn1) (x : ℤ) → IsWrappedOrTruth (result_type1 f) (λ t. op1 f t x)
gives1 LogicalNot x = inr (_, λ t. (refl, refl))
gives1 f x = inl (λ t. (_, refl, refl))

gives2 : (f : Fn2) (x y : ℤ) → IsWrappedOrTruth (result_type2 f) (λ t. op2 f t x y)
gives2 Equal x y = inr (_, λ t. (refl, refl))
gives2 NotEqual x y = inr (_, λ t. (refl, refl))
gives2 Less x y = inr (_, λ t. (refl, refl))
gives2 LessEqual x y = inr (_, λ t. (refl, refl))
gives2 Greater x y = inr (_, λ t. (refl, refl))
gives2 GreaterEqual x y = inr (_, λ t. (refl, refl))
gives2 LogicalAnd x y = inr (_, λ t. (refl, refl))
gives2 LogicalOr x y = inr (_, λ t. (refl, refl))
gives2 LogicalXor x y = inr (_, λ t. (refl, refl))
gives2 f x y = inl (λ t. (_, refl, refl))

value_in_range : (type : Dtype → Dtype) (value : Dtype → ℤ) (t : Dtype) → IsWrappedOrTruth type value → InRange (type t) (value t)
value_in_range type value t (inl number) = let (n, own, is) = number t in rw (own, is) (InRange-wrapped t n)
value_in_range type value t (inr (b, truth)) = rw ((truth t).0, (truth t).1) (truth_number_in_range b)

same_value : (type : Dtype → Dtype) (value : Dtype → ℤ) (t : Dtype) → IsWrappedOrTruth type value → value t ≡ value (type t)
same_value type value t (inl number) = let (n, own, is) = number t in ap value (sym own)
same_value type value t (inr (b, truth)) = (truth t).1 ∙ sym (truth (type t)).1

same_type : (type : Dtype → Dtype) (value : Dtype → ℤ) (t : Dtype) → IsWrappedOrTruth type value → type (type t) ≡ type t
same_type type value t (inl number) = let (n, own, is) = number t in ap type own
same_type type value t (inr (b, truth)) = (truth (type t)).0 ∙ sym (truth t).0

-- each value is a number of the result's type
pub InRange-op1 : (f : Fn1) (t : Dtype) (x : ℤ) → InRange (result_type1 f t) (op1 f t x)
InRange-op1 f t x = value_in_range (result_type1 f) (λ t. op1 f t x) t (gives1 f x)

pub InRange-op2 : (f : Fn2) (t : Dtype) (x y : ℤ) → InRange (result_type2 f t) (op2 f t x y)
InRange-op2 f t x y = value_in_range (result_type2 f) (λ t. op2 f t x y) t (gives2 f x y)

-- at the result's type a function has the same value, and gives the same type
pub op1-result_type1 : (f : Fn1) (t : Dtype) (x : ℤ) → op1 f t x ≡ op1 f (result_type1 f t) x
op1-result_type1 f t x = same_value (result_type1 f) (λ t. op1 f t x) t (gives1 f x)

pub op2-result_type2 : (f : Fn2) (t : Dtype) (x y : ℤ) → op2 f t x y ≡ op2 f (result_type2 f t) x y
op2-result_type2 f t x y = same_value (result_type2 f) (λ t. op2 f t x y) t (gives2 f x y)

pub result_type1-result_type1 : (f : Fn1) (t : Dtype) → result_type1 f (result_type1 f t) ≡ result_type1 f t
result_type1-result_type1 f t = same_type (result_type1 f) (λ t. op1 f t (pos 0)) t (gives1 f (pos 0))

pub result_type2-result_type2 : (f : Fn2) (t : Dtype) → result_type2 f (result_type2 f t) ≡ result_type2 f t
result_type2-result_type2 f t = same_type (result_type2 f) (λ t. op2 f t (pos 0) (pos 0)) t (gives2 f (pos 0) (pos 0))

-- ---- what a function accepts

-- all types, bools alone, or the integer types
abbrev AcceptsKind : (Dtype → Test) → Type 0
AcceptsKind accepts = ((t : Dtype) → accepts t ≡ true) ⊎ (((t : Dtype) → accepts t ≡ is_bool t) ⊎ ((t : Dtype) → accepts t ≡ is_integer t))

accepts_kind2 : (f : Fn2) → AcceptsKind (accepts2 f)
accepts_kind2 BitwiseAnd = inl (λ t. refl)
accepts_kind2 BitwiseOr = inl (λ t. refl)
accepts_kind2 BitwiseXor = inl (λ t. refl)
accepts_kind2 Equal = inl (λ t. refl)
accepts_kind2 NotEqual = inl (λ t. refl)
accepts_kind2 LogicalAnd = inr (inl (λ t. refl))
accepts_kind2 LogicalOr = inr (inl (λ t. refl))
accepts_kind2 LogicalXor = inr (inl (λ t. refl))
accepts_kind2 f = inr (inr (λ t. refl))

kind_promoted : (accepts : Dtype → Test) (a b t : Dtype) → AcceptsKind accepts → promotion a b ≡ Some t → accepts a ≡ true → accepts t ≡ true
kind_promoted accepts a b t (inl all) p h = all t
kind_promoted accepts a b t (inr (inl bools)) p h = bools t ∙ is_bool-bool t (promoted_bool a b t p (bool-is_bool a (sym (bools a) ∙ h)))
kind_promoted accepts a b t (inr (inr integers)) p h = integers t ∙ is_integer-IsInteger t (promoted_integer a b t p (IsInteger-is_integer a (sym (integers a) ∙ h)))

-- a function accepts the type to which a type that it accepts is promoted
pub accepts2-promotion : (f : Fn2) (a b t : Dtype) → promotion a b ≡ Some t → accepts2 f a ≡ true → accepts2 f t ≡ true
accepts2-promotion f a b t p h = kind_promoted (accepts2 f) a b t (accepts_kind2 f) p h
