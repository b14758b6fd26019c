-- A type that has the numbers of another of its kind is what the two are promoted to.
use Rattle.std.proofs.Common.{◌≡◌, ℤ, Some, refl, ap, ◌∙◌, sym, subst, arith, inl, inr}
use Rattle.std.proofs.lemmas.Int.{ints}
use Rattle.cu_num.specs.Dtype.{least, greatest, InRange, IsInteger}
use Rattle.cu_num.specs.Promotion.{promotion}
use Rattle.cu_num.specs.declared.types.Dtype.{Dtype}
use Rattle.cu_num.specs.declared.types.Dtype.TheVariants.{Bool, Int8, Int16, Int32, Int64, Uint8, Uint16, Uint32, Uint64}
use Rattle.cu_num.proofs.Promoted.{promotion_apart, first_in_range, second_in_range, both_bools}

least_in : (t : Dtype) → InRange t (least t)
least_in Bool = (omega (arith, ints), omega (arith, ints))
least_in Int8 = (omega (arith, ints), omega (arith, ints))
least_in Int16 = (omega (arith, ints), omega (arith, ints))
least_in Int32 = (omega (arith, ints), omega (arith, ints))
least_in Int64 = (omega (arith, ints), omega (arith, ints))
least_in Uint8 = (omega (arith, ints), omega (arith, ints))
least_in Uint16 = (omega (arith, ints), omega (arith, ints))
least_in Uint32 = (omega (arith, ints), omega (arith, ints))
least_in Uint64 = (omega (arith, ints), omega (arith, ints))

greatest_in : (t : Dtype) → InRange t (greatest t)
greatest_in Bool = (omega (arith, ints), omega (arith, ints))
greatest_in Int8 = (omega (arith, ints), omega (arith, ints))
greatest_in Int16 = (omega (arith, ints), omega (arith, ints))
greatest_in Int32 = (omega (arith, ints), omega (arith, ints))
greatest_in Int64 = (omega (arith, ints), omega (arith, ints))
greatest_in Uint8 = (omega (arith, ints), omega (arith, ints))
greatest_in Uint16 = (omega (arith, ints), omega (arith, ints))
greatest_in Uint32 = (omega (arith, ints), omega (arith, ints))
greatest_in Uint64 = (omega (arith, ints), omega (arith, ints))

-- two integer types
wide : (a t : Dtype) → IsInteger a → IsInteger t → ((x : ℤ) → InRange a x → InRange t x) → promotion a t ≡ Some t
unfolding promotion
wide a Bool g i h = absurd i
wide Bool t g i h = absurd g
wide Int8 Int8 g i h = refl
wide Int8 Int16 g i h = refl
wide Int8 Int32 g i h = refl
wide Int8 Int64 g i h = refl
wide Int8 Uint8 g i h = absurd (let r = (h (least Int8) (least_in Int8)).0 in omega (arith, ints))
wide Int8 Uint16 g i h = absurd (let r = (h (least Int8) (least_in Int8)).0 in omega (arith, ints))
wide Int8 Uint32 g i h = absurd (let r = (h (least Int8) (least_in Int8)).0 in omega (arith, ints))
wide Int8 Uint64 g i h = absurd (let r = (h (least Int8) (least_in Int8)).0 in omega (arith, ints))
wide Int16 Int8 g i h = absurd (let r = (h (greatest Int16) (greatest_in Int16)).1 in omega (arith, ints))
wide Int16 Int16 g i h = refl
wide Int16 Int32 g i h = refl
wide Int16 Int64 g i h = refl
wide Int16 Uint8 g i h = absurd (let r = (h (greatest Int16) (greatest_in Int16)).1 in omega (arith, ints))
wide Int16 Uint16 g i h = absurd (let r = (h (least Int16) (least_in Int16)).0 in omega (arith, ints))
wide Int16 Uint32 g i h = absurd (let r = (h (least Int16) (least_in Int16)).0 in omega (arith, ints))
wide Int16 Uint64 g i h = absurd (let r = (h (least Int16) (least_in Int16)).0 in omega (arith, ints))
wide Int32 Int8 g i h = absurd (let r = (h (greatest Int32) (greatest_in Int32)).1 in omega (arith, ints))
wide Int32 Int16 g i h = absurd (let r = (h (greatest Int32) (greatest_in Int32)).1 in omega (arith, ints))
wide Int32 Int32 g i h = refl
wide Int32 Int64 g i h = refl
wide Int32 Uint8 g i h = absurd (let r = (h (greatest Int32) (greatest_in Int32)).1 in omega (arith, ints))
wide Int32 Uint16 g i h = absurd (let r = (h (greatest Int32) (greatest_in Int32)).1 in omega (arith, ints))
wide Int32 Uint32 g i h = absurd (let r = (h (least Int32) (least_in Int32)).0 in omega (arith, ints))
wide Int32 Uint64 g i h = absurd (let r = (h (least Int32) (least_in Int32)).0 in omega (arith, ints))
wide Int64 Int8 g i h = absurd (let r = (h (greatest Int64) (greatest_in Int64)).1 in omega (arith, ints))
wide Int64 Int16 g i h = absurd (let r = (h (greatest Int64) (greatest_in Int64)).1 in omega (arith, ints))
wide Int64 Int32 g i h = absurd (let r = (h (greatest Int64) (greatest_in Int64)).1 in omega (arith, ints))
wide Int64 Int64 g i h = refl
wide Int64 Uint8 g i h = absurd (let r = (h (greatest Int64) (greatest_in Int64)).1 in omega (arith, ints))
wide Int64 Uint16 g i h = absurd (let r = (h (greatest Int64) (greatest_in Int64)).1 in omega (arith, ints))
wide Int64 Uint32 g i h = absurd (let r = (h (greatest Int64) (greatest_in Int64)).1 in omega (arith, ints))
wide Int64 Uint64 g i h = absurd (let r = (h (least Int64) (least_in Int64)).0 in omega (arith, ints))
wide Uint8 Int8 g i h = absurd (let r = (h (greatest Uint8) (greatest_in Uint8)).1 in omega (arith, ints))
wide Uint8 Int16 g i h = refl
wide Uint8 Int32 g i h = refl
wide Uint8 Int64 g i h = refl
wide Uint8 Uint8 g i h = refl
wide Uint8 Uint16 g i h = refl
wide Uint8 Uint32 g i h = refl
wide Uint8 Uint64 g i h = refl
wide Uint16 Int8 g i h = absurd (let r = (h (greatest Uint16) (greatest_in Uint16)).1 in omega (arith, ints))
wide Uint16 Int16 g i h = absurd (let r = (h (greatest Uint16) (greatest_in Uint16)).1 in omega (arith, ints))
wide Uint16 Int32 g i h = refl
wide Uint16 Int64 g i h = refl
wide Uint16 Uint8 g i h = absurd (let r = (h (greatest Uint16) (greatest_in Uint16)).1 in omega (arith, ints))
wide Uint16 Uint16 g i h = refl
wide Uint16 Uint32 g i h = refl
wide Uint16 Uint64 g i h = refl
wide Uint32 Int8 g i h = absurd (let r = (h (greatest Uint32) (greatest_in Uint32)).1 in omega (arith, ints))
wide Uint32 Int16 g i h = absurd (let r = (h (greatest Uint32) (greatest_in Uint32)).1 in omega (arith, ints))
wide Uint32 Int32 g i h = absurd (let r = (h (greatest Uint32) (greatest_in Uint32)).1 in omega (arith, ints))
wide Uint32 Int64 g i h = refl
wide Uint32 Uint8 g i h = absurd (let r = (h (greatest Uint32) (greatest_in Uint32)).1 in omega (arith, ints))
wide Uint32 Uint16 g i h = absurd (let r = (h (greatest Uint32) (greatest_in Uint32)).1 in omega (arith, ints))
wide Uint32 Uint32 g i h = refl
wide Uint32 Uint64 g i h = refl
wide Uint64 Int8 g i h = absurd (let r = (h (greatest Uint64) (greatest_in Uint64)).1 in omega (arith, ints))
wide Uint64 Int16 g i h = absurd (let r = (h (greatest Uint64) (greatest_in Uint64)).1 in omega (arith, ints))
wide Uint64 Int32 g i h = absurd (let r = (h (greatest Uint64) (greatest_in Uint64)).1 in omega (arith, ints))
wide Uint64 Int64 g i h = absurd (let r = (h (greatest Uint64) (greatest_in Uint64)).1 in omega (arith, ints))
wide Uint64 Uint8 g i h = absurd (let r = (h (greatest Uint64) (greatest_in Uint64)).1 in omega (arith, ints))
wide Uint64 Uint16 g i h = absurd (let r = (h (greatest Uint64) (greatest_in Uint64)).1 in omega (arith, ints))
wide Uint64 Uint32 g i h = absurd (let r = (h (greatest Uint64) (greatest_in Uint64)).1 in omega (arith, ints))
wide Uint64 Uint64 g i h = refl

no_integer : (t : Dtype) → t ≡ Bool → IsInteger t → ⊥
no_integer t e h = let P : Dtype → Type 0 = λ u. IsInteger u in subst P e h

-- what two types are promoted to, promoted further
pub promoted_on : (a b p t : Dtype) → promotion a b ≡ Some p → promotion p t ≡ Some t → (promotion a t ≡ Some t) × (promotion b t ≡ Some t)
promoted_on a b p t e f =
    elim (promotion_apart a b p e) [
      | inl x ↦ elim (promotion_apart p t t f) [
        | inl y ↦ (both_bools a t x.0 y.2 ∙ ap (λ (u : Dtype). Some u) (sym y.2), both_bools b t x.1 y.2 ∙ ap (λ (u : Dtype). Some u) (sym y.2))
        | inr y ↦ absurd (no_integer p x.2 y.0)
      ]
      | inr x ↦ elim (promotion_apart p t t f) [
        | inl y ↦ absurd (no_integer p y.0 x.2)
        | inr y ↦ (
          wide a t x.0 y.1 (λ z r. first_in_range p t t f z (first_in_range a b p e z r)),
          wide b t x.1 y.1 (λ z r. first_in_range p t t f z (second_in_range a b p e z r)),
        )
      ]
    ]
