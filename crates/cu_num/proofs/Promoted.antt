-- The laws of type promotion.
use Rattle.std.proofs.Common.{◌≡◌, ℕ, ◌-◌, ◌*◌, ◌^◌, ◌<◌, ◌≤◌, max, ◌+ℤ◌, true, false, nat_lt, nat_eq, IsTrue, IsNone, IfSome, ◌↔◌, cond, refl, sym, ap, ◌∙◌, subst, arith, ℤ, pos, neg_ℤ, Option, Some, None, inl, inr, ⊎_elim, ◌⊎◌}
use Rattle.std.proofs.lemmas.Int.{ints}
use Rattle.std.proofs.lemmas.Bool.{cases_lt, cases_Bool}
use Rattle.std.proofs.Math.Nat.{pow-le-pow_right, max_comm}
use borrow.Author.Tests.{eqb-true, ltb-true, ltb-false}
use Rattle.std.specs.Prelude.{Bool as Test}
use Rattle.cu_num.specs.Dtype.{size_of, bit_width, is_signed, least, greatest, InRange, IsInteger}
use Rattle.cu_num.specs.Promotion.{Kind, Truth, Signed, Unsigned, kind_of_type, signed_type, unsigned_type, mixed_type, promotion_of_kinds, promotion, HasNoPromotion}
use Rattle.cu_num.proofs.Wrapped.{bool_or_integer}
use Rattle.cu_num.proofs.ElementBytes.{width_is}
use Rattle.cu_num.specs.declared.types.Dtype.{Dtype}
use Rattle.cu_num.specs.declared.types.Dtype.TheVariants.{Bool, Int8, Int16, Int32, Int64, Uint8, Uint16, Uint32, Uint64}

-- ---- a type by its kind

signed_kind : (t : Dtype) → is_signed t ≡ true → kind_of_type t ≡ Signed (bit_width t)
signed_kind Bool e = cc
signed_kind Int8 e = refl
signed_kind Int16 e = refl
signed_kind Int32 e = refl
signed_kind Int64 e = refl
signed_kind Uint8 e = cc
signed_kind Uint16 e = cc
signed_kind Uint32 e = cc
signed_kind Uint64 e = cc

unsigned_kind : (t : Dtype) → IsInteger t → is_signed t ≡ false → kind_of_type t ≡ Unsigned (bit_width t)
unsigned_kind Bool h e = absurd h
unsigned_kind Int8 h e = cc
unsigned_kind Int16 h e = cc
unsigned_kind Int32 h e = cc
unsigned_kind Int64 h e = cc
unsigned_kind Uint8 h e = refl
unsigned_kind Uint16 h e = refl
unsigned_kind Uint32 h e = refl
unsigned_kind Uint64 h e = refl

signed_back : (t : Dtype) → is_signed t ≡ true → signed_type (bit_width t) ≡ Some t
signed_back Bool e = cc
signed_back Int8 e = refl
signed_back Int16 e = refl
signed_back Int32 e = refl
signed_back Int64 e = refl
signed_back Uint8 e = cc
signed_back Uint16 e = cc
signed_back Uint32 e = cc
signed_back Uint64 e = cc

unsigned_back : (t : Dtype) → IsInteger t → is_signed t ≡ false → unsigned_type (bit_width t) ≡ Some t
unsigned_back Bool h e = absurd h
unsigned_back Int8 h e = cc
unsigned_back Int16 h e = cc
unsigned_back Int32 h e = cc
unsigned_back Int64 h e = cc
unsigned_back Uint8 h e = refl
unsigned_back Uint16 h e = refl
unsigned_back Uint32 h e = refl
unsigned_back Uint64 h e = refl

-- ---- the rule, by the signs

of_kinds : (a b : Dtype) (k l : Kind) → kind_of_type a ≡ k → kind_of_type b ≡ l → promotion a b ≡ promotion_of_kinds k l
unfolding promotion
of_kinds a b k l p q = ap (λ x. promotion_of_kinds x (kind_of_type b)) p ∙ ap (promotion_of_kinds k) q

both_signed : (a b : Dtype) → is_signed a ≡ true → is_signed b ≡ true → promotion a b ≡ signed_type (max (bit_width a) (bit_width b))
both_signed a b p q = of_kinds a b _ _ (signed_kind a p) (signed_kind b q)

both_unsigned : (a b : Dtype) → IsInteger a → IsInteger b → is_signed a ≡ false → is_signed b ≡ false → promotion a b ≡ unsigned_type (max (bit_width a) (bit_width b))
both_unsigned a b g h p q = of_kinds a b _ _ (unsigned_kind a g p) (unsigned_kind b h q)

pub signed_first : (a b : Dtype) → IsInteger b → is_signed a ≡ true → is_signed b ≡ false → promotion a b ≡ mixed_type (bit_width a) (bit_width b)
signed_first a b h p q = of_kinds a b _ _ (signed_kind a p) (unsigned_kind b h q)

pub signed_second : (a b : Dtype) → IsInteger a → is_signed a ≡ false → is_signed b ≡ true → promotion a b ≡ mixed_type (bit_width b) (bit_width a)
signed_second a b h p q = of_kinds a b _ _ (unsigned_kind a h p) (signed_kind b q)

-- r is the wider of a and b
pub wider_signed : (a b r : Dtype) → IsInteger a → IsInteger b → is_signed a ≡ true → is_signed b ≡ true → (size_of b ≤ size_of a → r ≡ a) → (size_of a < size_of b → r ≡ b) → Some r ≡ promotion a b
wider_signed a b r g h p q first second = ⊎_elim
    (λ less. ap Some (second less) ∙ sym (both_signed a b p q ∙ ap signed_type (let e : max (bit_width a) (bit_width b) ≡ bit_width b = omega (arith, width_is a g, width_is b h) in e) ∙ signed_back b q))
    (λ more. ap Some (first more) ∙ sym (both_signed a b p q ∙ ap signed_type (let e : max (bit_width a) (bit_width b) ≡ bit_width a = omega (arith, width_is a g, width_is b h) in e) ∙ signed_back a p))
    (cases_lt (size_of a) (size_of b))

pub wider_unsigned : (a b r : Dtype) → IsInteger a → IsInteger b → is_signed a ≡ false → is_signed b ≡ false → (size_of b ≤ size_of a → r ≡ a) → (size_of a < size_of b → r ≡ b) → Some r ≡ promotion a b
wider_unsigned a b r g h p q first second = ⊎_elim
    (λ less. ap Some (second less) ∙ sym (both_unsigned a b g h p q ∙ ap unsigned_type (let e : max (bit_width a) (bit_width b) ≡ bit_width b = omega (arith, width_is a g, width_is b h) in e) ∙ unsigned_back b h q))
    (λ more. ap Some (first more) ∙ sym (both_unsigned a b g h p q ∙ ap unsigned_type (let e : max (bit_width a) (bit_width b) ≡ bit_width a = omega (arith, width_is a g, width_is b h) in e) ∙ unsigned_back a g p))
    (cases_lt (size_of a) (size_of b))

-- ---- the types that the rule makes

-- a choice that gives a type gives one of its two
chosen : (b : Test) (first t : Dtype) (rest : Option Dtype) → cond b (Some first) rest ≡ Some t → ((b ≡ true) × (first ≡ t)) ⊎ (rest ≡ Some t)
chosen true first t rest e = inl (refl, cc)
chosen false first t rest e = inr e

signed_made : (w : ℕ) (t : Dtype) → signed_type w ≡ Some t → (is_signed t ≡ true) × (bit_width t ≡ w)
signed_made w t e = from Int8 8 refl refl _ e (λ e. from Int16 16 refl refl _ e (λ e. from Int32 32 refl refl _ e (λ e. from Int64 64 refl refl _ e (λ e. cc))))
  where
    from : (u : Dtype) (n : ℕ) → is_signed u ≡ true → bit_width u ≡ n → (rest : Option Dtype) → cond (nat_eq w n) (Some u) rest ≡ Some t → (rest ≡ Some t → (is_signed t ≡ true) × (bit_width t ≡ w)) → (is_signed t ≡ true) × (bit_width t ≡ w)
    from u n s m rest e other = ⊎_elim
        (λ (same, is). let number = eqb-true w n same in (sym (ap is_signed is) ∙ s, sym (ap bit_width is) ∙ m ∙ sym number))
        other
        (chosen (nat_eq w n) u t rest e)

unsigned_made : (w : ℕ) (t : Dtype) → unsigned_type w ≡ Some t → (IsInteger t × (is_signed t ≡ false)) × (bit_width t ≡ w)
unsigned_made w t e = from Uint8 8 tt refl refl _ e (λ e. from Uint16 16 tt refl refl _ e (λ e. from Uint32 32 tt refl refl _ e (λ e. from Uint64 64 tt refl refl _ e (λ e. cc))))
  where
    from : (u : Dtype) (n : ℕ) → IsInteger u → is_signed u ≡ false → bit_width u ≡ n → (rest : Option Dtype) → cond (nat_eq w n) (Some u) rest ≡ Some t
        → (rest ≡ Some t → (IsInteger t × (is_signed t ≡ false)) × (bit_width t ≡ w)) → (IsInteger t × (is_signed t ≡ false)) × (bit_width t ≡ w)
    from u n i s m rest e other = ⊎_elim
        (λ (same, is). let number = eqb-true w n same in ((subst IsInteger is i, sym (ap is_signed is) ∙ s), sym (ap bit_width is) ∙ m ∙ sym number))
        other
        (chosen (nat_eq w n) u t rest e)

-- ---- the numbers of an argument are numbers of the promoted type

signed_bounds : (t : Dtype) → is_signed t ≡ true → (least t ≡ neg_ℤ (pos (2 ^ (bit_width t - 1)))) × (greatest t +ℤ pos 1 ≡ pos (2 ^ (bit_width t - 1)))
signed_bounds Bool e = cc
signed_bounds Int8 e = (refl, refl)
signed_bounds Int16 e = (refl, refl)
signed_bounds Int32 e = (refl, refl)
signed_bounds Int64 e = (refl, refl)
signed_bounds Uint8 e = cc
signed_bounds Uint16 e = cc
signed_bounds Uint32 e = cc
signed_bounds Uint64 e = cc

unsigned_bounds : (t : Dtype) → IsInteger t → is_signed t ≡ false → (least t ≡ pos 0) × (greatest t +ℤ pos 1 ≡ pos (2 ^ bit_width t))
unsigned_bounds Bool h e = absurd h
unsigned_bounds Int8 h e = cc
unsigned_bounds Int16 h e = cc
unsigned_bounds Int32 h e = cc
unsigned_bounds Int64 h e = cc
unsigned_bounds Uint8 h e = (refl, refl)
unsigned_bounds Uint16 h e = (refl, refl)
unsigned_bounds Uint32 h e = (refl, refl)
unsigned_bounds Uint64 h e = (refl, refl)

within_signed : (a t : Dtype) → is_signed a ≡ true → is_signed t ≡ true → bit_width a ≤ bit_width t → (x : ℤ) → InRange a x → InRange t x
within_signed a t p q h x (low, high) =
    let power = pow-le-pow_right {n = 2} (omega arith) (let less : bit_width a - 1 ≤ bit_width t - 1 = omega arith in less) in
    let from = signed_bounds a p in
    let to = signed_bounds t q in
    (omega (arith, ints), omega (arith, ints))

within_unsigned : (a t : Dtype) → IsInteger a → is_signed a ≡ false → IsInteger t → is_signed t ≡ false → bit_width a ≤ bit_width t → (x : ℤ) → InRange a x → InRange t x
within_unsigned a t g p i q h x (low, high) =
    let power = pow-le-pow_right {n = 2} (omega arith) h in
    let from = unsigned_bounds a g p in
    let to = unsigned_bounds t i q in
    (omega (arith, ints), omega (arith, ints))

within_mixed : (a t : Dtype) → IsInteger a → is_signed a ≡ false → is_signed t ≡ true → bit_width a < bit_width t → (x : ℤ) → InRange a x → InRange t x
within_mixed a t g p q h x (low, high) =
    let power = pow-le-pow_right {n = 2} (omega arith) (let less : bit_width a ≤ bit_width t - 1 = omega arith in less) in
    let from = unsigned_bounds a g p in
    let to = signed_bounds t q in
    (omega (arith, ints), omega (arith, ints))

-- ---- cases on two types

pub by_sign : {P : Type 0} (t : Dtype) → (is_signed t ≡ true → P) → (is_signed t ≡ false → P) → P
by_sign t signed unsigned = ⊎_elim signed unsigned (cases_Bool (is_signed t))

bool_first : (b : Dtype) → IsInteger b → promotion Bool b ≡ None
bool_first b h = by_sign b (λ p. of_kinds Bool b Truth _ refl (signed_kind b p)) (λ p. of_kinds Bool b Truth _ refl (unsigned_kind b h p))

bool_second : (a : Dtype) → IsInteger a → promotion a Bool ≡ None
bool_second a h = by_sign a (λ p. of_kinds a Bool _ Truth (signed_kind a p) refl) (λ p. of_kinds a Bool _ Truth (unsigned_kind a h p) refl)

-- no signed type holds the numbers of uint64
too_wide : (t : Dtype) → is_signed t ≡ true → mixed_type (bit_width t) 64 ≡ None
too_wide Bool e = cc
too_wide Int8 e = refl
too_wide Int16 e = refl
too_wide Int32 e = refl
too_wide Int64 e = refl
too_wide Uint8 e = cc
too_wide Uint16 e = cc
too_wide Uint32 e = cc
too_wide Uint64 e = cc

some : (a : Dtype) (u : ℕ) (t : Dtype) → is_signed a ≡ true → signed_type (2 * u) ≡ Some t → mixed_type (bit_width a) u ≡ None → ⊥
some a u t p is e = by (nat_lt u (bit_width a)) e
  where
    by : (b : Test) → signed_type (cond b (bit_width a) (2 * u)) ≡ None → ⊥
    by true none = let back = signed_back a p in cc
    by false none = cc

bools_some : (a b : Dtype) → a ≡ Bool → b ≡ Bool → promotion a b ≡ None → ⊥
unfolding promotion
bools_some a b p q e = let is : promotion Bool Bool ≡ None = ap (λ t. promotion t Bool) (sym p) ∙ ap (promotion a) (sym q) ∙ e in cc

signed_some : (a b : Dtype) → IsInteger a → IsInteger b → is_signed a ≡ true → is_signed b ≡ true → promotion a b ≡ None → ⊥
signed_some a b g h p q e = ⊎_elim
    (λ less. let is = wider_signed a b b g h p q (λ more. absurd (omega arith)) (λ l. refl) in cc)
    (λ more. let is = wider_signed a b a g h p q (λ l. refl) (λ less. absurd (omega arith)) in cc)
    (cases_lt (size_of a) (size_of b))

unsigned_some : (a b : Dtype) → IsInteger a → IsInteger b → is_signed a ≡ false → is_signed b ≡ false → promotion a b ≡ None → ⊥
unsigned_some a b g h p q e = ⊎_elim
    (λ less. let is = wider_unsigned a b b g h p q (λ more. absurd (omega arith)) (λ l. refl) in cc)
    (λ more. let is = wider_unsigned a b a g h p q (λ l. refl) (λ less. absurd (omega arith)) in cc)
    (cases_lt (size_of a) (size_of b))

-- what the rule makes of a signed type of s bits and an unsigned type of u bits
abbrev MadeOf : ℕ → ℕ → Dtype → Type 0
MadeOf s u t = (is_signed t ≡ true) × (((u < s) × (bit_width t ≡ s)) ⊎ ((s ≤ u) × (bit_width t ≡ 2 * u)))

mixed_made : (s u : ℕ) (t : Dtype) → mixed_type s u ≡ Some t → MadeOf s u t
mixed_made s u t e = by (nat_lt u s) refl e
  where
    by : (b : Test) → nat_lt u s ≡ b → signed_type (cond b s (2 * u)) ≡ Some t → MadeOf s u t
    by true less e = let is = signed_made s t e in (is.0, inl (ltb-true u s less, is.1))
    by false more e = let is = signed_made (2 * u) t e in (is.0, inr (ltb-false u s more, is.1))

size_pos : (t : Dtype) → 0 < size_of t
size_pos Bool = omega arith
size_pos Int8 = omega arith
size_pos Int16 = omega arith
size_pos Int32 = omega arith
size_pos Int64 = omega arith
size_pos Uint8 = omega arith
size_pos Uint16 = omega arith
size_pos Uint32 = omega arith
size_pos Uint64 = omega arith

pub promotion_comm : (a b : Dtype) → promotion a b ≡ promotion b a
unfolding promotion
promotion_comm a b = of (kind_of_type a) (kind_of_type b)
  where
    of : (k l : Kind) → promotion_of_kinds k l ≡ promotion_of_kinds l k
    of Truth Truth = refl
    of Truth (Signed w) = refl
    of Truth (Unsigned w) = refl
    of (Signed w) Truth = refl
    of (Signed s) (Signed w) = ap signed_type (max_comm s w)
    of (Signed s) (Unsigned u) = refl
    of (Unsigned w) Truth = refl
    of (Unsigned u) (Signed s) = refl
    of (Unsigned u) (Unsigned w) = ap unsigned_type (max_comm u w)

-- each narrower unsigned type has one
not_too_wide : (a b : Dtype) → is_signed a ≡ true → IsInteger b → is_signed b ≡ false → mixed_type (bit_width a) (bit_width b) ≡ None → b ≡ Uint64
not_too_wide a Bool p h q e = absurd h
not_too_wide a Int8 p h q e = cc
not_too_wide a Int16 p h q e = cc
not_too_wide a Int32 p h q e = cc
not_too_wide a Int64 p h q e = cc
not_too_wide a Uint8 p h q e = absurd (some a 8 Int16 p refl e)
not_too_wide a Uint16 p h q e = absurd (some a 16 Int32 p refl e)
not_too_wide a Uint32 p h q e = absurd (some a 32 Int64 p refl e)
not_too_wide a Uint64 p h q e = refl

-- ---- the refused pairs

pub refused_none : (a b : Dtype) → HasNoPromotion a b → promotion a b ≡ None
refused_none a b h = ⊎_elim
    (λ (is, other). ap (λ t. promotion t b) is ∙ bool_first b other)
    (λ h. ⊎_elim
    (λ (other, is). ap (promotion a) is ∙ bool_second a other)
    (λ h. ⊎_elim
    (λ (is, sign). ap (λ t. promotion t b) is ∙ signed_second Uint64 b tt refl sign ∙ too_wide b sign)
    (λ (sign, is). ap (promotion a) is ∙ signed_first a Uint64 tt sign refl ∙ too_wide a sign)
    h)
    h)
    h

-- two integer types with no promotion
integers_refused : (a b : Dtype) → IsInteger a → IsInteger b → promotion a b ≡ None → ((a ≡ Uint64) × IsTrue (is_signed b)) ⊎ (IsTrue (is_signed a) × (b ≡ Uint64))
integers_refused a b g h e = by_sign a
    (λ p. by_sign b
    (λ q. absurd (signed_some a b g h p q e))
    (λ q. inr (p, not_too_wide a b p h q (sym (signed_first a b h p q) ∙ e))))
    (λ p. by_sign b
    (λ q. inl (not_too_wide b a q g p (sym (signed_second a b g p q) ∙ e), q))
    (λ q. absurd (unsigned_some a b g h p q e)))

pub none_refused : (a b : Dtype) → promotion a b ≡ None → HasNoPromotion a b
none_refused a b e = ⊎_elim
    (λ is. ⊎_elim
    (λ other. absurd (bools_some a b is other e))
    (λ h. inl (is, h))
    (bool_or_integer b))
    (λ g. ⊎_elim
    (λ other. inr (inl (g, other)))
    (λ h. inr (inr (integers_refused a b g h e)))
    (bool_or_integer b))
    (bool_or_integer a)

-- ---- the range of the promoted type

first_integer_in_range : (a b t : Dtype) → IsInteger a → IsInteger b → promotion a b ≡ Some t → (x : ℤ) → InRange a x → InRange t x
first_integer_in_range a b t g h e x r = by_sign a
    (λ p. by_sign b
    (λ q.
    let is : (is_signed t ≡ true) × (bit_width t ≡ max (bit_width a) (bit_width b)) = signed_made (max (bit_width a) (bit_width b)) t (sym (both_signed a b p q) ∙ e) in
    within_signed a t p is.0 (omega arith) x r)
    (λ q.
    let is : MadeOf (bit_width a) (bit_width b) t = mixed_made (bit_width a) (bit_width b) t (sym (signed_first a b h p q) ∙ e) in
    within_signed a t p is.0 (⊎_elim (λ l. omega arith) (λ l. omega arith) is.1) x r))
    (λ p. by_sign b
    (λ q.
    let is : MadeOf (bit_width b) (bit_width a) t = mixed_made (bit_width b) (bit_width a) t (sym (signed_second a b g p q) ∙ e) in
    within_mixed a t g p is.0 (⊎_elim (λ l. omega arith) (λ l. omega (arith, width_is a g, size_pos a)) is.1) x r)
    (λ q.
    let is : (IsInteger t × (is_signed t ≡ false)) × (bit_width t ≡ max (bit_width a) (bit_width b)) = unsigned_made (max (bit_width a) (bit_width b)) t (sym (both_unsigned a b g h p q) ∙ e) in
    within_unsigned a t g p is.0.0 is.0.1 (omega arith) x r))

bools : (t : Dtype) → promotion Bool Bool ≡ Some t → Bool ≡ t
unfolding promotion
bools t e = cc

bool_in_range : (a b t : Dtype) → a ≡ Bool → promotion a b ≡ Some t → a ≡ t
bool_in_range a b t is e = ⊎_elim
    (λ other. let both : promotion Bool Bool ≡ Some t = ap (λ t. promotion t Bool) (sym is) ∙ ap (promotion a) (sym other) ∙ e in is ∙ bools t both)
    (λ h. let none : promotion a b ≡ None = ap (λ t. promotion t b) is ∙ bool_first b h in cc)
    (bool_or_integer b)

pub first_in_range : (a b t : Dtype) → promotion a b ≡ Some t → (x : ℤ) → InRange a x → InRange t x
first_in_range a b t e x r = ⊎_elim
    (λ is. let P : Dtype → Type 0 = λ u. InRange u x in subst P (bool_in_range a b t is e) r)
    (λ g. ⊎_elim
    (λ other. let none : promotion a b ≡ None = ap (promotion a) other ∙ bool_second a g in cc)
    (λ h. first_integer_in_range a b t g h e x r)
    (bool_or_integer b))
    (bool_or_integer a)

pub second_in_range : (a b t : Dtype) → promotion a b ≡ Some t → (x : ℤ) → InRange b x → InRange t x
second_in_range a b t e x r = first_in_range b a t (promotion_comm b a ∙ e) x r

-- an answer that is the promotion has both arguments' numbers
pub IfSome-in_range : (a b : Dtype) (r : Option Dtype) → r ≡ promotion a b → IfSome r (λ t. (x : ℤ) → InRange a x → InRange t x) × IfSome r (λ t. (x : ℤ) → InRange b x → InRange t x)
IfSome-in_range a b (Some t) e = (first_in_range a b t (sym e), second_in_range a b t (sym e))
IfSome-in_range a b None e = (tt, tt)

pub IsNone-refused : (a b : Dtype) (r : Option Dtype) → r ≡ promotion a b → IsNone r ↔ HasNoPromotion a b
IsNone-refused a b r e = (λ none. none_refused a b (sym e ∙ none_is r none), λ h. is_none r (e ∙ refused_none a b h))
  where
    none_is : (r : Option Dtype) → IsNone r → r ≡ None
    none_is (Some t) h = cc
    none_is None h = refl

    is_none : (r : Option Dtype) → r ≡ None → IsNone r
    is_none (Some t) h = cc
    is_none None h = refl

-- ---- the same by what is known to be a bool, and what is known to be none

pub not_bool : (t : Dtype) → (t ≡ Bool → ⊥) → IsInteger t
not_bool t other = ⊎_elim (λ is. absurd (other is)) (λ h. h) (bool_or_integer t)

pub both_bools : (a b : Dtype) → a ≡ Bool → b ≡ Bool → promotion a b ≡ Some Bool
unfolding promotion
both_bools a b p q = ap (λ t. promotion t b) p ∙ ap (promotion Bool) q

pub first_bool : (a b : Dtype) → a ≡ Bool → (b ≡ Bool → ⊥) → promotion a b ≡ None
first_bool a b is other = ap (λ t. promotion t b) is ∙ bool_first b (not_bool b other)

pub second_bool : (a b : Dtype) → (a ≡ Bool → ⊥) → b ≡ Bool → promotion a b ≡ None
second_bool a b other is = ap (promotion a) is ∙ bool_second a (not_bool a other)

pub promotion_same : (t : Dtype) → promotion t t ≡ Some t
unfolding promotion
promotion_same Bool = refl
promotion_same Int8 = refl
promotion_same Int16 = refl
promotion_same Int32 = refl
promotion_same Int64 = refl
promotion_same Uint8 = refl
promotion_same Uint16 = refl
promotion_same Uint32 = refl
promotion_same Uint64 = refl

-- ---- bools and integers stay apart

two_inside : (a : Dtype) → IsInteger a → InRange a (pos 2)
two_inside Bool h = absurd h
two_inside Int8 h = (omega (arith, ints), omega (arith, ints))
two_inside Int16 h = (omega (arith, ints), omega (arith, ints))
two_inside Int32 h = (omega (arith, ints), omega (arith, ints))
two_inside Int64 h = (omega (arith, ints), omega (arith, ints))
two_inside Uint8 h = (omega (arith, ints), omega (arith, ints))
two_inside Uint16 h = (omega (arith, ints), omega (arith, ints))
two_inside Uint32 h = (omega (arith, ints), omega (arith, ints))
two_inside Uint64 h = (omega (arith, ints), omega (arith, ints))

no_two : (t : Dtype) → t ≡ Bool → InRange t (pos 2) → ⊥
no_two t is h = let P : Dtype → Type 0 = λ u. InRange u (pos 2) in let range = subst P is h in absurd (omega (arith, ints))

-- all three are bools, or all three are integers
pub promotion_apart : (a b t : Dtype) → promotion a b ≡ Some t → ((a ≡ Bool) × (b ≡ Bool) × (t ≡ Bool)) ⊎ (IsInteger a × IsInteger b × IsInteger t)
promotion_apart a b t e = ⊎_elim
    (λ is. ⊎_elim
    (λ other. inl (is, other, sym (bool_in_range a b t is e) ∙ is))
    (λ h. let none : promotion a b ≡ None = ap (λ t. promotion t b) is ∙ bool_first b h in cc)
    (bool_or_integer b))
    (λ g. ⊎_elim
    (λ other. let none : promotion a b ≡ None = ap (promotion a) other ∙ bool_second a g in cc)
    (λ h. inr (g, h, not_bool t (λ is. no_two t is (first_in_range a b t e (pos 2) (two_inside a g)))))
    (bool_or_integer b))
    (bool_or_integer a)

-- a bool is promoted to bool alone, and an integer type to an integer type
pub promoted_bool : (a b t : Dtype) → promotion a b ≡ Some t → a ≡ Bool → t ≡ Bool
promoted_bool a b t e is = ⊎_elim (λ (p, q, r). r) (λ (g, h, i). absurd (subst IsInteger is g)) (promotion_apart a b t e)

pub promoted_integer : (a b t : Dtype) → promotion a b ≡ Some t → IsInteger a → IsInteger t
promoted_integer a b t e g = ⊎_elim (λ (p, q, r). absurd (subst IsInteger p g)) (λ (g, h, i). i) (promotion_apart a b t e)
