-- The laws of wrapping a number to an element type.
use Rattle.std.proofs.Common.{◌≡◌, ℕ, ◌+◌, ◌-◌, ◌*◌, ◌^◌, ◌<◌, ◌↔◌, zero, suc, refl, sym, ap, ◌∙◌, arith, inl, inr, ◌⊎◌, ◌≤◌, ℤ, pos, negsuc, neg_ℤ, ◌+ℤ◌, ◌-ℤ◌, ◌*ℤ◌, ◌≤ℤ◌}
use Rattle.std.proofs.lemmas.Int.{ints}
use lib.IntN.{zero-*ℤ, *ℤ-zero}
use borrow.Author.Differences.{up, down, same_in, same_out, sum_is_lem, product_is}
use Rattle.cu_num.specs.Dtype.{bit_width, least, greatest, InRange, IsInteger}
use Rattle.cu_num.specs.Wrap.{residue, centred, truth_of, wrapped, DifferByMultiple, IsWrapOf}
use Rattle.cu_num.proofs.Residue.{Same, same_refl, same_sym, same_trans, same_add, same_mul, same_unique, same-residue, same-centred, centred_bounds, residue-lt}
use Rattle.cu_num.specs.declared.types.Dtype.{Dtype}
use Rattle.cu_num.specs.declared.types.Dtype.TheVariants.{Bool, Int8, Int16, Int32, Int64, Uint8, Uint16, Uint32, Uint64}

-- what each law on an integer type needs of it
pub record IsWrapping (t : Dtype) : Type 0 where
  pub low : (x : ℤ) → least t ≤ℤ wrapped t x
  pub high : (x : ℤ) → wrapped t x ≤ℤ greatest t
  pub same : (x : ℤ) → Same (bit_width t) (wrapped t x) x
  pub span : greatest t +ℤ pos 1 ≡ least t +ℤ pos (2 ^ bit_width t)

signed_same : (w : ℕ) (x : ℤ) → Same w (centred w (residue w x)) x
signed_same w x = same_trans w (centred w (residue w x)) (pos (residue w x)) x (same-centred w (residue w x)) (same-residue w x)

signed_low : (w half : ℕ) (low : ℤ) → low ≡ neg_ℤ (pos half) → half ≡ 2 ^ (w - 1) → 2 ^ w ≡ half + half → (x : ℤ) → low ≤ℤ centred w (residue w x)
signed_low w half low l e d x = let b = centred_bounds w (residue w x) half e d (residue-lt w x) in omega (arith, ints)

signed_high : (w half : ℕ) (high : ℤ) → high +ℤ pos 1 ≡ pos half → half ≡ 2 ^ (w - 1) → 2 ^ w ≡ half + half → (x : ℤ) → centred w (residue w x) ≤ℤ high
signed_high w half high l e d x = let b = centred_bounds w (residue w x) half e d (residue-lt w x) in omega (arith, ints)

unsigned_low : (w : ℕ) (x : ℤ) → pos 0 ≤ℤ pos (residue w x)
unsigned_low w x = omega (arith, ints)

unsigned_high : (w : ℕ) (high : ℤ) → high +ℤ pos 1 ≡ pos (2 ^ w) → (x : ℤ) → pos (residue w x) ≤ℤ high
unsigned_high w high e x = omega (arith, ints, residue-lt w x)

pub is_wrapping : (t : Dtype) → IsInteger t → IsWrapping t
unfolding wrapped
is_wrapping Bool h = absurd h
is_wrapping Int8 h = record { low = signed_low 8 (2 ^ 7) _ refl refl refl; high = signed_high 8 (2 ^ 7) _ refl refl refl; same = signed_same 8; span = refl }
is_wrapping Int16 h = record { low = signed_low 16 (2 ^ 15) _ refl refl refl; high = signed_high 16 (2 ^ 15) _ refl refl refl; same = signed_same 16; span = refl }
is_wrapping Int32 h = record { low = signed_low 32 (2 ^ 31) _ refl refl refl; high = signed_high 32 (2 ^ 31) _ refl refl refl; same = signed_same 32; span = refl }
is_wrapping Int64 h = record { low = signed_low 64 (2 ^ 63) _ refl refl refl; high = signed_high 64 (2 ^ 63) _ refl refl refl; same = signed_same 64; span = refl }
is_wrapping Uint8 h = record { low = unsigned_low 8; high = unsigned_high 8 _ refl; same = same-residue 8; span = refl }
is_wrapping Uint16 h = record { low = unsigned_low 16; high = unsigned_high 16 _ refl; same = same-residue 16; span = refl }
is_wrapping Uint32 h = record { low = unsigned_low 32; high = unsigned_high 32 _ refl; same = same-residue 32; span = refl }
is_wrapping Uint64 h = record { low = unsigned_low 64; high = unsigned_high 64 _ refl; same = same-residue 64; span = refl }

-- a number of the type that differs from x by a multiple of the modulus is x wrapped
unique : (t : Dtype) → IsInteger t → (x r : ℤ) → InRange t r → Same (bit_width t) r x → r ≡ wrapped t x
unique t h x r (low, high) s =
    let is = is_wrapping t h in
    let span = is.span in
    let p = is.low x in
    let q = is.high x in
    same_unique (bit_width t) (least t) r (wrapped t x) low (omega (arith, ints)) p (omega (arith, ints))
    (same_trans (bit_width t) r x (wrapped t x) s (same_sym (bit_width t) (wrapped t x) x (is.same x)))

-- numbers that differ by a multiple of the modulus are wrapped to one number
pub wrapped_same : (t : Dtype) → IsInteger t → (x y : ℤ) → Same (bit_width t) x y → wrapped t x ≡ wrapped t y
wrapped_same t h x y s =
    let is = is_wrapping t h in
    unique t h y (wrapped t x) (is.low x, is.high x) (same_trans (bit_width t) (wrapped t x) x y (is.same x) s)

truth_in_range : (x : ℤ) → InRange Bool (truth_of x)
truth_in_range (pos zero) = (omega (arith, ints), omega (arith, ints))
truth_in_range (pos (suc n)) = (omega (arith, ints), omega (arith, ints))
truth_in_range (negsuc n) = (omega (arith, ints), omega (arith, ints))

one : (r : ℤ) → InRange Bool r → (r ≡ pos 0 → ⊥) → r ≡ pos 1
one (pos zero) h other = absurd (other refl)
one (pos (suc n)) h other = ap pos (omega (arith, ints))
one (negsuc n) h other = absurd (omega (arith, ints))

truth_unique : (x r : ℤ) → InRange Bool r → ((r ≡ pos 0) ↔ (x ≡ pos 0)) → r ≡ truth_of x
truth_unique (pos zero) r h e = e.1 refl
truth_unique (pos (suc n)) r h e = one r h (λ zero_is. let wrong = e.0 zero_is in cc)
truth_unique (negsuc n) r h e = one r h (λ zero_is. let wrong = e.0 zero_is in cc)

-- a multiple that is known by two naturals, as the standard says it: by a whole number
differ : (w : ℕ) (x r : ℤ) → Same w r x → DifferByMultiple (2 ^ w) x r
differ w x r s =
    let k = pos s.j -ℤ pos s.k in
    let is : up k + s.k ≡ down k + s.j = omega (arith, ints) in
    let times = ap (λ u. u * 2 ^ w) is in
    let sum = s.sum in
    (k, omega (arith, same_in, same_out, sum_is_lem, product_is))

same_from : (w : ℕ) (x r : ℤ) → DifferByMultiple (2 ^ w) x r → Same w r x
same_from w x r (k, e) = record { j = up k; k = down k; sum = omega (arith, same_in, same_out, sum_is_lem, product_is) }

integer_is_wrap : (t : Dtype) → IsInteger t → (x : ℤ) → InRange t (wrapped t x) × DifferByMultiple (2 ^ bit_width t) x (wrapped t x)
integer_is_wrap t h x = let is = is_wrapping t h in ((is.low x, is.high x), differ (bit_width t) x (wrapped t x) (is.same x))

integer_unique : (t : Dtype) → IsInteger t → (x r : ℤ) → InRange t r × DifferByMultiple (2 ^ bit_width t) x r → r ≡ wrapped t x
integer_unique t h x r (range, multiple) = unique t h x r range (same_from (bit_width t) x r multiple)

truth_is_wrap : (x : ℤ) → IsWrapOf Bool x (truth_of x)
truth_is_wrap (pos zero) = (truth_in_range (pos zero), (λ e. refl, λ e. refl))
truth_is_wrap (pos (suc n)) = (truth_in_range (pos (suc n)), (λ e. cc, λ e. cc))
truth_is_wrap (negsuc n) = (truth_in_range (negsuc n), (λ e. cc, λ e. cc))

-- wrapping gives what the standard wants
pub wrapped_is_wrap : (t : Dtype) (x : ℤ) → IsWrapOf t x (wrapped t x)
unfolding wrapped
wrapped_is_wrap Bool x = truth_is_wrap x
wrapped_is_wrap Int8 x = integer_is_wrap Int8 tt x
wrapped_is_wrap Int16 x = integer_is_wrap Int16 tt x
wrapped_is_wrap Int32 x = integer_is_wrap Int32 tt x
wrapped_is_wrap Int64 x = integer_is_wrap Int64 tt x
wrapped_is_wrap Uint8 x = integer_is_wrap Uint8 tt x
wrapped_is_wrap Uint16 x = integer_is_wrap Uint16 tt x
wrapped_is_wrap Uint32 x = integer_is_wrap Uint32 tt x
wrapped_is_wrap Uint64 x = integer_is_wrap Uint64 tt x

-- and no other number is wanted
pub wrapped_unique : (t : Dtype) (x r : ℤ) → IsWrapOf t x r → r ≡ wrapped t x
unfolding wrapped
wrapped_unique Bool x r (range, zero_at) = truth_unique x r range zero_at
wrapped_unique Int8 x r h = integer_unique Int8 tt x r h
wrapped_unique Int16 x r h = integer_unique Int16 tt x r h
wrapped_unique Int32 x r h = integer_unique Int32 tt x r h
wrapped_unique Int64 x r h = integer_unique Int64 tt x r h
wrapped_unique Uint8 x r h = integer_unique Uint8 tt x r h
wrapped_unique Uint16 x r h = integer_unique Uint16 tt x r h
wrapped_unique Uint32 x r h = integer_unique Uint32 tt x r h
wrapped_unique Uint64 x r h = integer_unique Uint64 tt x r h

-- a fact of each type from that of bool and that of the integer types
pub by_class : (P : Dtype → Type 0) → P Bool → ((t : Dtype) → IsInteger t → P t) → (t : Dtype) → P t
by_class P b i Bool = b
by_class P b i Int8 = i Int8 tt
by_class P b i Int16 = i Int16 tt
by_class P b i Int32 = i Int32 tt
by_class P b i Int64 = i Int64 tt
by_class P b i Uint8 = i Uint8 tt
by_class P b i Uint16 = i Uint16 tt
by_class P b i Uint32 = i Uint32 tt
by_class P b i Uint64 = i Uint64 tt

pub bool_or_integer : (t : Dtype) → (t ≡ Bool) ⊎ IsInteger t
bool_or_integer Bool = inl refl
bool_or_integer Int8 = inr tt
bool_or_integer Int16 = inr tt
bool_or_integer Int32 = inr tt
bool_or_integer Int64 = inr tt
bool_or_integer Uint8 = inr tt
bool_or_integer Uint16 = inr tt
bool_or_integer Uint32 = inr tt
bool_or_integer Uint64 = inr tt

pub width_of-le : (t : Dtype) → bit_width t ≤ 64
width_of-le Bool = omega arith
width_of-le Int8 = omega arith
width_of-le Int16 = omega arith
width_of-le Int32 = omega arith
width_of-le Int64 = omega arith
width_of-le Uint8 = omega arith
width_of-le Uint16 = omega arith
width_of-le Uint32 = omega arith
width_of-le Uint64 = omega arith

pub InRange-wrapped : (t : Dtype) (x : ℤ) → InRange t (wrapped t x)
unfolding wrapped
InRange-wrapped t x = by_class (λ t. InRange t (wrapped t x)) (truth_in_range x) (λ t h. (integer_is_wrap t h x).0) t

-- a number of the type is wrapped to itself
pub wrapped_in_range : (t : Dtype) (x : ℤ) → InRange t x → wrapped t x ≡ x
unfolding wrapped
wrapped_in_range t x h = by_class (λ t. InRange t x → wrapped t x ≡ x)
    (λ range. sym (truth_unique x x range (λ e. e, λ e. e)))
    (λ t i range. sym (unique t i x x range (same_refl (bit_width t) x))) t h

-- wrapping twice is wrapping once
pub wrapped-wrapped : (t : Dtype) (x : ℤ) → wrapped t (wrapped t x) ≡ wrapped t x
wrapped-wrapped t x = wrapped_in_range t (wrapped t x) (InRange-wrapped t x)

-- to wrap on the way changes nothing
pub wrapped-add : (t : Dtype) (x y : ℤ) → IsInteger t → wrapped t (x +ℤ y) ≡ wrapped t (wrapped t x +ℤ wrapped t y)
wrapped-add t x y h =
    let is = is_wrapping t h in
    wrapped_same t h (x +ℤ y) (wrapped t x +ℤ wrapped t y)
    (same_add (bit_width t) x (wrapped t x) y (wrapped t y) (same_sym (bit_width t) (wrapped t x) x (is.same x)) (same_sym (bit_width t) (wrapped t y) y (is.same y)))

positive : (n : ℕ) → 0 < n → truth_of (pos n) ≡ pos 1
positive zero h = absurd (omega arith)
positive (suc n) h = refl

negative : (n : ℕ) → 0 < n → truth_of (neg_ℤ (pos n)) ≡ pos 1
negative zero h = absurd (omega arith)
negative (suc n) h = refl

truth-mul : (x y : ℤ) → truth_of (x *ℤ y) ≡ truth_of (truth_of x *ℤ truth_of y)
truth-mul (pos zero) y = ap truth_of (zero-*ℤ y) ∙ sym (ap truth_of (zero-*ℤ (truth_of y)))
truth-mul (pos (suc a)) (pos zero) = ap truth_of (*ℤ-zero (pos (suc a)))
truth-mul (pos (suc a)) (pos (suc b)) = positive (suc a * suc b) (omega arith)
truth-mul (pos (suc a)) (negsuc b) = negative (suc a * suc b) (omega arith)
truth-mul (negsuc a) (pos zero) = ap truth_of (*ℤ-zero (negsuc a))
truth-mul (negsuc a) (pos (suc b)) = negative (suc a * suc b) (omega arith)
truth-mul (negsuc a) (negsuc b) = positive (suc a * suc b) (omega arith)

pub wrapped-mul : (t : Dtype) (x y : ℤ) → wrapped t (x *ℤ y) ≡ wrapped t (wrapped t x *ℤ wrapped t y)
unfolding wrapped
wrapped-mul t x y = by_class (λ t. wrapped t (x *ℤ y) ≡ wrapped t (wrapped t x *ℤ wrapped t y)) (truth-mul x y)
    (λ t h. let is = is_wrapping t h in
    wrapped_same t h (x *ℤ y) (wrapped t x *ℤ wrapped t y)
    (same_mul (bit_width t) x (wrapped t x) y (wrapped t y) (same_sym (bit_width t) (wrapped t x) x (is.same x)) (same_sym (bit_width t) (wrapped t y) y (is.same y)))) t
