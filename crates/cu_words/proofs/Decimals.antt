-- What `parse` reads as a `u64`, in the words of the command line.
use Rattle.std.proofs.Common.{◌≡◌, ℕ, ◌≤◌, Bool, true, false, ◌&&◌, cond, List, length, Some, None, nat_lt, nat_le, refl, ap, arith}
use Rattle.std.specs.Str.{all_ascii_digits}
use Rattle.std.specs.Str.Parse.{IsNumeral, without_leading_plus, digits_value}
use Rattle.std.proofs.lemmas.Bool.{and_from, and_parts, le-leb, leb-true, lt-ltb, ltb-true}
use Rattle.std.proofs.lemmas.Str.Parse.{IsNumeralModel, numerals_by_value, tells_all_ascii_digits}
use Rattle.cu_words.specs.Words.{is_decimal_number, number_between}

numerals : IsNumeralModel (λ ds. all_ascii_digits ds ≡ true) (digits_value 10)
numerals = numerals_by_value _ tells_all_ascii_digits

test_from_numeral : (ds : List ℕ) → IsNumeral 10 ds → (nat_lt 0 (length ds) && all_ascii_digits ds) ≡ true
test_from_numeral ds h = and_from _ _ (lt-ltb 0 (length ds) h.0) (numerals.from ds h.1)

numeral_from_test : (ds : List ℕ) → (nat_lt 0 (length ds) && all_ascii_digits ds) ≡ true → IsNumeral 10 ds
numeral_from_test ds e = let parts = and_parts (nat_lt 0 (length ds)) (all_ascii_digits ds) e in (ltb-true 0 (length ds) parts.0, numerals.to ds parts.1)

some_where : (b : Bool) (n v : ℕ) → b ≡ true → n ≡ v → Some n ≡ cond b (Some v) None
some_where true n v e same = ap Some same
some_where false n v e same = cc

none_where : (b : Bool) (v : ℕ) → (b ≡ true → ⊥) → None ≡ cond b (Some v) None
none_where true v refuted = absurd (refuted refl)
none_where false v refuted = refl

pub number_read : (least most : ℕ) (text : List ℕ) (n : ℕ) → IsNumeral 10 (without_leading_plus text) → n ≡ digits_value 10 (without_leading_plus text) → least ≤ n → n ≤ most
    → Some n ≡ number_between least most text
number_read least most text n numeral is above below =
    let low : least ≤ digits_value 10 (without_leading_plus text) = omega (arith, is, above) in
    let high : digits_value 10 (without_leading_plus text) ≤ most = omega (arith, is, below) in
    some_where _ n _ (and_from _ _ (test_from_numeral _ numeral) (and_from _ _ (le-leb _ _ low) (le-leb _ _ high))) is

pub number_refused : (least most : ℕ) (text : List ℕ) → (IsNumeral 10 (without_leading_plus text) → least ≤ digits_value 10 (without_leading_plus text) → digits_value 10 (without_leading_plus text) ≤ most → ⊥)
    → None ≡ number_between least most text
number_refused least most text refuted = none_where _ _ (λ e.
    let parts = and_parts (is_decimal_number text) _ e in
    let range = and_parts (nat_le least (digits_value 10 (without_leading_plus text))) _ parts.1 in
    refuted (numeral_from_test _ parts.0) (leb-true _ _ range.0) (leb-true _ _ range.1))
