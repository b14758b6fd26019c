-- A number is written digit by digit.
use Rattle.std.proofs.Common.{◌≡◌, ℕ, ◌+◌, ◌/◌, ◌%◌, ◌^◌, ◌<◌, ◌≤◌, List, ◌++◌, [], ◌∷◌, length, decimal, sym, ap, ◌∙◌, append_assoc, length-append, arith}
use Rattle.std.proofs.Math.Utf8.{encode}
use Rattle.std.proofs.lemmas.Fmt.{decimal_digit, decimal_step}
use Rattle.std.proofs.lemmas.Str.{encode_ascii}

-- the last digit as a character
last_digit : (n : ℕ) → encode (48 + n % 10) ≡ (48 + n % 10) ∷ []
last_digit n = encode_ascii (48 + n % 10) (omega arith)

one_digit : (n : ℕ) → n < 10 → decimal n ≡ encode (48 + n % 10)
one_digit n small =
    let same : 48 + n % 10 ≡ 48 + n = omega arith in
    decimal_digit n small ∙ sym (last_digit n ∙ ap (λ d. d ∷ []) same)

more_digits : (n : ℕ) → 10 ≤ n → n < 2 ^ 64 → decimal n ≡ decimal (n / 10) ++ encode (48 + n % 10)
more_digits n large fits = rw last_digit (decimal_step n large fits)

pub front_fits : (line : List ℕ) (n room : ℕ) → 10 ≤ n → n < 2 ^ 64 → length line + length (decimal n) ≤ room → length line + length (decimal (n / 10)) ≤ room
front_fits line n room large fits h = omega (arith, simp length-append at (ap length (more_digits n large fits)))

pub digit_fits : (line before : List ℕ) (n room : ℕ) → 10 ≤ n → n < 2 ^ 64 → before ≡ line ++ decimal (n / 10) → length line + length (decimal n) ≤ room → length before + length (encode (48 + n % 10)) ≤ room
digit_fits line before n room large fits e h = omega (arith, simp length-append at (ap length (more_digits n large fits)), simp length-append at (ap length e))

pub one_digit_fits : (line before : List ℕ) (n room : ℕ) → n < 10 → before ≡ line → length line + length (decimal n) ≤ room → length before + length (encode (48 + n % 10)) ≤ room
one_digit_fits line before n room small e h = omega (arith, ap length (one_digit n small), ap length e)

pub digit_after : (line before : List ℕ) (n : ℕ) → 10 ≤ n → n < 2 ^ 64 → before ≡ line ++ decimal (n / 10) → before ++ encode (48 + n % 10) ≡ line ++ decimal n
digit_after line before n large fits e = rw (e, more_digits n large fits) (append_assoc line (decimal (n / 10)) (encode (48 + n % 10)))

pub digit_alone : (line before : List ℕ) (n : ℕ) → n < 10 → before ≡ line → before ++ encode (48 + n % 10) ≡ line ++ decimal n
digit_alone line before n small e = rw (e, one_digit n small)
