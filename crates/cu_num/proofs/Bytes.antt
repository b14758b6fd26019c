-- The bytes of a number, and the number of bytes.
use Rattle.std.proofs.Common.{◌≡◌, ℕ, ◌+◌, ◌-◌, ◌*◌, ◌/◌, ◌%◌, ◌^◌, ◌<◌, ◌≤◌, zero, suc, List, [], ◌∷◌, length, get_or, take, drop, refl, sym, ap, ◌∙◌, arith, inl, inr}
use Rattle.std.proofs.lemmas.Nat.{mod-pow-add, shr_high, mod_low, mod_below}
use Rattle.std.proofs.lemmas.List.{drop_all}
use Rattle.std.proofs.Math.Nat.{div-div-eq-div-mul, pow-suc}
use Rattle.std.specs.Int.{bytes_low_first, to_le_bytes, w64}
use Rattle.cu_num.specs.Dtype.{size_of}
use Rattle.cu_num.specs.declared.types.Dtype.{Dtype}
use Rattle.cu_num.specs.declared.types.Dtype.TheVariants.{Bool, Int8, Int16, Int32, Int64, Uint8, Uint16, Uint32, Uint64}
use Rattle.cu_num.specs.Element.{low_bytes, number_of_bytes, IsSize}

pub length-low_bytes : (k n : ℕ) → length (low_bytes k n) ≡ k
length-low_bytes zero n = refl
length-low_bytes (suc k) n = ap suc (length-low_bytes k (n / 256))

-- the lowest byte and the others
split : (n k : ℕ) → n % 2 ^ (k + 8) ≡ n / 256 % 2 ^ k * 256 + n % 256
split n k = mod-pow-add n k 8

-- the lowest k bytes of n depend on n modulo 256 to the k
pub low_bytes-mod : (k n : ℕ) → low_bytes k (n % 2 ^ (8 * k)) ≡ low_bytes k n
low_bytes-mod zero n = refl
low_bytes-mod (suc k) n =
    let small : n % 256 < 2 ^ 8 = mod_below n 256 (omega arith) in
    let exponent : 8 * suc k ≡ 8 * k + 8 = omega arith in
    let is : n % 2 ^ (8 * suc k) ≡ n / 256 % 2 ^ (8 * k) * 256 + n % 256 = ap (λ e. n % 2 ^ e) exponent ∙ split n (8 * k) in
    ap (low_bytes (suc k)) is
    ∙ ap (λ b. b ∷ low_bytes k ((n / 256 % 2 ^ (8 * k) * 256 + n % 256) / 256)) (mod_low (n / 256 % 2 ^ (8 * k)) 8 (n % 256) small)
    ∙ ap (λ h. n % 256 ∷ low_bytes k h) (shr_high (n / 256 % 2 ^ (8 * k)) 8 (n % 256) small)
    ∙ ap (λ bytes. n % 256 ∷ bytes) (low_bytes-mod k (n / 256))

pub number_of_bytes-low_bytes : (k n : ℕ) → number_of_bytes (low_bytes k n) ≡ n % 2 ^ (8 * k)
number_of_bytes-low_bytes zero n = omega arith
number_of_bytes-low_bytes (suc k) n =
    let exponent : 8 * suc k ≡ 8 * k + 8 = omega arith in
    let is : n % 2 ^ (8 * suc k) ≡ n / 256 % 2 ^ (8 * k) * 256 + n % 256 = ap (λ e. n % 2 ^ e) exponent ∙ split n (8 * k) in
    omega (arith, number_of_bytes-low_bytes k (n / 256), is)

-- the first of the lowest bytes are the lowest bytes
pub take-low_bytes : (k more n : ℕ) → take k (low_bytes (k + more) n) ≡ low_bytes k n
take-low_bytes zero more n = refl
take-low_bytes (suc k) more n =
    let sum : suc k + more ≡ suc (k + more) = omega arith in
    ap (λ count. take (suc k) (low_bytes count n)) sum ∙ ap (λ bytes. n % 256 ∷ bytes) (take-low_bytes k more (n / 256))

next : (n i : ℕ) → n / 256 ^ i / 256 ≡ n / 256 ^ suc i
next n i = div-div-eq-div-mul n (256 ^ i) 256 ∙ ap (λ m. n / m) (sym (pow-suc 256 i))

low_first : (i k n : ℕ) → bytes_low_first i k n ≡ low_bytes k (n / 256 ^ i)
low_first i zero n = refl
low_first zero (suc k) n =
    let whole : n / 1 ≡ n = omega arith in
    ap (λ bytes. n % 256 ∷ bytes) (low_first 1 k n) ∙ sym (ap (low_bytes (suc k)) whole)
low_first (suc i) (suc k) n =
    ap (λ bytes. n / 256 ^ suc i % 256 ∷ bytes) (low_first (suc (suc i)) k n ∙ sym (ap (low_bytes k) (next n (suc i))))

-- the bytes of a word of 64 bits
pub to_le_bytes-low_bytes : (n : ℕ) → to_le_bytes w64 n ≡ low_bytes 8 n
to_le_bytes-low_bytes n = low_first 0 8 n ∙ ap (low_bytes 8) (omega arith)

-- the first bytes of such a word, at each size of an element
pub take-to_le_bytes : (size n : ℕ) → IsSize size → take size (to_le_bytes w64 n) ≡ low_bytes size n
take-to_le_bytes size n h =
    let most : size ≤ 8 = grind arith in
    let sum : 8 ≡ size + (8 - size) = omega arith in
    ap (take size) (to_le_bytes-low_bytes n ∙ ap (λ count. low_bytes count n) sum) ∙ take-low_bytes size (8 - size) n

-- the bytes from place i on
number_from : (i : ℕ) (s : List ℕ) → number_of_bytes (drop i s) ≡ get_or s i 0 + 256 * number_of_bytes (drop (suc i) s)
number_from zero [] = refl
number_from zero (b ∷ s) = refl
number_from (suc i) [] = refl
number_from (suc i) (b ∷ s) = number_from i s

past : (s : List ℕ) (n : ℕ) → length s ≡ n → number_of_bytes (drop n s) ≡ 0
past s n e = ap number_of_bytes (drop_all n s (omega arith))

-- a number of eight bytes
pub number_of_eight : (s : List ℕ) → length s ≡ 8 → number_of_bytes s ≡ get_or s 0 0 + 256 * (get_or s 1 0 + 256 * (get_or s 2 0 + 256 * (get_or s 3 0 + 256 * (get_or s 4 0 + 256 * (get_or s 5 0 + 256 * (get_or s 6 0 + 256 * get_or s 7 0))))))
number_of_eight s e = omega (arith, number_from 0 s, number_from 1 s, number_from 2 s, number_from 3 s, number_from 4 s, number_from 5 s, number_from 6 s, number_from 7 s, past s 8 e)

-- each type has one of the four sizes
pub IsSize-size_of : (t : Dtype) → IsSize (size_of t)
IsSize-size_of Bool = inl refl
IsSize-size_of Int8 = inl refl
IsSize-size_of Int16 = inr (inl refl)
IsSize-size_of Int32 = inr (inr (inl refl))
IsSize-size_of Int64 = inr (inr (inr refl))
IsSize-size_of Uint8 = inl refl
IsSize-size_of Uint16 = inr (inl refl)
IsSize-size_of Uint32 = inr (inr (inl refl))
IsSize-size_of Uint64 = inr (inr (inr refl))
