-- Different chunks have different keys: decimal digits are never a separator, and they tell their number.
use Rattle.std.proofs.Common.{◌≡◌, ◌≢◌, ℕ, ◌<◌, ◌^◌, List, [], ◌∷◌, ◌++◌, length, All, codes, refl, sym, subst, arith}
use Rattle.std.specs.Char.{digit_value}
use Rattle.std.specs.Fmt.{decimal}
use Rattle.std.specs.List.{AllByRecursion}
use Rattle.std.specs.Str.Parse.{AllDigits}
use Rattle.std.proofs.lemmas.Fmt.{decimal_is_IsNumeral, decimal_injective}
use Rattle.std.proofs.lemmas.List.{append_assoc, append_cancel_left}
use Rattle.std.proofs.lemmas.List.Elements.{All-head, All-tail, recursion_from_All}
use Rattle.cu_num.specs.declared.layout.Encoding.{Encoding}
use Rattle.cu_num.specs.declared.layout.Encoding.TheVariants.{Plain, V2}
use Rattle.cu_num.specs.declared.layout.Sep.{Sep}
use Rattle.cu_num.specs.declared.layout.Sep.TheVariants.{Slash, Dot}
use Rattle.cu_codec.specs.Names.{HasNoSlash, IsKeyOf}
use Rattle.cu_zarr.specs.Key.{separator, separated, coordinates, chunk_key_of, metadata_key_of}

-- a list is empty, or P fails at its first element
abbrev Stops : (ℕ → Type 0) → List ℕ → Type 0
Stops P [] = Unit {0}
Stops P (x ∷ xs) = P x → ⊥

-- where two texts begin with elements that satisfy P and then stop, they agree in both parts
run_split : (P : ℕ → Type 0) (a b r s : List ℕ) → AllByRecursion P a → AllByRecursion P b → Stops P r → Stops P s
    → a ++ r ≡ b ++ s → (a ≡ b) × (r ≡ s)
run_split P [] [] r s in_a in_b ends_r ends_s e = (refl, e)
run_split P [] (y ∷ b) [] s in_a in_b ends_r ends_s e = cc
run_split P [] (y ∷ b) (x ∷ r) s in_a in_b ends_r ends_s e = let same : y ≡ x = cc in absurd (ends_r (subst P same in_b.0))
run_split P (x ∷ a) [] r [] in_a in_b ends_r ends_s e = cc
run_split P (x ∷ a) [] r (y ∷ s) in_a in_b ends_r ends_s e = let same : x ≡ y = cc in absurd (ends_s (subst P same in_a.0))
run_split P (x ∷ a) (y ∷ b) r s in_a in_b ends_r ends_s e =
    let same : x ≡ y = cc in
    let rest : a ++ r ≡ b ++ s = cc in
    let parts = run_split P a b r s in_a.1 in_b.1 ends_r ends_s rest in
    (cc, parts.1)

abbrev IsDigit : ℕ → Type 0
IsDigit c = digit_value c < 10

digits_by_recursion : (ds : List ℕ) → AllDigits 10 ds → AllByRecursion IsDigit ds
digits_by_recursion [] h = h
digits_by_recursion (d ∷ ds) h = (h.0, digits_by_recursion ds h.1)

decimal_digits : (n : ℕ) → n < 2 ^ 64 → AllByRecursion IsDigit (decimal n)
decimal_digits n small = digits_by_recursion (decimal n) ((decimal_is_IsNumeral n small).0.1)

-- a separator is no digit
separated_stops : (sep : Sep) (coord : List ℕ) → Stops IsDigit (separated (separator sep) coord)
separated_stops sep [] = tt
separated_stops Slash (i ∷ is) = λ digit. omega arith
separated_stops Dot (i ∷ is) = λ digit. omega arith

-- a decimal number and what stands behind it, up to a byte that is no digit
pub decimal_split : (m n : ℕ) (r s : List ℕ) → m < 2 ^ 64 → n < 2 ^ 64 → Stops IsDigit r → Stops IsDigit s
    → decimal m ++ r ≡ decimal n ++ s → (m ≡ n) × (r ≡ s)
decimal_split m n r s small_m small_n ends_r ends_s e =
    let parts = run_split IsDigit (decimal m) (decimal n) r s (decimal_digits m small_m) (decimal_digits n small_n) ends_r ends_s e in
    (decimal_injective m n small_m small_n parts.0, parts.1)

separated_injective : (sep : Sep) (c d : List ℕ) → All (λ i. i < 2 ^ 64) c → All (λ i. i < 2 ^ 64) d
    → separated (separator sep) c ≡ separated (separator sep) d → c ≡ d
separated_injective sep [] [] small_c small_d e = refl
separated_injective sep [] (j ∷ js) small_c small_d e = cc
separated_injective sep (i ∷ is) [] small_c small_d e = cc
separated_injective sep (i ∷ is) (j ∷ js) small_c small_d e =
    let P : ℕ → Type 0 = λ k. k < 2 ^ 64 in
    let behind : decimal i ++ separated (separator sep) is ≡ decimal j ++ separated (separator sep) js = cc in
    let parts = decimal_split i j _ _ (All-head P i is small_c) (All-head P j js small_d) (separated_stops sep is) (separated_stops sep js) behind in
    let rest = separated_injective sep is js (All-tail P i is small_c) (All-tail P j js small_d) parts.1 in
    cc

coordinates_injective : (encoding : Encoding) (c d : List ℕ) → All (λ i. i < 2 ^ 64) c → All (λ i. i < 2 ^ 64) d → length c ≡ length d
    → coordinates encoding c ≡ coordinates encoding d → c ≡ d
coordinates_injective (Plain sep) c d small_c small_d ranks e =
    separated_injective sep c d small_c small_d (append_cancel_left (codes "c") _ _ e)
coordinates_injective (V2 sep) [] [] small_c small_d ranks e = refl
coordinates_injective (V2 sep) [] (j ∷ js) small_c small_d ranks e = absurd (omega arith)
coordinates_injective (V2 sep) (i ∷ is) [] small_c small_d ranks e = absurd (omega arith)
coordinates_injective (V2 sep) (i ∷ is) (j ∷ js) small_c small_d ranks e =
    let P : ℕ → Type 0 = λ k. k < 2 ^ 64 in
    let parts = decimal_split i j _ _ (All-head P i is small_c) (All-head P j js small_d) (separated_stops sep is) (separated_stops sep js) e in
    let rest = separated_injective sep is js (All-tail P i is small_c) (All-tail P j js small_d) parts.1 in
    cc

-- the keys of two chunks of one array differ
pub same_chunk : (name : List ℕ) (encoding : Encoding) (c d : List ℕ) → All (λ i. i < 2 ^ 64) c → All (λ i. i < 2 ^ 64) d → length c ≡ length d
    → chunk_key_of name encoding c ≡ chunk_key_of name encoding d → c ≡ d
same_chunk name encoding c d small_c small_d ranks e =
    coordinates_injective encoding c d small_c small_d ranks (append_cancel_left (name ++ codes "/") _ _ e)

-- a text of digits doesn't begin with another byte
no_digit_first : (ds rest : List ℕ) (x : ℕ) (others : List ℕ) → AllByRecursion IsDigit ds → 0 < length ds → (IsDigit x → ⊥) → ds ++ rest ≢ x ∷ others
no_digit_first [] rest x others digits some stops e = omega arith
no_digit_first (d ∷ ds) rest x others digits some stops e = let same : d ≡ x = cc in stops (subst IsDigit same digits.0)

same_first : (x y : ℕ) (xs ys : List ℕ) → x ∷ xs ≡ y ∷ ys → x ≡ y
same_first x y xs ys e = cc

smaller_first : (x y : ℕ) (xs ys : List ℕ) → x < y → x ∷ xs ≢ y ∷ ys
smaller_first x y xs ys below e = omega (arith, same_first x y xs ys e)

coordinates_not_metadata : (encoding : Encoding) (c : List ℕ) → All (λ i. i < 2 ^ 64) c → coordinates encoding c ≢ codes "zarr.json"
coordinates_not_metadata (Plain sep) c small e = smaller_first 99 122 _ _ (omega arith) e
coordinates_not_metadata (V2 sep) [] small e = smaller_first 48 122 _ _ (omega arith) e
coordinates_not_metadata (V2 sep) (i ∷ is) small e =
    let first : i < 2 ^ 64 = All-head (λ k. k < 2 ^ 64) i is small in
    no_digit_first (decimal i) _ 122 _ (decimal_digits i first) ((decimal_is_IsNumeral i first).0.0) (λ digit. omega arith) e

-- the key of a chunk isn't the metadata's
pub chunk_not_metadata : (name : List ℕ) (encoding : Encoding) (c : List ℕ) → All (λ i. i < 2 ^ 64) c → chunk_key_of name encoding c ≢ metadata_key_of name
chunk_not_metadata name encoding c small e =
    let whole : name ++ (codes "/" ++ coordinates encoding c) ≡ name ++ codes "/zarr.json" = rw append_assoc at e in
    let behind : codes "/" ++ coordinates encoding c ≡ codes "/" ++ codes "zarr.json" = append_cancel_left name _ _ whole in
    coordinates_not_metadata encoding c small (append_cancel_left (codes "/") _ _ behind)

pub chunk_is_key_of : (name : List ℕ) (encoding : Encoding) (c : List ℕ) → IsKeyOf name (chunk_key_of name encoding c)
chunk_is_key_of name encoding c = (coordinates encoding c, refl)

pub metadata_is_key_of : (name : List ℕ) → IsKeyOf name (metadata_key_of name)
metadata_is_key_of name = (codes "zarr.json", sym (append_assoc name (codes "/") (codes "zarr.json")))

-- a key is of one name only
pub one_name : (name other key : List ℕ) → HasNoSlash name → HasNoSlash other → IsKeyOf name key → IsKeyOf other key → name ≡ other
one_name name other key plain_name plain_other (r, of_name) (s, of_other) =
    let P : ℕ → Type 0 = λ b. b ≢ 47 in
    let both : name ++ codes "/" ++ r ≡ other ++ codes "/" ++ s = cc in
    let parts : name ++ (codes "/" ++ r) ≡ other ++ (codes "/" ++ s) = rw (append_assoc, append_assoc) at both in
    (run_split P name other (codes "/" ++ r) (codes "/" ++ s) (recursion_from_All P name plain_name) (recursion_from_All P other plain_other)
    (λ differs. differs refl) (λ differs. differs refl) parts).0
