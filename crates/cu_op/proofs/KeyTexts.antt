-- A key of the encoding "default" with "/" tells its prefix and its coordinate: behind its last `c` stand digits and slashes alone.
use Rattle.std.proofs.Common.{◌≡◌, ◌≢◌, ℕ, ◌*◌, ◌<◌, ◌≤◌, ◌^◌, List, [], ◌∷◌, ◌++◌, All, codes, get_or, refl, ap, sym, ◌∙◌, subst, arith}
use Rattle.std.specs.Char.{digit_value}
use Rattle.std.specs.Fmt.{decimal}
use Rattle.std.specs.List.{AllByRecursion}
use Rattle.std.specs.Str.Parse.{AllDigits}
use Rattle.std.proofs.Math.Nat.{le-mul_of_pos_right}
use Rattle.std.proofs.lemmas.Str.Parse.{digit_from_value}
use Rattle.std.proofs.lemmas.Fmt.{decimal_is_IsNumeral, decimal_injective}
use Rattle.std.proofs.lemmas.List.{append_cancel_right}
use Rattle.std.proofs.lemmas.List.Elements.{All-head, All-tail, All-from_get_or}
use Rattle.cu_num.specs.declared.layout.Encoding.TheVariants.{Plain}
use Rattle.cu_num.specs.declared.layout.Sep.TheVariants.{Slash}
use Rattle.cu_zarr.specs.Key.{separated, chunk_key_of}
use Rattle.cu_grid.specs.Grid.{RegularGrid, IsGrid, IsCoordinate}
use Rattle.cu_grid.proofs.Regions.{bounded, coordinate-length}
use Rattle.cu_op.specs.declared.layout.ArrayInfo.{ArrayInfo}
use Rattle.cu_op.specs.Arrays.{array_at, grid_at, no_array}
use Rattle.cu_op.specs.Layout.{IsArray}
use Rattle.cu_op.specs.Names.{HasOwnNames, HasCells}
use Rattle.cu_op.specs.Sound.{ChunkKeysDiffer}

-- a digit's code, which is below that of `c`
abbrev IsDigit : ℕ → Type 0
IsDigit x = digit_value x < 10

abbrev Stops : (ℕ → Type 0) → List ℕ → Type 0
Stops P [] = Unit {0}
Stops P (x ∷ xs) = P x → ⊥

digits_of : (ds : List ℕ) → AllDigits 10 ds → AllByRecursion IsDigit ds
digits_of [] h = h
digits_of (d ∷ ds) h = (h.0, digits_of ds h.1)

decimal_of : (n : ℕ) → n < 2 ^ 64 → AllByRecursion IsDigit (decimal n)
decimal_of n small = digits_of (decimal n) ((decimal_is_IsNumeral n small).0.1)

-- two texts that begin with digits and then stop agree in both parts
split : (P : ℕ → Type 0) (a b r s : List ℕ) → AllByRecursion P a → AllByRecursion P b → Stops P r → Stops P s → a ++ r ≡ b ++ s → (a ≡ b) × (r ≡ s)
split P [] [] r s ha hb hr hs e = (refl, e)
split P [] (y ∷ b) [] s ha hb hr hs e = cc
split P [] (y ∷ b) (x ∷ r) s ha hb hr hs e = let same : y ≡ x = cc in absurd (hr (subst P same hb.0))
split P (x ∷ a) [] r [] ha hb hr hs e = cc
split P (x ∷ a) [] r (y ∷ s) ha hb hr hs e = let same : x ≡ y = cc in absurd (hs (subst P same ha.0))
split P (x ∷ a) (y ∷ b) r s ha hb hr hs e =
    let same : x ≡ y = cc in
    let rest : a ++ r ≡ b ++ s = cc in
    let parts = split P a b r s ha.1 hb.1 hr hs rest in
    (cc, parts.1)

stops : (coord : List ℕ) → Stops IsDigit (separated 47 coord)
stops [] = tt
stops (i ∷ is) = λ digit. omega arith

coordinate_told : (c d : List ℕ) → All (λ i. i < 2 ^ 64) c → All (λ i. i < 2 ^ 64) d → separated 47 c ≡ separated 47 d → c ≡ d
coordinate_told [] [] hc hd e = refl
coordinate_told [] (j ∷ js) hc hd e = cc
coordinate_told (i ∷ is) [] hc hd e = cc
coordinate_told (i ∷ is) (j ∷ js) hc hd e =
    let P : ℕ → Type 0 = λ k. k < 2 ^ 64 in
    let i_small = All-head P i is hc in
    let j_small = All-head P j js hd in
    let behind : decimal i ++ separated 47 is ≡ decimal j ++ separated 47 js = cc in
    let parts = split IsDigit (decimal i) (decimal j) (separated 47 is) (separated 47 js) (decimal_of i i_small) (decimal_of j j_small) (stops is) (stops js) behind in
    let first : i ≡ j = decimal_injective i j i_small j_small parts.0 in
    let rest = coordinate_told is js (All-tail P i is hc) (All-tail P j js hd) parts.1 in
    cc

-- digits and slashes are below `c`
abbrev IsLow : ℕ → Type 0
IsLow x = x < 99

append_all : (P : ℕ → Type 0) (xs ys : List ℕ) → AllByRecursion P xs → AllByRecursion P ys → AllByRecursion P (xs ++ ys)
append_all P [] ys hx hy = hy
append_all P (x ∷ xs) ys hx hy = (hx.0, append_all P xs ys hx.1 hy)

digit_low : (x : ℕ) → IsDigit x → IsLow x
digit_low x h = let r = digit_from_value x h in omega (arith, r)

digits_low : (ds : List ℕ) → AllByRecursion IsDigit ds → AllByRecursion IsLow ds
digits_low [] h = h
digits_low (d ∷ ds) h = (digit_low d h.0, digits_low ds h.1)

separated_low : (coord : List ℕ) → All (λ i. i < 2 ^ 64) coord → AllByRecursion IsLow (separated 47 coord)
separated_low [] h = tt
separated_low (i ∷ is) h =
    let P : ℕ → Type 0 = λ k. k < 2 ^ 64 in
    ((omega arith), append_all IsLow (decimal i) (separated 47 is) (digits_low (decimal i) (decimal_of i (All-head P i is h))) (separated_low is (All-tail P i is h)))

-- there is no `c` in such a text
none_low : (a r rest : List ℕ) → AllByRecursion IsLow rest → a ++ 99 ∷ r ≢ rest
none_low [] r [] h e = cc
none_low [] r (y ∷ ys) h e = let same : 99 ≡ y = cc in omega (arith, same, h.0)
none_low (x ∷ a) r [] h e = cc
none_low (x ∷ a) r (y ∷ ys) h e = let rest : a ++ 99 ∷ r ≡ ys = cc in none_low a r ys h.1 rest

-- the last `c` parts a text
last_c : (a b r s : List ℕ) → AllByRecursion IsLow r → AllByRecursion IsLow s → a ++ 99 ∷ r ≡ b ++ 99 ∷ s → (a ≡ b) × (r ≡ s)
last_c [] [] r s hr hs e = let rest : r ≡ s = cc in (refl, rest)
last_c [] (y ∷ b) r s hr hs e = let rest : b ++ 99 ∷ s ≡ r = cc in absurd (none_low b s r hr rest)
last_c (x ∷ a) [] r s hr hs e = let rest : a ++ 99 ∷ r ≡ s = cc in absurd (none_low a r s hs rest)
last_c (x ∷ a) (y ∷ b) r s hr hs e =
    let rest : a ++ 99 ∷ r ≡ b ++ 99 ∷ s = cc in
    let parts = last_c a b r s hr hs rest in
    let first : x ≡ y = cc in
    let front : a ≡ b = parts.0 in
    (cc, parts.1)

key_told : (name other c d : List ℕ) → All (λ i. i < 2 ^ 64) c → All (λ i. i < 2 ^ 64) d
    → chunk_key_of name (Plain Slash) c ≡ chunk_key_of other (Plain Slash) d → (name ≡ other) × (c ≡ d)
key_told name other c d hc hd e =
    let parts = last_c (name ++ codes "/") (other ++ codes "/") (separated 47 c) (separated 47 d) (separated_low c hc) (separated_low d hd) e in
    (append_cancel_right name other (codes "/") parts.0, coordinate_told c d hc hd parts.1)

-- the coordinates of a grid fit 64 bits
coordinates_fit : (g : RegularGrid) (coord : List ℕ) → IsGrid g → IsCoordinate g coord → All (λ i. i < 2 ^ 64) coord
coordinates_fit g coord ok h = All-from_get_or (λ i. i < 2 ^ 64) coord 0 (λ k l.
    let n = coordinate-length g coord ok h in
    let b = bounded g coord k ok h (omega (arith, n, l)) in
    let positive : 0 < get_or g.chunk k 0 = ok.positive k 0 (let r = ok.ranks in omega (arith, n, l, r)) in
    one_below (get_or coord k 0) (get_or g.chunk k 0) (get_or g.shape k 0) positive b.starts b.shape_small)
  where
    one_below : (i c n : ℕ) → 0 < c → i * c < n → n ≤ 2 ^ 56 → i < 2 ^ 64
    one_below i c n positive h small = let w = le-mul_of_pos_right i positive in omega (arith, w, h, small)

pub keys_differ : (arrays : List ArrayInfo) → All IsArray arrays → HasOwnNames arrays → ChunkKeysDiffer arrays
keys_differ arrays ok own a b c d ca cb e =
    let ga = (ok a no_array ca.within).grid in
    let gb = (ok b no_array cb.within).grid in
    let ha : HasCells arrays a = record { within = ca.within; made = ca.made; stored = ca.stored } in
    let hb : HasCells arrays b = record { within = cb.within; made = cb.made; stored = cb.stored } in
    let ea = own.encodings a ha in
    let eb = own.encodings b hb in
    let plain : chunk_key_of (array_at arrays a).prefix (Plain Slash) c ≡ chunk_key_of (array_at arrays b).prefix (Plain Slash) d =
    ap (λ w. chunk_key_of (array_at arrays a).prefix w c) (sym ea) ∙ e ∙ ap (λ w. chunk_key_of (array_at arrays b).prefix w d) eb in
    let told = key_told (array_at arrays a).prefix (array_at arrays b).prefix c d (coordinates_fit (grid_at arrays a) c ga ca.coordinate) (coordinates_fit (grid_at arrays b) d gb cb.coordinate) plain in
    (own.prefixes a b ha hb told.0, told.1)
