-- An element isn't 0 where one of its bytes isn't.
use Rattle.std.proofs.Common.{◌≡◌, ℕ, ℤ, pos, zero, suc, ◌+◌, ◌-◌, ◌*◌, ◌^◌, ◌%◌, ◌<◌, ◌≤◌, ◌||◌, not, true, false, List, [], ◌∷◌, ◌++◌, take, drop, get_or, length, bit_or, refl, sym, ap, ◌∙◌, subst, arith, length-drop}
use Rattle.std.specs.Prelude.{Bool as Test}
use Rattle.std.specs.List.{range_with_len, list_any}
use Rattle.std.specs.Ordering.{int_eq}
use Rattle.std.proofs.Math.Seq.{take-add}
use Rattle.std.proofs.lemmas.Bool.Decides.{nat_tests, Decides-int_eq}
use Rattle.std.proofs.lemmas.List.{get_or-drop, length-take-le, take-append-drop}
use Rattle.std.proofs.lemmas.List.Folds.{list_any-append}
use Rattle.std.proofs.lemmas.Nat.{pow-add, mod-mul-add, le_or_l, le_or_r}
use Rattle.cu_num.specs.Dtype.{IsInteger, size_of, bit_width}
use Rattle.cu_num.specs.Wrap.{residue, wrapped, truth_of}
use Rattle.cu_num.specs.Scalar.{is_nonzero}
use Rattle.cu_num.specs.Element.{element_at, bytes_at, number_of_bytes}
use Rattle.cu_num.specs.declared.types.Dtype.{Dtype}
use Rattle.cu_num.specs.declared.layout.Endian.TheVariants.{Little}
use Rattle.cu_num.proofs.ElementBytes.{width_is}
use Rattle.cu_num.proofs.Residue.{Same, residue_same}
use Rattle.cu_num.proofs.Wrapped.{by_class, is_wrapping, wrapped_in_range}
use Rattle.cu_reduce.proofs.Folding.{zero_in_range}
use Rattle.cu_reduce.proofs.Ranges.{range_append, map-append}
use Rattle.cu_fold.specs.SetBytes.{is_set}
use Rattle.cu_take.specs.Taken.{elements_at_places}
use Rattle.cu_fold.proofs.Nonzero.{or_none}

set_positive : (n : ℕ) → 0 < n → is_set n ≡ true
set_positive n h = grind (arith, nat_tests)

pub set_or : (a b : ℕ) → is_set (bit_or a b) ≡ (is_set a || is_set b)
set_or zero zero = refl
set_or zero (suc b) = let l = le_or_r 0 (suc b) in set_positive (bit_or 0 (suc b)) (omega arith) ∙ sym (set_positive (suc b) (omega arith))
set_or (suc a) b = let l = le_or_l (suc a) b in set_positive (bit_or (suc a) b) (omega arith) ∙ sym (ap (λ t. t || is_set b) (set_positive (suc a) (omega arith)))

set_sum : (b m : ℕ) → is_set (b + 256 * m) ≡ (is_set b || is_set m)
set_sum zero zero = refl
set_sum zero (suc m) = set_positive (0 + 256 * suc m) (omega arith) ∙ sym (set_positive (suc m) (omega arith))
set_sum (suc b) m = set_positive (suc b + 256 * m) (omega arith) ∙ sym (ap (λ t. t || is_set m) (set_positive (suc b) (omega arith)))

set_number : (bs : List ℕ) → is_set (number_of_bytes bs) ≡ list_any is_set bs
set_number [] = refl
set_number (b ∷ bs) = set_sum b (number_of_bytes bs) ∙ ap (λ t. is_set b || t) (set_number bs)

refused : (b : Test) → (b ≡ true → ⊥) → b ≡ false
refused true h = absurd (h refl)
refused false h = refl

nonzero : (x : ℤ) → (x ≡ pos 0 → ⊥) → is_nonzero x ≡ true
nonzero x h = ap not (refused (int_eq x (pos 0)) (λ e. h ((Decides-int_eq x (pos 0)).0 e)))

-- a number that its type's bytes can have
set_truth : (n : ℕ) → is_nonzero (truth_of (pos n)) ≡ is_set n
set_truth zero = refl
set_truth (suc n) = sym (set_positive (suc n) (omega arith))

set_integer : (t : Dtype) → IsInteger t → (n : ℕ) → n < 2 ^ (8 * size_of t) → is_nonzero (wrapped t (pos n)) ≡ is_set n
set_integer t h zero less = ap is_nonzero (wrapped_in_range t (pos 0) (zero_in_range t))
set_integer t h (suc n) less =
    nonzero (wrapped t (pos (suc n))) (λ e.
    let w = bit_width t in
    let P : ℤ → Type 0 = λ z. Same w z (pos (suc n)) in
    let same : residue w (pos 0) ≡ residue w (pos (suc n)) = residue_same w (pos 0) (pos (suc n)) (subst P e ((is_wrapping t h).same (pos (suc n)))) in
    let is : w ≡ 8 * size_of t = width_is t h in
    let below : suc n < 2 ^ w = subst (λ k. suc n < 2 ^ k) (sym is) less in
    let own : suc n ≡ 0 * 2 ^ w + suc n = omega arith in
    let none : 0 ≡ 0 * 2 ^ w + 0 = omega arith in
    let mine : suc n % 2 ^ w ≡ suc n = ap (λ k. k % 2 ^ w) own ∙ mod-mul-add 0 (2 ^ w) (suc n) below in
    let nothing : 0 % 2 ^ w ≡ 0 = ap (λ k. k % 2 ^ w) none ∙ mod-mul-add 0 (2 ^ w) 0 (omega arith) in
    omega (arith, same, mine, nothing))
    ∙ sym (set_positive (suc n) (omega arith))

set_wrapped : (t : Dtype) (n : ℕ) → n < 2 ^ (8 * size_of t) → is_nonzero (wrapped t (pos n)) ≡ is_set n
unfolding wrapped
set_wrapped t = by_class (λ t. (n : ℕ) → n < 2 ^ (8 * size_of t) → is_nonzero (wrapped t (pos n)) ≡ is_set n) (λ n less. set_truth n) set_integer t

-- the number of so many bytes
number_below : (bs : List ℕ) → ((i : ℕ) → get_or bs i 0 < 256) → number_of_bytes bs < 2 ^ (8 * length bs)
number_below [] h = omega arith
number_below (b ∷ bs) h =
    let rest = number_below bs (λ i. h (suc i)) in
    let first : b < 256 = h 0 in
    let e : 8 * suc (length bs) ≡ 8 * length bs + 8 = omega arith in
    let power : 2 ^ (8 * suc (length bs)) ≡ 2 ^ (8 * length bs) * 256 = ap (λ k. 2 ^ k) e ∙ pow-add 2 (8 * length bs) 8 in
    omega (arith, rest, first, power)

take_small : (n : ℕ) (bs : List ℕ) → ((i : ℕ) → get_or bs i 0 < 256) → (i : ℕ) → get_or (take n bs) i 0 < 256
take_small zero bs h i = omega arith
take_small (suc n) [] h i = omega arith
take_small (suc n) (b ∷ bs) h zero = h 0
take_small (suc n) (b ∷ bs) h (suc i) = take_small n bs (λ i. h (suc i)) i

drop_small : (n : ℕ) (bs : List ℕ) → ((i : ℕ) → get_or bs i 0 < 256) → (i : ℕ) → get_or (drop n bs) i 0 < 256
drop_small n bs h i = subst (λ b. b < 256) (sym (get_or-drop n bs i 0)) (h (n + i))

set_element : (t : Dtype) (bytes : List ℕ) (k : ℕ) → ((i : ℕ) → get_or bytes i 0 < 256) → k * size_of t + size_of t ≤ length bytes → is_nonzero (element_at Little t bytes k) ≡ list_any is_set (bytes_at t bytes k)
unfolding element_at
set_element t bytes k h fits =
    let s = size_of t in
    let bs = take s (drop (k * s) bytes) in
    let long : length bs ≡ s = length-take-le s (drop (k * s) bytes) (omega (arith, length-drop (k * s) bytes)) in
    let below : number_of_bytes bs < 2 ^ (8 * s) = subst (λ n. number_of_bytes bs < 2 ^ (8 * n)) long (number_below bs (take_small s (drop (k * s) bytes) (drop_small (k * s) bytes h))) in
    set_wrapped t (number_of_bytes bs) below ∙ set_number bs

pub set_elements : (t : Dtype) (bytes : List ℕ) (n : ℕ) → ((i : ℕ) → get_or bytes i 0 < 256) → n * size_of t ≤ length bytes
    → list_any is_set (take (n * size_of t) bytes) ≡ list_any is_nonzero (elements_at_places t bytes (range_with_len 0 n))
set_elements t bytes zero h fits = let e : 0 * size_of t ≡ 0 = omega arith in ap (λ k. list_any is_set (take k bytes)) e
set_elements t bytes (suc n) h fits =
    let s = size_of t in
    let e : suc n * s ≡ n * s + s = omega arith in
    let m : suc n ≡ n + 1 = omega arith in
    let at : 0 + n ≡ n = omega arith in
    let room : n * s + s ≤ length bytes = omega (arith, fits, e) in
    ap (λ k. list_any is_set (take k bytes)) e ∙ ap (list_any is_set) (take-add (n * s) s bytes) ∙ list_any-append is_set (take (n * s) bytes) (bytes_at t bytes n)
    ∙ (λ i. set_elements t bytes n h (let w : n * s ≤ length bytes = omega arith in w) i || sym (set_element t bytes n h room) i)
    ∙ ap (λ b. list_any is_nonzero (elements_at_places t bytes (range_with_len 0 n)) || b) (sym (or_none (is_nonzero (element_at Little t bytes n))))
    ∙ sym (list_any-append is_nonzero (elements_at_places t bytes (range_with_len 0 n)) (element_at Little t bytes n ∷ []))
    ∙ ap (λ k. list_any is_nonzero (elements_at_places t bytes (range_with_len 0 n) ++ elements_at_places t bytes (range_with_len k 1))) (sym at)
    ∙ ap (list_any is_nonzero) (sym (map-append (λ p. element_at Little t bytes p) (range_with_len 0 n) (range_with_len (0 + n) 1)))
    ∙ ap (λ ps. list_any is_nonzero (elements_at_places t bytes ps)) (range_append 0 n 1 ∙ ap (range_with_len 0) (sym m))

-- ---- block by block

pub set_after : (bytes : List ℕ) (m n : ℕ) → list_any is_set (take m bytes) ≡ false → list_any is_set (take (m + n) bytes) ≡ list_any is_set (take (m + n - m) (drop m bytes))
set_after bytes m n none =
    let e : n ≡ m + n - m = omega arith in
    ap (list_any is_set) (take-add m n bytes) ∙ list_any-append is_set (take m bytes) (take n (drop m bytes)) ∙ ap (λ b. b || list_any is_set (take n (drop m bytes))) none
    ∙ ap (λ k. list_any is_set (take k (drop m bytes))) e

pub set_stays : (bytes : List ℕ) (m : ℕ) → list_any is_set (take m bytes) ≡ true → list_any is_set bytes ≡ true
set_stays bytes m found = ap (list_any is_set) (sym (take-append-drop m bytes)) ∙ list_any-append is_set (take m bytes) (drop m bytes) ∙ ap (λ b. b || list_any is_set (drop m bytes)) found
