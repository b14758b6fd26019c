-- The order of words is that of their numbers.
use Rattle.std.proofs.Common.{◌≡◌, ◌≢◌, ℕ, zero, suc, ◌+◌, ◌-◌, ◌%◌, ◌^◌, ◌<◌, ◌==◌, true, false, List, [], ◌∷◌, length, refl, ap, sym, ◌∙◌, arith, ℤ, pos, negsuc, ◌≤ℤ◌, neg_ℤ, if◌then◌else◌, nat_lt, nat_le, ⊎_elim}
use Rattle.std.specs.Prelude.{Bool as Test, ◌+ℤ◌, int_lt, int_le, not, replicate}
use Rattle.std.specs.Ordering.{int_eq}
use Rattle.std.specs.Simd.Lanes.{zip2}
use lib.Lanes.{sel_l}
use Rattle.std.proofs.lemmas.Int.{ints}
use Rattle.std.proofs.lemmas.Bool.{cases_lt, cases_eq}
use Rattle.std.proofs.Math.Nat.{mod-eq_of_lt}
use Rattle.cu_num.specs.Dtype.{InRange}
use Rattle.cu_num.specs.Scalar.{truth_number}
use Rattle.cu_num.specs.Wrap.{residue}
use Rattle.cu_num.specs.Word.{word_of, IsWord}
use Rattle.cu_num.proofs.ScalarRange.{truth_number_in_range}
use Rattle.cu_num.specs.declared.types.Dtype.{Dtype}
use Rattle.cu_num.specs.declared.types.Dtype.TheVariants.{Bool, Int8, Int16, Int32, Int64, Uint8, Uint16, Uint32, Uint64}
use Rattle.cu_lane.specs.declared.compared.Order.{Order}
use Rattle.cu_lane.specs.declared.compared.Order.TheVariants.{Equal, NotEqual, Less, LessEqual}
use Rattle.cu_lane.specs.Compared.{bias_of, key, are_in_order, numbers_in_order, compared}
use Rattle.cu_lane.proofs.Words.{is_word, word_is, word_range}

-- numbers of the type with what is added lie from 0 to 2 ^ 64 - 1
with_bias : (t : Dtype) (x : ℤ) → InRange t x → (neg_ℤ (pos (bias_of t)) ≤ℤ x) × ((x +ℤ pos (bias_of t)) ≤ℤ pos (2 ^ 64 - 1))
with_bias Bool x (low, high) = (omega (arith, ints), omega (arith, ints))
with_bias Int8 x (low, high) = (omega (arith, ints), omega (arith, ints))
with_bias Int16 x (low, high) = (omega (arith, ints), omega (arith, ints))
with_bias Int32 x (low, high) = (omega (arith, ints), omega (arith, ints))
with_bias Int64 x (low, high) = (omega (arith, ints), omega (arith, ints))
with_bias Uint8 x (low, high) = (omega (arith, ints), omega (arith, ints))
with_bias Uint16 x (low, high) = (omega (arith, ints), omega (arith, ints))
with_bias Uint32 x (low, high) = (omega (arith, ints), omega (arith, ints))
with_bias Uint64 x (low, high) = (omega (arith, ints), omega (arith, ints))

bias_small : (t : Dtype) → bias_of t < 2 ^ 63 + 1
bias_small Uint64 = omega arith
bias_small t = omega arith

key_of_residue : (bias : ℕ) (x : ℤ) → bias < 2 ^ 63 + 1 → neg_ℤ (pos bias) ≤ℤ x → (x +ℤ pos bias) ≤ℤ pos (2 ^ 64 - 1) → pos (key bias (residue 64 x)) ≡ x +ℤ pos bias
key_of_residue bias (pos n) small low high =
    let own : n % 2 ^ 64 ≡ n = mod-eq_of_lt (omega (arith, ints)) in
    let is : (n % 2 ^ 64 + bias) % 2 ^ 64 ≡ n + bias = ap (λ m. (m + bias) % 2 ^ 64) own ∙ mod-eq_of_lt (omega (arith, ints)) in
    ap pos is
key_of_residue bias (negsuc n) small low high =
    let own : n % 2 ^ 64 ≡ n = mod-eq_of_lt (omega (arith, ints)) in
    omega (arith, ints)

-- the key of a number's word
pub key_is : (t : Dtype) (w : ℕ) (x : ℤ) → IsWord t w x → pos (key (bias_of t) w) ≡ x +ℤ pos (bias_of t)
unfolding word_of
key_is t w x h =
    let (low, high) = with_bias t x (word_range t w x h) in
    ap (λ n. pos (key (bias_of t) n)) (word_is t w x h) ∙ key_of_residue (bias_of t) x (bias_small t) low high

equal_numbers : (b m n : ℕ) (x y : ℤ) → pos m ≡ x +ℤ pos b → pos n ≡ y +ℤ pos b → m == n ≡ int_eq x y
equal_numbers b m n x y e f = ⊎_elim
    (λ same. let p : m == n ≡ true = grind arith in let q : int_eq x y ≡ true = grind (arith, ints) in p ∙ sym q)
    (λ apart. let p : m == n ≡ false = grind arith in let q : int_eq x y ≡ false = grind (arith, ints) in p ∙ sym q)
    (cases_eq m n)

less_numbers : (b m n : ℕ) (x y : ℤ) → pos m ≡ x +ℤ pos b → pos n ≡ y +ℤ pos b → nat_lt m n ≡ int_lt x y
less_numbers b m n x y e f = ⊎_elim
    (λ less. let p : nat_lt m n ≡ true = grind arith in let q : int_lt x y ≡ true = grind (arith, ints) in p ∙ sym q)
    (λ more. let p : nat_lt m n ≡ false = grind arith in let q : int_lt x y ≡ false = grind (arith, ints) in p ∙ sym q)
    (cases_lt m n)

at_most_numbers : (b m n : ℕ) (x y : ℤ) → pos m ≡ x +ℤ pos b → pos n ≡ y +ℤ pos b → nat_le m n ≡ int_le x y
at_most_numbers b m n x y e f = ⊎_elim
    (λ less. let p : nat_le m n ≡ false = grind arith in let q : int_le x y ≡ false = grind (arith, ints) in p ∙ sym q)
    (λ more. let p : nat_le m n ≡ true = grind arith in let q : int_le x y ≡ true = grind (arith, ints) in p ∙ sym q)
    (cases_lt n m)

same_order : (o : Order) (b m n : ℕ) (x y : ℤ) → pos m ≡ x +ℤ pos b → pos n ≡ y +ℤ pos b → are_in_order o m n ≡ numbers_in_order o x y
same_order Equal b m n x y e f = equal_numbers b m n x y e f
same_order NotEqual b m n x y e f = ap not (equal_numbers b m n x y e f)
same_order Less b m n x y e f = less_numbers b m n x y e f
same_order LessEqual b m n x y e f = at_most_numbers b m n x y e f

word_of_truth : (b : Test) → (if b then 1 else 0) ≡ word_of (truth_number b)
unfolding word_of
word_of_truth true = refl
word_of_truth false = refl

pub place_compared : (o : Order) (t : Dtype) (v w r : ℕ) (x y : ℤ) → r ≡ compared o (bias_of t) v w → IsWord t v x → IsWord t w y → IsWord Bool r (truth_number (numbers_in_order o x y))
place_compared o t v w r x y e g h =
    is_word Bool r (truth_number (numbers_in_order o x y))
    (e ∙ ap (λ b. if b then 1 else 0) (same_order o (bias_of t) (key (bias_of t) v) (key (bias_of t) w) x y (key_is t v x g) (key_is t w y h)) ∙ word_of_truth (numbers_in_order o x y))
    (truth_number_in_range (numbers_in_order o x y))

-- the types but uint64 have one bias
pub bias_of_others : (t : Dtype) → t ≢ Uint64 → bias_of t ≡ bias_of Int64
bias_of_others Bool e = refl
bias_of_others Int8 e = refl
bias_of_others Int16 e = refl
bias_of_others Int32 e = refl
bias_of_others Int64 e = refl
bias_of_others Uint8 e = refl
bias_of_others Uint16 e = refl
bias_of_others Uint32 e = refl
bias_of_others Uint64 e = absurd (e refl)

-- ---- eight lanes

pub chosen : (t : ℕ → ℕ → Test) (n b : ℕ) (xs ys : List ℕ) → length xs ≡ n → length ys ≡ n
    → sel_l {A = ℕ} (zip2 t (zip2 (λ m n. (m + n) % 2 ^ 64) xs (replicate n b)) (zip2 (λ m n. (m + n) % 2 ^ 64) ys (replicate n b))) (replicate n 1) (replicate n 0) ≡ zip2 (λ v w. if t (key b v) (key b w) then 1 else 0) xs ys
chosen t n b [] ys e f = refl
chosen t n b (x ∷ xs) [] e f = absurd (omega arith)
chosen t zero b (x ∷ xs) (y ∷ ys) e f = absurd (omega arith)
chosen t (suc n) b (x ∷ xs) (y ∷ ys) e f = ap (λ l. (if t (key b x) (key b y) then 1 else 0) ∷ l) (chosen t n b xs ys (omega arith) (omega arith))
