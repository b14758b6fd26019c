-- The words that calls on words leave at a place.
use Rattle.std.proofs.Common.{◌≡◌, ◌⊎◌, inl, inr, ℕ, ◌+◌, ◌<◌, ap, sym, ◌∙◌, subst, arith, ℤ, List, length, get_or, set, below_more, ◌≢◌}
use Rattle.std.proofs.lemmas.List.{get_or-set_other, get_or-set_same}
use Rattle.std.specs.Prelude.{FitsSigned}
use Rattle.std.specs.Int.{w128, cast_signed, cast_unsigned}
use Rattle.std.proofs.lemmas.Int.{to_z-of_z}
use Rattle.cu_num.specs.Dtype.{InRange}
use Rattle.cu_num.specs.Scalar.{op1, op2, result_type1, result_type2}
use Rattle.cu_num.specs.Wrap.{wrapped}
use Rattle.cu_num.specs.Word.{word_of, number_of, IsWord}
use Rattle.cu_num.proofs.ScalarRange.{InRange-op1, InRange-op2}
use Rattle.cu_num.proofs.Wrapped.{wrapped-wrapped}
use Rattle.cu_num.proofs.WordNumbers.{number_of-IsWord, number_of-word_of}
use Rattle.cu_num.specs.declared.types.Dtype.{Dtype}
use Rattle.cu_num.specs.declared.functions.Fn1.{Fn1}
use Rattle.cu_num.specs.declared.functions.Fn1.TheVariants.{Astype}
use Rattle.cu_num.specs.declared.functions.Fn2.{Fn2}

pub is_word : (t : Dtype) (w : ℕ) (x : ℤ) → w ≡ word_of x → InRange t x → IsWord t w x
unfolding IsWord
is_word t w x e h = (e, h)

pub word_is : (t : Dtype) (w : ℕ) (x : ℤ) → IsWord t w x → w ≡ word_of x
unfolding IsWord
word_is t w x h = h.0

pub word_range : (t : Dtype) (w : ℕ) (x : ℤ) → IsWord t w x → InRange t x
unfolding IsWord
word_range t w x h = h.1

-- a number that fits is passed on as it is
pub kept : (r : ℤ) → FitsSigned w128 r → cast_signed w128 (cast_unsigned w128 r) ≡ r
kept r f = to_z-of_z w128 r f

-- one place more: what holds of each place below i, and of the word that was written at i
pub one_more : (P : ℕ → ℕ → Type 0) (out : List ℕ) (i v : ℕ) → i < length out → ((k : ℕ) → k < i → P k (get_or out k 0)) → P i v → (k : ℕ) → k < i + 1 → P k (get_or (set out i v) k 0)
one_more P out i v h done here = below_more (λ k. P k (get_or (set out i v) k 0)) i
    (λ k b. let apart : k ≢ i = omega arith in subst (P k) (sym (get_or-set_other out i k v 0 apart)) (done k b))
    (subst (P i) (sym (get_or-set_same out i v 0 h)) here)

-- ---- what the calls of the loops give

pub called1 : (f : Fn1) (t : Dtype) (w r : ℕ) (n s : ℤ) → FitsSigned w128 n → FitsSigned w128 s → n ≡ number_of t w → s ≡ op1 f t (cast_signed w128 (cast_unsigned w128 n))
    → r ≡ word_of (cast_signed w128 (cast_unsigned w128 s)) → r ≡ word_of (op1 f t (number_of t w))
called1 f t w r n s fn fs en es er = er ∙ ap word_of (kept s fs ∙ es ∙ ap (op1 f t) (kept n fn ∙ en))

pub called2 : (f : Fn2) (t : Dtype) (v w r : ℕ) (m n s : ℤ) → FitsSigned w128 m → FitsSigned w128 n → FitsSigned w128 s → m ≡ number_of t v → n ≡ number_of t w
    → s ≡ op2 f t (cast_signed w128 (cast_unsigned w128 m)) (cast_signed w128 (cast_unsigned w128 n))
    → r ≡ word_of (cast_signed w128 (cast_unsigned w128 s)) → r ≡ word_of (op2 f t (number_of t v) (number_of t w))
called2 f t v w r m n s fm fn fs em en es er = er ∙ ap word_of (kept s fs ∙ es ∙ (λ i. op2 f t ((kept m fm ∙ em) i) ((kept n fn ∙ en) i)))

-- ---- what stands at one place

abbrev pub Place1 : Fn1 → Dtype → ℕ → ℕ → Type 0
Place1 f t w r = (from : Dtype) (x : ℤ) → (from ≡ t) ⊎ (f ≡ Astype) → IsWord from w x → IsWord (result_type1 f t) r (op1 f t x)

abbrev pub Place2 : Fn2 → Dtype → ℕ → ℕ → ℕ → Type 0
Place2 f t v w r = (x y : ℤ) → IsWord t v x → IsWord t w y → IsWord (result_type2 f t) r (op2 f t x y)

-- the function at the number that a word wraps to
cast_argument : (from t : Dtype) (w : ℕ) (x : ℤ) → IsWord from w x → wrapped t (number_of t w) ≡ wrapped t x
cast_argument from t w x h =
    ap (wrapped t) (ap (number_of t) (word_is from w x h) ∙ number_of-word_of t from x (word_range from w x h)) ∙ wrapped-wrapped t x

value1 : (f : Fn1) (from t : Dtype) (w : ℕ) (x : ℤ) → (from ≡ t) ⊎ (f ≡ Astype) → IsWord from w x → op1 f t (number_of t w) ≡ op1 f t x
value1 f from t w x (inl same) h = let P : Dtype → Type 0 = λ d. IsWord d w x in ap (op1 f t) (number_of-IsWord t w x (subst P same h))
value1 f from t w x (inr cast) h = let P : Fn1 → Type 0 = λ g. op1 g t (number_of t w) ≡ op1 g t x in subst P (sym cast) (cast_argument from t w x h)

pub place1 : (f : Fn1) (t : Dtype) (w r : ℕ) → r ≡ word_of (op1 f t (number_of t w)) → Place1 f t w r
place1 f t w r e from x a h = is_word (result_type1 f t) r (op1 f t x) (e ∙ ap word_of (value1 f from t w x a h)) (InRange-op1 f t x)

pub place2 : (f : Fn2) (t : Dtype) (v w r : ℕ) → r ≡ word_of (op2 f t (number_of t v) (number_of t w)) → Place2 f t v w r
place2 f t v w r e x y g h = is_word (result_type2 f t) r (op2 f t x y) (e ∙ ap word_of (λ i. op2 f t (number_of-IsWord t v x g i) (number_of-IsWord t w y h i))) (InRange-op2 f t x y)
