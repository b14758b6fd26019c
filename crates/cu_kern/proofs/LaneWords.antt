-- What calls on words take and give, by the types of a kernel's steps.
use Rattle.std.proofs.Common.{◌≡◌, ◌⊎◌, inl, inr, ℕ, zero, suc, ◌==◌, ◌<◌, ◌∙◌, List, get_or, true, false, refl, ap, sym, subst, arith, ℤ, pos, negsuc, if◌then◌else◌}
use Rattle.std.proofs.Math.ListN.{replicate}
use Rattle.std.proofs.lemmas.List.{get_or-replicate}
use Rattle.std.specs.Prelude.{Bool as Test}
use Rattle.std.specs.Ordering.{int_eq}
use Rattle.std.proofs.lemmas.Int.{ints}
use Rattle.cu_num.specs.Dtype.{InRange}
use Rattle.cu_num.specs.Word.{word_of, IsWord}
use Rattle.cu_num.specs.declared.types.Dtype.{Dtype}
use Rattle.cu_num.specs.declared.types.Dtype.TheVariants.{Bool}
use Rattle.cu_num.specs.declared.functions.Fn1.{Fn1}
use Rattle.cu_num.specs.declared.functions.Fn1.TheVariants.{Astype}
use Rattle.cu_op.specs.Kernel.{selected}
use Rattle.cu_op.specs.KernelTypes.{IsArgument}
use Rattle.cu_lane.proofs.Words.{word_is, word_range}

-- what a function of one argument takes, as the calls on words say it
pub taken_as : (f : Fn1) (from t : Dtype) → IsArgument f from t → (from ≡ t) ⊎ (f ≡ Astype)
taken_as Astype from t a = inr refl
taken_as f from t a = inl a

-- a word of a truth value is 1 where the value is
word_is_one : (u : ℕ) (c : ℤ) → u ≡ word_of c → InRange Bool c → u == 1 ≡ int_eq c (pos 1)
unfolding word_of
word_is_one u (pos zero) e h = ap (λ n. n == 1) e
word_is_one u (pos (suc zero)) e h = ap (λ n. n == 1) e
word_is_one u (pos (suc (suc n))) e h = absurd (omega (arith, ints))
word_is_one u (negsuc n) e h = absurd (omega (arith, ints))

either : (b : Test) (t : Dtype) (v w : ℕ) (x y : ℤ) → IsWord t v x → IsWord t w y → IsWord t (if b then v else w) (if b then x else y)
either true t v w x y g h = g
either false t v w x y g h = h

-- the word that a choice of words leaves is that of the choice of their numbers
pub place_selected : (u v w r : ℕ) → r ≡ (if u == 1 then v else w) → (t : Dtype) (c x y : ℤ) → IsWord Bool u c → IsWord t v x → IsWord t w y → IsWord t r (selected c x y)
place_selected u v w r e t c x y f g h =
    let same : u == 1 ≡ int_eq c (pos 1) = word_is_one u c (word_is Bool u c f) (word_range Bool u c f) in
    let P : Test → Type 0 = λ b. IsWord t (if b then v else w) (selected c x y) in
    let Q : ℕ → Type 0 = λ n. IsWord t n (selected c x y) in
    subst Q (sym e) (subst P (sym same) (either (int_eq c (pos 1)) t v w x y g h))

-- a word of those that were all filled with one
pub word_filled : (words : List ℕ) (count w k : ℕ) → words ≡ replicate count w → k < count → get_or words k 0 ≡ w
word_filled words count w k e h = ap (λ ws. get_or ws k 0) e ∙ get_or-replicate count k w 0 h
