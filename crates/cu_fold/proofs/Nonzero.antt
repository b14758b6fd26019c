-- Whether a number of a list isn't 0, and a truth value that has taken the list.
use Rattle.std.proofs.Common.{◌≡◌, ℕ, ℤ, pos, negsuc, zero, suc, ◌≤◌, ◌||◌, true, false, List, [], ◌∷◌, length, refl, sym, ap, ◌∙◌, arith}
use Rattle.std.specs.Prelude.{Bool as Test}
use Rattle.std.specs.List.{list_any}
use Rattle.std.proofs.lemmas.Bool.Decides.{nat_tests}
use Rattle.cu_num.specs.Dtype.{InRange}
use Rattle.cu_num.specs.Wrap.{wrapped, truth_of}
use Rattle.cu_num.specs.Scalar.{truth_number, is_nonzero}
use Rattle.cu_num.specs.Element.{element_at, element_bytes}
use Rattle.cu_num.specs.declared.types.Dtype.TheVariants.{Bool}
use Rattle.cu_num.specs.declared.layout.Endian.TheVariants.{Little}
use Rattle.cu_num.specs.declared.folds.FoldKind.TheVariants.{Any}
use Rattle.cu_num.proofs.Wrapped.{wrapped_in_range, InRange-wrapped}
use Rattle.cu_num.proofs.ElementBytes.{written_at, bytes_at-written_at_same, length-element_bytes}
use Rattle.cu_reduce.specs.Running.{running}
use Rattle.cu_reduce.proofs.Combined.{test_of}
use Rattle.cu_take.specs.Taken.{HasTaken}
use Rattle.cu_take.proofs.Truths.{truth_wrapped}

pub or_none : (b : Test) → (b || false) ≡ b
or_none true = refl
or_none false = refl

or_some : (b : Test) → (b || true) ≡ true
or_some true = refl
or_some false = refl

or_turned : (a b c : Test) → ((a || b) || c) ≡ (a || (b || c))
or_turned true b c = refl
or_turned false b c = refl

-- ---- a truth value that takes numbers

truth_own : (x : ℤ) → truth_of x ≡ truth_number (is_nonzero x)
truth_own (pos zero) = refl
truth_own (pos (suc n)) = let e : is_nonzero (pos (suc n)) ≡ true = grind (arith, nat_tests) in ap truth_number (sym e)
truth_own (negsuc n) = let e : is_nonzero (negsuc n) ≡ true = grind (arith, nat_tests) in ap truth_number (sym e)

truth_is : (x : ℤ) → InRange Bool x → x ≡ truth_number (is_nonzero x)
unfolding wrapped
truth_is x f = sym (wrapped_in_range Bool x f) ∙ truth_own x

pub running_any : (x : ℤ) (xs : List ℤ) → InRange Bool x → running Any Bool x xs ≡ truth_number (is_nonzero x || list_any is_nonzero xs)
running_any x [] f = truth_is x f ∙ ap truth_number (sym (or_none (is_nonzero x)))
running_any x (y ∷ ys) f =
    let b = is_nonzero x || is_nonzero y in
    let z = wrapped Bool (truth_number b) in
    let own : is_nonzero z ≡ b = ap is_nonzero (sym (truth_wrapped Bool b refl)) ∙ test_of b in
    running_any z ys (InRange-wrapped Bool (truth_number b)) ∙ ap (λ t. truth_number (t || list_any is_nonzero ys)) own ∙ ap truth_number (or_turned (is_nonzero x) (is_nonzero y) (list_any is_nonzero ys))

pub takes_found : (old new : List ℕ) (xs : List ℤ) (one : ℤ) → list_any is_nonzero xs ≡ true → 1 ≤ length old → one ≡ pos 1 → new ≡ written_at Bool old 0 (element_bytes Little Bool one) → HasTaken Any Bool old new 0 xs
takes_found old new xs one found fits is written = record {
  number = λ x f has.
      let total : running Any Bool x xs ≡ pos 1 = running_any x xs f ∙ ap (λ b. truth_number (is_nonzero x || b)) found ∙ ap truth_number (or_some (is_nonzero x)) in
      ap (λ all. Rattle.cu_num.specs.Element.bytes_at Bool all 0) written ∙ bytes_at-written_at_same Bool old (element_bytes Little Bool one) 0 (length-element_bytes Little Bool one) (omega arith)
      ∙ ap (element_bytes Little Bool) (is ∙ sym total);
}

pub takes_nothing : (old : List ℕ) (xs : List ℤ) → list_any is_nonzero xs ≡ false → HasTaken Any Bool old old 0 xs
takes_nothing old xs none = record {
  number = λ x f has.
      let total : running Any Bool x xs ≡ x = running_any x xs f ∙ ap (λ b. truth_number (is_nonzero x || b)) none ∙ ap truth_number (or_none (is_nonzero x)) ∙ sym (truth_is x f) in
      has ∙ ap (element_bytes Little Bool) (sym total);
}
