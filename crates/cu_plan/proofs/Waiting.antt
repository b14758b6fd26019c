-- What an operation waits for, array by array that it reads.
use Rattle.cu_op.proofs.Depths.{ordered, same_ops}
use Rattle.cu_op.proofs.Fetched.{maker_before}
use Rattle.cu_op.proofs.Members.{bool_cases}
use Rattle.cu_op.specs.Arrays.{is_inlined, maker_at}
use Rattle.cu_op.specs.Operation.{reads_of, IsReadable}
use Rattle.cu_op.specs.PlanView.{PlanView, op_of}
use Rattle.cu_op.specs.Sound.{Sound}
use Rattle.cu_op.specs.Within.{made_by, maker_op, ops_deep, ops_within}
use Rattle.cu_op.specs.declared.operation.Op.{Op}
use Rattle.cu_plan.specs.Listed.{comes_from, is_made_by, reads_from, stores, waits_for}
use Rattle.std.proofs.Common.{◌≡◌, inl, inr, ℕ, suc, ◌<◌, Bool, true, false, ◌||◌, List, [], ◌∷◌, length, Contains, Option, None, Some, refl, ap, sym, ◌∙◌, arith, if◌then◌else◌}
use Rattle.std.proofs.lemmas.List.Elements.{All-contains}
use Rattle.std.proofs.lemmas.List.Folds.{list_any-append}
use Rattle.std.specs.List.{flat_map, list_any}

or_swap : (a b c d : Bool) → ((a || b) || (c || d)) ≡ ((a || c) || (b || d))
or_swap true b c d = refl
or_swap false false c d = refl
or_swap false true true d = refl
or_swap false true false d = refl

or_false : (a : Bool) → (a || false) ≡ a
or_false true = refl
or_false false = refl

-- of a test of each item and of each item's list
any_of_both : {A B : Type 0} (f h : A → Bool) (q : B → Bool) (inner : A → List B) (xs : List A)
    → ((x : A) → Contains xs x → (f x || list_any q (inner x)) ≡ h x) → (list_any f xs || list_any q (flat_map inner xs)) ≡ list_any h xs
any_of_both f h q inner [] same = refl
any_of_both f h q inner (x ∷ xs) same =
    let first = same x (0, omega arith, refl) in
    let rest = any_of_both f h q inner xs (λ y there. same y (suc there.0, (let l = there.1 in omega arith), there.2)) in
    ap (λ (b : Bool). (f x || list_any f xs) || b) (list_any-append q (inner x) (flat_map inner xs))
    ∙ or_swap (f x) (list_any f xs) (list_any q (inner x)) (list_any q (flat_map inner xs))
    ∙ ap (λ (b : Bool). b || (list_any f xs || list_any q (flat_map inner xs))) first
    ∙ ap (λ (b : Bool). h x || b) rest

-- an input is made by none
pub from_none : (p : PlanView) (a j : ℕ) → maker_at p.arrays a ≡ None → comes_from p a j ≡ false
from_none p a j none =
    elim (bool_cases (is_inlined p.arrays a)) [
      | inl t ↦ rw (t, none) refl
      | inr f ↦ rw (f, none) refl
    ]

pub from_inlined : (p : PlanView) (a k j : ℕ) → is_inlined p.arrays a ≡ true → maker_at p.arrays a ≡ Some k → comes_from p a j ≡ waits_for p k j
from_inlined p a k j t made = rw (t, made) refl

pub from_stored : (p : PlanView) (a j : ℕ) → is_inlined p.arrays a ≡ false → comes_from p a j ≡ is_made_by (maker_at p.arrays a) j
from_stored p a j f = rw f refl

module _ (p : PlanView) (s : Sound p) (j : ℕ) where
  abbrev opened : ℕ → ℕ → List Op
  opened n a = if is_inlined p.arrays a then ops_deep p n (maker_op p a) else []

  comes_by : (k a : ℕ) → k < length p.ops → Contains (reads_of (op_of p k)) a
      → (stores p.arrays j a || list_any (reads_from p.arrays j) (opened k a)) ≡ comes_from p a j
  comes_by k a h read =
      elim (bool_cases (is_inlined p.arrays a)) [
        | inr f ↦
            let apart : (stores p.arrays j a || list_any (reads_from p.arrays j) (opened k a)) ≡ (is_made_by (maker_at p.arrays a) j || false) = rw f refl in
            apart ∙ or_false (is_made_by (maker_at p.arrays a) j) ∙ sym (from_stored p a j f)
        | inl t ↦
            let readable = All-contains (IsReadable p.arrays k) (reads_of (op_of p k)) a (s.operations k h).reads read in
            let made = (s.inlined a readable.0 t).maker in
            let before : made.0 < k = maker_before p s (maker_at p.arrays a) k made.0 readable.1 made.1 in
            let inside : ops_deep p k (maker_op p a) ≡ ops_within p made.0 =
            ap (λ (m : Option ℕ). ops_deep p k (made_by p m)) made.1 ∙ same_ops p (ordered p s) k made.0 made.0 (omega (arith, before, h)) (omega (arith, before)) (omega arith) in
            let apart : (stores p.arrays j a || list_any (reads_from p.arrays j) (opened k a)) ≡ list_any (reads_from p.arrays j) (ops_deep p k (maker_op p a)) = rw t refl in
            apart ∙ ap (list_any (reads_from p.arrays j)) inside ∙ sym (from_inlined p a made.0 j t made.1)
      ]

  pub waits_by : (k : ℕ) → k < length p.ops → waits_for p k j ≡ list_any (λ a. comes_from p a j) (reads_of (op_of p k))
  waits_by k h =
      ap (list_any (reads_from p.arrays j)) (same_ops p (ordered p s) k (suc k) k h (omega arith) (omega arith))
      ∙ any_of_both (stores p.arrays j) (λ a. comes_from p a j) (reads_from p.arrays j) (opened k) (reads_of (op_of p k)) (λ a read. comes_by k a h read)
