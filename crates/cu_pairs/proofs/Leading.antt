-- The best value of numbers that follow one another, and the first that has it.
use Rattle.std.proofs.Common.{◌≡◌, ◌≢◌, ℕ, suc, ℤ, ◌+◌, ◌-◌, ◌*◌, ◌/◌, List, length, take, drop, ◌<◌, ◌≤◌, true, false, refl, sym, ap, ◌∙◌, subst, arith, below_more, ⊎_elim, if◌then◌else◌}
use Rattle.std.specs.Prelude.{Bool as Test, int_lt, ◌||◌}
use Rattle.std.proofs.lemmas.Int.{ints}
use Rattle.std.proofs.lemmas.Bool.{cases_lt}
use Rattle.cu_reduce.specs.Places.{Found, is_beyond}
use Rattle.cu_pairs.specs.Columns.{IsBestOf}
use Rattle.cu_pairs.proofs.BestOf.{not_better_beaten, not_better_later}
use Rattle.cu_num.specs.Dtype.{size_of}
use Rattle.cu_num.specs.declared.types.Dtype.{Dtype}
use Rattle.cu_pairs.proofs.Parts.{element_of_part, part_length, element_count}
use Rattle.std.proofs.Math.Nat.{mul-le-mul_right}
use Rattle.cu_pairs.specs.Runs.{elements, TellsBeyond, IsBestValue, IsFirstBest, IsLeading}

-- ---- the order

pub not_own : (least : Test) (x : ℤ) → is_beyond least x x ≡ false
not_own true x = grind (arith, ints)
not_own false x = grind (arith, ints)

-- what isn't beyond b isn't beyond an x that is, and x is beyond it
pub not_beyond_more : (least : Test) (v b x : ℤ) → is_beyond least v b ≡ false → is_beyond least x b ≡ true → is_beyond least v x ≡ false
not_beyond_more true v b x h g = grind (arith, ints)
not_beyond_more false v b x h g = grind (arith, ints)

pub beyond_past : (least : Test) (v b x : ℤ) → is_beyond least v b ≡ false → is_beyond least x b ≡ true → is_beyond least x v ≡ true
beyond_past true v b x h g = grind (arith, ints)
beyond_past false v b x h g = grind (arith, ints)

pub not_beyond_trans : (least : Test) (v b x : ℤ) → is_beyond least v x ≡ false → is_beyond least x b ≡ false → is_beyond least v b ≡ false
not_beyond_trans true v b x h g = grind (arith, ints)
not_beyond_trans false v b x h g = grind (arith, ints)

pub beyond_apart : (least : Test) (v b : ℤ) → is_beyond least v b ≡ false → v ≢ b → is_beyond least b v ≡ true
beyond_apart true v b h g = grind (arith, ints)
beyond_apart false v b h g = grind (arith, ints)

-- the best of those of which one is beyond b is beyond it too
pub beyond_reached : (least : Test) (y v b : ℤ) → is_beyond least y b ≡ true → is_beyond least y v ≡ false → is_beyond least v b ≡ true
beyond_reached true y v b h g = grind (arith, ints)
beyond_reached false y v b h g = grind (arith, ints)

-- what both have the chosen one has
pub one_of : (P : ℤ → Type 0) (choice : Test) (x y : ℤ) → P x → P y → P (if choice then x else y)
one_of P true x y p q = p
one_of P false x y p q = q

-- ---- one number more

pub first_value : (least : Test) (f : ℕ → ℤ) (b : ℤ) → f 0 ≡ b → IsBestValue least f 1 b
first_value least f b h = record {
  number = 0;
  within = omega arith;
  is = h;
  none = λ j below. let same : 0 ≡ j = omega arith in subst (λ i. is_beyond least (f i) b ≡ false) same (subst (λ x. is_beyond least x b ≡ false) (sym h) (not_own least b));
}

pub value_more : (least : Test) (f : ℕ → ℤ) (at : ℕ) (b x new : ℤ) (choice : Test) → IsBestValue least f at b → f at ≡ x → choice ≡ is_beyond least x b → new ≡ (if choice then x else b)
    → IsBestValue least f (at + 1) new
value_more least f at b x new true h is e n = record {
  number = at;
  within = omega arith;
  is = is ∙ sym n;
  none = below_more _ _
      (λ j below. subst (λ v. is_beyond least (f j) v ≡ false) (sym n) (not_beyond_more least (f j) b x (h.none j below) (sym e)))
      (subst (λ v. is_beyond least v new ≡ false) (n ∙ sym is) (not_own least new));
}
value_more least f at b x new false h is e n = record {
  number = h.number;
  within = let w = h.within in omega arith;
  is = h.is ∙ sym n;
  none = below_more _ _
      (λ j below. subst (λ v. is_beyond least (f j) v ≡ false) (sym n) (h.none j below))
      (subst (λ v. is_beyond least (f at) v ≡ false) (sym n) (subst (λ v. is_beyond least v b ≡ false) (sym is) (sym e)));
}

-- ---- one block more

pub leading_first : (least : Test) (f : ℕ → ℤ) (count : ℕ) (b : ℤ) → IsBestValue least f count b → IsLeading least f count 0 b
leading_first least f count b h = record {
  number = h.number;
  after = omega arith;
  within = h.within;
  is = h.is;
  none = h.none;
  before = λ j below. absurd (omega arith);
}

abbrev pub OfBlock : Test → (ℕ → ℤ) → ℕ → ℕ → ℤ → Type 0
OfBlock least f count more value = IsBestValue least (λ j. f (count + j)) more value

-- the best value of a part of the elements
pub block_value : (least : Test) (t : Dtype) (bytes : List ℕ) (f : ℕ → ℤ) (first m from n : ℕ) (value : ℤ) → ((j : ℕ) → f j ≡ elements t bytes (first + j))
    → from ≡ first * size_of t → n ≡ m * size_of t → from + n ≤ length bytes
    → IsBestValue least (elements t (take n (drop from bytes))) (length (take n (drop from bytes)) / size_of t) value → IsBestValue least f m value
block_value least t bytes f first m from n value own starts long room h =
    let count : length (take n (drop from bytes)) / size_of t ≡ m = element_count t m (size_of t) (length (take n (drop from bytes))) refl (part_length bytes from n room ∙ long) in
    let read : (j : ℕ) → j < m → elements t (take n (drop from bytes)) j ≡ f j = λ j b.
    let far : suc j * size_of t ≤ m * size_of t = mul-le-mul_right (size_of t) b in
    element_of_part t bytes first from n j starts (omega arith) ∙ sym (own j) in
    let within = h.within in
    record {
      number = h.number;
      within = omega arith;
      is = sym (read h.number (omega arith)) ∙ h.is;
      none = λ j b. subst (λ v. is_beyond least v value ≡ false) (read j b) (h.none j (omega arith));
    }

by_block : (P : ℕ → Type 0) (count more : ℕ) → ((j : ℕ) → j < count → P j) → ((j : ℕ) → j < more → P (count + j)) → (j : ℕ) → j < count + more → P j
by_block P count more below above j b =
    ⊎_elim (λ less. below j less)
    (λ far. let sum : count + (j - count) ≡ j = omega arith in subst P sum (above (j - count) (omega arith)))
    (cases_lt j count)

pub leading_more : (least : Test) (f : ℕ → ℤ) (count more start : ℕ) (best value : ℤ) → IsLeading least f count start best → OfBlock least f count more value
    → is_beyond least value best ≡ true → IsLeading least f (count + more) count value
leading_more least f count more start best value h g e = record {
  number = count + g.number;
  after = omega arith;
  within = let w = g.within in omega arith;
  is = g.is;
  none = by_block (λ j. is_beyond least (f j) value ≡ false) count more (λ j b. not_beyond_more least (f j) best value (h.none j b) e) g.none;
  before = λ j b. beyond_past least (f j) best value (h.none j b) e;
}

pub leading_kept : (least : Test) (f : ℕ → ℤ) (count more start : ℕ) (best value : ℤ) → IsLeading least f count start best → OfBlock least f count more value
    → is_beyond least value best ≡ false → IsLeading least f (count + more) start best
leading_kept least f count more start best value h g e = record {
  number = h.number;
  after = h.after;
  within = let w = h.within in omega arith;
  is = h.is;
  none = by_block (λ j. is_beyond least (f j) best ≡ false) count more h.none (λ j b. not_beyond_trans least (f (count + j)) best value (g.none j b) e);
  before = h.before;
}

-- ---- whether one is beyond

pub tells_more : (least : Test) (f : ℕ → ℤ) (at : ℕ) (x : ℤ) (any beyond : Test) → TellsBeyond any least f at x → beyond ≡ is_beyond least (f at) x → TellsBeyond (any || beyond) least f (at + 1) x
tells_more least f at x true beyond h e = (h.0, let b = h.1 in omega arith, h.2)
tells_more least f at x false true h e = (at, omega arith, sym e)
tells_more least f at x false false h e = below_more _ _ h (sym e)

tells_same : (told least : Test) (f g : ℕ → ℤ) (m n : ℕ) (x : ℤ) → m ≡ n → ((j : ℕ) → j < n → g j ≡ f j) → TellsBeyond told least g m x → TellsBeyond told least f n x
tells_same true least f g m n x e same h =
    let within = h.1 in
    let below : h.0 < n = omega arith in
    (h.0, below, subst (λ v. is_beyond least v x ≡ true) (same h.0 below) h.2)
tells_same false least f g m n x e same h = λ j b. subst (λ v. is_beyond least v x ≡ false) (same j b) (h j (omega arith))

pub told_of_part : (told least : Test) (t : Dtype) (bytes : List ℕ) (first more from n : ℕ) (x : ℤ) → from ≡ first * size_of t → n ≡ more * size_of t → from + n ≤ length bytes
    → TellsBeyond told least (elements t (take n (drop from bytes))) (length (take n (drop from bytes)) / size_of t) x → TellsBeyond told least (λ j. elements t bytes (first + j)) more x
told_of_part told least t bytes first more from n x starts long room h =
    let count : length (take n (drop from bytes)) / size_of t ≡ more = element_count t more (size_of t) (length (take n (drop from bytes))) refl (part_length bytes from n room ∙ long) in
    let read : (j : ℕ) → j < more → elements t (take n (drop from bytes)) j ≡ elements t bytes (first + j) = λ j b.
    let far : suc j * size_of t ≤ more * size_of t = mul-le-mul_right (size_of t) b in
    element_of_part t bytes first from n j starts (omega arith) in
    tells_same told least (λ j. elements t bytes (first + j)) (elements t (take n (drop from bytes))) _ more x count read h

-- the first best of a part that has one beyond those before is that of all
pub told_more : (least : Test) (f : ℕ → ℤ) (count more at k : ℕ) → IsFirstBest least f count at → TellsBeyond true least (λ j. f (count + j)) more (f at)
    → IsFirstBest least (λ j. f (count + j)) more k → IsFirstBest least f (count + more) (count + k)
told_more least f count more at k h one g =
    let e = beyond_reached least (f (count + one.0)) (f (count + k)) (f at) one.2 (g.none one.0 one.1) in
    record {
      within = let w = g.within in omega arith;
      none = by_block (λ j. is_beyond least (f j) (f (count + k)) ≡ false) count more (λ j b. not_beyond_more least (f j) (f at) (f (count + k)) (h.none j b) e) g.none;
      first = by_block (λ j. is_beyond least (f (count + k)) (f j) ≡ true) count k (λ j b. beyond_past least (f j) (f at) (f (count + k)) (h.none j b) e) g.first;
    }

pub told_kept : (least : Test) (f : ℕ → ℤ) (count more at : ℕ) → IsFirstBest least f count at → TellsBeyond false least (λ j. f (count + j)) more (f at) → IsFirstBest least f (count + more) at
told_kept least f count more at h none = record {
  within = let w = h.within in omega arith;
  none = by_block (λ j. is_beyond least (f j) (f at) ≡ false) count more h.none none;
  first = h.first;
}

-- ---- the first of them

pub first_is : (least : Test) (f g : ℕ → ℤ) (count start k : ℕ) (best : ℤ) → IsLeading least f count start best → ((j : ℕ) → start + j < count → g j ≡ f (start + j))
    → ((j : ℕ) → j < k → g j ≢ best) → (k < count - start → g k ≡ best) → IsFirstBest least f count (start + k)
first_is least f g count start k best h part before found =
    let n = h.number in
    let after = h.after in
    let within = h.within in
    let sum : start + (n - start) ≡ n = omega arith in
    let own : g (n - start) ≡ best = part (n - start) (omega arith) ∙ ap f sum ∙ h.is in
    let near : k ≤ n - start = ⊎_elim (λ less. absurd (before (n - start) less own)) (λ far. far) (cases_lt (n - start) k) in
    let is : f (start + k) ≡ best = sym (part k (omega arith)) ∙ found (omega arith) in
    record {
      within = omega arith;
      none = λ j b. subst (λ v. is_beyond least (f j) v ≡ false) (sym is) (h.none j b);
      first = λ j b. subst (λ v. is_beyond least v (f j) ≡ true) (sym is)
          (⊎_elim (λ less. h.before j less)
          (λ far.
          let sum : start + (j - start) ≡ j = omega arith in
          let here : g (j - start) ≡ f j = part (j - start) (omega arith) ∙ ap f sum in
          beyond_apart least (f j) best (h.none j (omega arith)) (λ e. before (j - start) (omega arith) (here ∙ e)))
          (cases_lt j start));
    }

-- where later places aren't before earlier ones, the first best value is the best
pub first_is_best : (least : Test) (f : ℕ → Found) (count at : ℕ) → IsFirstBest least (λ j. (f j).value) count at → ((i j : ℕ) → i ≤ j → j < count → int_lt (f j).place (f i).place ≡ false)
    → IsBestOf least f count (f at)
first_is_best least f count at h ordered = record {
  number = at;
  within = h.within;
  is = refl;
  none = λ j b. ⊎_elim (λ less. not_better_beaten least (f j) (f at) (h.none j b) (h.first j less)) (λ far. not_better_later least (f j) (f at) (h.none j b) (ordered at j far b)) (cases_lt j at);
}

pub same_first : (least : Test) (f g : ℕ → ℤ) (count at : ℕ) → ((j : ℕ) → j < count → f j ≡ g j) → IsFirstBest least f count at → IsFirstBest least g count at
same_first least f g count at e h = let within = h.within in record {
  within = h.within;
  none = λ j b. subst (λ v. is_beyond least v (g at) ≡ false) (e j b) (subst (λ v. is_beyond least (f j) v ≡ false) (e at within) (h.none j b));
  first = λ j b. subst (λ v. is_beyond least (g at) v ≡ true) (e j (omega arith)) (subst (λ v. is_beyond least v (f j) ≡ true) (e at within) (h.first j b));
}

-- the first best of a part of the elements
pub first_of_part : (least : Test) (t : Dtype) (bytes : List ℕ) (first more from n k : ℕ) → from ≡ first * size_of t → n ≡ more * size_of t → from + n ≤ length bytes
    → IsFirstBest least (elements t (take n (drop from bytes))) (length (take n (drop from bytes)) / size_of t) k → IsFirstBest least (λ j. elements t bytes (first + j)) more k
first_of_part least t bytes first more from n k starts long room h =
    let count : length (take n (drop from bytes)) / size_of t ≡ more = element_count t more (size_of t) (length (take n (drop from bytes))) refl (part_length bytes from n room ∙ long) in
    let read : (j : ℕ) → j < more → elements t (take n (drop from bytes)) j ≡ elements t bytes (first + j) = λ j b.
    let far : suc j * size_of t ≤ more * size_of t = mul-le-mul_right (size_of t) b in
    element_of_part t bytes first from n j starts (omega arith) in
    same_first least (elements t (take n (drop from bytes))) (λ j. elements t bytes (first + j)) more k read
    (subst (λ m. IsFirstBest least (elements t (take n (drop from bytes))) m k) count h)

-- the first that has the best value
pub first_that_is : (least : Test) (f : ℕ → ℤ) (count k : ℕ) (best : ℤ) → IsBestValue least f count best → ((j : ℕ) → j < k → f j ≢ best) → (k < count → f k ≡ best) → IsFirstBest least f count k
first_that_is least f count k best h before found =
    let none : 0 + k ≡ k = omega arith in
    subst (λ m. IsFirstBest least f count m) none
    (first_is least f f count 0 k best (leading_first least f count best h) (λ j b. ap f (omega arith)) before (λ b. found (omega arith)))
