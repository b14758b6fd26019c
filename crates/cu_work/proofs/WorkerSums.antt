-- What the entries of each worker add up to.
use Rattle.std.proofs.Common.{◌≡◌, ◌≢◌, ℕ, zero, suc, ◌+◌, ◌<◌, ◌≤◌, min, Bool, cond, List, [], ◌∷◌, map, length, refl, ap, sym, ◌∙◌, arith, eq-eqb, ne_eqb}
use Rattle.std.proofs.lemmas.List.Sums.{sum_by-cons}
use Rattle.std.specs.Prelude.{slice_index_or, sum_by}
use Rattle.cu_history.specs.declared.entry.Entry.{Entry}
use Rattle.cu_history.specs.History.{own}
use Rattle.cu_lock.specs.Rule.{AllBelow}
use Rattle.cu_work.specs.Calls.{sum_of_first}
use Rattle.cu_work.proofs.Sums.{sum_more}

sum_zero : (f : ℕ → ℕ) (n : ℕ) → ((i : ℕ) → f i ≡ 0) → sum_of_first f n ≡ 0
sum_zero f zero none = refl
sum_zero f (suc n) none = let rest = sum_zero f n none in let last = none n in omega (arith, rest, last)

same_sum : (a b w t : ℕ) → a ≡ b + w → b ≡ t → a ≡ w + t
same_sum a b w t one two = omega (arith, one, two)

-- a sum over entries is the sum of those over the entries of each worker
module _ (weigh : Entry → ℕ) (total : List Entry → ℕ) (none : total [] ≡ 0) (more : (e : Entry) (es : List Entry) → total (e ∷ es) ≡ weigh e + total es) where
  pub parts_add : (n : ℕ) (es : List Entry) → AllBelow n es → sum_of_first (λ i. total (own i es)) n ≡ total es
  parts_add n [] below = sum_zero (λ i. total (own i [])) n (λ i. none) ∙ sym none
  parts_add n (e ∷ es) (low, rest) =
      same_sum (sum_of_first (λ i. total (own i (e ∷ es))) n) (sum_of_first (λ i. total (own i es)) n) (weigh e) (total es)
      (sum_more (λ i. total (own i es)) (λ i. total (own i (e ∷ es))) e.worker (weigh e) n low others mine) (parts_add n es rest)
      ∙ sym (more e es)
    where
      others : (i : ℕ) → i < n → i ≢ e.worker → total (own i (e ∷ es)) ≡ total (own i es)
      others i within apart = ap (λ (b : Bool). total (cond b (e ∷ own i es) (own i es))) (ne_eqb e.worker i (λ same. apart (sym same)))

      turned : (a b c : ℕ) → a ≡ b + c → a ≡ c + b
      turned a b c is = omega (arith, is)

      mine : total (own e.worker (e ∷ es)) ≡ total (own e.worker es) + weigh e
      mine =
          ap (λ (b : Bool). total (cond b (e ∷ own e.worker es) (own e.worker es))) (eq-eqb e.worker e.worker refl)
          ∙ turned (total (e ∷ own e.worker es)) (weigh e) (total (own e.worker es)) (more e (own e.worker es))

sum_front : (g : ℕ → ℕ) (n : ℕ) → sum_of_first g (suc n) ≡ g 0 + sum_of_first (λ i. g (suc i)) n
sum_front g zero = omega arith
sum_front g (suc n) = let rest = sum_front g n in omega (arith, rest)

few_more : (a s x t y u : ℕ) → a ≡ x + s → t ≡ y + u → x ≤ y → s ≤ u → a ≤ t
few_more a s x t y u one two first rest = omega (arith, one, two, first, rest)

many_more : (a s x t y u l : ℕ) → a ≡ x + s → t ≡ y + u → min y l ≤ x → min u l ≤ s → min t l ≤ a
many_more a s x t y u l one two first rest = omega (arith, one, two, first, rest)

module _ {X K : Type 0} (f : X → K) (h : K → ℕ) where
  -- where each value of a list is at most that at its place, so is the sum
  pub sum_few : (xs : List X) (g : ℕ → ℕ) → ((i : ℕ) (d : X) → i < length xs → h (f (slice_index_or xs i d)) ≤ g i) → sum_by h (map f xs) ≤ sum_of_first g (length xs)
  sum_few [] g few = omega arith
  sum_few (x ∷ xs) g few =
      few_more (sum_by h (f x ∷ map f xs)) (sum_by h (map f xs)) (h (f x)) (sum_of_first g (suc (length xs))) (g 0) (sum_of_first (λ i. g (suc i)) (length xs))
      (sum_by-cons h (f x) (map f xs)) (sum_front g (length xs)) (few 0 x (omega arith)) (sum_few xs (λ i. g (suc i)) (λ i d low. few (suc i) d (omega (arith, low))))

  -- and where each is at least that, as far as a count goes
  pub sum_many : (xs : List X) (g : ℕ → ℕ) (l : ℕ) → ((i : ℕ) (d : X) → i < length xs → min (g i) l ≤ h (f (slice_index_or xs i d))) → min (sum_of_first g (length xs)) l ≤ sum_by h (map f xs)
  sum_many [] g l many = omega arith
  sum_many (x ∷ xs) g l many =
      many_more (sum_by h (f x ∷ map f xs)) (sum_by h (map f xs)) (h (f x)) (sum_of_first g (suc (length xs))) (g 0) (sum_of_first (λ i. g (suc i)) (length xs)) l
      (sum_by-cons h (f x) (map f xs)) (sum_front g (length xs)) (many 0 x (omega arith)) (sum_many xs (λ i. g (suc i)) l (λ i d low. many (suc i) d (omega (arith, low))))
