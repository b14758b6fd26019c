-- Lists over ranges of numbers.
use Rattle.std.proofs.Common.{◌≡◌, ℕ, ◌+◌, ◌<◌, ◌≤◌, zero, suc, List, [], ◌∷◌, ◌++◌, map, refl, sym, ap, ◌∙◌, arith}
use Rattle.std.specs.List.{range_with_len, flat_map}

pub range_append : (a m n : ℕ) → range_with_len a m ++ range_with_len (a + m) n ≡ range_with_len a (m + n)
range_append a zero n = let e : a + 0 ≡ a = omega arith in let f : 0 + n ≡ n = omega arith in ap (λ b. range_with_len b n) e ∙ ap (range_with_len a) (sym f)
range_append a (suc m) n =
    let e : a + suc m ≡ a + 1 + m = omega arith in
    let f : suc m + n ≡ suc (m + n) = omega arith in
    ap (λ b. a ∷ (range_with_len (a + 1) m ++ range_with_len b n)) e ∙ ap (λ xs. a ∷ xs) (range_append (a + 1) m n) ∙ ap (range_with_len a) (sym f)

pub range_shift : (a b n : ℕ) → range_with_len (a + b) n ≡ map (λ q. a + q) (range_with_len b n)
range_shift a b zero = refl
range_shift a b (suc n) =
    let e : a + b + 1 ≡ a + (b + 1) = omega arith in
    ap (λ c. (a + b) ∷ range_with_len c n) e ∙ ap (λ xs. (a + b) ∷ xs) (range_shift a (b + 1) n)

module _ {X : Type 0} where
  pub map_ranges : (f g : ℕ → X) (a b n : ℕ) → ((q : ℕ) → q < n → f (a + q) ≡ g (b + q)) → map f (range_with_len a n) ≡ map g (range_with_len b n)
  map_ranges f g a b zero h = refl
  map_ranges f g a b (suc n) h =
      let e : a + 0 ≡ a = omega arith in
      let d : b + 0 ≡ b = omega arith in
      let first : f a ≡ g b = ap f (sym e) ∙ h 0 (omega arith) ∙ ap g d in
      let rest = map_ranges f g (a + 1) (b + 1) n (λ q lt.
      let p : a + 1 + q ≡ a + suc q = omega arith in
      let r : b + suc q ≡ b + 1 + q = omega arith in
      ap f p ∙ h (suc q) (omega arith) ∙ ap g r) in
      (λ i. first i ∷ rest i)

module _ {X Y : Type 0} where
  pub map-append : (f : X → Y) (xs ys : List X) → map f (xs ++ ys) ≡ map f xs ++ map f ys
  map-append f [] ys = refl
  map-append f (x ∷ xs) ys = ap (λ zs. f x ∷ zs) (map-append f xs ys)

module _ {X Y Z : Type 0} where
  pub map-map : (f : Y → Z) (g : X → Y) (xs : List X) → map f (map g xs) ≡ map (λ x. f (g x)) xs
  map-map f g [] = refl
  map-map f g (x ∷ xs) = ap (λ ys. f (g x) ∷ ys) (map-map f g xs)

  pub flat_map-map : (g : Y → List Z) (f : X → Y) (xs : List X) → flat_map g (map f xs) ≡ flat_map (λ x. g (f x)) xs
  flat_map-map g f [] = refl
  flat_map-map g f (x ∷ xs) = ap (λ ys. g (f x) ++ ys) (flat_map-map g f xs)

  pub map-flat_map : (f : Y → Z) (g : X → List Y) (xs : List X) → map f (flat_map g xs) ≡ flat_map (λ x. map f (g x)) xs
  map-flat_map f g [] = refl
  map-flat_map f g (x ∷ xs) = map-append f (g x) (flat_map g xs) ∙ ap (λ ys. map f (g x) ++ ys) (map-flat_map f g xs)

-- a function that never falls
pub risen : (c : ℕ → ℕ) → ((p : ℕ) → c p ≤ c (suc p)) → (l n : ℕ) → c l ≤ c (l + n)
risen c r l zero = let e : l ≡ l + 0 = omega arith in let s : c l ≡ c (l + 0) = ap c e in omega arith
risen c r l (suc n) = let e : suc (l + n) ≡ l + suc n = omega arith in let s : c (suc (l + n)) ≡ c (l + suc n) = ap c e in omega (arith, risen c r l n, r (l + n))
