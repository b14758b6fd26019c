-- Functions axis by axis, read at an axis.
use Rattle.std.proofs.Common.{◌≡◌, ℕ, zero, suc, ◌<◌, List, [], ◌∷◌, length, map, get_or, refl, ap, ◌∙◌, sym, arith}
use Rattle.std.proofs.lemmas.List.{ext_get_or}
use Rattle.cu_shape.specs.Index.{axis_by_axis}

pub length-axis_by_axis : (f : ℕ → ℕ → ℕ) (xs ys : List ℕ) → length xs ≡ length ys → length (axis_by_axis f xs ys) ≡ length xs
length-axis_by_axis f [] ys h = refl
length-axis_by_axis f (x ∷ xs) [] h = absurd (omega arith)
length-axis_by_axis f (x ∷ xs) (y ∷ ys) h = ap suc (length-axis_by_axis f xs ys (omega arith))

pub get_or-axis_by_axis : (f : ℕ → ℕ → ℕ) (xs ys : List ℕ) (k : ℕ) → k < length xs → k < length ys → get_or (axis_by_axis f xs ys) k 0 ≡ f (get_or xs k 0) (get_or ys k 0)
get_or-axis_by_axis f [] ys k p q = absurd (omega arith)
get_or-axis_by_axis f (x ∷ xs) [] k p q = absurd (omega arith)
get_or-axis_by_axis f (x ∷ xs) (y ∷ ys) zero p q = refl
get_or-axis_by_axis f (x ∷ xs) (y ∷ ys) (suc k) p q = get_or-axis_by_axis f xs ys k (omega arith) (omega arith)

-- a list that has the function's values on each axis is the function of the lists
pub axis_by_axis_from : (f : ℕ → ℕ → ℕ) (r xs ys : List ℕ) → length r ≡ length xs → length xs ≡ length ys → ((k : ℕ) → k < length xs → get_or r k 0 ≡ f (get_or xs k 0) (get_or ys k 0)) → r ≡ axis_by_axis f xs ys
axis_by_axis_from f r xs ys p q h =
    ext_get_or 0 r (axis_by_axis f xs ys) (p ∙ sym (length-axis_by_axis f xs ys q))
    (λ k b. h k (omega arith) ∙ sym (get_or-axis_by_axis f xs ys k (omega arith) (omega arith)))

-- a list that has one number on each axis
pub same_from : (xs ns : List ℕ) (number : ℕ) → length xs ≡ length ns → ((k : ℕ) → k < length ns → get_or xs k 0 ≡ number) → xs ≡ map (λ n. number) ns
same_from [] [] number e h = refl
same_from [] (n ∷ ns) number e h = absurd (omega arith)
same_from (x ∷ xs) [] number e h = absurd (omega arith)
same_from (x ∷ xs) (n ∷ ns) number e h =
    let first : x ≡ number = h 0 (omega arith) in
    let rest = same_from xs ns number (omega arith) (λ k l. h (suc k) (omega arith)) in
    cons_same x number xs (map (λ n. number) ns) first rest
  where
    cons_same : (x y : ℕ) (xs ys : List ℕ) → x ≡ y → xs ≡ ys → x ∷ xs ≡ y ∷ ys
    cons_same x y xs ys e f = cc
