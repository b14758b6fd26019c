-- The greatest of a list of numbers.
use Rattle.std.proofs.Common.{◌≡◌, ℕ, ◌<◌, ◌+◌, max, List, [], ◌∷◌, ◌++◌, length, take, map, get_or, refl, ap, ◌∙◌, arith}
use Rattle.std.proofs.lemmas.List.{map_more}
use Rattle.cu_shape.specs.Counts.{largest}

pub greatest_push : (ns : List ℕ) (n : ℕ) → largest (ns ++ n ∷ []) ≡ max n (largest ns)
greatest_push [] n = refl
greatest_push (m ∷ ms) n = let e = greatest_push ms n in rw e (omega arith)

pub greatest_more : (f : ℕ → ℕ) (xs : List ℕ) (i : ℕ) → i < length xs → largest (map f (take (i + 1) xs)) ≡ max (f (get_or xs i 0)) (largest (map f (take i xs)))
greatest_more f xs i h = ap largest (map_more f xs i 0 h) ∙ greatest_push (map f (take i xs)) (f (get_or xs i 0))

pub greatest_append : (ms ns : List ℕ) → largest (ms ++ ns) ≡ max (largest ms) (largest ns)
greatest_append [] ns = omega arith
greatest_append (m ∷ ms) ns = let e = greatest_append ms ns in rw e (omega arith)
