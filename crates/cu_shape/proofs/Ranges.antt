-- The numbers of a list on its axes from one to below another.
use Rattle.std.proofs.Common.{◌≡◌, ℕ, suc, ◌+◌, ◌-◌, ◌<◌, ◌≤◌, List, ◌∷◌, ◌++◌, [], length, get_or, arith, refl, ◌∙◌, sym, ap}
use Rattle.std.specs.List.{slice_range}
use Rattle.std.proofs.lemmas.List.{drop_more, append_assoc}

-- the first of them, and those after it
pub range_more : (xs : List ℕ) (k e : ℕ) → k < e → e ≤ length xs → slice_range xs k e ≡ get_or xs k 0 ∷ slice_range xs (k + 1) e
range_more xs k e below within =
    let left : e - k ≡ suc (e - (k + 1)) = omega arith in
    rw (drop_more xs k 0 (omega arith), left) refl

-- the first of them goes from the range to the list in front
pub pushed : (ys xs : List ℕ) (k e v : ℕ) → k < e → e ≤ length xs → v ≡ get_or xs k 0 → (ys ++ v ∷ []) ++ slice_range xs (k + 1) e ≡ ys ++ slice_range xs k e
pushed ys xs k e v below within is =
    append_assoc ys (v ∷ []) (slice_range xs (k + 1) e) ∙ ap (λ rest. ys ++ rest) (ap (λ n. n ∷ slice_range xs (k + 1) e) is ∙ sym (range_more xs k e below within))
