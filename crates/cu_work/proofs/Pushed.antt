-- A loop that appends to a list as long as there is memory.
use Rattle.std.proofs.Common.{◌≡◌, ℕ, ◌+◌, Bool, List, [], ◌∷◌, ◌++◌, replicate, cond, false, ap, ◌∙◌}
use Rattle.std.specs.Prelude.{not}
use Rattle.std.proofs.lemmas.List.{replicate_more, append_assoc}

-- a push that didn't fail
pub pushed : {A : Type 0} (ok failed : Bool) (old new : List A) (x : A) → new ≡ cond ok (old ++ x ∷ []) old → ok ≡ not failed → failed ≡ false → new ≡ old ++ x ∷ []
pushed {A} ok failed old new x is negation fails = is ∙ ap (λ (b : Bool). cond b (old ++ x ∷ []) old) (negation ∙ ap not fails)

-- one more of the same behind a list
pub same_more : {A : Type 0} (n : ℕ) (x y : A) (front old new : List A) → old ≡ front ++ replicate n x → y ≡ x → new ≡ old ++ y ∷ [] → new ≡ front ++ replicate (n + 1) x
same_more {A} n x y front old new so_far is more =
    more ∙ ap (λ (xs : List A). xs ++ y ∷ []) so_far ∙ append_assoc front (replicate n x) (y ∷ []) ∙ ap (λ (z : A). front ++ (replicate n x ++ z ∷ [])) is
    ∙ ap (λ (xs : List A). front ++ xs) (replicate_more n x)
