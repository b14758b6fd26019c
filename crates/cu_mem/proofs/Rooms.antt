-- Rooms that are long enough.
use Rattle.std.proofs.Common.{ℕ, ◌≤◌, IsTrue, List, [], ◌∷◌, ◌++◌, arith}
use Rattle.std.proofs.lemmas.List.Elements.{All-append, All-cons, All-nil}
use Rattle.cu_store.specs.declared.yard.Spec.{Spec}
use Rattle.cu_cells.specs.Cells.{FitIn}

pub fit_more : (ss : List Spec) (n m : ℕ) → n ≤ m → FitIn ss n → FitIn ss m
fit_more ss n m more all = λ k d less made. let fits = all k d less made in omega arith

pub fit_last : (ss : List Spec) (s : Spec) (n : ℕ) → FitIn ss n → (IsTrue s.made → s.len ≤ n) → FitIn (ss ++ s ∷ []) n
fit_last ss s n all one =
    let P : Spec → Type 0 = λ t. IsTrue t.made → t.len ≤ n in
    All-append P ss (s ∷ []) all (All-cons P s [] one (All-nil P))
