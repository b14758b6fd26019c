-- The axes of a region as levels, each with its size and whether it is reduced, and the places of the elements that each result is made of.
use Rattle.std.specs.Prelude.{◌≡◌, ℕ, zero, suc, ◌+◌, ◌*◌, ◌/◌, ◌%◌, ◌<◌, ◌==◌, Bool, true, false, List, [], ◌∷◌, ◌++◌, map, if◌then◌else◌}
use Rattle.std.specs.List.{range_with_len, filter}
use Rattle.cu_fold.specs.declared.levels.Level.{Level}
use Rattle.cu_fold.specs.declared.levels.Leaf.{Leaf}
use Rattle.cu_fold.specs.declared.levels.Leaf.TheVariants.{Run, Row, Runs, Rows}

-- how many elements there are, and how many results
abbrev pub extent : List Level → ℕ
extent [] = 1
extent (l ∷ ls) = l.size * extent ls

abbrev pub results : List Level → ℕ
results [] = 1
results (l ∷ ls) = if l.is_reduced then results ls else l.size * results ls

-- the lists of the numbers below n, one after another
abbrev pub chained : ℕ → (ℕ → List ℕ) → List ℕ
chained zero f = []
chained (suc n) f = chained n f ++ f n

-- places that begin so much further on
abbrev pub moved : ℕ → List ℕ → List ℕ
moved by places = map (λ p. by + p) places

-- the places of the elements that result q is made of, in row-major order
abbrev pub sources : List Level → ℕ → List ℕ
sources [] q = 0 ∷ []
sources (l ∷ ls) q =
    if l.is_reduced then chained l.size (λ i. moved (i * extent ls) (sources ls q))
    else moved (q / results ls * extent ls) (sources ls (q % results ls))

-- how much further on the results of a level's next index begin
abbrev pub result_step : Level → List Level → ℕ
result_step l ls = if l.is_reduced then 0 else results ls

-- the result that the element at a place goes into
abbrev pub result_of : List Level → ℕ → ℕ
result_of [] p = 0
result_of (l ∷ ls) p = p / extent ls * result_step l ls + result_of ls (p % extent ls)

-- the places of the elements of result q among the n places from `start` on, in row-major order
abbrev pub places_in : List Level → ℕ → ℕ → ℕ → List ℕ
places_in levels q start n = filter (λ p. result_of levels p == q) (range_with_len start n)

-- the levels of axes of these sizes, numbered from `first` on
abbrev pub levels_from : (ℕ → Bool) → ℕ → List ℕ → List Level
levels_from is_reduced first [] = []
levels_from is_reduced first (n ∷ ns) = record { size = n; is_reduced = is_reduced first } ∷ levels_from is_reduced (first + 1) ns

-- the levels that one loop takes
abbrev pub leaf_levels : Leaf → List Level
leaf_levels (Run n) = record { size = n; is_reduced = true } ∷ []
leaf_levels (Row n) = record { size = n; is_reduced = false } ∷ []
leaf_levels (Runs n r) = record { size = n; is_reduced = false } ∷ record { size = r; is_reduced = true } ∷ []
leaf_levels (Rows n w) = record { size = n; is_reduced = true } ∷ record { size = w; is_reduced = false } ∷ []

-- the same elements go into the same results
pub record IsAlike (xs ys : List Level) : Type 0 where
  pub same_extent : extent xs ≡ extent ys
  pub same_results : results xs ≡ results ys
  pub same_sources : (q : ℕ) → q < results ys → sources xs q ≡ sources ys q
