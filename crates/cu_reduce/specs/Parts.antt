-- A region of an array is cut into parts: on each axis a function tells where each part begins, and the part ends where the next begins.
use Rattle.std.specs.Prelude.{◌≡◌, ℕ, suc, ◌+◌, ◌*◌, ◌<◌, ◌≤◌, Bool, true, false, List, [], ◌∷◌, map, min, None, Some}
use Rattle.cu_reduce.specs.Groups.{Groups}
use Rattle.cu_reduce.specs.Regions.{region_indices}

-- where the part begins that has these numbers
abbrev pub part_start : List (ℕ → ℕ) → List ℕ → List ℕ
part_start [] ps = []
part_start (c ∷ cs) [] = []
part_start (c ∷ cs) (p ∷ ps) = c p ∷ part_start cs ps

-- no part begins before the one in front of it
abbrev pub Rises : List (ℕ → ℕ) → Type 0
Rises [] = Unit {0}
Rises (c ∷ cs) = ((p : ℕ) → c p ≤ c (suc p)) × Rises cs

-- the indices of a part
abbrev pub part_indices : List (ℕ → ℕ) → List ℕ → List (List ℕ)
part_indices cuts part = region_indices (part_start cuts part) (part_start cuts (map suc part))

-- an index lies in a region: from `lo` to below `hi` on each axis
abbrev pub IsBetween : List ℕ → List ℕ → List ℕ → Type 0
IsBetween [] [] [] = Unit {0}
IsBetween (l ∷ ls) (h ∷ hs) (i ∷ is) = (l ≤ i) × (i < h) × IsBetween ls hs is
IsBetween ls hs is = ⊥

-- where the groups of an array's elements begin
abbrev pub group_cuts : Groups → List ℕ → List (ℕ → ℕ)
group_cuts [] ns = []
group_cuts (g ∷ gs) [] = []
group_cuts (None ∷ gs) (n ∷ ns) = (λ p. p) ∷ group_cuts gs ns
group_cuts (Some s ∷ gs) (n ∷ ns) = (λ p. min n (p * s)) ∷ group_cuts gs ns

-- no group of an axis with elements is empty
abbrev pub HaveMembers : Groups → List ℕ → Type 0
HaveMembers (Some s ∷ gs) (n ∷ ns) = (0 < n → 0 < s) × HaveMembers gs ns
HaveMembers (None ∷ gs) (n ∷ ns) = HaveMembers gs ns
HaveMembers gs ns = Unit {0}

-- parts of parts
abbrev pub composed : List (ℕ → ℕ) → List (ℕ → ℕ) → List (ℕ → ℕ)
composed [] ds = []
composed (c ∷ cs) [] = []
composed (c ∷ cs) (d ∷ ds) = (λ p. c (d p)) ∷ composed cs ds

-- The parts together are a whole array: `counts` has how many there are on each axis, `shape` the array's sizes. On an axis that isn't
-- reduced each index is a part of its own. The axes are those from number `first` on.
abbrev pub Covers : (ℕ → Bool) → ℕ → List (ℕ → ℕ) → List ℕ → List ℕ → Type 0
Covers is_reduced first [] [] [] = Unit {0}
Covers is_reduced first (c ∷ cs) (m ∷ ms) (n ∷ ns) =
    (c 0 ≡ 0) × (c m ≡ n) × (is_reduced first ≡ false → (p : ℕ) → c p ≡ p) × Covers is_reduced (first + 1) cs ms ns
Covers is_reduced first cs ms ns = ⊥

-- there are groups on reduced axes alone, and one group on each of them in the end
abbrev pub KeepsAxes : (ℕ → Bool) → ℕ → Groups → Type 0
KeepsAxes is_reduced first [] = Unit {0}
KeepsAxes is_reduced first (g ∷ gs) = (is_reduced first ≡ false → g ≡ None) × KeepsAxes is_reduced (first + 1) gs

abbrev pub HasOnes : (ℕ → Bool) → ℕ → List ℕ → Type 0
HasOnes is_reduced first [] = Unit {0}
HasOnes is_reduced first (m ∷ ms) = (is_reduced first ≡ true → m ≡ 1) × HasOnes is_reduced (first + 1) ms
