-- Places and indices of an array in row-major order, over plain lists of naturals.
use Rattle.std.specs.Prelude.{ℕ, ◌+◌, ◌*◌, ◌/◌, ◌%◌, ◌<◌, ◌==◌, nat_lt, Bool, true, false, ◌&&◌, List, [], ◌∷◌, length, drop, map, ◌-◌, if◌then◌else◌}
use Rattle.std.specs.List.{range_with_len}

-- the number of elements of an array of these sizes; an array of rank 0 has one
abbrev pub product : List ℕ → ℕ
product [] = 1
product (n ∷ ns) = n * product ns

-- an index lies inside an array: one number for each axis, below the axis' size
abbrev pub IsInside : List ℕ → List ℕ → Type 0
IsInside [] [] = Unit {0}
IsInside [] (i ∷ is) = ⊥
IsInside (n ∷ ns) [] = ⊥
IsInside (n ∷ ns) (i ∷ is) = (i < n) × IsInside ns is

-- the same as a test
abbrev pub is_inside : List ℕ → List ℕ → Bool
is_inside [] [] = true
is_inside [] (i ∷ is) = false
is_inside (n ∷ ns) [] = false
is_inside (n ∷ ns) (i ∷ is) = nat_lt i n && is_inside ns is

-- the place of an index: the sum over the axes of the index times the product of the later sizes
abbrev pub place_of : List ℕ → List ℕ → ℕ
place_of (n ∷ ns) (i ∷ is) = i * product ns + place_of ns is
place_of [] is = 0
place_of (n ∷ ns) [] = 0

-- the index at a place
abbrev pub index_at : List ℕ → ℕ → List ℕ
index_at [] p = []
index_at (n ∷ ns) p = p / product ns ∷ index_at ns (p % product ns)

-- a function of two numbers, axis by axis, as long as the shorter list
abbrev pub axis_by_axis : (ℕ → ℕ → ℕ) → List ℕ → List ℕ → List ℕ
axis_by_axis f (i ∷ is) (j ∷ js) = f i j ∷ axis_by_axis f is js
axis_by_axis f [] js = []
axis_by_axis f (i ∷ is) [] = []

-- quotients, remainders, sums and products axis by axis; the quotient by 0 is 0, and its remainder the number
abbrev pub quotients : List ℕ → List ℕ → List ℕ
quotients = axis_by_axis (λ i c. i / c)

abbrev pub remainders : List ℕ → List ℕ → List ℕ
remainders = axis_by_axis (λ i c. i % c)

abbrev pub sums : List ℕ → List ℕ → List ℕ
sums = axis_by_axis (λ i j. i + j)

-- how far the numbers of one list are above those of another, 0 where they aren't
abbrev pub differences : List ℕ → List ℕ → List ℕ
differences = axis_by_axis (λ i j. i - j)

abbrev pub products : List ℕ → List ℕ → List ℕ
products = axis_by_axis (λ i c. i * c)

-- the indices of an array in row-major order
abbrev pub indices_of : List ℕ → List (List ℕ)
indices_of ds = map (index_at ds) (range_with_len 0 (product ds))

-- the index of an array that a result's index reads through broadcasting: the leading axes that the
-- array lacks are dropped, and an axis of size 1 is read at 0 (Python array API, "Broadcasting")
abbrev pub back_along : List ℕ → List ℕ → List ℕ
back_along (n ∷ ns) (i ∷ is) = (if n == 1 then 0 else i) ∷ back_along ns is
back_along [] is = []
back_along (n ∷ ns) [] = []

abbrev pub back : List ℕ → List ℕ → List ℕ
back shape idx = back_along shape (drop (length idx - length shape) idx)
