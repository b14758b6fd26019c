-- The definitions on worked examples.
use Rattle.std.proofs.Common.{◌≡◌, ℕ, true, false, [], ◌∷◌, Option, Some, None, Ok, Err, ℤ, pos, negsuc, refl}
use Rattle.cu_shape.specs.Broadcast.{broadcast_of, mismatch_of}
use Rattle.cu_shape.specs.Index.{product, place_of, index_at, is_inside, back, differences}
use Rattle.cu_shape.specs.Several.{broadcast_of_all}
use Rattle.cu_shape.specs.Slice.{first_of, count_of}
use Rattle.cu_shape.specs.declared.fault.ShapeFault.TheVariants.{Mismatch}

-- Python's `slice(start, stop, step).indices(n)`: the first index and the count
abbrev Takes : Option ℤ → Option ℤ → ℤ → ℕ → ℕ → ℕ → Type 0
Takes start stop step n first count = (first_of start stop step n ≡ first) × (count_of start stop step n ≡ count)

all : Takes None None (pos 1) 5 0 5
all = (refl, refl)

reversed : Takes None None (negsuc 0) 5 4 5
reversed = (refl, refl)

from_the_end : Takes (Some (negsuc 2)) None (pos 1) 5 2 3
from_the_end = (refl, refl)

every_second : Takes None None (pos 2) 5 0 3
every_second = (refl, refl)

backward_in_twos : Takes (Some (pos 4)) (Some (pos 1)) (negsuc 1) 5 4 2
backward_in_twos = (refl, refl)

past_the_end : Takes (Some (pos 10)) None (pos 1) 5 0 0
past_the_end = (refl, refl)

clipped_below : Takes None (Some (negsuc 5)) (negsuc 0) 5 4 5
clipped_below = (refl, refl)

of_nothing : Takes None None (negsuc 0) 0 0 0
of_nothing = (refl, refl)

column_and_row : broadcast_of (3 ∷ 1 ∷ []) (1 ∷ 4 ∷ []) ≡ 3 ∷ 4 ∷ []
column_and_row = refl

empty_and_column : broadcast_of (2 ∷ 1 ∷ 0 ∷ []) (3 ∷ 1 ∷ []) ≡ 2 ∷ 3 ∷ 0 ∷ []
empty_and_column = refl

last_mismatch : mismatch_of (2 ∷ 3 ∷ 4 ∷ 5 ∷ []) (2 ∷ 7 ∷ 8 ∷ 5 ∷ []) ≡ Some 2
last_mismatch = refl

place_of_last : place_of (2 ∷ 3 ∷ 4 ∷ []) (1 ∷ 2 ∷ 3 ∷ []) ≡ 23
place_of_last = refl

index_of_14 : index_at (2 ∷ 3 ∷ 4 ∷ []) 14 ≡ 1 ∷ 0 ∷ 2 ∷ []
index_of_14 = refl

rank_0 : (product [] ≡ 1) × (place_of [] [] ≡ 0) × (is_inside [] [] ≡ true)
rank_0 = (refl, refl, refl)

-- an index of another rank lies nowhere
other_rank : is_inside (3 ∷ []) (1 ∷ 1 ∷ []) ≡ false
other_rank = refl

read_through_broadcasting : back (3 ∷ 1 ∷ []) (7 ∷ 2 ∷ 4 ∷ []) ≡ 2 ∷ 0 ∷ []
read_through_broadcasting = refl

sizes_of_a_region : differences (5 ∷ 7 ∷ []) (1 ∷ 7 ∷ []) ≡ 4 ∷ 0 ∷ []
sizes_of_a_region = refl

-- three shapes: the place of a mismatch is counted in the rank of the result of all three
three_shapes : broadcast_of_all ((3 ∷ 1 ∷ []) ∷ (4 ∷ []) ∷ (2 ∷ 1 ∷ 1 ∷ []) ∷ []) ≡ Ok (2 ∷ 3 ∷ 4 ∷ [])
three_shapes = refl

counted_in_the_final_rank : broadcast_of_all ((3 ∷ []) ∷ (4 ∷ []) ∷ (2 ∷ 1 ∷ 1 ∷ []) ∷ []) ≡ Err (Mismatch 2)
counted_in_the_final_rank = refl

no_shapes : broadcast_of_all [] ≡ Ok []
no_shapes = refl
