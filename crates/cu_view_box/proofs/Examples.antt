-- The definitions on worked examples.
use Rattle.std.proofs.Common.{◌≡◌, [], ◌∷◌, refl}
use Rattle.cu_view_box.specs.Piece.{read_by_ways}
use Rattle.cu_view_box.specs.Way.{read_by}
use Rattle.cu_view_box.specs.declared.way.Way.TheVariants.{Fixed, Up, Down}

-- 1:6:2 at count 2, and ::-2 of six at counts 0 and 2
upward : read_by (Up 0 1 2) 2 ≡ 5
upward = refl

last_first : read_by (Down 0 5 2) 0 ≡ 5
last_first = refl

downward : read_by (Down 0 5 2) 2 ≡ 1
downward = refl

in_place : read_by (Fixed 3) 2 ≡ 3
in_place = refl

-- x[::-1, 4, 2::3] of [6, 5, 9] at the result's index [1, 2]
sliced : read_by_ways (0 ∷ 0 ∷ []) (Down 0 5 1 ∷ Fixed 4 ∷ Up 1 2 3 ∷ []) (1 ∷ 2 ∷ []) ≡ 4 ∷ 4 ∷ 8 ∷ []
sliced = refl

-- the axes of [3, 4] in the other order, at [3, 1]
permuted : read_by_ways (0 ∷ 0 ∷ []) (Up 1 0 1 ∷ Up 0 0 1 ∷ []) (3 ∷ 1 ∷ []) ≡ 1 ∷ 3 ∷ []
permuted = refl

-- [5] rolled by 2: the box from 0 to 2 reads from 3 on, the box from 2 to 5 from 0 on
to_the_front : read_by_ways (0 ∷ []) (Up 0 3 1 ∷ []) (1 ∷ []) ≡ 4 ∷ []
to_the_front = refl

moved_on : read_by_ways (2 ∷ []) (Up 0 0 1 ∷ []) (4 ∷ []) ≡ 2 ∷ []
moved_on = refl
