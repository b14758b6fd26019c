-- The rule on worked examples.
use Rattle.std.proofs.Common.{◌≡◌, ℕ, true, false, [], ◌∷◌, List, ℤ, pos, negsuc, refl}
use Rattle.cu_shape.specs.declared.slice.Run.{Run}
use Rattle.cu_origin.specs.Pull.{origin_of}
use Rattle.cu_origin.specs.declared.pull.Pull.{Pull}
use Rattle.cu_origin.specs.declared.provenance.Provenance.{Provenance}
use Rattle.cu_origin.specs.declared.provenance.Provenance.TheVariants.{From, Const}
use Rattle.cu_origin.specs.declared.pull.Pull.TheVariants.{Slice, Permute, Reshape, Concat, Stack, Flip, Roll, Broadcast, Triangle, Full, Arange, Eye}

-- index i of a source of one axis
abbrev At : ℕ → Provenance
At i = From 0 (i ∷ [])

abbrev run : ℕ → ℤ → ℕ → Run
run first step count = record { first = first; step = step; count = count }

abbrev slice : List Run → List ℕ → Pull
slice runs taken = Slice (record { items = runs }) (record { items = taken })

abbrev roll : ℤ → Pull
roll shift = Roll (record { items = shift ∷ [] })

-- 1:5:2 of six
every_second : origin_of (slice (run 1 (pos 2) 2 ∷ []) []) ((6 ∷ []) ∷ []) (2 ∷ []) (1 ∷ []) ≡ At 3
every_second = refl

-- ::-1 and ::-2 of five
last_first : origin_of (slice (run 4 (negsuc 0) 5 ∷ []) []) ((5 ∷ []) ∷ []) (5 ∷ []) (0 ∷ []) ≡ At 4
last_first = refl

first_last : origin_of (slice (run 4 (negsuc 0) 5 ∷ []) []) ((5 ∷ []) ∷ []) (5 ∷ []) (4 ∷ []) ≡ At 0
first_last = refl

backward_in_twos : origin_of (slice (run 4 (negsuc 1) 3 ∷ []) []) ((5 ∷ []) ∷ []) (3 ∷ []) (1 ∷ []) ≡ At 2
backward_in_twos = refl

-- new, 1, ::-1 of [3, 4]
row_backward : origin_of (slice (run 1 (pos 1) 1 ∷ run 3 (negsuc 0) 4 ∷ []) (0 ∷ [])) ((3 ∷ 4 ∷ []) ∷ []) (1 ∷ 4 ∷ []) (0 ∷ 1 ∷ []) ≡ From 0 (1 ∷ 2 ∷ [])
row_backward = refl

turned_axes : origin_of (Permute (record { items = 1 ∷ 2 ∷ 0 ∷ [] })) ((2 ∷ 3 ∷ 4 ∷ []) ∷ []) (3 ∷ 4 ∷ 2 ∷ []) (2 ∷ 3 ∷ 1 ∷ []) ≡ From 0 (1 ∷ 2 ∷ 3 ∷ [])
turned_axes = refl

reshaped : origin_of Reshape ((2 ∷ 3 ∷ []) ∷ []) (3 ∷ 2 ∷ []) (1 ∷ 1 ∷ []) ≡ From 0 (1 ∷ 0 ∷ [])
reshaped = refl

in_the_first : origin_of (Concat 0) ((2 ∷ []) ∷ (3 ∷ []) ∷ []) (5 ∷ []) (1 ∷ []) ≡ At 1
in_the_first = refl

in_the_second : origin_of (Concat 0) ((2 ∷ []) ∷ (3 ∷ []) ∷ []) (5 ∷ []) (2 ∷ []) ≡ From 1 (0 ∷ [])
in_the_second = refl

past_an_empty_one : origin_of (Concat 1) ((2 ∷ 0 ∷ []) ∷ (2 ∷ 3 ∷ []) ∷ []) (2 ∷ 3 ∷ []) (1 ∷ 2 ∷ []) ≡ From 1 (1 ∷ 2 ∷ [])
past_an_empty_one = refl

stacked_inside : origin_of (Stack 1) ((2 ∷ []) ∷ (2 ∷ []) ∷ (2 ∷ []) ∷ []) (2 ∷ 3 ∷ []) (1 ∷ 2 ∷ []) ≡ From 2 (1 ∷ [])
stacked_inside = refl

last_axis_flipped : origin_of (Flip (record { 0 = 2 })) ((2 ∷ 3 ∷ []) ∷ []) (2 ∷ 3 ∷ []) (1 ∷ 0 ∷ []) ≡ From 0 (1 ∷ 2 ∷ [])
last_axis_flipped = refl

-- three numbers rolled by 1 are 2, 0, 1; by -1 they are 1, 2, 0
rolled_on : origin_of (roll (pos 1)) ((3 ∷ []) ∷ []) (3 ∷ []) (0 ∷ []) ≡ At 2
rolled_on = refl

rolled_on_inside : origin_of (roll (pos 1)) ((3 ∷ []) ∷ []) (3 ∷ []) (1 ∷ []) ≡ At 0
rolled_on_inside = refl

rolled_back : origin_of (roll (negsuc 0)) ((3 ∷ []) ∷ []) (3 ∷ []) (0 ∷ []) ≡ At 1
rolled_back = refl

rolled_back_round : origin_of (roll (negsuc 0)) ((3 ∷ []) ∷ []) (3 ∷ []) (2 ∷ []) ≡ At 0
rolled_back_round = refl

rolled_twice_round : origin_of (roll (negsuc 6)) ((3 ∷ []) ∷ []) (3 ∷ []) (0 ∷ []) ≡ At 1
rolled_twice_round = refl

stretched : origin_of Broadcast ((1 ∷ 3 ∷ []) ∷ []) (2 ∷ 2 ∷ 3 ∷ []) (1 ∷ 1 ∷ 2 ∷ []) ≡ From 0 (0 ∷ 2 ∷ [])
stretched = refl

on_the_diagonal : origin_of (Triangle true (pos 0)) ((2 ∷ 2 ∷ []) ∷ []) (2 ∷ 2 ∷ []) (1 ∷ 1 ∷ []) ≡ From 0 (1 ∷ 1 ∷ [])
on_the_diagonal = refl

above_the_diagonal : origin_of (Triangle true (pos 0)) ((2 ∷ 2 ∷ []) ∷ []) (2 ∷ 2 ∷ []) (0 ∷ 1 ∷ []) ≡ Const (pos 0)
above_the_diagonal = refl

upper_from_the_next : origin_of (Triangle false (pos 1)) ((2 ∷ 2 ∷ []) ∷ []) (2 ∷ 2 ∷ []) (0 ∷ 1 ∷ []) ≡ From 0 (0 ∷ 1 ∷ [])
upper_from_the_next = refl

upper_without_the_main : origin_of (Triangle false (pos 1)) ((2 ∷ 2 ∷ []) ∷ []) (2 ∷ 2 ∷ []) (1 ∷ 1 ∷ []) ≡ Const (pos 0)
upper_without_the_main = refl

one_number : origin_of (Full (negsuc 6)) [] (2 ∷ []) (1 ∷ []) ≡ Const (negsuc 6)
one_number = refl

downward : origin_of (Arange (pos 5) (negsuc 1)) [] (3 ∷ []) (2 ∷ []) ≡ Const (pos 1)
downward = refl

below_the_main : origin_of (Eye (negsuc 0)) [] (2 ∷ 2 ∷ []) (1 ∷ 0 ∷ []) ≡ Const (pos 1)
below_the_main = refl

off_it : origin_of (Eye (negsuc 0)) [] (2 ∷ 2 ∷ []) (1 ∷ 1 ∷ []) ≡ Const (pos 0)
off_it = refl
