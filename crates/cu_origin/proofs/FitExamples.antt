-- Shapes of each view that fit, on worked examples.
use Rattle.std.proofs.Common.{◌≡◌, ℕ, zero, suc, ◌<◌, true, [], ◌∷◌, List, All, Contains, set, pos, negsuc, refl, arith}
use Rattle.std.proofs.lemmas.Int.{ints}
use Rattle.cu_origin.specs.Fits.{FitsPull}
use Rattle.cu_origin.specs.declared.pull.Pull.TheVariants.{Slice, Permute, Reshape, Concat, Stack, Flip, Roll, Broadcast, Triangle, Full, Arange, Eye}

-- ::-1 of five, behind a new axis
reversed : FitsPull (Slice (record { items = record { first = 4; step = negsuc 0; count = 5 } ∷ [] }) (record { items = [] })) ((5 ∷ []) ∷ []) (1 ∷ 5 ∷ [])
reversed = record { inside = (λ k l. (omega (arith, ints), omega (arith, ints)), tt); single = λ k d l. absurd (omega arith); sizes = refl }

both_axes : (d : ℕ) → d < 2 → Contains (1 ∷ 0 ∷ []) d
both_axes zero l = (1, omega arith, refl)
both_axes (suc zero) l = (0, omega arith, refl)
both_axes (suc (suc d)) l = absurd (omega arith)

transposed : FitsPull (Permute (record { items = 1 ∷ 0 ∷ [] })) ((2 ∷ 3 ∷ []) ∷ []) (3 ∷ 2 ∷ [])
transposed = record { rank = refl; each = both_axes; sizes = refl }

reshaped : FitsPull Reshape ((2 ∷ 3 ∷ []) ∷ []) (6 ∷ 1 ∷ [])
reshaped = refl

of_two : (P : List ℕ → Type 0) (a b : List ℕ) → P a → P b → All P (a ∷ b ∷ [])
of_two P a b p q zero d l = p
of_two P a b p q (suc zero) d l = q
of_two P a b p q (suc (suc k)) d l = absurd (omega arith)

joined : FitsPull (Concat 1) ((2 ∷ 0 ∷ []) ∷ (2 ∷ 3 ∷ []) ∷ []) (2 ∷ 3 ∷ [])
joined = record { below = omega arith; off_axis = of_two (λ source. set source 1 0 ≡ 2 ∷ 0 ∷ []) (2 ∷ 0 ∷ []) (2 ∷ 3 ∷ []) refl refl; along = refl }

stacked : FitsPull (Stack 1) ((2 ∷ []) ∷ (2 ∷ []) ∷ []) (2 ∷ 2 ∷ [])
stacked = record { below = omega arith; off_axis = of_two (λ source. source ≡ 2 ∷ []) (2 ∷ []) (2 ∷ []) refl refl; along = refl }

flipped : FitsPull (Flip (record { 0 = 2 })) ((2 ∷ 3 ∷ []) ∷ []) (2 ∷ 3 ∷ [])
flipped = refl

rolled : FitsPull (Roll (record { items = pos 0 ∷ negsuc 3 ∷ [] })) ((2 ∷ 3 ∷ []) ∷ []) (2 ∷ 3 ∷ [])
rolled = (refl, refl)

stretched : FitsPull Broadcast ((1 ∷ 3 ∷ []) ∷ []) (2 ∷ 2 ∷ 3 ∷ [])
stretched = (refl, refl)

triangle : FitsPull (Triangle true (pos 0)) ((2 ∷ 3 ∷ []) ∷ []) (2 ∷ 3 ∷ [])
triangle = (refl, omega arith)

one_number : FitsPull (Full (negsuc 6)) [] (2 ∷ [])
one_number = refl

numbers : FitsPull (Arange (pos 5) (negsuc 1)) [] (3 ∷ [])
numbers = (refl, refl)

diagonal : FitsPull (Eye (negsuc 0)) [] (2 ∷ 3 ∷ [])
diagonal = (refl, refl)
