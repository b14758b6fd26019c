-- The definitions of prefix sums and of grouping on small lines.
use Rattle.std.proofs.Common.{◌≡◌, ℤ, zero, suc, pos, negsuc, List, map, [], ◌∷◌, Option, None, Some, refl}
use Rattle.cu_num.specs.Wrap.{wrapped}
use Rattle.cu_num.specs.declared.folds.FoldKind.TheVariants.{Sum, Min}
use Rattle.cu_num.specs.declared.types.Dtype.TheVariants.{Int64, Int32, Int8}
use Rattle.cu_reduce.specs.Labels.{members, grouped_at, grouped_to, marked, chunk_places, chunks_on}
use Rattle.cu_reduce.specs.Levels.{group_sum, carry_sum, scan_sum}
use Rattle.cu_reduce.specs.Prefix.{Line, cumulative, running_sum, sum_below}

-- ---- prefix sums: 1, 2, 3, 4, 5 in chunks of one, and groups of two

abbrev source : Line
source k = Some (pos (suc k))

abbrev of_all : Line → List (Option ℤ)
of_all f = map f (0 ∷ 1 ∷ 2 ∷ 3 ∷ 4 ∷ [])

prefix_sums : of_all (cumulative Int64 source)
    ≡ Some (pos 1) ∷ Some (pos 3) ∷ Some (pos 6) ∷ Some (pos 10) ∷ Some (pos 15) ∷ []
unfolding wrapped
prefix_sums = refl

abbrev chunk_sums : Line
chunk_sums q = group_sum Int64 1 5 source q

abbrev pair_sums : Line
pair_sums q = group_sum Int64 2 5 chunk_sums q

abbrev last_sums : Line
last_sums q = group_sum Int64 2 3 pair_sums q

abbrev last_carries : Line
last_carries j = carry_sum Int64 2 last_sums None j

abbrev pair_carries : Line
pair_carries j = carry_sum Int64 2 pair_sums (Some last_carries) j

abbrev chunk_carries : Line
chunk_carries j = carry_sum Int64 2 chunk_sums (Some pair_carries) j

three_pairs : map pair_sums (0 ∷ 1 ∷ 2 ∷ []) ≡ Some (pos 3) ∷ Some (pos 7) ∷ Some (pos 5) ∷ []
unfolding wrapped
three_pairs = refl

two_groups : map last_sums (0 ∷ 1 ∷ []) ≡ Some (pos 10) ∷ Some (pos 5) ∷ []
unfolding wrapped
two_groups = refl

carried_in : of_all chunk_carries
    ≡ Some (pos 0) ∷ Some (pos 1) ∷ Some (pos 3) ∷ Some (pos 6) ∷ Some (pos 10) ∷ []
unfolding wrapped
carried_in = refl

scanned : of_all (scan_sum Int64 1 source (Some chunk_carries))
    ≡ Some (pos 1) ∷ Some (pos 3) ∷ Some (pos 6) ∷ Some (pos 10) ∷ Some (pos 15) ∷ []
unfolding wrapped
scanned = refl

abbrev hundreds : Line
hundreds k = Some (pos 100)

wraps : cumulative Int8 hundreds 1 ≡ Some (negsuc 55)
unfolding wrapped
wraps = refl

first_three : sum_below (λ k. pos (suc k)) 3 ≡ pos 6
first_three = refl

abbrev broken : Line
broken zero = Some (pos 1)
broken (suc k) = None

missing : running_sum broken 2 ≡ None
missing = refl

-- ---- grouping: 1, 2, 3, 4, 5 with the labels 0, 1, 0, 3, 1 in chunks of two, and three groups

abbrev labels : Line
labels zero = Some (pos 0)
labels (suc zero) = Some (pos 1)
labels (suc (suc zero)) = Some (pos 0)
labels (suc (suc (suc zero))) = Some (pos 3)
labels (suc (suc (suc (suc k)))) = Some (pos 1)

abbrev of_groups : Line → List (Option ℤ)
of_groups f = map f (0 ∷ 1 ∷ 2 ∷ [])

three_chunks : chunks_on 2 5 ≡ 3
three_chunks = refl

last_chunk : chunk_places 2 5 2 ≡ 4 ∷ []
last_chunk = refl

group_sums : of_groups (λ q. grouped_to Sum Int64 q (marked labels source (chunk_places 5 5 0)))
    ≡ Some (pos 4) ∷ Some (pos 7) ∷ Some (pos 0) ∷ []
unfolding wrapped
group_sums = refl

least_of_groups :
    of_groups (λ q. grouped_to Min Int32 q (marked labels source (chunk_places 5 5 0)))
    ≡ Some (pos 1) ∷ Some (pos 2) ∷ Some (pos 2147483647) ∷ []
unfolding wrapped
least_of_groups = refl

-- the sum of group 1 in each chunk
in_chunks : of_groups (λ c. grouped_to Sum Int64 1 (marked labels source (chunk_places 2 5 c)))
    ≡ Some (pos 2) ∷ Some (pos 0) ∷ Some (pos 5) ∷ []
unfolding wrapped
in_chunks = refl

-- a label that is missing leaves no group with a value
label_missing : grouped_to Sum Int64 0 (marked broken source (0 ∷ 1 ∷ [])) ≡ None
label_missing = refl

-- a label below 0 is in no group
below_zero : members (λ p. negsuc p) 0 (0 ∷ 1 ∷ []) ≡ []
below_zero = refl

nothing_there : grouped_at Min Int8 (λ p. pos 7) (λ p. pos 3) 0 (0 ∷ 1 ∷ []) ≡ pos 127
nothing_there = refl
