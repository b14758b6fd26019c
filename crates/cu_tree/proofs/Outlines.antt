-- What outlines keep, and what they come to.
use Rattle.std.proofs.Common.{◌≡◌, ℕ, zero, suc, ◌+◌, ◌-◌, ◌*◌, ◌<◌, ◌≤◌, ◌^◌, Bool, true, false, if◌then◌else◌, nat_lt, List, [], ◌∷◌, ◌++◌, All, get_or, length, max, Option, None, Some, refl, ap, sym, ◌∙◌, subst, arith}
use Rattle.std.specs.Int.{div_ceil}
use Rattle.std.proofs.lemmas.List.{append_assoc, length-append}
use Rattle.std.proofs.lemmas.List.Concat.{flat_map-append}
use Rattle.std.proofs.lemmas.List.Elements.{All-append, All-cons, All-head, All-nil, All-tail}
use Rattle.std.proofs.lemmas.Nat.{mul-le}
use Rattle.cu_num.specs.Dtype.{size_of}
use Rattle.cu_num.specs.declared.types.Dtype.{Dtype}
use Rattle.cu_num.specs.declared.types.Dtype.TheVariants as types
use Rattle.cu_shape.specs.Index.{product}
use Rattle.cu_shape.specs.Counts.{counts_of}
use Rattle.cu_shape.proofs.Axes.{length-axis_by_axis}
use Rattle.cu_shape.proofs.Rounded.{counts_below}
use Rattle.cu_origin.specs.declared.axes.Axes.{Axes}
use Rattle.cu_node.specs.Info.{IsInfo, chunk_bytes, info_of}
use Rattle.cu_node.specs.declared.info.NodeInfo.{NodeInfo}
use Rattle.cu_tree.specs.Needs.{fold_bytes, fold_need, merge_bytes, product_bytes, product_need, with_merges}
use Rattle.cu_tree.specs.Outlines.{carries_outline, chain_outline, cumulative_outline, merges_outline, outline_arrays, outline_bytes, outlined_arrays, plain, sum_merges_outline, sums_outline, with_values, IsOutline}
use Rattle.cu_tree.specs.Partials.{first_partial, inner_count, merged, partial_chunk_from, product_partial, product_rounds, reduction_rounds, AreMerges, IsMiddle}
use Rattle.cu_tree.specs.Rounds.{AreRounds}
use Rattle.cu_tree.specs.Sums.{carry_bytes, carry_need, cumulative_need, cumulative_rounds, sums_array, sums_count, AreSumRounds, IsSummed}
use Rattle.cu_tree.specs.declared.outline.Outlined.{Outlined}
use Rattle.cu_tree.specs.declared.round.Round.{Round}
use Rattle.cu_tree.proofs.Falls.{one_fits, rounds_fit}
use Rattle.cu_tree.proofs.Middles.{of_first, of_info, of_merged, of_product as middle_product}
use Rattle.cu_tree.proofs.Orders.{of_product, of_reduction}
use Rattle.cu_tree.proofs.Sizes.{count_few}
use Rattle.cu_tree.proofs.SumArrays.{axis_below, few_sums, next_sums, of_sums}
use Rattle.cu_tree.proofs.SumRounds.{are_sum_rounds, rounds_fit as sums_fit}

-- no type has more bytes than an integer of 64 bits
pub size_most : (t : Dtype) → size_of t ≤ 8
size_most types.Bool = omega arith
size_most types.Int8 = omega arith
size_most types.Int16 = omega arith
size_most types.Int32 = omega arith
size_most types.Int64 = omega arith
size_most types.Uint8 = omega arith
size_most types.Uint16 = omega arith
size_most types.Uint32 = omega arith
size_most types.Uint64 = omega arith

-- ---- outlines one behind another

arrays_append : (xs ys : List Outlined) → outline_arrays (xs ++ ys) ≡ outline_arrays xs ++ outline_arrays ys
arrays_append xs ys = flat_map-append outlined_arrays xs ys

kept_join : (xs ys : List Outlined) → All IsMiddle (outline_arrays xs) → All IsMiddle (outline_arrays ys) → All IsMiddle (outline_arrays (xs ++ ys))
kept_join xs ys h k = subst (All IsMiddle) (sym (arrays_append xs ys)) (All-append IsMiddle (outline_arrays xs) (outline_arrays ys) h k)

abbrev Ends : NodeInfo → List Outlined → Type 0
Ends made os = (rest : List NodeInfo) × (outline_arrays os ≡ rest ++ made ∷ [])

ends_join : (made : NodeInfo) (xs ys : List Outlined) → Ends made ys → Ends made (xs ++ ys)
ends_join made xs ys (rest, e) =
    (outline_arrays xs ++ rest, arrays_append xs ys ∙ ap (λ (is : List NodeInfo). outline_arrays xs ++ is) e ∙ sym (append_assoc (outline_arrays xs) rest (made ∷ [])))

bytes_append : (xs ys : List Outlined) → outline_bytes (xs ++ ys) ≡ max (outline_bytes xs) (outline_bytes ys)
bytes_append [] ys = omega arith
bytes_append (x ∷ xs) ys = let e = bytes_append xs ys in omega (arith, e)

one_kept : (made : NodeInfo) (bytes : ℕ) → IsMiddle made → All IsMiddle (outline_arrays (plain made bytes ∷ []))
one_kept made bytes h = All-cons IsMiddle made [] h (All-nil IsMiddle)

-- ---- an operation and merges behind it

of_round : (axes : Axes) (g : ℕ) (i : NodeInfo) (r : Round) (rs : List Round) → 2 ≤ g → AreRounds axes g i.dims (r ∷ rs) → IsMiddle i → IsMiddle (merged r i)
of_round axes g i r rs h rule m =
    let t = rule.0.to in
    let f = rule.0.from in
    let b = counts_below r.from g (omega arith) in
    of_merged r i rule.0.inside (omega (arith, t, f, b)) m

-- values have no more bytes than what they stand beside
abbrev pub IsWide : Option Dtype → NodeInfo → Type 0
IsWide None i = Unit {0}
IsWide (Some t) i = size_of t ≤ size_of i.dtype

typed_kept : (t : Dtype) (i : NodeInfo) → size_of t ≤ size_of i.dtype → IsMiddle i → IsMiddle (info_of t i.dims i.chunk)
typed_kept t i wide m =
    let b : product i.chunk * size_of i.dtype ≤ 2 ^ 28 = m.bytes in
    let w : product i.chunk * size_of t ≤ product i.chunk * size_of i.dtype = mul-le (product i.chunk) (size_of t) (product i.chunk) (size_of i.dtype) (omega arith) wide in
    record { grid = m.grid; chunks = m.chunks; bytes = omega (arith, b, w) }

chain_kept : (values : Option Dtype) (axes : Axes) (g first merge : ℕ) (i made : NodeInfo) (rs : List Round) → 2 ≤ g → AreRounds axes g i.dims rs → IsWide values i → IsMiddle i → IsMiddle made
    → All IsMiddle (outline_arrays (chain_outline values first merge i rs made))
chain_kept None axes g first merge i made [] h rule wide m own = one_kept made first own
chain_kept (Some t) axes g first merge i made [] h rule wide m own = one_kept made first own
chain_kept None axes g first merge i made (r ∷ rs) h rule wide m own =
    All-cons IsMiddle i (outline_arrays (chain_outline None merge merge (merged r i) rs made)) m
    (chain_kept None axes g merge merge (merged r i) made rs h rule.1 wide (of_round axes g i r rs h rule m) own)
chain_kept (Some t) axes g first merge i made (r ∷ rs) h rule wide m own =
    All-cons IsMiddle (info_of t i.dims i.chunk) (i ∷ outline_arrays (chain_outline (Some t) merge merge (merged r i) rs made)) (typed_kept t i wide m)
    (All-cons IsMiddle i (outline_arrays (chain_outline (Some t) merge merge (merged r i) rs made)) m
    (chain_kept (Some t) axes g merge merge (merged r i) made rs h rule.1 wide (of_round axes g i r rs h rule m) own))

chain_ends : (values : Option Dtype) (first merge : ℕ) (i made : NodeInfo) (rs : List Round) → Ends made (chain_outline values first merge i rs made)
chain_ends None first merge i made [] = ([], refl)
chain_ends (Some t) first merge i made [] = ([], refl)
chain_ends None first merge i made (r ∷ rs) = let w = chain_ends None merge merge (merged r i) made rs in (i ∷ w.0, ap (λ (is : List NodeInfo). i ∷ is) w.1)
chain_ends (Some t) first merge i made (r ∷ rs) =
    let w = chain_ends (Some t) merge merge (merged r i) made rs in
    (info_of t i.dims i.chunk ∷ i ∷ w.0, ap (λ (is : List NodeInfo). info_of t i.dims i.chunk ∷ i ∷ is) w.1)

pub length-merges : (values : Option Dtype) (bytes : ℕ) (i made : NodeInfo) (rs : List Round) → length (merges_outline values bytes i rs made) ≡ length rs
length-merges values bytes i made [] = refl
length-merges values bytes i made (r ∷ rs) = ap suc (length-merges values bytes (merged r i) made rs)

pub chain_is : (values : Option Dtype) (axes : Axes) (g first merge : ℕ) (i made : NodeInfo) (rs : List Round) → 2 ≤ g → AreRounds axes g i.dims rs → length rs ≤ 24 → IsWide values i → IsMiddle i → IsMiddle made
    → IsOutline made (chain_outline values first merge i rs made)
chain_is values axes g first merge i made rs h rule few wide m own = record {
  kept = chain_kept values axes g first merge i made rs h rule wide m own;
  ends = chain_ends values first merge i made rs;
  few = (let l = length-merges values merge i made rs in omega (arith, l, few));
}

-- ---- their bytes

merges_most : (values : Option Dtype) (bytes : ℕ) (i made : NodeInfo) (r : Round) (rs : List Round) → outline_bytes (merges_outline values bytes i (r ∷ rs) made) ≡ bytes
merges_most values bytes i made r [] = omega arith
merges_most values bytes i made r (q ∷ rs) = let e = merges_most values bytes (merged r i) made q rs in omega (arith, e)

-- the greater of what the first operation needs and what a merge needs, where there are merges
pub chain_most : (reserved : ℕ) (values : Option Dtype) (first merge : ℕ) (i made : NodeInfo) (rs : List Round)
    → reserved + outline_bytes (chain_outline values first merge i rs made) ≡ with_merges rs (reserved + first) (reserved + merge)
chain_most reserved values first merge i made [] = omega arith
chain_most reserved values first merge i made (r ∷ rs) = let e = merges_most values merge i made r rs in omega (arith, e)

pub chain_light : (values : Option Dtype) (first merge most : ℕ) (i made : NodeInfo) (rs : List Round) → first ≤ most → merge ≤ most → outline_bytes (chain_outline values first merge i rs made) ≤ most
chain_light values first merge most i made [] h k = omega (arith, h)
chain_light values first merge most i made (r ∷ rs) h k = let e = merges_most values merge i made r rs in omega (arith, e, h, k)

-- ---- prefix sums

sum_merges_kept : (g axis bytes : ℕ) (i : NodeInfo) (rs : List Round) → 2 ≤ g → AreSumRounds g axis i.dims rs → IsMiddle i → All IsMiddle (outline_arrays (sum_merges_outline bytes i rs))
sum_merges_kept g axis bytes i [] h rule m = All-nil IsMiddle
sum_merges_kept g axis bytes i (r ∷ rs) h rule m =
    let n = next_sums g axis i r rs h rule m in
    All-cons IsMiddle (merged r i) (outline_arrays (sum_merges_outline bytes (merged r i) rs)) n (sum_merges_kept g axis bytes (merged r i) rs h rule.1 n)

carries_kept : (g axis bytes : ℕ) (i : NodeInfo) (rs : List Round) → 2 ≤ g → AreSumRounds g axis i.dims rs → IsMiddle i → All IsMiddle (outline_arrays (carries_outline bytes i rs))
carries_kept g axis bytes i [] h rule m = one_kept i bytes m
carries_kept g axis bytes i (r ∷ rs) h rule m =
    kept_join (carries_outline bytes (merged r i) rs) (plain i bytes ∷ []) (carries_kept g axis bytes (merged r i) rs h rule.1 (next_sums g axis i r rs h rule m)) (one_kept i bytes m)

pub length-sum_merges : (bytes : ℕ) (i : NodeInfo) (rs : List Round) → length (sum_merges_outline bytes i rs) ≡ length rs
length-sum_merges bytes i [] = refl
length-sum_merges bytes i (r ∷ rs) = ap suc (length-sum_merges bytes (merged r i) rs)

pub length-carries : (bytes : ℕ) (i : NodeInfo) (rs : List Round) → length (carries_outline bytes i rs) ≡ length rs + 1
length-carries bytes i [] = refl
length-carries bytes i (r ∷ rs) =
    let e = length-carries bytes (merged r i) rs in
    let l = length-append (carries_outline bytes (merged r i) rs) (plain i bytes ∷ []) in
    omega (arith, e, l)

sum_merges_most : (bytes : ℕ) (i : NodeInfo) (rs : List Round) → outline_bytes (sum_merges_outline bytes i rs) ≤ bytes
sum_merges_most bytes i [] = omega arith
sum_merges_most bytes i (r ∷ rs) = let e = sum_merges_most bytes (merged r i) rs in omega (arith, e)

carries_most : (bytes : ℕ) (i : NodeInfo) (rs : List Round) → outline_bytes (carries_outline bytes i rs) ≡ bytes
carries_most bytes i [] = omega arith
carries_most bytes i (r ∷ rs) =
    let e = carries_most bytes (merged r i) rs in
    let a = bytes_append (carries_outline bytes (merged r i) rs) (plain i bytes ∷ []) in
    let one : outline_bytes (plain i bytes ∷ []) ≡ bytes = omega arith in
    omega (arith, e, a, one)

-- a merge needs less than a carry
merge_below : (g b : ℕ) → merge_bytes g b ≤ carry_bytes g b
merge_below g b = let m : (g + 1) * b ≤ (g + 1 + 1) * b = mul-le (g + 1) b (g + 1 + 1) b (omega arith) (omega arith) in omega (arith, m)

three_most : (fold merge carry scan whole rest merges carries last : ℕ) → whole ≡ max fold rest → rest ≡ max merges last → last ≡ max carries (max scan 0) → merges ≤ merge → merge ≤ carry → carries ≡ carry
    → whole ≡ max fold (max carry scan)
three_most fold merge carry scan whole rest merges carries last a b c d e f = omega (arith, a, b, c, d, e, f)

sums_most : (g : ℕ) (made source i : NodeInfo) (rs : List Round) → outline_bytes (sums_outline g made source i rs)
    ≡ max (fold_bytes (chunk_bytes source) (chunk_bytes i)) (max (carry_bytes g (chunk_bytes i)) (product_bytes (chunk_bytes source) (chunk_bytes i) (chunk_bytes made)))
sums_most g made source i rs =
    let merges = sum_merges_outline (merge_bytes g (chunk_bytes i)) i rs in
    let carries = carries_outline (carry_bytes g (chunk_bytes i)) i rs in
    let scan = product_bytes (chunk_bytes source) (chunk_bytes i) (chunk_bytes made) in
    three_most (fold_bytes (chunk_bytes source) (chunk_bytes i)) (merge_bytes g (chunk_bytes i)) (carry_bytes g (chunk_bytes i)) scan (outline_bytes (sums_outline g made source i rs))
    (outline_bytes (merges ++ (carries ++ plain made scan ∷ []))) (outline_bytes merges) (outline_bytes carries) (outline_bytes (carries ++ plain made scan ∷ [])) refl
    (bytes_append merges (carries ++ plain made scan ∷ [])) (bytes_append carries (plain made scan ∷ [])) (sum_merges_most (merge_bytes g (chunk_bytes i)) i rs) (merge_below g (chunk_bytes i))
    (carries_most (carry_bytes g (chunk_bytes i)) i rs)

abbrev outline_by : ℕ → NodeInfo → NodeInfo → NodeInfo → List Round → Bool → List Outlined
outline_by g made source i rs several = if several then sums_outline g made source i rs else plain made (fold_bytes (chunk_bytes source) (chunk_bytes made)) ∷ []

abbrev need_by : ℕ → ℕ → NodeInfo → NodeInfo → NodeInfo → Bool → ℕ
need_by reserved g made source i several =
    if several then
    max (fold_need reserved (chunk_bytes source) (chunk_bytes i)) (max (carry_need reserved g (chunk_bytes i)) (product_need reserved (chunk_bytes source) (chunk_bytes i) (chunk_bytes made)))
    else fold_need reserved (chunk_bytes source) (chunk_bytes made)

with_reserved : (reserved fold carry scan most : ℕ) → most ≡ max fold (max carry scan) → reserved + most ≡ max (reserved + fold) (max (reserved + carry) (reserved + scan))
with_reserved reserved fold carry scan most e = omega (arith, e)

most_by : (several : Bool) (reserved g : ℕ) (made source i : NodeInfo) (rs : List Round) → reserved + outline_bytes (outline_by g made source i rs several) ≡ need_by reserved g made source i several
most_by true reserved g made source i rs =
    with_reserved reserved (fold_bytes (chunk_bytes source) (chunk_bytes i)) (carry_bytes g (chunk_bytes i)) (product_bytes (chunk_bytes source) (chunk_bytes i) (chunk_bytes made))
    (outline_bytes (sums_outline g made source i rs)) (sums_most g made source i rs)
most_by false reserved g made source i rs = omega arith

pub cumulative_most : (reserved g : ℕ) (made source : NodeInfo) (axis : ℕ) → reserved + outline_bytes (cumulative_outline g made source axis) ≡ cumulative_need reserved g made source axis
cumulative_most reserved g made source axis =
    most_by (nat_lt 1 (sums_count made source axis)) reserved g made source (sums_array made source axis) (cumulative_rounds g made source axis)

sums_is : (g axis : ℕ) (made source i : NodeInfo) (rs : List Round) → 2 ≤ g → AreSumRounds g axis i.dims rs → length rs ≤ 15 → IsMiddle i → IsMiddle made → IsOutline made (sums_outline g made source i rs)
sums_is g axis made source i rs h rule few m own =
    let first = plain i (fold_bytes (chunk_bytes source) (chunk_bytes i)) in
    let merges = sum_merges_outline (merge_bytes g (chunk_bytes i)) i rs in
    let carries = carries_outline (carry_bytes g (chunk_bytes i)) i rs in
    let last = plain made (product_bytes (chunk_bytes source) (chunk_bytes i) (chunk_bytes made)) in
    record {
      kept = All-cons IsMiddle i (outline_arrays (merges ++ (carries ++ last ∷ []))) m
          (kept_join merges (carries ++ last ∷ []) (sum_merges_kept g axis (merge_bytes g (chunk_bytes i)) i rs h rule m)
          (kept_join carries (last ∷ []) (carries_kept g axis (carry_bytes g (chunk_bytes i)) i rs h rule m) (one_kept made (product_bytes (chunk_bytes source) (chunk_bytes i) (chunk_bytes made)) own)));
      ends = ends_join made (first ∷ merges) (carries ++ last ∷ []) (ends_join made carries (last ∷ []) ([], refl));
      few = (let a = length-append merges (carries ++ last ∷ []) in let b = length-append carries (last ∷ []) in let c = length-sum_merges (merge_bytes g (chunk_bytes i)) i rs in
          let d = length-carries (carry_bytes g (chunk_bytes i)) i rs in omega (arith, a, b, c, d, few));
    }

is_by : (several : Bool) (g axis : ℕ) (made source i : NodeInfo) (rs : List Round) → 2 ≤ g → AreSumRounds g axis i.dims rs → length rs ≤ 15 → IsMiddle i → IsMiddle made → IsOutline made (outline_by g made source i rs several)
is_by true g axis made source i rs h rule few m own = sums_is g axis made source i rs h rule few m own
is_by false g axis made source i rs h rule few m own = record {
  kept = one_kept made (fold_bytes (chunk_bytes source) (chunk_bytes made)) own;
  ends = ([], refl);
  few = omega arith;
}

-- ---- by the form

-- a reduction of a source has at most 24 rounds
rounds_few : (axes : Axes) (g : ℕ) (source : NodeInfo) → 2 ≤ g → IsInfo source → length (reduction_rounds axes g source) ≤ 24
rounds_few axes g source h i =
    let s = i.short in
    let r = i.ranks in
    let l = length-axis_by_axis div_ceil source.dims source.chunk (sym r) in
    rounds_fit axes g 0 (counts_of source.dims source.chunk) h (omega (arith, l, r, s)) i.chunks

-- and so has a product
parts_few : (g : ℕ) (left made : NodeInfo) → 2 ≤ g → IsInfo left → 1 ≤ length left.dims → length (product_rounds g left made) ≤ 24
parts_few g left made h i rank =
    let r = i.ranks in
    let w = count_few left (length left.dims - 1) i (omega arith) in
    one_fits g (length made.dims) (inner_count left) h (rw r w)

pub reduction_is : (g first merge : ℕ) (made source : NodeInfo) (axes : Axes) → 2 ≤ g → IsInfo made → IsInfo source → product (partial_chunk_from axes 0 source.chunk) * size_of made.dtype ≤ 2 ^ 28
    → IsOutline made (chain_outline None first merge (first_partial made.dtype axes source) (reduction_rounds axes g source) made)
reduction_is g first merge made source axes h m i bytes =
    chain_is None axes g first merge (first_partial made.dtype axes source) made (reduction_rounds axes g source) h
    (of_reduction made.dtype axes g source h i.ranks) (rounds_few axes g source h i) tt (of_first made.dtype axes source i bytes) (of_info made m)

pub search_is : (g first merge : ℕ) (made source : NodeInfo) (axes : Axes) → 2 ≤ g → IsInfo made → IsInfo source → product (partial_chunk_from axes 0 source.chunk) * 8 ≤ 2 ^ 28
    → IsOutline made (chain_outline (Some source.dtype) first merge (first_partial types.Int64 axes source) (reduction_rounds axes g source) made)
search_is g first merge made source axes h m i bytes =
    chain_is (Some source.dtype) axes g first merge (first_partial types.Int64 axes source) made (reduction_rounds axes g source) h (of_reduction types.Int64 axes g source h i.ranks) (rounds_few axes g source h i) (size_most source.dtype)
    (of_first types.Int64 axes source i bytes) (of_info made m)

pub product_is : (g first merge : ℕ) (made left : NodeInfo) → 2 ≤ g → IsInfo made → length made.dims < 6 → IsInfo left → 1 ≤ length left.dims
    → IsOutline made (chain_outline None first merge (product_partial left made) (product_rounds g left made) made)
product_is g first merge made left h m room i rank =
    chain_is None (record { 0 = 2 ^ length made.dims }) g first merge (product_partial left made) made
    (product_rounds g left made) h (of_product g left made h) (parts_few g left made h i rank) tt (middle_product left made i rank m room) (of_info made m)

pub cumulative_is : (g : ℕ) (made source : NodeInfo) (axis : ℕ) → 2 ≤ g → IsSummed made source axis → IsOutline made (cumulative_outline g made source axis)
cumulative_is g made source axis h s =
    let n = sums_count made source axis in
    is_by (nat_lt 1 (sums_count made source axis)) g axis made source (sums_array made source axis) (cumulative_rounds g made source axis) h
    (are_sum_rounds g axis n (sums_array made source axis).dims h (axis_below made source axis s) (omega arith)) (sums_fit g axis n h (few_sums made source axis s)) (of_sums made source axis s) (of_info made s.made_info)

bytes_light : (group bytes : ℕ) → group < 2 ^ 32 → bytes ≤ 2 ^ 28 → carry_bytes group bytes ≤ 2 ^ 62
bytes_light group bytes h k = let m : (group + 1 + 1) * bytes ≤ 2 ^ 33 * 2 ^ 28 = mul-le (group + 1 + 1) bytes (2 ^ 33) (2 ^ 28) (omega (arith, h)) k in omega (arith, m, k)

light_by : (several : Bool) (g : ℕ) (made source i : NodeInfo) (rs : List Round) → g < 2 ^ 32 → chunk_bytes made ≤ 2 ^ 28 → chunk_bytes source ≤ 2 ^ 28 → chunk_bytes i ≤ 2 ^ 28
    → outline_bytes (outline_by g made source i rs several) ≤ 2 ^ 62
light_by true g made source i rs few m s b =
    let e = sums_most g made source i rs in
    let c = bytes_light g (chunk_bytes i) few b in
    omega (arith, e, c, m, s, b)
light_by false g made source i rs few m s b = omega (arith, m, s)

pub cumulative_light : (g : ℕ) (made source : NodeInfo) (axis : ℕ) → g < 2 ^ 32 → IsSummed made source axis → outline_bytes (cumulative_outline g made source axis) ≤ 2 ^ 62
cumulative_light g made source axis few s =
    light_by (nat_lt 1 (sums_count made source axis)) g made source (sums_array made source axis) (cumulative_rounds g made source axis) few s.made_info.bytes s.source_info.bytes (of_sums made source axis s).bytes

-- ---- the loops over them

pub are_merges : (axes : Axes) (g : ℕ) (i j : NodeInfo) (rs qs : List Round) → 2 ≤ g → AreRounds axes g j.dims qs → i ≡ j → rs ≡ qs → AreMerges i rs
are_merges axes g i j rs qs h rule p q = rw (p, q) (record { axes = axes; split_every = g; groups = h; rule = rule })

kept_pair : (values : Option NodeInfo) (made : NodeInfo) (is : List NodeInfo) → All IsMiddle (with_values values made ++ is) → IsMiddle made × ((v : NodeInfo) → values ≡ Some v → IsMiddle v)
kept_pair None made is h = (All-head IsMiddle made is h, λ v e. cc)
kept_pair (Some b) made is h =
    (All-head IsMiddle made is (All-tail IsMiddle b (made ∷ is) h), λ v e. let same : b ≡ v = cc in subst IsMiddle same (All-head IsMiddle b (made ∷ is) h))

kept_behind : (values : Option NodeInfo) (made : NodeInfo) (is : List NodeInfo) → All IsMiddle (with_values values made ++ is) → All IsMiddle is
kept_behind None made is h = All-tail IsMiddle made is h
kept_behind (Some b) made is h = All-tail IsMiddle made is (All-tail IsMiddle b (made ∷ is) h)

pub kept_at : (os : List Outlined) (k : ℕ) (o : Outlined) → k < length os → o ≡ get_or os k o → All IsMiddle (outline_arrays os) → IsMiddle o.made × ((v : NodeInfo) → o.values ≡ Some v → IsMiddle v)
kept_at [] k o below at h = absurd (omega (arith, below))
kept_at (p ∷ os) zero o below at h =
    subst (λ (x : Outlined). IsMiddle x.made × ((v : NodeInfo) → x.values ≡ Some v → IsMiddle v)) (sym at) (kept_pair p.values p.made (outline_arrays os) h)
kept_at (p ∷ os) (suc k) o below at h = kept_at os k o (omega (arith, below)) at (kept_behind p.values p.made (outline_arrays os) h)
