-- The best of one run more.
use Rattle.std.proofs.Common.{◌≡◌, ℕ, ℤ, ◌+◌, ◌-◌, ◌*◌, ◌/◌, ◌<◌, ◌≤◌, pos, false, List, length, take, drop, Option, Some, refl, sym, ap, ◌∙◌, subst, arith, ⊎_elim}
use Rattle.std.specs.Prelude.{Bool as Test, int_lt}
use Rattle.std.proofs.lemmas.Int.{ints}
use Rattle.std.proofs.lemmas.Bool.{cases_lt}
use Rattle.cu_num.specs.Dtype.{size_of}
use Rattle.cu_num.specs.Element.{element_at, bytes_at}
use Rattle.cu_num.specs.declared.types.Dtype.{Dtype}
use Rattle.cu_num.specs.declared.types.Dtype.TheVariants.{Int64}
use Rattle.cu_num.specs.declared.layout.Endian.TheVariants.{Little}
use Rattle.cu_reduce.specs.Numbers.{HasNumber}
use Rattle.cu_pairs.specs.Runs.{elements, IsFirstBest}
use Rattle.cu_pairs.specs.Columns.{table, sought_place, IsBestOf}
use Rattle.cu_pairs.specs.Blocks.{found_along, sizes, HasBestsAlong}
use Rattle.cu_pairs.proofs.Parts.{element_count}
use Rattle.cu_pairs.proofs.BlockSteps.{HasBestAlong}
use Rattle.cu_pairs.proofs.Leading.{first_is_best, same_first}
use Rattle.cu_pairs.proofs.BlockParts.{element_in, part_bytes}

abbrev run_of : List ℕ → ℕ → ℕ → ℕ → List ℕ
run_of bytes from count size = take ((from + count) * size - from * size) (drop (from * size) bytes)

-- the first best of a run that was taken out
run_first : (least : Test) (t : Dtype) (bytes : List ℕ) (from count size at : ℕ) → size ≡ size_of t → (from + count) * size_of t ≤ length bytes
    → IsFirstBest least (elements t (run_of bytes from count size)) (length (run_of bytes from count size) / size_of t) at
    → IsFirstBest least (λ j. element_at Little t bytes (from + j)) count at
run_first least t bytes from count size at e room h =
    let long : length (run_of bytes from count size) / size_of t ≡ count = element_count t count (size_of t) (length (run_of bytes from count size)) refl (part_bytes t bytes from count size e room) in
    same_first least (elements t (run_of bytes from count size)) (λ j. element_at Little t bytes (from + j)) count at (λ j b. element_in t bytes from count size j e room b)
    (subst (λ n. IsFirstBest least (elements t (run_of bytes from count size)) n at) long h)

counted_order : (f : Option ℕ) (first : ℕ) (places : List ℕ) (at : ℕ → ℕ) (i j : ℕ) → f ≡ Some first → i ≤ j → int_lt (sought_place f places j (at j)) (sought_place f places i (at i)) ≡ false
counted_order f first places at i j e h =
    let own : int_lt (pos (first + j)) (pos (first + i)) ≡ false = grind (arith, ints) in
    subst (λ g. int_lt (sought_place g places j (at j)) (sought_place g places i (at i)) ≡ false) (sym e) own

pub runs_more : (least : Test) (t : Dtype) (width : ℕ) (bytes : List ℕ) (f : Option ℕ) (places : List ℕ) (first block count size at : ℕ) (value place : ℤ) (values found_places new_values new_places : List ℕ)
    → width ≡ 1 → f ≡ Some first → size ≡ size_of t → (block * count + count) * size_of t ≤ length bytes
    → IsFirstBest least (elements t (run_of bytes (block * count) count size)) (length (run_of bytes (block * count) count size) / size_of t) at
    → value ≡ elements t (run_of bytes (block * count) count size) at → place ≡ pos (first + at)
    → HasNumber t new_values block value → HasNumber Int64 new_places block place
    → ((b : ℕ) → b < block → (bytes_at t new_values b ≡ bytes_at t values b) × (bytes_at Int64 new_places b ≡ bytes_at Int64 found_places b))
    → HasBestsAlong least (table t width bytes f places) (sizes block count) values found_places → HasBestsAlong least (table t width bytes f places) (sizes (block + 1) count) new_values new_places
runs_more least t width bytes f places first block count size at value place values found_places new_values new_places one counted e room h is there v p other done =
    let r = table t width bytes f places in
    let firsts = run_first least t bytes (block * count) count size at e room h in
    let within = firsts.within in
    let position : (j : ℕ) → block * count + j ≡ (block * count + j) * width + 0 = λ j. let all : (block * count + j) * 1 ≡ (block * count + j) * width = ap (λ w. (block * count + j) * w) (sym one) in omega arith in
    let best : IsBestOf least (found_along r count block 0) count (found_along r count block 0 at) =
    first_is_best least (found_along r count block 0) count at
    (same_first least (λ j. element_at Little t bytes (block * count + j)) (λ j. (found_along r count block 0 j).value) count at (λ j b. ap (element_at Little t bytes) (position j)) firsts)
    (λ i j o b. counted_order f first places (λ n. (block * count + n) * width + 0) i j counted o) in
    let read : value ≡ (found_along r count block 0 at).value = is ∙ element_in t bytes (block * count) count size at e room within ∙ ap (element_at Little t bytes) (position at) in
    let counted_place : place ≡ (found_along r count block 0 at).place = there ∙ ap (λ g. sought_place g places at ((block * count + at) * width + 0)) (sym counted) in
    let own : block ≡ block * width + 0 = let all : block * 1 ≡ block * width = ap (λ w. block * w) (sym one) in omega arith in
    let here : HasBestAlong least r count block new_values new_places 0 = (
      found_along r count block 0 at,
      best,
      (
        subst (λ n. HasNumber t new_values n (found_along r count block 0 at).value) own (subst (HasNumber t new_values block) read v),
        subst (λ n. HasNumber Int64 new_places n (found_along r count block 0 at).place) own (subst (HasNumber Int64 new_places block) counted_place p),
      ),
    ) in
    record {
      along = λ b k less below.
          let zero_th : 0 ≡ k = omega arith in
          subst (HasBestAlong least r count b new_values new_places) zero_th
          (⊎_elim
          (λ before.
          let old = done.along b 0 before (omega arith) in
          let at_b : b ≡ b * width + 0 = let all : b * 1 ≡ b * width = ap (λ w. b * w) (sym one) in omega arith in
          let same = other b before in (
            old.0,
            old.1,
            (
              subst (λ n. HasNumber t new_values n old.0.value) at_b (same.0 ∙ subst (λ n. HasNumber t values n old.0.value) (sym at_b) old.2.0),
              subst (λ n. HasNumber Int64 new_places n old.0.place) at_b (same.1 ∙ subst (λ n. HasNumber Int64 found_places n old.0.place) (sym at_b) old.2.1),
            ),
          ))
          (λ after. let same : block ≡ b = omega arith in subst (λ n. HasBestAlong least r count n new_values new_places 0) same here)
          (cases_lt b block));
    }
