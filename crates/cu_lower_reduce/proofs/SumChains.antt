-- The steps of prefix sums, one by one.
use Rattle.std.proofs.Common.{◌≡◌, ℕ, zero, suc, ◌+◌, ◌-◌, ◌*◌, ◌<◌, ◌≤◌, true, false, List, [], ◌∷◌, ◌++◌, length, get_or, drop, None, Some, slice_get, refl, ap, sym, ◌∙◌, arith, inl, inr}
use Rattle.std.proofs.lemmas.Bool.{lt-ltb, le-ltb}
use Rattle.std.proofs.lemmas.Bool.Decides.{leb_tells}
use Rattle.cu_num.specs.declared.folds.FoldKind.TheVariants.{Sum}
use Rattle.cu_op.specs.declared.operation.Op.TheVariants.{Merge, Carry}
use Rattle.cu_node.specs.declared.info.NodeInfo.{NodeInfo}
use Rattle.cu_tree.specs.Needs.{merge_need, product_need}
use Rattle.cu_tree.specs.Partials.{merged}
use Rattle.cu_tree.specs.Sums.{sums_array, sums_count, cumulative_rounds, carry_need, AreSumRounds}
use Rattle.cu_tree.specs.declared.round.Round.{Round}
use Rattle.cu_lower_reduce.specs.Cumulative.{carried_step, scanned_step, sum_merges, sum_carries, carry_before, first_carry, last_scan, summed_steps, cumulative_steps}
use Rattle.cu_lower_reduce.specs.Partials.{partial_after}
use Rattle.cu_lower_reduce.specs.declared.cumulative.Cumulative.{Cumulative}
use Rattle.cu_lower_reduce.specs.declared.step.Setting.{Setting}
use Rattle.cu_lower_reduce.specs.declared.step.Step.{Step}
use Rattle.cu_lower_reduce.proofs.SumLengths.{length-merges, length-carries, length-summed}
use Rattle.cu_lower_reduce.proofs.Summing.{steps_by}
use Rattle.cu_node.specs.Info.{chunk_bytes}

-- ---- a place in lists one after another

get_left : {A : Type 0} (xs ys : List A) (k : ℕ) → k < length xs → slice_get (xs ++ ys) k ≡ slice_get xs k
get_left [] ys k h = absurd (omega arith)
get_left (x ∷ xs) ys zero h = refl
get_left (x ∷ xs) ys (suc k) h = get_left xs ys k (omega arith)

get_right : {A : Type 0} (xs ys : List A) (k m : ℕ) → k ≡ length xs + m → slice_get (xs ++ ys) k ≡ slice_get ys m
get_right [] ys k m e = let z : k ≡ m = omega (arith, e) in ap (slice_get ys) z
get_right (x ∷ xs) ys zero m e = absurd (omega (arith, e))
get_right (x ∷ xs) ys (suc k) m e = get_right xs ys k m (omega (arith, e))

-- ---- the arrays of sums by how many rounds are done

pub after_bytes : (i : NodeInfo) (rs : List Round) (k : ℕ) → chunk_bytes (partial_after i rs k) ≡ chunk_bytes i
after_bytes i rs zero = refl
after_bytes i [] (suc k) = refl
after_bytes i (r ∷ rs) (suc k) = after_bytes (merged r i) rs k

pub rounds_after : (g axis : ℕ) (i : NodeInfo) (rs : List Round) (k : ℕ) → k ≤ length rs → AreSumRounds g axis i.dims rs → AreSumRounds g axis (partial_after i rs k).dims (drop k rs)
rounds_after g axis i rs zero h rule = rule
rounds_after g axis i [] (suc k) h rule = absurd (omega arith)
rounds_after g axis i (r ∷ rs) (suc k) h rule = rounds_after g axis (merged r i) rs k (omega arith) rule.1

-- ---- the merges and the carries

pub merge_at : (s : Setting) (source : ℕ) (i : NodeInfo) (rs : List Round) (at n : ℕ) (d : Round) → at < length rs → n ≡ source + at
    → slice_get (sum_merges s source i rs) at
    ≡ Some (record {
      op = Merge Sum (get_or rs at d).axis s.split_every n (n + 1);
      values = None;
      made = partial_after i rs (at + 1);
      need = merge_need s.reserved s.split_every (chunk_bytes i);
    })
merge_at s source i [] at n d h e = absurd (omega arith)
merge_at s source i (r ∷ rs) zero n d h e = let z : n ≡ source = omega arith in rw z refl
merge_at s source i (r ∷ rs) (suc at) n d h e =
    let k : suc at + 1 ≡ suc (at + 1) = omega arith in
    rw k (merge_at s (source + 1) (merged r i) rs at n d (omega arith) (omega arith))

pub carry_at : (s : Setting) (axis source : ℕ) (i : NodeInfo) (rs : List Round) (next at n : ℕ) → at ≤ length rs → n ≡ source + (length rs - at)
    → slice_get (sum_carries s axis source i rs next) at ≡ Some (carried_step s axis n (partial_after i rs (length rs - at)) (carry_before next at) (next + at))
carry_at s axis source i [] next zero n h e =
    let z : n ≡ source = omega arith in
    let o : next + 0 ≡ next = omega arith in
    rw (z, o) refl
carry_at s axis source i [] next (suc at) n h e = absurd (omega arith)
carry_at s axis source i (r ∷ rs) next at n h e =
    let l = length-carries s axis (source + 1) (merged r i) rs next in
    elim (leb_tells at (length rs)) [
      | inl p ↦ let q = p.1 in
          get_left (sum_carries s axis (source + 1) (merged r i) rs next) (carried_step s axis source i (Some (next + length rs)) (next + length rs + 1) ∷ []) at (omega arith)
          ∙ carry_at s axis (source + 1) (merged r i) rs next at n p.1 (omega (arith, e))
          ∙ ap (λ (j : NodeInfo). Some (carried_step s axis n j (carry_before next at) (next + at))) (sym (ap (partial_after i (r ∷ rs)) (one_less at (length rs) p.1)))
      | inr p ↦ let q = p.1 in
          get_right (sum_carries s axis (source + 1) (merged r i) rs next) (carried_step s axis source i (Some (next + length rs)) (next + length rs + 1) ∷ []) at 0 (omega arith)
          ∙ by_end at n (length (r ∷ rs) - at) (next + at) (omega arith) (omega arith) (omega (arith, e)) (omega arith)
    ]
  where
    one_less : (at n : ℕ) → at ≤ n → suc n - at ≡ suc (n - at)
    one_less at n h = omega arith

    by_end : (at n k m : ℕ) → at ≡ suc (length rs) → n ≡ source → k ≡ 0 → m ≡ next + length rs + 1
        → Some (carried_step s axis source i (Some (next + length rs)) (next + length rs + 1)) ≡ Some (carried_step s axis n (partial_after i (r ∷ rs) k) (carry_before next at) m)
    by_end at n k m a b c d = rw (a, b, c, d) refl

-- its bytes are those of the first array of sums
pub carry_of : (s : Setting) (axis : ℕ) (i : NodeInfo) (rs : List Round) (at : ℕ) → at ≤ length rs
    → slice_get (sum_carries s axis s.first i rs (first_carry s rs)) at
    ≡ Some (record {
      op = Carry axis s.split_every (s.first + (length rs - at)) (carry_before (first_carry s rs) at) (first_carry s rs + at);
      values = None;
      made = partial_after i rs (length rs - at);
      need = carry_need s.reserved s.split_every (chunk_bytes i);
    })
carry_of s axis i rs at h =
    carry_at s axis s.first i rs (first_carry s rs) at (s.first + (length rs - at)) h refl
    ∙ ap (λ (b : ℕ). Some (record {
      op = Carry axis s.split_every (s.first + (length rs - at)) (carry_before (first_carry s rs) at) (first_carry s rs + at);
      values = None;
      made = partial_after i rs (length rs - at);
      need = carry_need s.reserved s.split_every b;
    })) (after_bytes i rs (length rs - at))

-- ---- all of them

pub summed_merge : (s : Setting) (x : Cumulative) (i : NodeInfo) (rs : List Round) (at : ℕ) (st : Step) → 0 < at → at ≤ length rs → slice_get (sum_merges s s.first i rs) (at - 1) ≡ Some st
    → slice_get (summed_steps s x i rs) at ≡ Some st
summed_merge s x i rs zero st some h e = absurd (omega arith)
summed_merge s x i rs (suc k) st some h e =
    let l = length-merges s s.first i rs in
    let z : k ≡ suc k - 1 = omega arith in
    get_left (sum_merges s s.first i rs) (sum_carries s x.axis s.first i rs (first_carry s rs) ++ last_scan s x i rs ∷ []) k (omega arith)
    ∙ ap (slice_get (sum_merges s s.first i rs)) z ∙ e

pub summed_carry : (s : Setting) (x : Cumulative) (i : NodeInfo) (rs : List Round) (at : ℕ) (st : Step) → length rs < at → at ≤ 2 * length rs + 1
    → slice_get (sum_carries s x.axis s.first i rs (first_carry s rs)) (at - length rs - 1) ≡ Some st → slice_get (summed_steps s x i rs) at ≡ Some st
summed_carry s x i rs zero st some h e = absurd (omega arith)
summed_carry s x i rs (suc k) st some h e =
    let l = length-merges s s.first i rs in
    let c = length-carries s x.axis s.first i rs (first_carry s rs) in
    let z : k - length rs ≡ suc k - length rs - 1 = omega arith in
    get_right (sum_merges s s.first i rs) (sum_carries s x.axis s.first i rs (first_carry s rs) ++ last_scan s x i rs ∷ []) k (k - length rs) (omega arith)
    ∙ get_left (sum_carries s x.axis s.first i rs (first_carry s rs)) (last_scan s x i rs ∷ []) (k - length rs) (omega arith)
    ∙ ap (slice_get (sum_carries s x.axis s.first i rs (first_carry s rs))) z ∙ e

pub summed_last : (s : Setting) (x : Cumulative) (i : NodeInfo) (rs : List Round) (at : ℕ) → at ≡ 2 * length rs + 2 → slice_get (summed_steps s x i rs) at ≡ Some (last_scan s x i rs)
summed_last s x i rs zero h = absurd (omega arith)
summed_last s x i rs (suc k) h =
    let l = length-merges s s.first i rs in
    let c = length-carries s x.axis s.first i rs (first_carry s rs) in
    get_right (sum_merges s s.first i rs) (sum_carries s x.axis s.first i rs (first_carry s rs) ++ last_scan s x i rs ∷ []) k (length rs + 1) (omega (arith, h, l))
    ∙ get_right (sum_carries s x.axis s.first i rs (first_carry s rs)) (last_scan s x i rs ∷ []) (length rs + 1) 0 (omega (arith, c))

-- by how many chunks the axis has
pub several_steps : (s : Setting) (x : Cumulative) → 1 < sums_count x.made x.from x.axis → cumulative_steps s x ≡ steps_by s x true
several_steps s x h = ap (steps_by s x) (lt-ltb 1 (sums_count x.made x.from x.axis) h)

pub lone_step : (s : Setting) (x : Cumulative) → sums_count x.made x.from x.axis ≤ 1 → cumulative_steps s x ≡ steps_by s x false
lone_step s x h = ap (steps_by s x) (le-ltb 1 (sums_count x.made x.from x.axis) h)

pub several_count : (s : Setting) (x : Cumulative) → 1 < sums_count x.made x.from x.axis → length (cumulative_steps s x) ≡ 2 * length (cumulative_rounds s.split_every x.made x.from x.axis) + 3
several_count s x h =
    ap (λ (steps : List Step). length steps) (several_steps s x h) ∙ length-summed s x (sums_array x.made x.from x.axis) (cumulative_rounds s.split_every x.made x.from x.axis)

pub carry_behind : (s : Setting) (x : Cumulative) (at : ℕ) (sums : NodeInfo) (rounds : List Round) (count : ℕ) (st : Step) → sums ≡ sums_array x.made x.from x.axis → rounds ≡ cumulative_rounds s.split_every x.made x.from x.axis
    → count ≡ length rounds → 1 < sums_count x.made x.from x.axis → count < at → at ≤ 2 * count + 1 → slice_get (sum_carries s x.axis s.first sums rounds (first_carry s rounds)) (at - count - 1) ≡ Some st
    → slice_get (cumulative_steps s x) at ≡ Some st
carry_behind s x at sums rounds count st p q n several behind below e =
    let m : count ≡ length (cumulative_rounds s.split_every x.made x.from x.axis) = n ∙ ap (λ (rs : List Round). length rs) q in
    let w = rw (m, p, q) at e in
    ap (λ (steps : List Step). slice_get steps at) (several_steps s x several)
    ∙ summed_carry s x (sums_array x.made x.from x.axis) (cumulative_rounds s.split_every x.made x.from x.axis) at st (omega (arith, m)) (omega (arith, m)) w

pub last_behind : (s : Setting) (x : Cumulative) (at : ℕ) (sums : NodeInfo) (rounds : List Round) (count : ℕ) (st : Step) → sums ≡ sums_array x.made x.from x.axis → rounds ≡ cumulative_rounds s.split_every x.made x.from x.axis
    → count ≡ length rounds → 1 < sums_count x.made x.from x.axis → 2 * count + 1 < at → at < length (cumulative_steps s x)
    → st ≡ scanned_step x (Some (s.first + count + 1 + count)) (s.first + count + 1 + count + 1) (product_need s.reserved (chunk_bytes x.from) (chunk_bytes sums) (chunk_bytes x.made))
    → slice_get (cumulative_steps s x) at ≡ Some st
last_behind s x at sums rounds count st p q n several behind within e =
    let m : count ≡ length (cumulative_rounds s.split_every x.made x.from x.axis) = n ∙ ap (λ (rs : List Round). length rs) q in
    let w = rw (m, p) at e in
    let l = several_count s x several in
    ap (λ (steps : List Step). slice_get steps at) (several_steps s x several)
    ∙ summed_last s x (sums_array x.made x.from x.axis) (cumulative_rounds s.split_every x.made x.from x.axis) at (omega (arith, m, l)) ∙ ap Some (sym w)
