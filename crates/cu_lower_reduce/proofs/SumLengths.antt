-- How many steps prefix sums have.
use Rattle.std.proofs.Common.{◌≡◌, ℕ, ◌+◌, ◌*◌, List, [], ◌∷◌, ◌++◌, length, Some, refl, arith}
use Rattle.std.proofs.lemmas.List.{length-append}
use Rattle.cu_node.specs.declared.info.NodeInfo.{NodeInfo}
use Rattle.cu_tree.specs.Partials.{merged}
use Rattle.cu_tree.specs.declared.round.Round.{Round}
use Rattle.cu_lower_reduce.specs.Cumulative.{carried_step, sum_merges, sum_carries, first_carry, last_scan, summed_steps}
use Rattle.cu_lower_reduce.specs.declared.cumulative.Cumulative.{Cumulative}
use Rattle.cu_lower_reduce.specs.declared.step.Setting.{Setting}

pub length-merges : (s : Setting) (source : ℕ) (i : NodeInfo) (rs : List Round) → length (sum_merges s source i rs) ≡ length rs
length-merges s source i [] = refl
length-merges s source i (r ∷ rs) = let e = length-merges s (source + 1) (merged r i) rs in omega arith

pub length-carries : (s : Setting) (axis source : ℕ) (i : NodeInfo) (rs : List Round) (next : ℕ) → length (sum_carries s axis source i rs next) ≡ length rs + 1
length-carries s axis source i [] next = refl
length-carries s axis source i (r ∷ rs) next =
    let e = length-carries s axis (source + 1) (merged r i) rs next in
    let l = length-append (sum_carries s axis (source + 1) (merged r i) rs next) (carried_step s axis source i (Some (next + length rs)) (next + length rs + 1) ∷ []) in
    omega (arith, e, l)

pub length-summed : (s : Setting) (x : Cumulative) (i : NodeInfo) (rs : List Round) → length (summed_steps s x i rs) ≡ 2 * length rs + 3
length-summed s x i rs =
    let m = length-merges s s.first i rs in
    let c = length-carries s x.axis s.first i rs (first_carry s rs) in
    let a = length-append (sum_merges s s.first i rs) (sum_carries s x.axis s.first i rs (first_carry s rs) ++ last_scan s x i rs ∷ []) in
    let b = length-append (sum_carries s x.axis s.first i rs (first_carry s rs)) (last_scan s x i rs ∷ []) in
    omega (arith, m, c, a, b)
