-- The results of the levels that one loop takes.
use Rattle.std.proofs.Common.{◌≡◌, ◌<◌, ℕ, zero, suc, ◌+◌, ◌*◌, ◌/◌, List, [], ◌∷◌, ◌++◌, map, refl, sym, ap, ◌∙◌, subst, arith}
use Rattle.std.specs.List.{range_with_len}
use Rattle.std.proofs.lemmas.List.FromFn.{map-range_with_len_more}
use Rattle.cu_num.specs.declared.types.Dtype.{Dtype}
use Rattle.cu_num.specs.declared.folds.FoldKind.{FoldKind}
use Rattle.cu_fold.specs.declared.levels.Leaf.TheVariants.{Run, Row, Runs, Rows}
use Rattle.cu_fold.specs.Levels.{chained, moved, sources, leaf_levels}
use Rattle.cu_fold.specs.Taken.{TakesAll}
use Rattle.cu_take.specs.Taken.{HasTaken, elements_at_places, column_places}
use Rattle.cu_reduce.proofs.Ranges.{range_shift, map_ranges}
use Rattle.cu_fold.proofs.Chains.{chained_single}

pub run_results : (kind : FoldKind) (from acc : Dtype) (n : ℕ) (input old new : List ℕ) → HasTaken kind acc old new 0 (elements_at_places from input (range_with_len 0 n))
    → TakesAll (record { kind = kind; from = from; acc = acc }) (leaf_levels (Run n)) input old new
run_results kind from acc n input old new h q less =
    let first : 0 ≡ q = omega arith in
    let own : sources (leaf_levels (Run n)) q ≡ range_with_len 0 n = chained_single n in
    subst (λ ps. HasTaken kind acc old new q (elements_at_places from input ps)) (sym own) (subst (λ k. HasTaken kind acc old new k (elements_at_places from input (range_with_len 0 n))) first h)

pub row_results : (kind : FoldKind) (from acc : Dtype) (n : ℕ) (input old new : List ℕ) → ((q : ℕ) → q < n → HasTaken kind acc old new q (elements_at_places from input (q ∷ [])))
    → TakesAll (record { kind = kind; from = from; acc = acc }) (leaf_levels (Row n)) input old new
row_results kind from acc n input old new h q less =
    let place : q ≡ q / 1 * 1 + 0 = omega arith in
    subst (λ p. HasTaken kind acc old new q (elements_at_places from input (p ∷ []))) place (h q (omega arith))

-- the places of a run
run_places : (n width q : ℕ) → sources (leaf_levels (Runs n width)) q ≡ range_with_len (q * width) width
run_places n width q =
    let own : q / 1 ≡ q = omega arith in
    let first : q * (width * 1) + 0 ≡ q * width = omega arith in
    ap (moved (q / 1 * (width * 1))) (chained_single width) ∙ sym (range_shift (q / 1 * (width * 1)) 0 width) ∙ ap (λ k. range_with_len (k * (width * 1) + 0) width) own ∙ ap (λ p. range_with_len p width) first

pub runs_results : (kind : FoldKind) (from acc : Dtype) (n width : ℕ) (input old new : List ℕ) → ((q : ℕ) → q < n → HasTaken kind acc old new q (elements_at_places from input (range_with_len (q * width) width)))
    → TakesAll (record { kind = kind; from = from; acc = acc }) (leaf_levels (Runs n width)) input old new
runs_results kind from acc n width input old new h q less =
    subst (λ ps. HasTaken kind acc old new q (elements_at_places from input ps)) (sym (run_places n width q)) (h q (omega arith))

-- the places of an element in each row
single_places : (f : ℕ → ℕ) (n : ℕ) → chained n (λ i. f i ∷ []) ≡ map f (range_with_len 0 n)
single_places f zero = refl
single_places f (suc n) =
    let at : 0 + n ≡ n = omega arith in
    let more : n + 1 ≡ suc n = omega arith in
    ap (λ xs. xs ++ f n ∷ []) (single_places f n) ∙ sym (map-range_with_len_more f 0 n n at) ∙ ap (λ k. map f (range_with_len 0 k)) more

row_places : (n width q : ℕ) → sources (leaf_levels (Rows n width)) q ≡ column_places 0 width n q
row_places n width q =
    single_places (λ i. i * (width * 1) + (q / 1 * 1 + 0)) n
    ∙ map_ranges (λ i. i * (width * 1) + (q / 1 * 1 + 0)) (λ k. 0 + k * width + q) 0 0 n
    (λ k less. let one : q / 1 ≡ q = omega arith in omega (arith, one))

pub rows_results : (kind : FoldKind) (from acc : Dtype) (n width : ℕ) (input old new : List ℕ)
    → ((j : ℕ) → j < width → HasTaken kind acc old new (0 + j) (elements_at_places from input (column_places 0 width n j)))
    → TakesAll (record { kind = kind; from = from; acc = acc }) (leaf_levels (Rows n width)) input old new
rows_results kind from acc n width input old new h q less =
    let at : 0 + q ≡ q = omega arith in
    let all = sources (leaf_levels (Rows n width)) q in
    subst (λ k. HasTaken kind acc old new k (elements_at_places from input all)) at
    (subst (λ ps. HasTaken kind acc old new (0 + q) (elements_at_places from input ps)) (sym (row_places n width q)) (h q (omega arith)))
