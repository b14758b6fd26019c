-- The copies of the arrays that an operation reads in chunks that it tells.
use Rattle.std.proofs.Common.{cond, if◌then◌else◌, not, ◌≡◌, ℕ, zero, suc, ◌+◌, ◌<◌, ◌≤◌, Bool, true, false, List, [], ◌∷◌, ◌++◌, All, Contains, bytes_eq, filter, length, map, slice_index, sum_by, refl, ap, sym, ◌∙◌, subst, arith, inl, inr}
use Rattle.std.proofs.lemmas.List.{length-append}
use Rattle.std.proofs.lemmas.List.Concat.{flat_map-append}
use Rattle.std.proofs.lemmas.List.Elements.{All-append, All-cons, All-head, All-nil, All-tail, Contains-append_left, Contains-append_right}
use Rattle.std.proofs.lemmas.List.Sums.{sum_by-append, sum_by-cons}
use Rattle.std.proofs.lemmas.Slice.Eq.{bytes_eq-Decides}
use Rattle.cu_grid.specs.Grid.{IsGrid}
use Rattle.cu_op.specs.Elements.{Elements}
use Rattle.cu_op.specs.declared.layout.ArrayInfo.{ArrayInfo}
use Rattle.cu_node.specs.declared.info.NodeInfo.{NodeInfo}
use Rattle.cu_copy.specs.Chunks.{chunk_count}
use Rattle.cu_copy.specs.Copies.{is_misaligned, rechunk_cells, rechunk_tasks, rechunked}
use Rattle.cu_copy.specs.declared.copies.Rechunk.{Rechunk}
use Rattle.cu_lower_reduce.specs.Copies.{aligned_places, aligned_steps, behind_steps, copy_steps, operand_place, operand_steps, AreCopies, IsCopyStep, IsStaged}
use Rattle.cu_lower_reduce.specs.Steps.{all_made, grid_of, last_made, made_infos, step_tasks, HasInfo, HaveEach, HaveInfos, IsGiven, AreSteps, SolveSteps}
use Rattle.cu_lower_reduce.specs.declared.copy.CopySetting.{CopySetting}
use Rattle.cu_lower_reduce.specs.declared.step.Step.{Step}
use Rattle.cu_lower_reduce.proofs.Copying.{copies_come, copies_hold, copies_last, copies_some, copies_value}

-- ---- steps one after another

pub made_append : (xs ys : List Step) → all_made (xs ++ ys) ≡ all_made xs ++ all_made ys
made_append xs ys = flat_map-append made_infos xs ys

pub length-made : (xs ys : List Step) → length (all_made (xs ++ ys)) ≡ length (all_made xs) + length (all_made ys)
length-made xs ys = ap length (made_append xs ys) ∙ length-append (all_made xs) (all_made ys)

infos_front : (arrays : List ArrayInfo) (n : ℕ) (is js : List NodeInfo) → HaveInfos arrays n (is ++ js) → HaveInfos arrays n is
infos_front arrays n [] js h = tt
infos_front arrays n (i ∷ is) js h = (h.0, infos_front arrays (n + 1) is js h.1)

infos_back : (arrays : List ArrayInfo) (n m : ℕ) (is js : List NodeInfo) → m ≡ n + length is → HaveInfos arrays n (is ++ js) → HaveInfos arrays m js
infos_back arrays n m [] js e h = let f : n ≡ m = omega (arith, e) in subst (λ (k : ℕ). HaveInfos arrays k js) f h
infos_back arrays n m (i ∷ is) js e h = infos_back arrays (n + 1) m is js (omega (arith, e)) h.1

-- what is known of the arrays of two lists of steps
pub made_front : (arrays : List ArrayInfo) (n : ℕ) (xs ys : List Step) → HaveInfos arrays n (all_made (xs ++ ys)) → HaveInfos arrays n (all_made xs)
made_front arrays n xs ys h = infos_front arrays n (all_made xs) (all_made ys) (subst (λ (is : List NodeInfo). HaveInfos arrays n is) (made_append xs ys) h)

pub made_back : (arrays : List ArrayInfo) (n : ℕ) (xs ys : List Step) → HaveInfos arrays n (all_made (xs ++ ys)) → HaveInfos arrays (n + length (all_made xs)) (all_made ys)
made_back arrays n xs ys h =
    infos_back arrays n (n + length (all_made xs)) (all_made xs) (all_made ys) refl (subst (λ (is : List NodeInfo). HaveInfos arrays n is) (made_append xs ys) h)

pub steps_join : (arrays : List ArrayInfo) (reserved : ℕ) (given : List ℕ) (first n m : ℕ) (xs ys : List Step) → m ≡ n + length (all_made xs) → AreSteps arrays reserved given first n xs → AreSteps arrays reserved given first m ys
    → AreSteps arrays reserved given first n (xs ++ ys)
steps_join arrays reserved given first n m [] ys e h k = let f : m ≡ n = omega (arith, e) in subst (λ (a : ℕ). AreSteps arrays reserved given first a ys) f k
steps_join arrays reserved given first n m (x ∷ xs) ys e h k =
    let l = length-append (made_infos x) (all_made xs) in
    (h.0, steps_join arrays reserved given first (n + length (made_infos x)) m xs ys (omega (arith, e, l)) h.1 k)

pub solve_front : (arrays : List ArrayInfo) (at : Elements) (xs ys : List Step) → SolveSteps arrays at (xs ++ ys) → SolveSteps arrays at xs
solve_front arrays at xs ys h x a idx c w = h x a idx (Contains-append_left xs ys x c) w

pub solve_back : (arrays : List ArrayInfo) (at : Elements) (xs ys : List Step) → SolveSteps arrays at (xs ++ ys) → SolveSteps arrays at ys
solve_back arrays at xs ys h x a idx c w = h x a idx (Contains-append_right xs ys x c) w

-- ---- one array, by the test of its chunks

abbrev steps_if : CopySetting → ℕ → Rechunk → Bool → List Step
steps_if s a r b = if b then copy_steps s a r else []

abbrev place_if : CopySetting → ℕ → Rechunk → Bool → ℕ
place_if s a r b = if b then last_made s.first (copy_steps s a r) else a

one_holds : (arrays : List ArrayInfo) (s : CopySetting) (given : List ℕ) (first a : ℕ) (r : Rechunk) (b : Bool) → (b ≡ true → IsStaged s r) → first ≤ s.first → IsGiven given first s.first a → HasInfo arrays a r.source
    → HaveInfos arrays s.first (all_made (steps_if s a r b)) → AreSteps arrays s.reserved given first s.first (steps_if s a r b)
one_holds arrays s given first a r true h before g i k = copies_hold arrays s given first a r (h refl) before g i k
one_holds arrays s given first a r false h before g i k = tt

one_place : (arrays : List ArrayInfo) (s : CopySetting) (a : ℕ) (r : Rechunk) (b : Bool) → (b ≡ false → r.source.chunk ≡ r.chunk) → HasInfo arrays a r.source → HaveInfos arrays s.first (all_made (steps_if s a r b))
    → HasInfo arrays (place_if s a r b) (rechunked r)
one_place arrays s a r true e i k = copies_last arrays s a r k
one_place arrays s a r false e i k = record { within = i.within; dtype = i.dtype; grid = i.grid ∙ (λ j. record { shape = r.source.dims; chunk = e refl j }) }

one_given : (s : CopySetting) (given : List ℕ) (first last a : ℕ) (r : Rechunk) (b : Bool) → first ≤ s.first → Contains given a → s.first + length (all_made (steps_if s a r b)) ≤ last → IsGiven given first last (place_if s a r b)
one_given s given first last a r true before c e = let n = copies_some s a r in inr (omega (arith, n), omega (arith, n))
one_given s given first last a r false before c e = inl c

one_comes : (s : CopySetting) (a : ℕ) (r : Rechunk) (b : Bool) → (b ≡ true → IsStaged s r) → AreCopies s (if b then 1 else 0) (if b then rechunk_tasks s.most r else 0) (if b then rechunk_cells s.most r else 0) (steps_if s a r b)
one_comes s a r true h = copies_come s a r (h refl)
one_comes s a r false h = record { each = All-nil (IsCopyStep s); few = omega arith; grids = All-nil (λ i. IsGrid (grid_of i)); tasks_are = refl; cells_are = refl }

one_value : (arrays : List ArrayInfo) (at : Elements) (s : CopySetting) (a : ℕ) (r : Rechunk) (b : Bool) → SolveSteps arrays at (steps_if s a r b) → (idx : List ℕ) → at (place_if s a r b) idx ≡ at a idx
one_value arrays at s a r true solve idx = copies_value arrays at s a r solve idx
one_value arrays at s a r false solve idx = refl

-- an array that isn't copied has the chunks that are wanted
same_chunk : (r : Rechunk) (b : Bool) → bytes_eq r.source.chunk r.chunk ≡ b → not b ≡ false → r.source.chunk ≡ r.chunk
same_chunk r true e h = (bytes_eq-Decides r.source.chunk r.chunk).0 e
same_chunk r false e h = absurd (cc h)

-- ---- all of them

staged_head : (s : CopySetting) (r : Rechunk) (rs : List Rechunk) (b : Bool) → All (IsStaged s) (cond b (r ∷ rs) rs) → b ≡ true → IsStaged s r
staged_head s r rs true h e = All-head (IsStaged s) r rs h
staged_head s r rs false h e = absurd (cc e)

staged_tail : (s : CopySetting) (r : Rechunk) (rs : List Rechunk) (b : Bool) → All (IsStaged s) (cond b (r ∷ rs) rs) → All (IsStaged s) rs
staged_tail s r rs true h = All-tail (IsStaged s) r rs h
staged_tail s r rs false h = h

staged_behind : (s : CopySetting) (steps : List Step) (rs : List Rechunk) → All (IsStaged s) rs → All (IsStaged (behind_steps s steps)) rs
staged_behind s steps rs h k d l = let e = h k d l in record { rechunk = e.rechunk; fits = e.fits }

pub operands_hold : (arrays : List ArrayInfo) (s : CopySetting) (given : List ℕ) (first : ℕ) (sources : List ℕ) (rs : List Rechunk) → All (IsStaged s) (filter is_misaligned rs) → first ≤ s.first → All (Contains given) sources
    → HaveEach arrays sources (map (λ r. r.source) rs) → HaveInfos arrays s.first (all_made (aligned_steps s sources rs)) → AreSteps arrays s.reserved given first s.first (aligned_steps s sources rs)
operands_hold arrays s given first [] rs h before c i k = tt
operands_hold arrays s given first (a ∷ ins) [] h before c i k = tt
operands_hold arrays s given first (a ∷ ins) (r ∷ rs) h before c i k =
    let own = operand_steps s a r in
    let rest = aligned_steps (behind_steps s (operand_steps s a r)) ins rs in
    steps_join arrays s.reserved given first s.first (s.first + length (all_made own)) own rest refl
    (one_holds arrays s given first a r (is_misaligned r) (staged_head s r (filter is_misaligned rs) (is_misaligned r) h) before (inl (All-head (Contains given) a ins c)) i.0 (made_front arrays s.first own rest k))
    (operands_hold arrays (behind_steps s own) given first ins rs (staged_behind s own (filter is_misaligned rs) (staged_tail s r (filter is_misaligned rs) (is_misaligned r) h)) (omega arith) (All-tail (Contains given) a ins c) i.1
    (made_back arrays s.first own rest k))

pub operands_placed : (arrays : List ArrayInfo) (s : CopySetting) (sources : List ℕ) (rs : List Rechunk) → HaveEach arrays sources (map (λ r. r.source) rs)
    → HaveInfos arrays s.first (all_made (aligned_steps s sources rs)) → HaveEach arrays (aligned_places s sources rs) (map rechunked rs)
operands_placed arrays s [] [] i k = tt
operands_placed arrays s [] (r ∷ rs) i k = absurd i
operands_placed arrays s (a ∷ ins) [] i k = absurd i
operands_placed arrays s (a ∷ ins) (r ∷ rs) i k =
    let own = operand_steps s a r in
    let rest = aligned_steps (behind_steps s (operand_steps s a r)) ins rs in (
      one_place arrays s a r (is_misaligned r) (same_chunk r (bytes_eq r.source.chunk r.chunk) refl) i.0 (made_front arrays s.first own rest k),
      operands_placed arrays (behind_steps s own) ins rs i.1 (made_back arrays s.first own rest k),
    )

pub operands_given : (s : CopySetting) (given : List ℕ) (first last : ℕ) (sources : List ℕ) (rs : List Rechunk) → first ≤ s.first → All (Contains given) sources
    → s.first + length (all_made (aligned_steps s sources rs)) ≤ last → All (IsGiven given first last) (aligned_places s sources rs)
operands_given s given first last [] rs before c e = All-nil (IsGiven given first last)
operands_given s given first last (a ∷ ins) [] before c e = All-nil (IsGiven given first last)
operands_given s given first last (a ∷ ins) (r ∷ rs) before c e =
    let own = operand_steps s a r in
    let rest = aligned_steps (behind_steps s (operand_steps s a r)) ins rs in
    let l = length-made own rest in
    All-cons (IsGiven given first last) (operand_place s a r) (aligned_places (behind_steps s own) ins rs)
    (one_given s given first last a r (is_misaligned r) before (All-head (Contains given) a ins c) (omega (arith, l, e)))
    (operands_given (behind_steps s own) given first last ins rs (omega arith) (All-tail (Contains given) a ins c) (omega (arith, l, e)))

copies_join : (s : CopySetting) (m n t u c d : ℕ) (own rest : List Step) (made : List Step) → AreCopies s m t c own → AreCopies (behind_steps s made) n u d rest → AreCopies s (m + n) (t + u) (c + d) (own ++ rest)
copies_join s m n t u c d own rest made h k = record {
  each = All-append (IsCopyStep s) own rest h.each (λ i x l. let w = k.each i x l in record { copy = w.copy; need = w.need });
  few = (let l = length-append own rest in let a = h.few in let b = k.few in omega (arith, l, a, b));
  grids = subst (All (λ i. IsGrid (grid_of i))) (sym (made_append own rest)) (All-append (λ i. IsGrid (grid_of i)) (all_made own) (all_made rest) h.grids k.grids);
  tasks_are = sum_by-append step_tasks own rest ∙ (λ j. h.tasks_are j + k.tasks_are j);
  cells_are = ap (sum_by chunk_count) (made_append own rest) ∙ sum_by-append chunk_count (all_made own) (all_made rest) ∙ (λ j. h.cells_are j + k.cells_are j);
}

sum_filter : (f : Rechunk → ℕ) (r : Rechunk) (rs : List Rechunk) (b : Bool) → (if b then f r else 0) + sum_by f rs ≡ sum_by f (cond b (r ∷ rs) rs)
sum_filter f r rs true = sym (sum_by-cons f r rs)
sum_filter f r rs false = omega arith

count_filter : (r : Rechunk) (rs : List Rechunk) (b : Bool) → (if b then 1 else 0) + length rs ≡ length (cond b (r ∷ rs) rs)
count_filter r rs true = omega arith
count_filter r rs false = omega arith

-- the same by other names of what they come to
same_copies : (s : CopySetting) (m n t u c d : ℕ) (steps : List Step) → m ≡ n → t ≡ u → c ≡ d → AreCopies s m t c steps → AreCopies s n u d steps
same_copies s m n t u c d steps arrays tasks cells h = record {
  each = h.each;
  few = (let a = h.few in omega (arith, a, arrays));
  grids = h.grids;
  tasks_are = h.tasks_are ∙ tasks;
  cells_are = h.cells_are ∙ cells;
}

pub operands_come : (s : CopySetting) (sources : List ℕ) (rs : List Rechunk) → All (IsStaged s) (filter is_misaligned rs) → length sources ≡ length rs
    → AreCopies s (length (filter is_misaligned rs)) (sum_by (rechunk_tasks s.most) (filter is_misaligned rs)) (sum_by (rechunk_cells s.most) (filter is_misaligned rs)) (aligned_steps s sources rs)
operands_come s [] [] h e = record { each = All-nil (IsCopyStep s); few = omega arith; grids = All-nil (λ i. IsGrid (grid_of i)); tasks_are = refl; cells_are = refl }
operands_come s [] (r ∷ rs) h e = absurd (omega arith)
operands_come s (a ∷ ins) [] h e = absurd (omega arith)
operands_come s (a ∷ ins) (r ∷ rs) h e =
    let own = operand_steps s a r in
    let left = filter is_misaligned rs in
    let rest = operands_come (behind_steps s own) ins rs (staged_behind s own left (staged_tail s r left (is_misaligned r) h)) (omega arith) in
    same_copies s _ _ _ _ _ _ (aligned_steps s (a ∷ ins) (r ∷ rs)) (count_filter r left (is_misaligned r)) (sum_filter (rechunk_tasks s.most) r left (is_misaligned r)) (sum_filter (rechunk_cells s.most) r left (is_misaligned r))
    (copies_join s _ _ _ _ _ _ own _ own (one_comes s a r (is_misaligned r) (staged_head s r left (is_misaligned r) h)) rest)

pub operands_value : (arrays : List ArrayInfo) (at : Elements) (s : CopySetting) (sources : List ℕ) (rs : List Rechunk) (j : ℕ) → length sources ≡ length rs → j < length rs
    → SolveSteps arrays at (aligned_steps s sources rs) → (idx : List ℕ) → at (slice_index (aligned_places s sources rs) j) idx ≡ at (slice_index sources j) idx
operands_value arrays at s [] [] j e l solve idx = absurd (omega arith)
operands_value arrays at s [] (r ∷ rs) j e l solve idx = absurd (omega arith)
operands_value arrays at s (a ∷ ins) [] j e l solve idx = absurd (omega arith)
operands_value arrays at s (a ∷ ins) (r ∷ rs) zero e l solve idx =
    one_value arrays at s a r (is_misaligned r) (solve_front arrays at (operand_steps s a r) (aligned_steps (behind_steps s (operand_steps s a r)) ins rs) solve) idx
operands_value arrays at s (a ∷ ins) (r ∷ rs) (suc j) e l solve idx =
    operands_value arrays at (behind_steps s (operand_steps s a r)) ins rs j (omega arith) (omega arith) (solve_back arrays at (operand_steps s a r) (aligned_steps (behind_steps s (operand_steps s a r)) ins rs) solve) idx
