-- What the runs of a slice take, axis by axis.
use Rattle.std.proofs.Common.{◌≡◌, ℕ, zero, suc, ◌<◌, pos, List, [], ◌∷◌, length, get_or, ap, ◌∙◌, sym, subst, refl, ℤ, ◌+ℤ◌, ◌*ℤ◌, arith}
use Rattle.std.proofs.lemmas.List.{ext_get_or, length-map}
use Rattle.cu_shape.specs.Index.{IsInside}
use Rattle.cu_shape.specs.Slice.{at_least_zero, index_taken, IsIndex}
use Rattle.cu_shape.specs.declared.slice.Run.{Run}
use Rattle.cu_shape.proofs.Places.{inside-length}
use Rattle.cu_view.specs.Boxes.{no_run}
use Rattle.cu_origin.specs.Fits.{AreRuns}
use Rattle.cu_origin.specs.Pull.{counts_of_runs, taken_by}

-- the index that the run of an axis takes
abbrev pub taken_on : Run → List Run → List ℕ → ℕ → ℕ
taken_on d runs at k = at_least_zero (index_taken (get_or runs k d) (get_or at k 0))

pub length-taken_by : (runs : List Run) (at : List ℕ) → length at ≡ length runs → length (taken_by runs at) ≡ length runs
length-taken_by [] at e = refl
length-taken_by (run ∷ runs) [] e = absurd (omega arith)
length-taken_by (run ∷ runs) (i ∷ is) e = ap suc (length-taken_by runs is (omega arith))

pub get_or-taken_by : (runs : List Run) (at : List ℕ) (k : ℕ) (d : Run) → k < length runs → k < length at → get_or (taken_by runs at) k 0 ≡ taken_on d runs at k
get_or-taken_by [] at k d p q = absurd (omega arith)
get_or-taken_by (run ∷ runs) [] k d p q = absurd (omega arith)
get_or-taken_by (run ∷ runs) (i ∷ is) zero d p q = refl
get_or-taken_by (run ∷ runs) (i ∷ is) (suc k) d p q = get_or-taken_by runs is k d (omega arith) (omega arith)

pub taken_from : (r : List ℕ) (runs : List Run) (at : List ℕ) (d : Run) → length r ≡ length at → length at ≡ length runs → ((k : ℕ) → k < length at → get_or r k 0 ≡ taken_on d runs at k) → r ≡ taken_by runs at
taken_from r runs at d p q h =
    ext_get_or 0 r (taken_by runs at) (p ∙ q ∙ sym (length-taken_by runs at q))
    (λ k b. h k (omega arith) ∙ sym (get_or-taken_by runs at k d (omega arith) (omega arith)))

-- an index of the result has one number for each run
pub length-counts : (runs : List Run) (at : List ℕ) → IsInside (counts_of_runs runs) at → length at ≡ length runs
length-counts runs at h = inside-length (counts_of_runs runs) at h ∙ length-map runs (λ (run : Run). run.count)

pub runs-length : (runs : List Run) (source : List ℕ) → AreRuns runs source → length runs ≡ length source
runs-length [] [] h = refl
runs-length [] (n ∷ ns) h = absurd h
runs-length (run ∷ runs) [] h = absurd h
runs-length (run ∷ runs) (n ∷ ns) h = ap suc (runs-length runs ns h.1)

pub run_at : (runs : List Run) (source : List ℕ) (k t : ℕ) (d : Run) → AreRuns runs source → k < length runs → t < (get_or runs k d).count → IsIndex (index_taken (get_or runs k d) t) (get_or source k 0)
run_at [] source k t d h l b = absurd (omega arith)
run_at (run ∷ runs) [] k t d h l b = absurd h
run_at (run ∷ runs) (n ∷ ns) zero t d h l b = h.0 t b
run_at (run ∷ runs) (n ∷ ns) (suc k) t d h l b = run_at runs ns k t d h.1 (omega arith) b

-- the index on an axis is one that the axis' run takes
pub count_at : (runs : List Run) (at : List ℕ) (k : ℕ) (d : Run) → IsInside (counts_of_runs runs) at → k < length runs → get_or at k 0 < (get_or runs k d).count
count_at [] at k d h l = absurd (omega arith)
count_at (run ∷ runs) [] k d h l = absurd h
count_at (run ∷ runs) (i ∷ is) zero d h l = h.0
count_at (run ∷ runs) (i ∷ is) (suc k) d h l = count_at runs is k d h.1 (omega arith)

-- the run of an axis takes an index of it, with the step as the code has it
pub taken_inside : (runs : List Run) (source : List ℕ) (k t n : ℕ) (step : ℤ) → step ≡ (get_or runs k no_run).step → AreRuns runs source → k < length runs
    → (at : List ℕ) → t ≡ get_or at k 0 → n ≡ get_or source k 0 → get_or at k 0 < (get_or runs k no_run).count
    → IsIndex (pos (get_or runs k no_run).first +ℤ pos t *ℤ step) n
taken_inside runs source k t n step e h l at et en b =
    let r = run_at runs source k (get_or at k 0) no_run h l b in
    subst (λ (z : ℤ). IsIndex (pos (get_or runs k no_run).first +ℤ pos t *ℤ z) n) (sym e)
    (subst (λ (m : ℕ). IsIndex (pos (get_or runs k no_run).first +ℤ pos t *ℤ (get_or runs k no_run).step) m) (sym en)
    (subst (λ (m : ℕ). IsIndex (pos (get_or runs k no_run).first +ℤ pos m *ℤ (get_or runs k no_run).step) (get_or source k 0)) (sym et) r))
