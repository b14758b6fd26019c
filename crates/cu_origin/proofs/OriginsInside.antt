-- What fits has its origins inside the sources.
use Rattle.std.proofs.Common.{◌≡◌, ℕ, ◌*◌, ◌<◌, ◌≤◌, pos, None, List, [], ◌∷◌, length, get_or, refl, ap, ◌∙◌, sym, subst, arith, inl, inr}
use Rattle.std.specs.Ordering.{int_eq}
use Rattle.std.specs.Prelude.{remove}
use Rattle.std.proofs.lemmas.Bool.Decides.{eqb_tells}
use Rattle.cu_shape.specs.Broadcast.{broadcast_of, mismatch_of}
use Rattle.cu_shape.specs.Index.{product, place_of, index_at, back, IsInside}
use Rattle.cu_shape.specs.declared.slice.Run.{Run}
use Rattle.cu_shape.proofs.InsideBoth.{back_right}
use Rattle.cu_shape.proofs.Places.{place-below, index-inside}
use Rattle.cu_origin.specs.Fits.{OfOne, without_ones, FitsSlice, FitsPermute, FitsPull}
use Rattle.cu_origin.specs.Pull.{only, counts_of_runs, sliced, permuted, flipped, rolled, diagonal_of, is_in_triangle, origin_of, IsInSources}
use Rattle.cu_origin.specs.declared.provenance.Provenance.TheVariants.{From, Const}
use Rattle.cu_origin.specs.declared.pull.Pull.{Pull}
use Rattle.cu_origin.specs.declared.pull.Pull.TheVariants.{Slice, Permute, Reshape, Concat, Stack, Flip, Roll, Broadcast, Triangle, Full, Arange, Eye}
use Rattle.cu_origin.proofs.AxesInside.{inside_at, runs_inside, flipped_inside, rolled_inside, permuted_inside}
use Rattle.cu_origin.proofs.PiecesInside.{if_inside, inside_remove, inside_off, concat_inside}

one_inside : (P : List ℕ → Type 0) (sources : List (List ℕ)) (idx : List (List ℕ) → List ℕ) → OfOne P sources → ((source : List ℕ) → P source → IsInside source (idx (source ∷ []))) → IsInSources sources (From 0 (idx sources))
one_inside P [] idx f h = absurd f
one_inside P (source ∷ []) idx f h = (omega arith, h source f)
one_inside P (source ∷ other ∷ sources) idx f h = absurd f

-- axes of size 1 change no product
pub product-without_ones : (sizes : List ℕ) → product (without_ones sizes) ≡ product sizes
product-without_ones [] = refl
product-without_ones (n ∷ ns) =
    let i : product (without_ones ns) ≡ product ns = product-without_ones ns in
    elim (eqb_tells n 1) [
      | inl p ↦ let e = p.1 in rw p.0 (rw e (omega arith))
      | inr p ↦ rw p.0 (ap (λ m. n * m) i)
    ]

slice_inside : (runs : List Run) (taken shape source idx : List ℕ) → FitsSlice runs taken shape source → IsInside shape idx → IsInside source (sliced runs shape idx)
slice_inside runs taken shape source idx f h =
    let e : product shape ≡ product (counts_of_runs runs) = sym (product-without_ones shape) ∙ ap product f.sizes ∙ product-without_ones (counts_of_runs runs) in
    let b : place_of shape idx < product shape = place-below shape idx h in
    runs_inside runs source (index_at (counts_of_runs runs) (place_of shape idx)) f.inside (index-inside (counts_of_runs runs) (place_of shape idx) (omega arith))

permute_inside : (axes shape source idx : List ℕ) → FitsPermute axes shape source → IsInside shape idx → IsInside source (permuted axes idx)
permute_inside axes shape source idx f h = permuted_inside axes source idx f.rank f.each (subst (λ (x : List ℕ). IsInside x idx) f.sizes h)

reshape_inside : (shape source idx : List ℕ) → product source ≡ product shape → IsInside shape idx → IsInside source (index_at source (place_of shape idx))
reshape_inside shape source idx e h = index-inside source (place_of shape idx) (let b = place-below shape idx h in omega arith)

same_inside : (shape source idx : List ℕ) → source ≡ shape → IsInside shape idx → IsInside source idx
same_inside shape source idx e h = subst (λ (x : List ℕ). IsInside x idx) (sym e) h

pub inside_sources : (pull : Pull) (sources : List (List ℕ)) (shape idx : List ℕ) → FitsPull pull sources shape → IsInside shape idx → IsInSources sources (origin_of pull sources shape idx)
inside_sources (Slice runs taken) sources shape idx f h =
    one_inside (FitsSlice runs.items taken.items shape) sources (λ all. sliced runs.items shape idx) f (λ s e. slice_inside runs.items taken.items shape s idx e h)
inside_sources (Permute axes) sources shape idx f h =
    one_inside (FitsPermute axes.items shape) sources (λ all. permuted axes.items idx) f (λ s e. permute_inside axes.items shape s idx e h)
inside_sources Reshape sources shape idx f h =
    one_inside (λ s. product s ≡ product shape) sources (λ all. index_at (only all) (place_of shape idx)) f (λ s e. reshape_inside shape s idx e h)
inside_sources (Concat axis) sources shape idx f h =
    let b : get_or idx axis 0 < get_or shape axis 0 = inside_at shape idx axis h f.below in
    let e = f.along in
    concat_inside axis 0 sources sources shape idx (λ j n q l. (let r = q in omega arith, ap (λ (m : ℕ). get_or sources m []) (let r = q in omega arith))) f.below f.off_axis (inside_off axis shape idx h) (omega arith)
inside_sources (Stack axis) sources shape idx f h =
    let b : get_or idx axis 0 < get_or shape axis 0 = inside_at shape idx axis h f.below in
    let e = f.along in
    let l : get_or idx axis 0 < length sources = omega arith in
    (l, same_inside (remove shape axis) _ (remove idx axis) (f.off_axis (get_or idx axis 0) [] l) (inside_remove shape idx axis f.below h))
inside_sources (Flip axes) sources shape idx f h =
    one_inside (λ s. s ≡ shape) sources (λ all. flipped axes shape idx) f (λ s e. same_inside shape s (flipped axes shape idx) e (flipped_inside axes shape idx h))
inside_sources (Roll shifts) sources shape idx f h =
    one_inside (λ s. (s ≡ shape) × (length shifts.items ≡ length shape)) sources (λ all. rolled shifts.items shape idx) f (λ s e. same_inside shape s (rolled shifts.items shape idx) e.0 (rolled_inside shifts.items shape idx h))
inside_sources Broadcast sources shape idx f h =
    one_inside (λ s. (mismatch_of shape s ≡ None) × (broadcast_of shape s ≡ shape)) sources (λ all. back (only all) idx) f
    (λ s e. back_right shape s idx e.0 (subst (λ (x : List ℕ). IsInside x idx) (sym e.1) h))
inside_sources (Triangle lower k) sources shape idx f h =
    if_inside (is_in_triangle lower k idx) sources (From 0 idx) (Const (pos 0))
    (λ t. one_inside (λ s. (s ≡ shape) × (2 ≤ length shape)) sources (λ all. idx) f (λ s e. same_inside shape s idx e.0 h))
    (λ t. tt)
inside_sources (Full value) sources shape idx f h = tt
inside_sources (Arange start step) sources shape idx f h = tt
inside_sources (Eye k) sources shape idx f h = if_inside (int_eq (diagonal_of idx) k) sources (Const (pos 1)) (Const (pos 0)) (λ t. tt) (λ t. tt)
