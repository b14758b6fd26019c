-- What a view that fits says of its shapes, view by view.
use Rattle.std.proofs.Common.{◌≡◌, ℕ, zero, suc, ◌<◌, ◌≤◌, ◌^◌, nat_lt, true, false, ◌⊎◌, inl, inr, List, [], ◌∷◌, length, get_or, refl, ap, ◌∙◌, sym, subst, arith}
use Rattle.std.proofs.lemmas.List.{length-map, length-append, length-replicate}
use Rattle.std.proofs.lemmas.Bool.{ltb-true, ltb-false}
use Rattle.cu_shape.specs.Broadcast.{broadcast_of, aligned, rank_of, broadcast_sizes}
use Rattle.cu_shape.specs.Index.{product, IsInside}
use Rattle.cu_shape.specs.declared.slice.Run.{Run}
use Rattle.cu_shape.proofs.Places.{inside-length}
use Rattle.cu_shape.proofs.Products.{product_within}
use Rattle.cu_origin.specs.Fits.{OfOne, FitsSlice, FitsPermute, FitsPull}
use Rattle.cu_origin.specs.Pull.{counts_of_runs}
use Rattle.cu_origin.specs.declared.pull.Pull.{Pull}
use Rattle.cu_origin.proofs.AxesInside.{by_test}
use Rattle.cu_origin.proofs.OriginsInside.{product-without_ones}
use Rattle.cu_view.specs.View.{HasFewElements}

pub fits_as : (pull q : Pull) (sources : List (List ℕ)) (shape : List ℕ) → pull ≡ q → FitsPull pull sources shape → FitsPull q sources shape
fits_as pull q sources shape e f = subst (λ (x : Pull). FitsPull x sources shape) e f

pub record HasOne (P : List ℕ → Type 0) (sources : List (List ℕ)) : Type 0 where
  pub one : length sources ≡ 1
  pub holds : P (get_or sources 0 [])

pub one_source : (P : List ℕ → Type 0) (sources : List (List ℕ)) → OfOne P sources → HasOne P sources
one_source P [] f = absurd f
one_source P (source ∷ []) f = record { one = refl; holds = f }
one_source P (source ∷ other ∷ sources) f = absurd f

-- a source as the code reads it
pub source_is : (sources : List (List ℕ)) (k : ℕ) (source : List ℕ) → k < length sources → source ≡ get_or sources k source → source ≡ get_or sources k []
source_is [] k source l e = absurd (omega arith)
source_is (s ∷ ss) zero source l e = e
source_is (s ∷ ss) (suc k) source l e = source_is ss k source (omega arith) e

pub ltb_tells : (a b : ℕ) → ((nat_lt a b ≡ true) × (a < b)) ⊎ ((nat_lt a b ≡ false) × (b ≤ a))
ltb_tells a b = elim (by_test (nat_lt a b)) [
  | inl p ↦ inl (p, ltb-true a b p)
  | inr p ↦ inr (p, ltb-false a b p)
]

-- the only source as the code reads it
pub first_is : (sources : List (List ℕ)) (source : List ℕ) → 0 < length sources → source ≡ get_or sources 0 source → source ≡ get_or sources 0 []
first_is [] source l e = absurd (omega arith)
first_is (s ∷ ss) source l e = e

pub slice_product : (runs : List Run) (taken shape source : List ℕ) → FitsSlice runs taken shape source → product shape ≡ product (counts_of_runs runs)
slice_product runs taken shape source f = sym (product-without_ones shape) ∙ ap product f.sizes ∙ product-without_ones (counts_of_runs runs)

pub counted : (shape : List ℕ) → HasFewElements shape → product shape < 2 ^ 64
counted shape h = let p = product_within shape in omega arith

pub permuted_shape : (axes shape source : List ℕ) → FitsPermute axes shape source → length shape ≡ length axes
permuted_shape axes shape source f = ap length f.sizes ∙ length-map axes (λ (axis : ℕ). get_or source axis 0)

-- a permutation has as many axes as its result
pub permuted_rank : (axes shape source idx : List ℕ) → FitsPermute axes shape source → IsInside shape idx → length idx ≡ length axes
permuted_rank axes shape source idx f h = inside-length shape idx h ∙ ap length f.sizes ∙ length-map axes (λ (axis : ℕ). get_or source axis 0)

length-sizes_of : (a b : List ℕ) → length a ≡ length b → length (broadcast_sizes a b) ≡ length a
length-sizes_of [] b e = refl
length-sizes_of (n ∷ ns) [] e = absurd (omega arith)
length-sizes_of (n ∷ ns) (m ∷ ms) e = ap suc (length-sizes_of ns ms (omega arith))

length-aligned : (rank : ℕ) (shape : List ℕ) → length shape ≤ rank → length (aligned rank shape) ≡ rank
length-aligned rank shape h = simp (length-append, length-replicate) (omega arith)

-- a shape that others broadcast to has the most axes
pub broadcast_rank : (shape source : List ℕ) → broadcast_of shape source ≡ shape → length source ≤ length shape
broadcast_rank shape source e =
    let r = rank_of shape source in
    let a : length (aligned r shape) ≡ r = length-aligned r shape (omega arith) in
    let b : length (aligned r source) ≡ r = length-aligned r source (omega arith) in
    let n : length (broadcast_of shape source) ≡ length (aligned r shape) = length-sizes_of (aligned r shape) (aligned r source) (omega arith) in
    let m : length (broadcast_of shape source) ≡ length shape = ap length e in
    omega arith
