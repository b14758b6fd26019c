-- The elements that a reduction makes are what its operator makes of its argument's elements.
use Rattle.std.proofs.Common.{◌≡◌, ℕ, zero, suc, ◌<◌, ◌≤◌, ◌+◌, Bool, true, false, ℤ, List, [], ◌∷◌, All, Option, Some, length, map, refl, ap, sym, ◌∙◌, subst, inl, inr, arith}
use Rattle.std.specs.Prelude.{option_map, option_and_then}
use Rattle.std.specs.List.{range_with_len}
use Rattle.std.proofs.lemmas.List.Elements.{All-nil, All-cons, All-head, All-tail}
use Rattle.cu_shape.specs.Index.{product, IsInside, index_at, sums, indices_of}
use Rattle.cu_shape.proofs.Places.{index-inside}
use Rattle.cu_semantics.specs.Reduction.{reduced_start, reduced_elements}
use Rattle.cu_reduce.specs.Folds.{all_some}
use Rattle.cu_typing.specs.Reduction.{marks_of, kept_sizes}
use Rattle.cu_lower.proofs.Applied.{Told}
use Rattle.cu_lower.proofs.Marked.{unkept}
use Rattle.cu_lower.proofs.ReducedIndices.{start_along, box_along, box_is, start_is}

-- ---- elements that are told one by one

-- are told together
pub all_told : {I T : Type 0} (must : Bool) (f : I → Option T) (g : I → T) (is : List I) → All (λ i. Told must (f i) (g i)) is → Told must (all_some (map f is)) (map g is)
all_told must f g [] h = inl refl
all_told must f g (i ∷ is) h =
    let rest = all_told must f g is (All-tail (λ j. Told must (f j) (g j)) i is h) in
    elim (All-head (λ j. Told must (f j) (g j)) i is h) [
      | inl some ↦
          let first = ap (option_and_then (λ y. option_map (λ ys. y ∷ ys) (all_some (map f is)))) some in
          elim rest [
            | inl all ↦ inl (first ∙ ap (option_map (λ ys. g i ∷ ys)) all)
            | inr none ↦ inr (none.0, first ∙ ap (option_map (λ ys. g i ∷ ys)) none.1)
          ]
      | inr none ↦ inr (none.0, ap (option_and_then (λ y. option_map (λ ys. y ∷ ys) (all_some (map f is)))) none.1)
    ]

-- and so is what is made of them
pub made_told : {S T : Type 0} (must : Bool) (h : S → T) (o : Option S) (x : S) → Told must o x → Told must (option_map h o) (h x)
made_told must h o x (inl some) = inl (ap (option_map h) some)
made_told must h o x (inr none) = inr (none.0, ap (option_map h) none.1)

pub map_twice : {A B C : Type 0} (f : B → C) (g : A → B) (xs : List A) → map f (map g xs) ≡ map (λ x. f (g x)) xs
map_twice f g [] = refl
map_twice f g (x ∷ xs) = ap (λ ys. f (g x) ∷ ys) (map_twice f g xs)

pub each_so : {A : Type 0} (P Q : A → Type 0) (xs : List A) → ((x : A) → P x → Q x) → All P xs → All Q xs
each_so P Q [] so h = All-nil Q
each_so P Q (x ∷ xs) so h = All-cons Q x xs (so x (All-head P x xs h)) (each_so P Q xs so (All-tail P x xs h))

-- what holds of the numbers of a range
pub over_range : (P : ℕ → Type 0) (first count : ℕ) → ((k : ℕ) → first ≤ k → k < first + count → P k) → All P (range_with_len first count)
over_range P first zero h = All-nil P
over_range P first (suc count) h = All-cons P first (range_with_len (first + 1) count) (h first (omega arith) (omega arith)) (over_range P (first + 1) count (λ k low high. h k (omega (arith, low)) (omega (arith, high))))

-- ---- indices

from_inside : (ds : List ℕ) (first count : ℕ) → first + count ≤ product ds → All (IsInside ds) (map (index_at ds) (range_with_len first count))
from_inside ds first zero few = All-nil (IsInside ds)
from_inside ds first (suc count) few =
    All-cons (IsInside ds) (index_at ds first) (map (index_at ds) (range_with_len (first + 1) count)) (index-inside ds first (omega (arith, few))) (from_inside ds (first + 1) count (omega (arith, few)))

pub all_inside : (ds : List ℕ) → All (IsInside ds) (indices_of ds)
all_inside ds = from_inside ds 0 (product ds) (omega arith)

-- an index of the group lies inside the source
pub start_inside : (keepdims : Bool) (ms : List Bool) (ns idx step : List ℕ) → IsInside (kept_sizes keepdims ns ms) idx → IsInside (box_along ms ns) step → IsInside ns (sums (start_along keepdims ms ns idx) step)
start_inside keepdims ms [] idx [] inside within = tt
start_inside keepdims ms [] idx (s ∷ step) inside within = absurd within
start_inside keepdims [] (n ∷ ns) [] step inside within = absurd inside
start_inside keepdims [] (n ∷ ns) (i ∷ is) [] inside within = absurd within
start_inside keepdims [] (n ∷ ns) (i ∷ is) (s ∷ step) inside within =
    let a = inside.0 in
    let b = within.0 in
    (omega (arith, a, b), start_inside keepdims [] ns is step (subst (λ (ds : List ℕ). IsInside ds is) (sym (unkept keepdims ns)) inside.1) within.1)
start_inside true (true ∷ ms) (n ∷ ns) [] step inside within = absurd inside
start_inside true (true ∷ ms) (n ∷ ns) (i ∷ is) [] inside within = absurd within
start_inside true (true ∷ ms) (n ∷ ns) (i ∷ is) (s ∷ step) inside within = (let b = within.0 in omega (arith, b), start_inside true ms ns is step inside.1 within.1)
start_inside false (true ∷ ms) (n ∷ ns) idx [] inside within = absurd within
start_inside false (true ∷ ms) (n ∷ ns) idx (s ∷ step) inside within = (let b = within.0 in omega (arith, b), start_inside false ms ns idx step inside within.1)
start_inside keepdims (false ∷ ms) (n ∷ ns) [] step inside within = absurd inside
start_inside keepdims (false ∷ ms) (n ∷ ns) (i ∷ is) [] inside within = absurd within
start_inside keepdims (false ∷ ms) (n ∷ ns) (i ∷ is) (s ∷ step) inside within =
    let a = inside.0 in
    let b = within.0 in
    (omega (arith, a, b), start_inside keepdims ms ns is step inside.1 within.1)

-- the elements of the operator, by the marks
pub elements_are : (f : List ℕ → ℤ) (axes : Option (List ℤ)) (keepdims : Bool) (shape : List ℕ) (ms : List Bool) (idx : List ℕ) → length shape ≤ 6 → marks_of (length shape) axes ≡ Some ms
    → reduced_elements f axes keepdims shape idx ≡ map (λ step. f (sums (start_along keepdims ms shape idx) step)) (indices_of (box_along ms shape))
elements_are f axes keepdims shape ms idx few named =
    ap (λ box. map (λ step. f (sums (reduced_start axes keepdims (length shape) idx) step)) (indices_of box)) (box_is axes keepdims shape ms few named)
    ∙ ap (λ start. map (λ step. f (sums start step)) (indices_of (box_along ms shape))) (start_is axes keepdims shape ms few named idx)
