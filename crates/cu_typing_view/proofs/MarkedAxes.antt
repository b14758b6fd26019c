-- The axes that a list names lie in the array.
use Rattle.std.proofs.Common.{◌≡◌, ℕ, ◌<◌, not, Bool, true, false, Option, Some, None, List, [], ◌∷◌, length, get_or, ℤ, pos, negsuc, refl, if◌then◌else◌}
use Rattle.std.specs.Prelude.{int_le, is_some, slice_set, replicate, ◌==◌}
use Rattle.std.specs.List.{list_all}
use Rattle.std.proofs.lemmas.Bool.{ltb-true, and_parts}
use Rattle.std.proofs.lemmas.List.Elements.{All-cons, All-get_or}
use Rattle.cu_result.proofs.OptionSteps.{step_some, when_some}
use Rattle.cu_node.specs.Axes.{axis_of, marked_of, marked_after}
use Rattle.cu_typing_view.specs.Rearranged.{is_permutation, permuted_sizes}
use Rattle.cu_typing_view.proofs.PositiveSizes.{Positive, none_positive}

chosen : (b : Bool) (d k : ℕ) → (if b then Some d else None) ≡ Some k → b ≡ true
chosen true d k h = refl
chosen false d k h = cc

-- a number that names an axis from 0 on is below the rank
axis_inside : (d rank k : ℕ) → axis_of (pos d) rank ≡ Some k → d < rank
axis_inside d rank k h = ltb-true d rank (chosen _ d k h)

-- the sizes of axes that are named from 0 on are sizes of the array
pub positive-permuted : (axes : List ℤ) (xs : List ℕ) (marks last : List Bool) → Positive xs → list_all (λ d. int_le (pos 0) d) axes ≡ true
    → marked_after (length xs) marks axes ≡ Some last → Positive (permuted_sizes axes xs)
positive-permuted [] xs marks last positive from_zero named = none_positive
positive-permuted (pos d ∷ ds) xs marks last positive from_zero named =
    let first = step_some (axis_of (pos d) (length xs)) _ last named in
    let once = when_some (not (get_or marks first.0 false)) _ last first.2 in
    let inside = axis_inside d (length xs) first.0 first.1 in
    let rest = and_parts (int_le (pos 0) (pos d)) (list_all (λ d. int_le (pos 0) d) ds) from_zero in
    All-cons (λ n. 0 < n) (get_or xs d 0) (permuted_sizes ds xs) (All-get_or (λ n. 0 < n) xs d 0 inside positive) (positive-permuted ds xs (slice_set marks first.0 true) last positive rest.1 once.1)
positive-permuted (negsuc d ∷ ds) xs marks last positive from_zero named = cc

there : (o : Option (List Bool)) → is_some o ≡ true → (x : List Bool) × (o ≡ Some x)
there (Some x) h = (x, refl)
there None h = cc

pub positive-permutation : (axes : List ℤ) (xs : List ℕ) → Positive xs → is_permutation (length xs) axes ≡ true → Positive (permuted_sizes axes xs)
positive-permutation axes xs positive h =
    let long = and_parts (length axes == length xs) _ h in
    let both = and_parts (list_all (λ d. int_le (pos 0) d) axes) (is_some (marked_of (length xs) axes)) long.1 in
    let named = there (marked_of (length xs) axes) both.1 in
    positive-permuted axes xs (replicate 6 false) named.0 positive both.0 named.1
