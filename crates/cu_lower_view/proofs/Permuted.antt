-- Axes in another order.
use Rattle.std.proofs.Common.{◌≡◌, ◌∙◌, ℕ, ◌≤◌, ◌==◌, ◌&&◌, Bool, true, false, ℤ, pos, negsuc, List, [], ◌∷◌, length, map, set, get_or, Option, Some, None, refl, ap, sym, arith}
use Rattle.std.specs.Prelude.{int_le, is_some, replicate}
use Rattle.std.specs.List.{list_all}
use Rattle.std.proofs.lemmas.Bool.{and_parts, eqb-true}
use Rattle.std.proofs.lemmas.List.{length-map}
use Rattle.cu_node.specs.Axes.{marked_of, marked_after}
use Rattle.cu_typing_view.specs.Rearranged.{is_permutation, permuted_sizes}
use Rattle.cu_origin.specs.Fits.{FitsPermute}
use Rattle.cu_lower_view.specs.Axes.{named_axis}
use Rattle.cu_lower_view.proofs.Marks.{named_from_start, first_named, each_named}

-- the sizes of axes that are counted from the start
sizes_named : (axes : List ℤ) (xs : List ℕ) (marks last : List Bool) → list_all (λ d. int_le (pos 0) d) axes ≡ true → marked_after (length xs) marks axes ≡ Some last
    → permuted_sizes axes xs ≡ map (λ axis. get_or xs axis 0) (map (named_axis (length xs)) axes)
sizes_named [] xs marks last from_zero named = refl
sizes_named (pos d ∷ ds) xs marks last from_zero named =
    let f = first_named (length xs) marks (pos d) ds last named in
    let all = and_parts (int_le (pos 0) (pos d)) (list_all (λ d. int_le (pos 0) d) ds) from_zero in
    let rest = sizes_named ds xs (set marks f.axis true) last all.1 f.rest in
    let here : named_axis (length xs) (pos d) ≡ d = named_from_start d (length xs) f.axis f.names in
    ap (λ ns. get_or xs d 0 ∷ ns) rest ∙ ap (λ axis. get_or xs axis 0 ∷ map (λ axis. get_or xs axis 0) (map (named_axis (length xs)) ds)) (sym here)
sizes_named (negsuc d ∷ ds) xs marks last from_zero named = cc

there : (o : Option (List Bool)) → is_some o ≡ true → (x : List Bool) × (o ≡ Some x)
there (Some x) h = (x, refl)
there None h = cc

pub fits_permute : (axes : List ℤ) (shape source : List ℕ) → length source ≤ 6 → is_permutation (length source) axes ≡ true → shape ≡ permuted_sizes axes source → FitsPermute (map (named_axis (length source)) axes) shape source
fits_permute axes shape source short h e =
    let long = and_parts (length axes == length source) (list_all (λ d. int_le (pos 0) d) axes && is_some (marked_of (length source) axes)) h in
    let both = and_parts (list_all (λ d. int_le (pos 0) d) axes) (is_some (marked_of (length source) axes)) long.1 in
    let count : length axes ≡ length source = eqb-true (length axes) (length source) long.0 in
    let named = there (marked_of (length source) axes) both.1 in
    record {
      rank = length-map axes (named_axis (length source)) ∙ count;
      each = λ d l. each_named (length source) axes named.0 d short count named.1 l;
      sizes = e ∙ sizes_named axes source (replicate 6 false) named.0 both.0 named.1;
    }

pub few_axes : (axes : List ℤ) (source : List ℕ) → length source ≤ 6 → is_permutation (length source) axes ≡ true → length axes ≤ 6
few_axes axes source short h =
    let long = and_parts (length axes == length source) (list_all (λ d. int_le (pos 0) d) axes && is_some (marked_of (length source) axes)) h in
    let count : length axes ≡ length source = eqb-true (length axes) (length source) long.0 in
    omega arith
