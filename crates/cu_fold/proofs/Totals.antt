-- What a reduction makes of the elements of a group.
use Rattle.std.proofs.Common.{◌≡◌, ℕ, zero, suc, ◌<◌, List, [], ◌∷◌, map, length, refl, sym, ap, ◌∙◌, arith, All}
use Rattle.std.specs.Prelude.{Bool as Test}
use Rattle.cu_num.specs.Wrap.{wrapped}
use Rattle.cu_num.specs.Element.{element_at}
use Rattle.cu_num.specs.declared.types.Dtype.{Dtype}
use Rattle.cu_num.specs.declared.layout.Endian.TheVariants.{Little}
use Rattle.cu_num.specs.declared.folds.FoldKind.{FoldKind}
use Rattle.cu_num.specs.declared.folds.FoldKind.TheVariants as k
use Rattle.cu_num.proofs.ElementBytes.{InRange-element_at}
use Rattle.cu_shape.specs.Index.{place_of, IsInside}
use Rattle.cu_reduce.specs.Folds.{fold_of}
use Rattle.cu_reduce.specs.Groups.{Groups, groups_from, group_counts, group_indices, HasElements}
use Rattle.cu_reduce.specs.Kinds.{Accumulates, IsTaken, HasEnough, unit_of}
use Rattle.cu_reduce.specs.Numbers.{HasNumber}
use Rattle.cu_reduce.specs.Running.{running, IsEnough}
use Rattle.cu_reduce.proofs.Folding.{running_unit, unit_in_range}
use Rattle.cu_reduce.proofs.Ranges.{map-map}
use Rattle.cu_fold.specs.Levels.{sources, levels_from}
use Rattle.cu_take.specs.Taken.{HasTaken, elements_at_places}
use Rattle.cu_take.proofs.Buffers.{bytes_wrapped}
use Rattle.cu_take.proofs.Taking.{taken_element}
use Rattle.cu_fold.proofs.Groups.{group_sources, some_sources}

all_taken : (kind : FoldKind) (t acc : Dtype) (bytes ps : List ℕ) → Accumulates kind t acc → All (IsTaken kind acc) (elements_at_places t bytes ps)
all_taken kind t acc bytes [] a zero d h = absurd (omega arith)
all_taken kind t acc bytes [] a (suc i) d h = absurd (omega arith)
all_taken kind t acc bytes (p ∷ ps) a zero d h = taken_element kind t acc (element_at Little t bytes p) a (InRange-element_at Little t bytes p)
all_taken kind t acc bytes (p ∷ ps) a (suc i) d h = all_taken kind t acc bytes ps a i d (omega arith)

length_elements : (t : Dtype) (bytes ps : List ℕ) → length (elements_at_places t bytes ps) ≡ length ps
length_elements t bytes [] = refl
length_elements t bytes (p ∷ ps) = ap suc (length_elements t bytes ps)

pub has_enough : (kind : FoldKind) (gs : Groups) (ns : List ℕ) (m : ℕ) → HasEnough kind gs ns → (HasElements gs ns → 0 < m) → IsEnough kind m
has_enough k.Min gs ns m h g = g h
has_enough k.Max gs ns m h g = g h
has_enough kind gs ns m h g = tt

-- a result that had the unit and took the elements of its group
pub group_total : (kind : FoldKind) (t acc : Dtype) (p : ℕ → Test) (ns idx input old new : List ℕ) → Accumulates kind t acc → HasEnough kind (groups_from p 0 ns) ns
    → IsInside (group_counts (groups_from p 0 ns) ns) idx
    → HasNumber acc old (place_of (group_counts (groups_from p 0 ns) ns) idx) (unit_of kind acc)
    → HasTaken kind acc old new (place_of (group_counts (groups_from p 0 ns) ns) idx) (elements_at_places t input (sources (levels_from p 0 ns) (place_of (group_counts (groups_from p 0 ns) ns) idx)))
    → HasNumber acc new (place_of (group_counts (groups_from p 0 ns) ns) idx) (fold_of kind (map (λ i. element_at Little t input (place_of ns i)) (group_indices (groups_from p 0 ns) ns idx)))
group_total kind t acc p ns idx input old new a enough inside has takes =
    let q = place_of (group_counts (groups_from p 0 ns) ns) idx in
    let ps = sources (levels_from p 0 ns) q in
    let xs = elements_at_places t input ps in
    let some : IsEnough kind (length xs) = has_enough kind (groups_from p 0 ns) ns (length xs) enough (λ h. omega (arith, length_elements t input ps, some_sources p 0 ns h q)) in
    let own : running kind acc (unit_of kind acc) xs ≡ wrapped acc (fold_of kind xs) = running_unit kind t acc xs a some (all_taken kind t acc input ps a) in
    let same : xs ≡ map (λ i. element_at Little t input (place_of ns i)) (group_indices (groups_from p 0 ns) ns idx) =
    ap (elements_at_places t input) (sym (group_sources p 0 ns idx inside)) ∙ map-map (λ p. element_at Little t input p) (place_of ns) (group_indices (groups_from p 0 ns) ns idx) in
    takes.number (unit_of kind acc) (unit_in_range kind acc) has ∙ bytes_wrapped acc (running kind acc (unit_of kind acc) xs) (fold_of kind xs) own ∙ ap (λ ys. Rattle.cu_num.specs.Element.element_bytes Little acc (fold_of kind ys)) same
