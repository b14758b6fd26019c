-- What a result has that had the unit and took the elements of its group.
use Rattle.std.proofs.Common.{ℕ, List, [], ◌∷◌, map, All, ◌∙◌}
use Rattle.std.proofs.lemmas.List.Elements.{All-nil, All-cons}
use Rattle.cu_num.specs.Element.{element_at}
use Rattle.cu_num.specs.declared.types.Dtype.{Dtype}
use Rattle.cu_num.specs.declared.layout.Endian.TheVariants.{Little}
use Rattle.cu_num.specs.declared.folds.FoldKind.{FoldKind}
use Rattle.cu_num.proofs.ElementBytes.{InRange-element_at}
use Rattle.cu_reduce.specs.Kinds.{Accumulates, IsTaken, unit_of}
use Rattle.cu_reduce.specs.Numbers.{HasNumber}
use Rattle.cu_reduce.specs.Running.{running}
use Rattle.cu_reduce.proofs.Folding.{unit_in_range}
use Rattle.cu_take.specs.Taken.{HasTaken, elements_at_places}
use Rattle.cu_take.proofs.Buffers.{bytes_wrapped}
use Rattle.cu_take.proofs.Taking.{taken_element}
use Rattle.cu_reduce.specs.Labels.{group_fold}
use Rattle.cu_along.proofs.Members.{group_running}

all_taken : (kind : FoldKind) (t acc : Dtype) (bytes ps : List ℕ) → Accumulates kind t acc
    → All (IsTaken kind acc) (elements_at_places t bytes ps)
all_taken kind t acc bytes [] a = All-nil (IsTaken kind acc)
all_taken kind t acc bytes (p ∷ ps) a =
    All-cons (IsTaken kind acc) (element_at Little t bytes p) (elements_at_places t bytes ps)
    (taken_element kind t acc (element_at Little t bytes p) a
    (InRange-element_at Little t bytes p))
    (all_taken kind t acc bytes ps a)

pub taken_total : (kind : FoldKind) (t acc : Dtype) (at : ℕ) (input old new ps : List ℕ)
    → Accumulates kind t acc → HasNumber acc old at (unit_of kind acc)
    → HasTaken kind acc old new at (elements_at_places t input ps)
    → HasNumber acc new at (group_fold kind acc (map (λ p. element_at Little t input p) ps))
taken_total kind t acc at input old new ps a has takes =
    let xs = elements_at_places t input ps in
    takes.number (unit_of kind acc) (unit_in_range kind acc) has
    ∙ bytes_wrapped acc (running kind acc (unit_of kind acc) xs) (group_fold kind acc xs)
    (group_running kind t acc xs a (all_taken kind t acc input ps a))
