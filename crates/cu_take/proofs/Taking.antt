-- Results that take elements.
use Rattle.std.proofs.Common.{◌≡◌, ℕ, ℤ, ◌+◌, ◌*◌, ◌≤◌, List, [], ◌∷◌, ◌++◌, length, sym, ap, ◌∙◌, subst}
use Rattle.cu_num.specs.Dtype.{size_of, InRange}
use Rattle.cu_num.specs.Wrap.{wrapped}
use Rattle.cu_num.specs.Element.{element_at, element_bytes, bytes_at}
use Rattle.cu_num.proofs.ElementBytes.{written_at, bytes_at-written_at_same, length-element_bytes}
use Rattle.cu_num.specs.declared.types.Dtype.{Dtype}
use Rattle.cu_num.specs.declared.layout.Endian.TheVariants.{Little}
use Rattle.cu_num.specs.declared.folds.FoldKind.{FoldKind}
use Rattle.cu_num.specs.declared.folds.FoldKind.TheVariants as k
use Rattle.cu_reduce.specs.Kinds.{combined, Accumulates, IsTaken}
use Rattle.cu_reduce.specs.Numbers.{HasNumber}
use Rattle.cu_reduce.specs.Running.{running}
use Rattle.cu_reduce.proofs.Combined.{combined_wrapped, taken_in_range}
use Rattle.cu_reduce.proofs.Folding.{running_append, running_in_range}
use Rattle.cu_take.specs.Taken.{HasTaken}
use Rattle.cu_take.proofs.Buffers.{number_read}

-- an element is one that the kind takes
pub taken_element : (kind : FoldKind) (t acc : Dtype) (y : ℤ) → Accumulates kind t acc → InRange t y → IsTaken kind acc y
taken_element k.Min t acc y a h = let P : Dtype → Type 0 = λ d. InRange d y in subst P (sym a) h
taken_element k.Max t acc y a h = let P : Dtype → Type 0 = λ d. InRange d y in subst P (sym a) h
taken_element kind t acc y a h = tt

-- one number
pub takes_one : (kind : FoldKind) (from acc : Dtype) (old new : List ℕ) (q : ℕ) (y own next total : ℤ) → Accumulates kind from acc → IsTaken kind acc y → q * size_of acc + size_of acc ≤ length old
    → own ≡ element_at Little acc old q → next ≡ wrapped acc y → total ≡ wrapped acc (combined kind own next) → new ≡ written_at acc old q (element_bytes Little acc total)
    → HasTaken kind acc old new q (y ∷ [])
takes_one kind from acc old new q y own next total a g fits is there made written = record {
  number = λ x f has.
      let before : own ≡ wrapped acc x = is ∙ number_read acc old q x has in
      let after : total ≡ wrapped acc (combined kind x y) = made ∙ (λ i. wrapped acc (combined kind (before i) (there i))) ∙ combined_wrapped kind from acc x y a (taken_in_range kind acc x f) g in
      ap (λ all. bytes_at acc all q) written ∙ bytes_at-written_at_same acc old _ q (length-element_bytes Little acc total) fits ∙ ap (element_bytes Little acc) after;
}

-- none
pub takes_none : (kind : FoldKind) (acc : Dtype) (old new : List ℕ) (q : ℕ) → bytes_at acc new q ≡ bytes_at acc old q → HasTaken kind acc old new q []
takes_none kind acc old new q e = record { number = λ x f has. e ∙ has }

-- some, and then more
pub takes_more : (kind : FoldKind) (acc : Dtype) (old mid new : List ℕ) (q : ℕ) (xs ys : List ℤ) → HasTaken kind acc old mid q xs → HasTaken kind acc mid new q ys → HasTaken kind acc old new q (xs ++ ys)
takes_more kind acc old mid new q xs ys first next = record {
  number = λ x f has.
      subst (λ z. HasNumber acc new q z) (sym (running_append kind acc x xs ys))
      (next.number (running kind acc x xs) (running_in_range kind acc x xs f) (first.number x f has));
}

-- the same in other buffers, in which the result has another place
pub takes_same : (kind : FoldKind) (acc : Dtype) (old new old_part new_part : List ℕ) (q k : ℕ) (xs : List ℤ) → bytes_at acc old q ≡ bytes_at acc old_part k → bytes_at acc new q ≡ bytes_at acc new_part k
    → HasTaken kind acc old_part new_part k xs → HasTaken kind acc old new q xs
takes_same kind acc old new old_part new_part q k xs e g h = record { number = λ x f has. g ∙ h.number x f (sym e ∙ has) }
