-- Elements whose bytes were reversed: how numbers are read from them, and that a second swap undoes the first.
use Rattle.std.proofs.Common.{◌≡◌, ℕ, ℤ, pos, ◌+◌, ◌*◌, ◌/◌, ◌%◌, ◌<◌, ◌≤◌, List, length, take, Some, refl, sym, ap, ◌∙◌, arith}
use Rattle.std.specs.Prelude.{reverse}
use Rattle.std.proofs.lemmas.List.{reverse-reverse, take_all}
use Rattle.cu_num.specs.Dtype.{size_of}
use Rattle.cu_num.specs.Element.{element_at, element_bytes, number_of_bytes}
use Rattle.cu_num.specs.Wrap.{wrapped}
use Rattle.cu_num.specs.declared.types.Dtype.{Dtype}
use Rattle.cu_num.specs.declared.layout.Endian.TheVariants.{Little, Big}
use Rattle.cu_zarr.proofs.Joined.{joined_by_place}
use Rattle.cu_codec.specs.Order.{IsSwapped}
use Rattle.cu_codec.specs.Parts.{part_at}
use Rattle.cu_codec.proofs.BoxRuns.{row_fits_in}

-- ---- the law

part_again : (size p : ℕ) (a b c : List ℕ) → p * size + size ≤ length a → IsSwapped size a b → IsSwapped size b c → part_at size c p ≡ part_at size a p
part_again size p a b c fits first second =
    let n = first.same_length in
    second.reversed p (omega arith) ∙ ap reverse (first.reversed p fits) ∙ reverse-reverse (part_at size a p)

-- lists of whole elements that are the same element by element are the same
pub same_parts : (size n : ℕ) (a b : List ℕ) → length a ≡ n * size → length b ≡ n * size
    → ((p : ℕ) → p < n → part_at size a p ≡ part_at size b p) → a ≡ b
same_parts size n a b long also parts =
    let one = joined_by_place size n (λ p. Some (part_at size a p)) a (λ p h. refl) in
    let other = joined_by_place size n (λ p. Some (part_at size a p)) b (λ p h. ap Some (parts p h)) in
    let fronts : take (n * size) a ≡ take (n * size) b = cc in
    sym (take_all (n * size) a (omega arith)) ∙ fronts ∙ take_all (n * size) b (omega arith)

pub swap_twice : (size : ℕ) (a b c : List ℕ) → 0 < size → length a % size ≡ 0 → IsSwapped size a b → IsSwapped size b c → c ≡ a
swap_twice size a b c some whole first second =
    let n = first.same_length in
    let m = second.same_length in
    let count : length a ≡ length a / size * size = omega arith in
    same_parts size (length a / size) c a (omega arith) count
    (λ p h. part_again size p a b c (row_fits_in p (length a) size h) first second)

-- ---- numbers

pub big_from_little : (t : Dtype) (x : ℤ) → element_bytes Big t x ≡ reverse (element_bytes Little t x)
unfolding element_bytes
big_from_little t x = refl

pub little_reads_big : (t : Dtype) (a b : List ℕ) (p q : ℕ) → part_at (size_of t) b q ≡ reverse (part_at (size_of t) a p) → element_at Little t b q ≡ element_at Big t a p
unfolding element_at
little_reads_big t a b p q h = ap (λ own. wrapped t (pos (number_of_bytes own))) h

pub big_reads_little : (t : Dtype) (a b : List ℕ) (p q : ℕ) → part_at (size_of t) b q ≡ reverse (part_at (size_of t) a p) → element_at Big t b q ≡ element_at Little t a p
unfolding element_at
big_reads_little t a b p q h = ap (λ own. wrapped t (pos (number_of_bytes own))) (ap reverse h ∙ reverse-reverse (part_at (size_of t) a p))
