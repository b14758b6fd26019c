-- The bytes of elements that are made strip by strip, all together.
use Rattle.std.proofs.Common.{◌≡◌, inl, inr, ◌<◌, ◌+◌, ◌-◌, ℕ, zero, suc, ℤ, List, [], ◌++◌, length, Option, None, Some, option_map, refl, sym, ap, ◌∙◌, subst, arith}
use Rattle.std.proofs.lemmas.Bool.{cases_lt}
use Rattle.cu_kern.proofs.Parts.{has_value_element}
use Rattle.cu_num.proofs.ElementBytes.{length-element_bytes, InRange-element_at}
use Rattle.cu_num.specs.Dtype.{size_of}
use Rattle.cu_num.specs.Element.{bytes_at, element_at, element_bytes}
use Rattle.cu_num.specs.declared.layout.Endian.TheVariants.{Little}
use Rattle.cu_num.specs.declared.types.Dtype.{Dtype}
use Rattle.cu_task.specs.Strips.{IsNumberOf}
use Rattle.cu_zarr.proofs.Joined.{joined_parts}
use Rattle.cu_zarr.specs.Spelling.{parts_in_order}

-- parts that all are there can be joined
all_joined : (part : ℕ → Option (List ℕ)) (n : ℕ) → ((p : ℕ) → p < n → (own : List ℕ) × (part p ≡ Some own)) → (bytes : List ℕ) × (parts_in_order part n ≡ Some bytes)
all_joined part zero each = ([], refl)
all_joined part (suc n) each =
    let (front, is) = all_joined part n (λ p below. each p (omega arith)) in
    let (last, own) = each n (omega arith) in
    (front ++ last, rw (is, own) refl)

-- the bytes of a number, where there is one
abbrev spelling : Dtype → Option ℤ → Option (List ℕ)
spelling t o = option_map (element_bytes Little t) o

spelled : (t : Dtype) (o : Option ℤ) → IsNumberOf t o → (own : List ℕ) × (spelling t o ≡ Some own)
spelled t None h = absurd h
spelled t (Some x) h = (element_bytes Little t x, refl)

long_spelling : (t : Dtype) (o : Option ℤ) (own : List ℕ) → spelling t o ≡ Some own → length own ≡ size_of t
long_spelling t None own e = cc
long_spelling t (Some x) own e = let same : element_bytes Little t x ≡ own = cc in ap length (sym same) ∙ length-element_bytes Little t x

read_back : (t : Dtype) (o : Option ℤ) (bytes : List ℕ) (p : ℕ) → IsNumberOf t o → spelling t o ≡ Some (bytes_at t bytes p) → o ≡ Some (element_at Little t bytes p)
read_back t None bytes p h e = absurd h
read_back t (Some x) bytes p h e = let same : bytes_at t bytes p ≡ element_bytes Little t x = cc in (has_value_element t bytes p (Some x) (h, same)).0

-- some bytes have these numbers at the first n places
pub written_out : (t : Dtype) (n : ℕ) (value : ℕ → Option ℤ) → ((p : ℕ) → p < n → IsNumberOf t (value p)) → (bytes : List ℕ) × ((p : ℕ) → p < n → value p ≡ Some (element_at Little t bytes p))
written_out t n value each =
    let part : ℕ → Option (List ℕ) = λ p. spelling t (value p) in
    let (bytes, all) = all_joined part n (λ p below. spelled t (value p) (each p below)) in
    let joined = joined_parts (size_of t) n part bytes (λ p own is. long_spelling t (value p) own is) all in
    (bytes, λ p below. read_back t (value p) bytes p (each p below) (joined.1 p below))

-- what holds at each place so far, and at each of a strip behind them, holds at all of these
pub each_more : (P : ℕ → Type 0) (done count : ℕ) → ((p : ℕ) → p < done → P p) → ((k : ℕ) → k < count → P (done + k)) → (p : ℕ) → p < done + count → P p
each_more P done count before strip p below =
    elim (cases_lt p done) [
      | inl earlier ↦ before p earlier
      | inr later ↦
          let at : done + (p - done) ≡ p = omega arith in
          subst P at (strip (p - done) (omega arith))
    ]

pub is_number : (t : Dtype) (bytes : List ℕ) (k : ℕ) (o : Option ℤ) → o ≡ Some (element_at Little t bytes k) → IsNumberOf t o
is_number t bytes k o is = subst (IsNumberOf t) (sym is) (InRange-element_at Little t bytes k)

pub same_number : (o : Option ℤ) (x y : ℤ) → o ≡ Some x → o ≡ Some y → x ≡ y
same_number o x y e f = cc
