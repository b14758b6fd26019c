-- Elements that are written at the places of a buffer, one after another.
use Rattle.std.proofs.Common.{◌≡◌, ℕ, ◌+◌, ◌*◌, ◌/◌, ◌<◌, ◌≤◌, List, length, refl, ap, ◌∙◌, arith, below_more, ℤ}
use Rattle.cu_num.specs.Dtype.{size_of}
use Rattle.cu_num.specs.Element.{bytes_at, element_bytes}
use Rattle.cu_num.specs.declared.types.Dtype.{Dtype}
use Rattle.cu_num.specs.declared.types.Dtype.TheVariants.{Bool, Int8, Int16, Int32, Int64, Uint8, Uint16, Uint32, Uint64}
use Rattle.cu_num.specs.declared.layout.Endian.TheVariants.{Little}
use Rattle.cu_num.proofs.ElementBytes.{written_at, bytes_at-written_at_same, bytes_at-written_at_other, length-element_bytes}
use Rattle.cu_view_box.proofs.Lined.{length_written}

-- the first elements of a buffer have these values
pub record IsLaid (t : Dtype) (value : ℕ → ℤ) (done : ℕ) (old new : List ℕ) : Type 0 where
  pub same_length : length new ≡ length old
  pub values : (p : ℕ) → p < done → bytes_at t new p ≡ element_bytes Little t (value p)

pub laid_none : (t : Dtype) (value : ℕ → ℤ) (old : List ℕ) → IsLaid t value 0 old old
laid_none t value old = record { same_length = refl; values = λ p b. absurd (omega arith) }

pub laid_more : (t : Dtype) (value : ℕ → ℤ) (done : ℕ) (number : ℤ) (old now new : List ℕ) → done * size_of t + size_of t ≤ length old → number ≡ value done
    → new ≡ written_at t now done (element_bytes Little t number) → IsLaid t value done old now → IsLaid t value (done + 1) old new
laid_more t value done number old now new fits is wrote was =
    let own = element_bytes Little t number in
    let long = length-element_bytes Little t number in
    let room : done * size_of t + size_of t ≤ length now = rw was.same_length fits in
    record {
      same_length = ap length wrote ∙ (length_written (done * size_of t) (size_of t) now own long room ∙ was.same_length);
      values = below_more (λ p. bytes_at t new p ≡ element_bytes Little t (value p)) done
          (λ p b. ap (λ all. bytes_at t all p) wrote ∙ bytes_at-written_at_other t now own done p (omega arith) long room ∙ was.values p b)
          (ap (λ all. bytes_at t all done) wrote ∙ bytes_at-written_at_same t now own done long room ∙ ap (element_bytes Little t) is);
    }

-- how many elements a buffer has
pub count_whole : (t : Dtype) (n p : ℕ) → p * size_of t + size_of t ≤ n → p < n / size_of t
count_whole Bool n p h = omega arith
count_whole Int8 n p h = omega arith
count_whole Int16 n p h = omega arith
count_whole Int32 n p h = omega arith
count_whole Int64 n p h = omega arith
count_whole Uint8 n p h = omega arith
count_whole Uint16 n p h = omega arith
count_whole Uint32 n p h = omega arith
count_whole Uint64 n p h = omega arith

pub count_fits : (t : Dtype) (n p : ℕ) → p < n / size_of t → p * size_of t + size_of t ≤ n
count_fits Bool n p h = omega arith
count_fits Int8 n p h = omega arith
count_fits Int16 n p h = omega arith
count_fits Int32 n p h = omega arith
count_fits Int64 n p h = omega arith
count_fits Uint8 n p h = omega arith
count_fits Uint16 n p h = omega arith
count_fits Uint32 n p h = omega arith
count_fits Uint64 n p h = omega arith
