-- What the calls on words do: at each place they give the word of the value at the numbers whose words stand there.
use Rattle.std.specs.Prelude.{◌≡◌, ◌⊎◌, ℕ, ◌<◌, ◌==◌, ℤ, List, length, slice_index, if◌then◌else◌}
use Rattle.cu_num.specs.Element.{element_at, element_bytes, bytes_at}
use Rattle.cu_num.specs.Scalar.{op1, op2, result_type1, result_type2, truth_number}
use Rattle.cu_num.specs.Word.{IsWord}
use Rattle.cu_num.specs.declared.types.Dtype.{Dtype}
use Rattle.cu_num.specs.declared.types.Dtype.TheVariants.{Bool}
use Rattle.cu_num.specs.declared.functions.Fn1.{Fn1}
use Rattle.cu_num.specs.declared.functions.Fn1.TheVariants.{Astype}
use Rattle.cu_num.specs.declared.functions.Fn2.{Fn2}
use Rattle.cu_num.specs.declared.layout.Endian.TheVariants.{Little}
use Rattle.cu_lane.specs.declared.compared.Order.{Order}
use Rattle.cu_lane.specs.Compared.{numbers_in_order}

-- of a function of one argument: the argument has the function's type, of Astype any
abbrev pub HasResults1 : Fn1 → Dtype → List ℕ → List ℕ → Type 0
HasResults1 f t xs out = (k : ℕ) (from : Dtype) (x : ℤ) → k < length out → (from ≡ t) ⊎ (f ≡ Astype)
    → IsWord from (slice_index xs k) x → IsWord (result_type1 f t) (slice_index out k) (op1 f t x)

abbrev pub HasResults2 : Fn2 → Dtype → List ℕ → List ℕ → List ℕ → Type 0
HasResults2 f t xs ys out = (k : ℕ) (x y : ℤ) → k < length out → IsWord t (slice_index xs k) x → IsWord t (slice_index ys k) y
    → IsWord (result_type2 f t) (slice_index out k) (op2 f t x y)

-- 1 where two numbers are in this order, else 0
abbrev pub HasOrder : Order → Dtype → List ℕ → List ℕ → List ℕ → Type 0
HasOrder order t xs ys out = (k : ℕ) (x y : ℤ) → k < length out → IsWord t (slice_index xs k) x → IsWord t (slice_index ys k) y
    → IsWord Bool (slice_index out k) (truth_number (numbers_in_order order x y))

-- where the first word is 1 the second, else the third
abbrev pub HasChoices : List ℕ → List ℕ → List ℕ → List ℕ → Type 0
HasChoices cs xs ys out = (k : ℕ) → k < length out → slice_index out k ≡ (if slice_index cs k == 1 then slice_index xs k else slice_index ys k)

-- the words of elements, and the bytes of words
abbrev pub HasLoaded : Dtype → List ℕ → List ℕ → Type 0
HasLoaded t bytes out = (k : ℕ) → k < length out → IsWord t (slice_index out k) (element_at Little t bytes k)

abbrev pub HasSaved : Dtype → List ℕ → List ℕ → Type 0
HasSaved t xs out = (k : ℕ) (x : ℤ) → k < length xs → IsWord t (slice_index xs k) x → bytes_at t out k ≡ element_bytes Little t x
