-- Elements along a run of places of the result, as bytes: the next place reads the next element, or where the step is 0 the same.
use Rattle.std.specs.Prelude.{◌≡◌, ℕ, ◌+◌, ◌*◌, ◌/◌, ◌<◌, ◌≤◌, ℤ, List, length, if◌then◌else◌}
use Rattle.std.specs.Prelude.{Bool as Test}
use Rattle.std.specs.Int.{int_min, int_max}
use Rattle.cu_num.specs.Dtype.{size_of, InRange}
use Rattle.cu_num.specs.Element.{element_at, element_bytes, bytes_at}
use Rattle.cu_num.specs.Scalar.{op1, op2, result_type1, result_type2}
use Rattle.cu_num.specs.declared.functions.Fn1.TheVariants as fn1
use Rattle.cu_num.specs.declared.functions.Fn2.TheVariants.{Multiply}
use Rattle.cu_num.specs.declared.types.Dtype.{Dtype}
use Rattle.cu_num.specs.declared.types.Dtype.TheVariants.{Bool}
use Rattle.cu_num.specs.declared.layout.Endian.TheVariants.{Little}
use Rattle.cu_op.specs.Kernel.{selected}
use Rattle.cu_op.specs.KernelTypes.{IsArgument}
use Rattle.cu_kern.specs.declared.calls.Call.{Call}
use Rattle.cu_kern.specs.declared.calls.Call.TheVariants.{One, Two, Select, Extreme, Product, Square}

-- the type of a call's first argument, and that of the others, which a call of one argument has in name alone
abbrev pub first_type : Call → Dtype
first_type (One f from t) = from
first_type (Two f t) = t
first_type (Select t) = Bool
first_type (Extreme least t) = t
first_type (Product from t) = from
first_type (Square from t) = from

abbrev pub other_type : Call → Dtype
other_type (One f from t) = from
other_type (Two f t) = t
other_type (Select t) = t
other_type (Extreme least t) = t
other_type (Product from t) = from
other_type (Square from t) = from

-- the least of two numbers, or else the greatest
abbrev pub extreme : Test → ℤ → ℤ → ℤ
extreme least x y = if least then int_min x y else int_max x y

-- the type of a call's result, and its value
abbrev pub call_type : Call → Dtype
call_type (One f from t) = result_type1 f t
call_type (Two f t) = result_type2 f t
call_type (Select t) = t
call_type (Extreme least t) = t
call_type (Product from t) = t
call_type (Square from t) = t

abbrev pub call_value : Call → ℤ → ℤ → ℤ → ℤ
call_value (One f from t) x y z = op1 f t x
call_value (Two f t) x y z = op2 f t x y
call_value (Select t) x y z = selected x y z
call_value (Extreme least t) x y z = extreme least x y
call_value (Product from t) x y z = op2 Multiply t x y
call_value (Square from t) x y z = op1 fn1.Square t x

-- each number of the first type is one of the second
abbrev pub WidensTo : Dtype → Dtype → Type 0
WidensTo from t = (x : ℤ) → InRange from x → InRange t x

-- a function of one argument has its type, and a product has numbers of its own
abbrev pub IsCall : Call → Type 0
IsCall (One f from t) = IsArgument f from t
IsCall (Product from t) = WidensTo from t
IsCall (Square from t) = WidensTo from t
IsCall call = Unit {0}

pub record Strip : Type 0 where
  pub bytes : List ℕ
  pub step : ℕ

abbrev pub strip : List ℕ → ℕ → Strip
strip bytes step = record { bytes = bytes; step = step }

-- the element for place k of the run
abbrev pub strip_element : Dtype → Strip → ℕ → ℤ
strip_element t s k = element_at Little t s.bytes (s.step * k)

-- the bytes have an element for each of so many places
pub record HasPlaces (t : Dtype) (s : Strip) (count : ℕ) : Type 0 where
  pub step : s.step ≤ 1
  pub inside : (k : ℕ) → k < count → s.step * k * size_of t + size_of t ≤ length s.bytes

-- the arguments of a call have an element for each element of a result of so many bytes
pub record HasArguments (call : Call) (x y z : Strip) (room : ℕ) : Type 0 where
  pub first : HasPlaces (first_type call) x (room / size_of (call_type call))
  pub second : HasPlaces (other_type call) y (room / size_of (call_type call))
  pub third : HasPlaces (other_type call) z (room / size_of (call_type call))

-- the call's value at the elements for place k
abbrev pub value_along : Call → Strip → Strip → Strip → ℕ → ℤ
value_along call x y z k = call_value call (strip_element (first_type call) x k) (strip_element (other_type call) y k) (strip_element (other_type call) z k)

-- each element of the result is the call's value
abbrev pub HasResults : Call → Strip → Strip → Strip → List ℕ → Type 0
HasResults call x y z out = (k : ℕ) → k * size_of (call_type call) + size_of (call_type call) ≤ length out
    → bytes_at (call_type call) out k ≡ element_bytes Little (call_type call) (value_along call x y z k)

-- those of the places from `from` on, in bytes of their own
abbrev pub HasPart : Call → Strip → Strip → Strip → ℕ → List ℕ → Type 0
HasPart call x y z from out = (k : ℕ) → k * size_of (call_type call) + size_of (call_type call) ≤ length out
    → bytes_at (call_type call) out k ≡ element_bytes Little (call_type call) (value_along call x y z (from + k))

-- the bytes have the elements for place k
pub record HasPlace (call : Call) (x y z : Strip) (k : ℕ) : Type 0 where
  pub first : x.step * k * size_of (first_type call) + size_of (first_type call) ≤ length x.bytes
  pub second : y.step * k * size_of (other_type call) + size_of (other_type call) ≤ length y.bytes
  pub third : z.step * k * size_of (other_type call) + size_of (other_type call) ≤ length z.bytes

-- the elements of places before `from` are there
abbrev pub ResultsBelow : Call → Strip → Strip → Strip → ℕ → List ℕ → Type 0
ResultsBelow call x y z from out = (k : ℕ) → k < from → bytes_at (call_type call) out k ≡ element_bytes Little (call_type call) (value_along call x y z k)
