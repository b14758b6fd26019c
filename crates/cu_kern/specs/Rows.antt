-- A kernel along a row of places: each step has bytes of one bank for its results, as elements of a type, and reads those of earlier
-- steps.
use Rattle.std.specs.Prelude.{◌≡◌, ◌≢◌, ◌⊎◌, ℕ, ◌+◌, ◌*◌, ◌<◌, ◌≤◌, ℤ, List, length, drop, Option, Some, Bool, IsTrue}
use Rattle.std.specs.List.{slice_get}
use Rattle.std.specs.Option.{option_and_then}
use Rattle.cu_num.specs.Dtype.{size_of}
use Rattle.cu_num.specs.Element.{element_at}
use Rattle.cu_num.specs.Scalar.{op2}
use Rattle.cu_num.specs.declared.functions.Fn1.TheVariants.{Astype}
use Rattle.cu_num.specs.declared.functions.Fn2.{Fn2}
use Rattle.cu_num.specs.declared.types.Dtype.{Dtype}
use Rattle.cu_num.specs.declared.layout.Endian.TheVariants.{Little}
use Rattle.cu_op.specs.declared.kernel.Instr.{Instr}
use Rattle.cu_op.specs.declared.kernel.Instr.TheVariants.{Load, Const, One, Two, Select}
use Rattle.cu_op.specs.Kernel.{instruction_value, results_from, last_of, kernel_value, selected}
use Rattle.cu_kern.specs.declared.rows.Row.{Row}
use Rattle.cu_kern.specs.declared.lays.Lay.{Lay}
use Rattle.cu_kern.specs.Lays.{HasValue}
use Rattle.cu_kern.specs.Steps.{loaded_by_place}
use Rattle.cu_kern.specs.Strips.{Strip, HasPlaces, strip_element, extreme}

-- the steps of a kernel, their rows, and the first bytes of the bank, which the rows of the first `number` steps fill
pub record Rows : Type 0 where
  pub code : List Instr
  pub rows : List Row
  pub bytes : List ℕ
  pub number : ℕ
  pub filled : ℕ

abbrev pub step_rows : List Instr → List Row → List ℕ → ℕ → ℕ → Rows
step_rows code rows bytes number filled = record { code = code; rows = rows; bytes = bytes; number = number; filled = filled }

-- the rows of the first steps fill these bytes
abbrev pub rows_before : List Instr → List Row → List ℕ → ℕ → Rows
rows_before code rows bytes number = step_rows code rows bytes number (length bytes)

-- what is loaded at the places from `from` on
abbrev pub loads_along : List Lay → List ℕ → List ℕ → ℕ → ℕ → ℕ → Option ℤ
loads_along lays ins dims from k = loaded_by_place lays ins dims (from + k)

-- element k of a row that begins at a byte, all of whose bytes lie before another
abbrev pub HasElement : Dtype → ℕ → ℕ → List ℕ → ℕ → ℤ → Type 0
HasElement t at filled bytes k x = (at + (k * size_of t + size_of t) ≤ filled) × (element_at Little t (drop at bytes) k ≡ x)

-- a step's result: a literal is its own, what is loaded is the region's, and where a row is kept it stands there, but for a literal
abbrev pub Stands : Instr → Bool → (ℕ → Option ℤ) → ℤ → Type 0 → Type 0
Stands (Const y) kept load x InRow = x ≡ y
Stands (Load j) kept load x InRow = (load j ≡ Some x) × (IsTrue kept → InRow)
Stands (One f t a) kept load x InRow = IsTrue kept → InRow
Stands (Two f t a b) kept load x InRow = IsTrue kept → InRow
Stands (Select c a b) kept load x InRow = IsTrue kept → InRow

-- the results of the first steps at place k: each is its step's value over them, and they stand in their rows
pub record HasStepResults (r : Rows) (load : ℕ → Option ℤ) (k : ℕ) (results : List ℤ) : Type 0 where
  pub done : length results ≡ r.number
  pub values : (a : ℕ) (x : ℤ) (i : Instr) → slice_get results a ≡ Some x → slice_get r.code a ≡ Some i → instruction_value i load results ≡ Some x
  pub each : (a : ℕ) (x : ℤ) (i : Instr) (s : Row) → slice_get results a ≡ Some x → slice_get r.code a ≡ Some i → slice_get r.rows a ≡ Some s → Stands i s.kept load x (HasElement s.dtype s.at r.filled r.bytes k x)

-- at each place of `out` there is the step's value over the results that stand in the rows
abbrev pub Computes : Instr → Dtype → Rows → (ℕ → ℕ → Option ℤ) → List ℕ → Type 0
Computes i t r loads out = (k : ℕ) (results : List ℤ) → k * size_of t + size_of t ≤ length out → HasStepResults r (loads k) k results → HasValue t out k (instruction_value i (loads k) results)

-- the results of the first steps at place k, with which the rest gives the kernel's value
pub record RowsAt (r : Rows) (load : ℕ → Option ℤ) (k : ℕ) : Type 0 where
  pub results : List ℤ
  pub stand : HasStepResults r load k results
  pub value : kernel_value r.code load ≡ option_and_then last_of (results_from (drop r.number r.code) load results)

-- bytes of which the first are a row
pub record LeftRow : Type 0 where
  pub bytes : List ℕ
  pub used : ℕ

abbrev pub left_row : ℕ → List ℕ → LeftRow
left_row used bytes = record { bytes = bytes; used = used }

-- at the first places of the row a step's result stands, whatever the results before it are
abbrev pub Leaves : Instr → Row → Rows → (ℕ → ℕ → Option ℤ) → ℕ → LeftRow → Type 0
Leaves i s r loads count left = (k : ℕ) (results : List ℤ) → k < count → HasStepResults r (loads k) k results
    → (x : ℤ) × (instruction_value i (loads k) results ≡ Some x) × Stands i s.kept (loads k) x (HasElement s.dtype 0 left.used left.bytes k x)

-- the strip has the results of step a at the first places, as elements of the type
pub record HasResultsOf (r : Rows) (loads : ℕ → ℕ → Option ℤ) (count a : ℕ) (t : Dtype) (s : Strip) : Type 0 where
  pub places : HasPlaces t s count
  pub elements : (k : ℕ) (results : List ℤ) → k < count → HasStepResults r (loads k) k results → slice_get results a ≡ Some (strip_element t s k)

-- the second strip has the elements of the first, as elements of another type
pub record HasSameElements (from : Dtype) (x : Strip) (t : Dtype) (y : Strip) (count : ℕ) : Type 0 where
  pub places : HasPlaces t y count
  pub same : (k : ℕ) → k < count → strip_element t y k ≡ strip_element from x k

-- step k is step a, or an earlier one that is no literal and that step a converts to the type
abbrev pub IsSource : List Instr → ℕ → Dtype → ℕ → ℕ → Type 0
IsSource code number t a k = (k ≡ a) ⊎ ((a < number) × (slice_get code a ≡ Some (One Astype t k)) × ((y : ℤ) → slice_get code k ≢ Some (Const y)))

-- what a step reads is there: a region, or the results of earlier steps
abbrev pub ReadsEarlier : Instr → ℕ → ℕ → Type 0
ReadsEarlier (Load j) lays number = j < lays
ReadsEarlier (Const y) lays number = Unit {0}
ReadsEarlier (One f t a) lays number = a < number
ReadsEarlier (Two f t a b) lays number = (a < number) × (b < number)
ReadsEarlier (Select c a b) lays number = (c < number) × (a < number) × (b < number)

-- the first of two numbers where the function of both is 1, else the second, is the least of them, or else the greatest
abbrev pub IsExtreme : Bool → Fn2 → Type 0
IsExtreme least f = (t : Dtype) (x y : ℤ) → selected (op2 f t x y) x y ≡ extreme least x y
