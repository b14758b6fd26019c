-- A kernel over a block of places: each step has 64 words for its results, one a place, and reads those of earlier steps.
use Rattle.std.specs.Prelude.{◌≡◌, ℕ, ◌+◌, ◌*◌, ◌<◌, ◌≤◌, ℤ, List, slice_index, Option, Some}
use Rattle.std.specs.List.{slice_get, AllZip}
use Rattle.cu_num.specs.Dtype.{InRange}
use Rattle.cu_num.specs.Word.{word_of}
use Rattle.cu_num.specs.declared.types.Dtype.{Dtype}
use Rattle.cu_shape.specs.Index.{index_at}
use Rattle.cu_op.specs.declared.kernel.Instr.{Instr}
use Rattle.cu_op.specs.declared.kernel.Instr.TheVariants.{Load, Const, One, Two, Select}
use Rattle.cu_op.specs.Kernel.{instruction_value, kernel_value}
use Rattle.cu_op.specs.KernelTypes.{Operand, Typed, Literal, GivesOperand}
use Rattle.cu_kern.specs.declared.lays.Lay.{Lay}
use Rattle.cu_kern.specs.Lays.{loaded_at}

-- the elements that are loaded at a place of the result
abbrev pub loaded_by_place : List Lay → List ℕ → List ℕ → ℕ → ℕ → Option ℤ
loaded_by_place lays ins dims p = loaded_at lays ins (index_at dims p)

-- the kernel's value at a place of the result
abbrev pub value_by_place : List Instr → List Lay → List ℕ → List ℕ → ℕ → Option ℤ
value_by_place code lays ins dims p = kernel_value code (loaded_by_place lays ins dims p)

-- the 64 words of a step lie among so many words
abbrev pub HasRow : ℕ → ℕ → Type 0
HasRow words a = 64 * a + 64 ≤ words

-- the step names regions that there are, and steps whose words are there
abbrev pub NamesBefore : Instr → ℕ → ℕ → Type 0
NamesBefore (Load k) lays words = k < lays
NamesBefore (Const x) lays words = Unit {0}
NamesBefore (One f t a) lays words = HasRow words a
NamesBefore (Two f t a b) lays words = HasRow words a × HasRow words b
NamesBefore (Select c a b) lays words = HasRow words c × HasRow words a × HasRow words b

-- the number is one that such an operand has
abbrev pub IsOf : Operand → ℤ → Type 0
IsOf (Typed t) x = InRange t x
IsOf (Literal y) x = x ≡ y

-- word k of each step is that of its result at this place
abbrev pub HoldsResults : List ℕ → ℕ → List ℤ → Type 0
HoldsResults words k results = (a : ℕ) (x : ℤ) → slice_get results a ≡ Some x → slice_index words (64 * a + k) ≡ word_of x

-- what a step leaves at place k, whatever the results before it are that these words hold
abbrev pub StepHolds : Instr → List Dtype → (ℕ → Option ℤ) → List ℕ → ℕ → ℕ → Type 0
StepHolds i types load before k word = (operands : List Operand) (r : Operand) (results : List ℤ) → GivesOperand i types operands r → AllZip IsOf operands results
    → HoldsResults before k results → (x : ℤ) × (instruction_value i load results ≡ Some x) × IsOf r x × (word ≡ word_of x)
