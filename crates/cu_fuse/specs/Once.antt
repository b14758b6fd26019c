-- A map that loads each array once (this project's own rule).
use Rattle.std.specs.Prelude.{ℕ, ◌+◌, ◌==◌, ◌||◌, not, Bool, false, List, [], ◌∷◌, length, map, filter, count_by, option_map, unwrap_or, slice_index, slice_index_or, if◌then◌else◌}
use Rattle.std.specs.List.{position_or_len, range_with_len}
use Rattle.cu_op.specs.declared.kernel.Instr.{Instr}
use Rattle.cu_op.specs.declared.kernel.Instr.TheVariants.{Load, Const, One, Two, Select}
use Rattle.cu_op.specs.declared.operation.Op.{Op}
use Rattle.cu_op.specs.Kind.Map.{map_of}
use Rattle.cu_op.specs.Numbers.{number_in}
use Rattle.cu_op.specs.Operation.{kernel_of, reads_of, target_of}

-- ---- each array once among the inputs

-- the numbers of a list, each at its first place
abbrev pub distinct : List ℕ → List ℕ
distinct [] = []
distinct (x ∷ xs) = x ∷ filter (λ y. not (y == x)) (distinct xs)

-- an instruction over these inputs as one over each of them once
abbrev pub over_distinct : List ℕ → Instr → Instr
over_distinct ins (Load k) = Load (number_in (distinct ins) (slice_index ins k))
over_distinct ins i = i

-- ---- each input loaded once

-- whether an instruction loads input number k
abbrev pub loads : ℕ → Instr → Bool
loads k (Load j) = j == k
loads k i = false

-- an instruction of a kernel, by its number
abbrev pub step_at : List Instr → ℕ → Instr
step_at code n = slice_index_or code n (Load 0)

-- the number of the first instruction that loads what number n does, which is i; n itself if that
-- loads nothing
abbrev pub first_like : List Instr → ℕ → Instr → ℕ
first_like code n (Load k) = position_or_len (loads k) code
first_like code n i = n

abbrev pub first_load_of : List Instr → ℕ → ℕ
first_load_of code n = first_like code n (step_at code n)

-- An instruction stays if none before it loads what it does. The last one stays too, since its
-- value is the kernel's.
abbrev pub stays : List Instr → ℕ → Bool
stays code n = (first_load_of code n == n) || (n + 1 == length code)

-- where the result of number n stands then: behind as many as stay before the first that is like it
abbrev pub place : List Instr → ℕ → ℕ
place code n = count_by (stays code) (range_with_len 0 (first_load_of code n))

abbrev pub places : List Instr → ℕ → List ℕ
places code n = map (place code) (range_with_len 0 n)

-- an instruction with its arguments where they stand
abbrev pub at_places : List ℕ → Instr → Instr
at_places ps (Load k) = Load k
at_places ps (Const x) = Const x
at_places ps (One f t a) = One f t (slice_index ps a)
at_places ps (Two f t a b) = Two f t (slice_index ps a) (slice_index ps b)
at_places ps (Select c a b) = Select (slice_index ps c) (slice_index ps a) (slice_index ps b)

-- a kernel with one load of each input
abbrev pub loading_once : List Instr → List Instr
loading_once code = map (λ n. at_places (places code n) (step_at code n))
    (filter (stays code) (range_with_len 0 (length code)))

-- ---- an operation

-- the map of this kernel over these arrays, with each array once among its inputs and one load of
-- it, both at the place of the first
abbrev pub map_once : List Instr → List ℕ → ℕ → Op
map_once code ins out = map_of (loading_once (map (over_distinct ins) code)) (distinct ins) out

-- an operation that has a kernel as such a map; another as it is
abbrev pub one_load : Op → Op
one_load op =
    unwrap_or (option_map (λ code. map_once code (reads_of op) (target_of op)) (kernel_of op)) op

-- an operation where maps load an array once, and where they need not
abbrev pub loaded_by : Bool → Op → Op
loaded_by once op = if once then one_load op else op
