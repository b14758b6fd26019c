-- The value of a kernel: its instructions in order, each over the results before it, on whole numbers without a bound
-- (Python array API, elementwise functions).
use Rattle.std.specs.Prelude.{ℕ, ◌-◌, ℤ, pos, List, [], ◌∷◌, ◌++◌, length, Option, Some, option_map, option_and_then, if◌then◌else◌}
use Rattle.std.specs.List.{slice_get}
use Rattle.std.specs.Ordering.{int_eq}
use Rattle.cu_num.specs.Scalar.{op1, op2}
use Rattle.cu_op.specs.declared.kernel.Instr.{Instr}
use Rattle.cu_op.specs.declared.kernel.Instr.TheVariants.{Load, Const, One, Two, Select}

-- the second where the first is 1, else the third
abbrev pub selected : ℤ → ℤ → ℤ → ℤ
selected c x y = if int_eq c (pos 1) then x else y

-- the last of a list, where there is one
abbrev pub last_of : {T : Type 0} → List T → Option T
last_of xs = slice_get xs (length xs - 1)

-- the value of an instruction over the results so far, where `load` gives the element of each input
abbrev pub instruction_value : Instr → (ℕ → Option ℤ) → List ℤ → Option ℤ
instruction_value (Load k) load results = load k
instruction_value (Const x) load results = Some x
instruction_value (One f t a) load results = option_map (op1 f t) (slice_get results a)
instruction_value (Two f t a b) load results = option_and_then (λ x. option_map (op2 f t x) (slice_get results b)) (slice_get results a)
instruction_value (Select c a b) load results =
    option_and_then (λ s. option_and_then (λ x. option_map (selected s x) (slice_get results b)) (slice_get results a)) (slice_get results c)

-- the results of all instructions; none where one of them has no value
abbrev pub results_from : List Instr → (ℕ → Option ℤ) → List ℤ → Option (List ℤ)
results_from [] load results = Some results
results_from (i ∷ is) load results = option_and_then (λ x. results_from is load (results ++ x ∷ [])) (instruction_value i load results)

-- the value of a kernel is its last instruction's
abbrev pub kernel_value : List Instr → (ℕ → Option ℤ) → Option ℤ
kernel_value code load = option_and_then last_of (results_from code load [])
