-- A kernel in which another stands in place of what it loads of one of its inputs (this project's
-- own rule).
use Rattle.std.specs.Prelude.{ℕ, ◌<◌, ◌^◌, ◌+◌, ◌-◌, ◌==◌, nat_lt, List, [], ◌∷◌, ◌++◌, length, map, take, drop, slice_index, if◌then◌else◌}
use Rattle.cu_op.specs.declared.kernel.Instr.{Instr}
use Rattle.cu_op.specs.declared.kernel.Instr.TheVariants.{Load, Const, One, Two, Select}

-- a list with others in place of its element number j
abbrev pub put_in : {T : Type 0} → ℕ → List T → List T → List T
put_in j others xs = take j xs ++ (others ++ drop (j + 1) xs)

-- the number that input number k, another than j, has where `width` inputs stand in place of number
-- j
abbrev pub input_behind : ℕ → ℕ → ℕ → ℕ
input_behind j width k = if nat_lt k j then k else (k + width - 1)

-- an instruction behind `count` others, which loads from the inputs from number `first` on
abbrev pub moved_behind : ℕ → ℕ → Instr → Instr
moved_behind count first (Load k) = Load (first + k)
moved_behind count first (Const x) = Const x
moved_behind count first (One f t a) = One f t (count + a)
moved_behind count first (Two f t a b) = Two f t (count + a) (count + b)
moved_behind count first (Select c a b) = Select (count + c) (count + a) (count + b)

-- what stands in place of an instruction: in place of a load of input number j the inner kernel;
-- any other instruction with its arguments where they now stand
abbrev pub in_place : ℕ → ℕ → List Instr → List ℕ → ℕ → Instr → List Instr
in_place j width inner places count (Load k) =
    if k == j then map (moved_behind count j) inner else (Load (input_behind j width k) ∷ [])
in_place j width inner places count (Const x) = Const x ∷ []
in_place j width inner places count (One f t a) = One f t (slice_index places a) ∷ []
in_place j width inner places count (Two f t a b) =
    Two f t (slice_index places a) (slice_index places b) ∷ []
in_place j width inner places count (Select c a b) =
    Select (slice_index places c) (slice_index places a) (slice_index places b) ∷ []

-- the rest of a kernel behind `count` instructions, where `places` says where the results of those
-- of its own stand that come before
abbrev pub spliced_from : ℕ → ℕ → List Instr → List ℕ → ℕ → List Instr → List Instr
spliced_from j width inner places count [] = []
spliced_from j width inner places count (i ∷ is) =
    in_place j width inner places count i
    ++ spliced_from j width inner
    (places ++ (count + length (in_place j width inner places count i) - 1) ∷ [])
    (count + length (in_place j width inner places count i)) is

-- a kernel, in which the inner one, which has `width` inputs, stands in place of each load of input
-- number j
abbrev pub spliced : ℕ → ℕ → List Instr → List Instr → List Instr
spliced j width inner outer = spliced_from j width inner [] 0 outer

-- the numbers in an instruction are small
abbrev pub AreNumbersBelow : Instr → Type 0
AreNumbersBelow (Load k) = k < 2 ^ 31
AreNumbersBelow (Const x) = Unit {0}
AreNumbersBelow (One f t a) = a < 2 ^ 31
AreNumbersBelow (Two f t a b) = (a < 2 ^ 31) × (b < 2 ^ 31)
AreNumbersBelow (Select c a b) = (c < 2 ^ 31) × (a < 2 ^ 31) × (b < 2 ^ 31)
