-- A kernel that fits names few inputs and steps.
use Rattle.std.proofs.Common.{◌+◌, ◌<◌, ◌^◌, List, [], ◌∷◌, ◌++◌, All, length, arith, length-append}
use Rattle.std.proofs.lemmas.List.Elements.{All-cons}
use Rattle.std.proofs.lemmas.Option.{slice_get_within}
use Rattle.cu_num.specs.declared.types.Dtype.{Dtype}
use Rattle.cu_num.specs.declared.types.Dtype.TheVariants.{Bool}
use Rattle.cu_op.specs.declared.kernel.Instr.{Instr}
use Rattle.cu_op.specs.declared.kernel.Instr.TheVariants.{Load, Const, One, Two, Select}
use Rattle.cu_op.specs.KernelTypes.{Operand, Typed, GivesOperand, KernelFits}
use Rattle.cu_fuse.specs.Splice.{AreNumbersBelow}

small_one : (i : Instr) (types : List Dtype) (os : List Operand) (r : Operand) → GivesOperand i types os r → length types < 2 ^ 31 → length os < 2 ^ 31 → AreNumbersBelow i
small_one (Load k) types os r (t, at, is) a b = let w = slice_get_within types k t at in omega arith
small_one (Const x) types os r gives a b = tt
small_one (One f t n) types os r (d, at, rest, accepted, is) a b = let w = slice_get_within os n (Typed d) at in omega arith
small_one (Two f t n m) types os r (x, y, at, bt, rest, accepted, is) a b =
    let v = slice_get_within os n x at in let w = slice_get_within os m y bt in (omega arith, omega arith)
small_one (Select c n m) types os r (x, y, t, ct, at, bt, rest, is) a b =
    let u = slice_get_within os c (Typed Bool) ct in let v = slice_get_within os n x at in let w = slice_get_within os m y bt in (omega arith, omega arith, omega arith)

pub small_numbers : (code : List Instr) (types : List Dtype) (os : List Operand) (t : Dtype) → KernelFits code types os t → length types < 2 ^ 31 → length os + length code < 2 ^ 31 → All AreNumbersBelow code
small_numbers [] types os t fits a b = λ k d h. absurd (omega arith)
small_numbers (i ∷ is) types os t (r, gives, fits) a b =
    let n = length-append os (r ∷ []) in
    All-cons AreNumbersBelow i is (small_one i types os r gives a (omega arith)) (small_numbers is types (os ++ r ∷ []) t fits a (omega (arith, n)))

-- and it has a step
pub some_steps : (code : List Instr) (types : List Dtype) (t : Dtype) → KernelFits code types [] t → 0 < length code
some_steps [] types t fits = cc
some_steps (i ∷ is) types t fits = omega arith
