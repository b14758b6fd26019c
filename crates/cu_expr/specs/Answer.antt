-- What a call answers that gives what a definition says: its value, its fault, or want of memory.
use Rattle.std.specs.Prelude.{◌≡◌, Result, Ok, Err}
use Rattle.cu_expr.specs.declared.types.TypeFault.{TypeFault}
use Rattle.cu_expr.specs.declared.types.TypeRefused.{TypeRefused}
use Rattle.cu_expr.specs.declared.types.TypeRefused.TheVariants.{Fault, NoMemory}

abbrev pub IsAnswer : {T : Type 0} → Result T TypeFault → Result T TypeRefused → Type 0
IsAnswer told (Ok x) = told ≡ Ok x
IsAnswer told (Err (Fault f)) = told ≡ Err f
IsAnswer told (Err NoMemory) = Unit {0}
