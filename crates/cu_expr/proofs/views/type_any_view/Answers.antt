use Rattle.std.proofs.Common.{refl}
use Rattle.cu_expr.proofs.ToldArguments.{one_to_eight}
use Rattle.cu_expr.proofs.views.type_any_view.Goals as goal

pub type_concat-requires : goal.type_concat-requires
type_concat-requires c = let told = one_to_eight _ _ _ c.in-Concat.is c.requires.takes c.requires.count refl in record { some = told.0; few = told.1; kept = c.requires.arrays }

pub type_stack-requires : goal.type_stack-requires
type_stack-requires c = let told = one_to_eight _ _ _ c.in-Stack.is c.requires.takes c.requires.count refl in record { some = told.0; few = told.1; kept = c.requires.arrays }
