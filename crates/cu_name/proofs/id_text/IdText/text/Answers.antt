use mathlib.Core.HLevel.{⊥_prop}
use Rattle.std.proofs.Math.Logic.{∥∥₁_elim}
use Rattle.cu_name.proofs.id_text.IdText.text.Goals as goal

pub unreachable-requires : goal.unreachable-requires
unreachable-requires c = ∥∥₁_elim c.self.invariant.3 ⊥_prop c.in-Err.ensures.cases.0
