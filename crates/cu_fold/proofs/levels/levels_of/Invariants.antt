use Rattle.std.proofs.Common.{◌≤◌, ◌++◌, List, take}
use Rattle.cu_fold.specs.Levels.{levels_from, IsAlike}
use Rattle.cu_fold.specs.Reduced.{is_folded}
use Rattle.cu_fold.specs.declared.levels.Level.{Level}
use Rattle.cu_fold.proofs.levels.levels_of.Given as goal

abbrev pub invariant-loop-axis : goal.invariant-loop-axis
invariant-loop-axis l = record {
  count : l.levels.count ≤ l.axis;
  alike : (more : List Level) → IsAlike (take l.levels.count l.levels.list ++ more) (levels_from (is_folded l.reduced) 0 (take l.axis l.dims) ++ more);
}
