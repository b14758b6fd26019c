use Rattle.std.proofs.Common.{◌≡◌, ◌++◌, drop, map, take}
use Rattle.cu_fuse.specs.Close.{renumbered_planned}
use Rattle.cu_op.specs.Numbers.{number_in}
use Rattle.cu_fuse.proofs.close.renumber_all.Given as goal

abbrev pub invariant-loop-planned : goal.invariant-loop-planned
invariant-loop-planned l = l.planned-items ≡ map (renumbered_planned (number_in l.numbers)) (take l.planned-index l.initial.planned-items) ++ drop l.planned-index l.initial.planned-items
