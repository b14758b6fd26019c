-- The rules so far have counted the call.
use Rattle.std.proofs.Common.{◌≡◌, take, drop, map, ◌++◌}
use Rattle.cu_cells.specs.Script.{counted}
use Rattle.cu_cells.proofs.script.count_call.Given as goal

abbrev pub invariant-loop-counted : goal.invariant-loop-counted
invariant-loop-counted l = l.rules ≡ map (counted l.kind l.key) (take l.counted-index l.initial.rules) ++ drop l.counted-index l.initial.rules
