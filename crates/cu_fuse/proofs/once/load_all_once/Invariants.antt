use Rattle.std.proofs.Common.{◌≡◌, ◌++◌, drop, map, take}
use Rattle.cu_fuse.specs.Fused.{with_one_load}
use Rattle.cu_fuse.proofs.once.load_all_once.Given as goal

abbrev pub invariant-loop-planned : goal.invariant-loop-planned
invariant-loop-planned l = l.planned-items ≡ map (with_one_load l.setting)
    (take l.planned-index l.initial.planned-items) ++ drop l.planned-index l.initial.planned-items
