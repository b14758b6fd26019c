-- The set has the made keys so far.
use Rattle.std.proofs.Common.{take}
use Rattle.cu_dir.specs.Keys.{AreMadeOf}
use Rattle.cu_dir.proofs.keys.made_of.Given as goal

abbrev pub invariant-loop-spec : goal.invariant-loop-spec
invariant-loop-spec l = AreMadeOf (take l.spec-index l.specs) l.made
