use Rattle.std.proofs.Common.{◌≡◌, drop}
use Rattle.cu_typing_view.specs.Pieces.{promoted, promoted_from}
use Rattle.cu_typing_view.proofs.pieces.promoted.Given as goal

abbrev pub invariant-loop-arg : goal.invariant-loop-arg
invariant-loop-arg l = record {
  whole : promoted l.args ≡ promoted_from l.t (drop l.arg-index l.args);
}
