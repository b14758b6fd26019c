use Rattle.std.proofs.Common.{◌≡◌, take}
use Rattle.std.specs.List.{list_any}
use Rattle.cu_fold.specs.SetBytes.{is_set}
use Rattle.cu_fold.proofs.truths.block_has.Given as goal

abbrev pub invariant-loop-byte : goal.invariant-loop-byte
invariant-loop-byte l = is_set l.seen ≡ list_any is_set (take l.byte-index l.bytes)
