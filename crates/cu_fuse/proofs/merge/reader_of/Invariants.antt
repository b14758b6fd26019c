use Rattle.std.proofs.Common.{◌≡◌, ◌+◌, drop}
use Rattle.cu_fuse.specs.Fused.{reader_of}
use Rattle.cu_fuse.proofs.merge.reader_of.Given as goal

abbrev pub invariant-loop-planned : goal.invariant-loop-planned
invariant-loop-planned l = record { place : reader_of l.ops l.a ≡ l.number + reader_of (drop l.planned-index l.ops) l.a; at : l.number ≡ l.planned-index }
