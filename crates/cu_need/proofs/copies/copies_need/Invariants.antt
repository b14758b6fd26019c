use Rattle.std.proofs.Common.{◌≡◌, max, map, drop}
use Rattle.cu_copy.specs.Copies.{rechunk_need}
use Rattle.cu_need.proofs.copies.copies_need.Given as goal
use Rattle.cu_shape.specs.Counts.{largest}

-- what is left adds its own
abbrev pub invariant-loop-rechunk : goal.invariant-loop-rechunk
invariant-loop-rechunk l = max l.most (largest (map (rechunk_need l.reserved) (drop l.rechunk-index l.copies))) ≡ largest (map (rechunk_need l.reserved) l.copies)
