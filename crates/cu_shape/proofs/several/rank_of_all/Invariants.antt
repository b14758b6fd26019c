use Rattle.std.proofs.Common.{◌≡◌, ◌≤◌, drop, max}
use Rattle.cu_shape.specs.Several.{rank_of_all}
use Rattle.cu_shape.proofs.several.rank_of_all.Given as goal

abbrev pub invariant-loop-shape : goal.invariant-loop-shape
invariant-loop-shape l = record {
  short : l.rank ≤ 6;
  whole : rank_of_all l.shapes ≡ max l.rank (rank_of_all (drop l.shape-index l.shapes));
}
