use Rattle.std.proofs.Common.{◌≡◌, length}
use Rattle.cu_reduce.specs.Numbers.{HasNumber}
use Rattle.cu_product.specs.Block.{inner_product}
use Rattle.cu_product.specs.Matrices.{numbers}
use Rattle.cu_product.proofs.column.summed.Given as goal

abbrev pub invariant-loop-q : goal.invariant-loop-q
invariant-loop-q l = record {
  eight : length l.sum ≡ 8;
  done : HasNumber l.t l.sum 0 (inner_product (numbers l.t l.row) (numbers l.t l.column) l.q);
}
