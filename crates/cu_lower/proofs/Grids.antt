-- What a node's array keeps is a grid.
use Rattle.std.proofs.Common.{◌<◌, ◌≤◌, arith}
use Rattle.std.proofs.Math.Nat.{le-mul_of_pos_right}
use Rattle.cu_num.specs.Dtype.{size_of}
use Rattle.cu_num.specs.declared.types.Dtype.{Dtype}
use Rattle.cu_num.specs.declared.types.Dtype.TheVariants as types
use Rattle.cu_shape.specs.Counts.{counts_of}
use Rattle.cu_shape.specs.Index.{product}
use Rattle.cu_shape.proofs.Products.{product_within}
use Rattle.cu_grid.specs.Grid.{IsGrid}
use Rattle.cu_node.specs.Info.{IsInfo}
use Rattle.cu_node.specs.declared.info.NodeInfo.{NodeInfo}
use Rattle.cu_op.specs.Arrays.{grid_counts}
use Rattle.cu_lower_reduce.specs.Steps.{grid_of}

size_positive : (t : Dtype) → 0 < size_of t
size_positive types.Bool = omega arith
size_positive types.Int8 = omega arith
size_positive types.Int16 = omega arith
size_positive types.Int32 = omega arith
size_positive types.Int64 = omega arith
size_positive types.Uint8 = omega arith
size_positive types.Uint16 = omega arith
size_positive types.Uint32 = omega arith
size_positive types.Uint64 = omega arith

-- what a node's array keeps is a grid
pub info_grid : (i : NodeInfo) → IsInfo i → IsGrid (grid_of i)
info_grid i ok =
    let w = le-mul_of_pos_right (product i.chunk) (size_positive i.dtype) in
    let elements = ok.elements in
    let bytes = ok.bytes in
    record {
      ranks = ok.ranks;
      short = ok.short;
      positive = ok.positive;
      elements = omega (arith, elements);
      chunk_elements = omega (arith, w, bytes);
    }

pub info_chunks : (i : NodeInfo) → IsInfo i → product (grid_counts (grid_of i)) ≤ 65536
info_chunks i ok = let w = product_within (counts_of i.dims i.chunk) in let c = ok.chunks in omega (arith, w, c)
