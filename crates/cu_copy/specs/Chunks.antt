-- The chunks of an array (this project's own rule).
use Rattle.std.specs.Prelude.{ℕ}
use Rattle.cu_node.specs.declared.info.NodeInfo.{NodeInfo}
use Rattle.cu_shape.specs.Counts.{counts_of}
use Rattle.cu_shape.specs.Index.{product}

-- the number of an array's chunks; one with an axis of size 0 has none
abbrev pub chunk_count : NodeInfo → ℕ
chunk_count i = product (counts_of i.dims i.chunk)
