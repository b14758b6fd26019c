-- The memory of a view, and of an array that is made from nothing, in bytes (this project's own rule). `reserved` are the bytes that
-- are kept for everything else, `sources` the arrays of which it is a view.
use Rattle.std.specs.Prelude.{ℕ, ◌+◌, List, ◌∷◌, map}
use Rattle.cu_node.specs.declared.info.NodeInfo.{NodeInfo}
use Rattle.cu_shape.specs.Counts.{largest}
use Rattle.cu_node.specs.Info.{chunk_bytes}

-- the greatest chunk as scratch, and a chunk of the result
abbrev pub view_bytes : NodeInfo → List NodeInfo → ℕ
view_bytes result sources = largest (chunk_bytes result ∷ map chunk_bytes sources) + chunk_bytes result

abbrev pub view_need : ℕ → NodeInfo → List NodeInfo → ℕ
view_need reserved result sources = reserved + view_bytes result sources
