-- An index of a chunk, as an index of the array, fits 64 bits.
use Rattle.std.proofs.Common.{ℕ, ◌+◌, ◌*◌, ◌^◌, ◌<◌, List, length, get_or, arith}
use Rattle.cu_shape.specs.Index.{IsInside}
use Rattle.cu_grid.specs.Grid.{RegularGrid, IsGrid, IsCoordinate}
use Rattle.cu_grid.proofs.Regions.{inside-at, bounded}

pub small_index : (g : RegularGrid) (coord inner : List ℕ) → IsGrid g → IsCoordinate g coord → IsInside g.chunk inner
    → (k : ℕ) → k < length g.chunk → get_or coord k 0 * get_or g.chunk k 0 + get_or inner k 0 < 2 ^ 64
small_index g coord inner ok here inside k within =
    let r = ok.ranks in
    let b = bounded g coord k ok here (omega arith) in
    let i = inside-at g.chunk inner k inside within in
    let s = b.starts in
    let t = b.shape_small in
    let u = b.chunk_small in
    omega arith
