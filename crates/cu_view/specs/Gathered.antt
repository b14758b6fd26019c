-- What moves from a source into a result. This project's own rules.
use Rattle.std.specs.Prelude.{◌≡◌, ℕ, ℤ, pos, ◌-ℤ◌, int_le, Bool, List, if◌then◌else◌}
use Rattle.cu_num.specs.Element.{bytes_at, element_at, element_bytes}
use Rattle.cu_num.specs.declared.layout.Endian.TheVariants.{Little}
use Rattle.cu_view_box.specs.Block.{buffer_place}
use Rattle.cu_view_box.specs.Piece.{read_at}
use Rattle.cu_view_box.specs.declared.block.Block.{Block}
use Rattle.cu_view_box.specs.declared.piece.Piece.{Piece}

-- an element of the result is the number that the piece reads, as bytes of the result's type
abbrev pub HasMoved : Piece → Block → List ℕ → Block → List ℕ → List ℕ → Type 0
HasMoved piece from bytes to new idx = bytes_at to.dtype new (buffer_place to idx) ≡ element_bytes Little to.dtype (element_at Little from.dtype bytes (buffer_place from (read_at piece idx)))

-- an element of the result is as before
abbrev pub IsElementKept : Block → List ℕ → List ℕ → List ℕ → Type 0
IsElementKept to old new idx = bytes_at to.dtype new (buffer_place to idx) ≡ bytes_at to.dtype old (buffer_place to idx)

-- the cell of this row and column lies in a triangle: on or below the k-th diagonal where `lower` holds, else on or above it
abbrev pub is_cell : Bool → ℤ → ℕ → ℕ → Bool
is_cell lower k row column = if lower then int_le (pos column -ℤ pos row) k else int_le k (pos column -ℤ pos row)
