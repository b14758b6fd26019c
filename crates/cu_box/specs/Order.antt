-- Elements in the other byte order (Zarr v3, codec "bytes": the bytes of each element, in one of two orders).
use Rattle.std.specs.Prelude.{◌≡◌, ℕ, ◌+◌, ◌*◌, ◌≤◌, List, length, take, drop, reverse}
use Rattle.cu_num.specs.declared.layout.Endian.{Endian}
use Rattle.cu_num.specs.declared.layout.Endian.TheVariants.{Little, Big}

-- the bytes of element `at` where each element has `size` bytes
abbrev pub part_at : ℕ → List ℕ → ℕ → List ℕ
part_at size bytes at = take size (drop (at * size) bytes)

-- as many bytes, and each element's are the old ones in reverse
pub record IsSwapped (size : ℕ) (old new : List ℕ) : Type 0 where
  pub same_length : length new ≡ length old
  pub reversed : (p : ℕ) → p * size + size ≤ length old → part_at size new p ≡ reverse (part_at size old p)

-- elements of one order as little-endian ones, or back: in the big-endian order each element's bytes are reversed
abbrev pub IsReordered : Endian → ℕ → List ℕ → List ℕ → Type 0
IsReordered Little size old new = new ≡ old
IsReordered Big size old new = IsSwapped size old new
