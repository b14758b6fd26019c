-- An element as bytes (Zarr v3, codec "bytes": two's complement, in one of two byte orders; a bool is one byte, 0 or 1).
use Rattle.std.specs.Prelude.{◌≡◌, ◌⊎◌, ℕ, ◌+◌, ◌*◌, ◌/◌, ◌%◌, zero, suc, ℤ, pos, List, [], ◌∷◌, take, drop, reverse}
use Rattle.cu_num.specs.Dtype.{size_of}
use Rattle.cu_num.specs.Wrap.{residue, wrapped}
use Rattle.cu_num.specs.declared.types.Dtype.{Dtype}
use Rattle.cu_num.specs.declared.layout.Endian.{Endian}
use Rattle.cu_num.specs.declared.layout.Endian.TheVariants.{Little, Big}

-- the lowest `count` bytes of n, the lowest first
abbrev pub low_bytes : ℕ → ℕ → List ℕ
low_bytes zero n = []
low_bytes (suc count) n = n % 256 ∷ low_bytes count (n / 256)

-- the number whose bytes these are, the lowest first
abbrev pub number_of_bytes : List ℕ → ℕ
number_of_bytes [] = 0
number_of_bytes (b ∷ bytes) = b + 256 * number_of_bytes bytes

-- bytes with the lowest first in the byte order, and back
abbrev pub in_order : Endian → List ℕ → List ℕ
in_order Little bytes = bytes
in_order Big bytes = reverse bytes

-- the bytes of the number x wrapped to the type
unfoldable pub element_bytes : Endian → Dtype → ℤ → List ℕ
element_bytes e t x = in_order e (low_bytes (size_of t) (residue (8 * size_of t) (wrapped t x)))

-- the bytes of element `at`
abbrev pub bytes_at : Dtype → List ℕ → ℕ → List ℕ
bytes_at t bytes at = take (size_of t) (drop (at * size_of t) bytes)

-- the number that element `at` of these bytes is
unfoldable pub element_at : Endian → Dtype → List ℕ → ℕ → ℤ
element_at e t bytes at = wrapped t (pos (number_of_bytes (in_order e (bytes_at t bytes at))))

-- the numbers of bytes that an element can have
abbrev pub IsSize : ℕ → Type 0
IsSize n = (n ≡ 1) ⊎ (n ≡ 2) ⊎ (n ≡ 4) ⊎ (n ≡ 8)
