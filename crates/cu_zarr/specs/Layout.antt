-- How an array is laid out (Zarr v3 core: data type, shape, regular chunk grid, chunk key encoding, fill value; codec "bytes": byte order).
use Rattle.std.specs.Prelude.{ℕ, ◌*◌, ℤ, List}
use Rattle.cu_num.specs.Dtype.{size_of}
use Rattle.cu_num.specs.declared.types.Dtype.{Dtype}
use Rattle.cu_num.specs.declared.layout.Encoding.{Encoding}
use Rattle.cu_num.specs.declared.layout.Endian.{Endian}
use Rattle.cu_shape.specs.Index.{product, products, sums, index_at}

pub record ArrayLayout : Type 0 where
  pub dtype : Dtype
  pub shape : List ℕ
  pub chunk : List ℕ
  pub encoding : Encoding
  pub endian : Endian
  pub fill : ℤ

-- the bytes of a chunk, also at the edge
abbrev pub stored_chunk_bytes : ArrayLayout → ℕ
stored_chunk_bytes l = product l.chunk * size_of l.dtype

-- the array's index at row-major place p of the chunk at this coordinate
abbrev pub index_in_chunk : ArrayLayout → List ℕ → ℕ → List ℕ
index_in_chunk l coord p = sums (products coord l.chunk) (index_at l.chunk p)
