-- What a contract sees of an array that is held element by element.
use Rattle.std.specs.Prelude.{◌≡◌, ℕ, ℤ, List, All, length}
use Rattle.cu_num.specs.Dtype.{InRange}
use Rattle.cu_num.specs.declared.types.Dtype.{Dtype}
use Rattle.cu_shape.specs.Index.{product}

-- the type, the shape, and the elements in row-major order
pub record PlainArray : Type 0 where
  pub dtype : Dtype
  pub dims : List ℕ
  pub cells : List ℤ

-- as many elements as the shape says, each of the type
pub record IsPlain (a : PlainArray) : Type 0 where
  pub count : length a.cells ≡ product a.dims
  pub cells : All (InRange a.dtype) a.cells
