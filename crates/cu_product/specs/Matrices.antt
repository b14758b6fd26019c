-- The product of two matrices whose elements are numbered in row-major order.
use Rattle.std.specs.Prelude.{ℕ, ◌+◌, ◌*◌, ◌<◌, ℤ, List}
use Rattle.cu_num.specs.Element.{element_at}
use Rattle.cu_num.specs.declared.types.Dtype.{Dtype}
use Rattle.cu_num.specs.declared.layout.Endian.TheVariants.{Little}
use Rattle.cu_reduce.specs.Numbers.{HasNumber}
use Rattle.cu_product.specs.Block.{inner_product}
use Rattle.cu_product.specs.declared.rows.MatrixSizes.{MatrixSizes}

-- the numbers that these bytes hold
abbrev pub numbers : Dtype → List ℕ → ℕ → ℤ
numbers t bytes at = element_at Little t bytes at

-- element j of a row of the product, where the row of the left matrix begins at 0
abbrev pub row_product : ℕ → ℕ → (ℕ → ℤ) → (ℕ → ℤ) → ℕ → ℤ
row_product inner columns left right j = inner_product left (λ q. right (q * columns + j)) inner

-- each element of the product is there
abbrev pub HasProducts : MatrixSizes → (ℕ → ℤ) → (ℕ → ℤ) → Dtype → List ℕ → Type 0
HasProducts sizes left right t out = (i j : ℕ) → i < sizes.rows → j < sizes.columns
    → HasNumber t out (i * sizes.columns + j) (row_product sizes.inner sizes.columns (λ q. left (i * sizes.inner + q)) right j)
