-- Products of blocks of matrices (Python array API, "Linear Algebra Functions": `matmul`): the axes before the matrix broadcast, and an
-- element is the sum over the inner axis of left times right.
use Rattle.std.specs.Prelude.{ℕ, ℤ, ◌*ℤ◌, List, [], ◌∷◌, ◌++◌, map}
use Rattle.std.specs.List.{range_with_len}
use Rattle.cu_num.specs.Element.{element_at}
use Rattle.cu_num.specs.declared.types.Dtype.{Dtype}
use Rattle.cu_num.specs.declared.layout.Endian.TheVariants.{Little}
use Rattle.cu_reduce.specs.Folds.{exact_sum}
use Rattle.cu_shape.specs.Index.{IsInside, place_of, back}
use Rattle.cu_product.specs.declared.block.MulDims.{MulDims}

-- the sizes of the blocks
abbrev pub left_sizes : MulDims → List ℕ
left_sizes d = d.left_batch ++ d.m ∷ d.k ∷ []

abbrev pub right_sizes : MulDims → List ℕ
right_sizes d = d.right_batch ++ d.k ∷ d.n ∷ []

abbrev pub product_sizes : MulDims → List ℕ
product_sizes d = d.batch ++ d.m ∷ d.n ∷ []

-- each index of the result has an index of the array that it reads through broadcasting
abbrev pub IsReadThrough : List ℕ → List ℕ → Type 0
IsReadThrough shape result = (idx : List ℕ) → IsInside result idx → IsInside shape (back shape idx)

-- the numbers that meet at one index of the axes before the matrix
abbrev pub left_number : Dtype → MulDims → List ℕ → List ℕ → ℕ → ℕ → ℤ
left_number t d bytes b i q = element_at Little t bytes (place_of (left_sizes d) (back d.left_batch b ++ i ∷ q ∷ []))

abbrev pub right_number : Dtype → MulDims → List ℕ → List ℕ → ℕ → ℕ → ℤ
right_number t d bytes b q j = element_at Little t bytes (place_of (right_sizes d) (back d.right_batch b ++ q ∷ j ∷ []))

-- the sum over the first inner places of the products of numbers
abbrev pub inner_product : (ℕ → ℤ) → (ℕ → ℤ) → ℕ → ℤ
inner_product left right inner = exact_sum (map (λ q. left q *ℤ right q) (range_with_len 0 inner))
