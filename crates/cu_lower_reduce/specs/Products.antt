-- The steps of a product of matrices (this project's own rule): a product for each chunk of the inner axis, and a merge for each round.
use Rattle.std.specs.Prelude.{◌≡◌, ℕ, ◌≤◌, ◌^◌, List, ◌∷◌, ◌++◌, map, length, Some, None, ℤ, Option}
use Rattle.std.specs.List.{range_with_len}
use Rattle.cu_num.specs.Dtype.{IsInteger}
use Rattle.cu_num.specs.Promotion.{promotion}
use Rattle.cu_num.specs.declared.folds.FoldKind.TheVariants.{Sum}
use Rattle.cu_reduce.specs.Products.{left_index, right_index}
use Rattle.cu_op.specs.Matrix.{batch_rank, rows_of, columns_of, left_inner, right_inner, batch_grid, product_at}
use Rattle.cu_op.specs.Aligned.{IsAligned}
use Rattle.cu_op.specs.declared.operation.Op.TheVariants.{Mul}
use Rattle.cu_node.specs.Info.{IsInfo, chunk_bytes}
use Rattle.cu_node.specs.declared.info.NodeInfo.{NodeInfo}
use Rattle.cu_tree.specs.Needs.{product_need}
use Rattle.cu_tree.specs.Partials.{product_partial, product_rounds, written_before}
use Rattle.cu_tree.specs.declared.round.Round.{Round}
use Rattle.cu_lower_reduce.specs.Reductions.{merges}
use Rattle.cu_lower_reduce.specs.Steps.{grid_of}
use Rattle.cu_lower_reduce.specs.declared.product.Product.{Product}
use Rattle.cu_lower_reduce.specs.declared.step.Setting.{Setting}
use Rattle.cu_lower_reduce.specs.declared.step.Step.{Step}

-- the product, and the merges
abbrev pub multiplied : Setting → Product → NodeInfo → List Round → List Step
multiplied s x partial rs =
    record {
      op = Mul x.left x.right s.first;
      values = None;
      made = written_before rs partial x.made;
      need = product_need s.reserved (chunk_bytes x.left_info) (chunk_bytes x.right_info) (chunk_bytes x.made);
    } ∷ merges s Sum x.made s.first partial rs

abbrev pub product_steps : Setting → Product → List Step
product_steps s x = multiplied s x (product_partial x.left_info x.made) (product_rounds s.split_every x.left_info x.made)

-- ---- what is multiplied

-- the products that are summed for an element of the product
abbrev pub inner_products : Product → (List ℕ → Option ℤ) → (List ℕ → Option ℤ) → List ℕ → List (Option ℤ)
inner_products x left right idx =
    map (λ k. product_at (left (left_index x.left_info.dims x.right_info.dims idx k)) (right (right_index x.left_info.dims x.right_info.dims idx k)))
    (range_with_len 0 (left_inner x.left_info.dims))

-- The operands are broadcast before the matrix, have their aligned chunks and agree on the inner axis; the result has their outer axes. The
-- right one may have any number of chunks.
pub record IsProduct (x : Product) : Type 0 where
  pub sizes : List ℕ
  pub chunks : List ℕ
  pub left : IsInfo x.left_info
  pub right_bytes : chunk_bytes x.right_info ≤ 2 ^ 28
  pub made : IsInfo x.made
  pub left_rank : 1 ≤ length x.left_info.dims
  pub right_rank : 1 ≤ length x.right_info.dims
  pub short : length x.made.dims ≤ 5
  pub integer : IsInteger x.made.dtype
  pub types : promotion x.left_info.dtype x.right_info.dtype ≡ Some x.made.dtype
  pub inner : left_inner x.left_info.dims ≡ right_inner x.right_info.dims
  pub inner_chunk : left_inner x.left_info.chunk ≡ right_inner x.right_info.chunk
  pub rank : length sizes ≡ batch_rank x.left_info.dims x.right_info.dims
  pub left_batch : IsAligned (batch_grid (grid_of x.left_info)) (record { shape = sizes; chunk = chunks })
  pub right_batch : IsAligned (batch_grid (grid_of x.right_info)) (record { shape = sizes; chunk = chunks })
  pub shape : x.made.dims ≡ sizes ++ rows_of x.left_info.dims ++ columns_of x.right_info.dims
  pub chunk : x.made.chunk ≡ chunks ++ rows_of x.left_info.chunk ++ columns_of x.right_info.chunk
