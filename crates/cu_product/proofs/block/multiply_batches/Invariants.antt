use Rattle.std.proofs.Common.{◌≡◌, ◌<◌, ◌++◌, ◌∷◌, [], List, ℕ, length}
use Rattle.cu_reduce.specs.Numbers.{HasNumber}
use Rattle.cu_shape.specs.Index.{place_of, IsInside}
use Rattle.cu_product.specs.Block.{product_sizes, left_number, right_number, inner_product}
use Rattle.cu_product.proofs.block.multiply_batches.Given as goal

abbrev pub invariant-loop-p : goal.invariant-loop-p
invariant-loop-p l = record {
  same_length : length l.out ≡ length l.fn.out;
  done : (b : List ℕ) (i j : ℕ) → IsInside l.fn.dims.batch b → place_of l.fn.dims.batch b < l.p → i < l.fn.dims.m → j < l.fn.dims.n
      → HasNumber l.fn.t l.out (place_of (product_sizes l.fn.dims) (b ++ i ∷ j ∷ [])) (inner_product (left_number l.fn.left_t l.fn.dims l.fn.left b i) (λ q. right_number l.fn.right_t l.fn.dims l.fn.right b q j) l.fn.dims.k);
}
