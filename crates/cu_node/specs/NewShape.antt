-- The sizes that a new shape may be written with (Python array API, `reshape`; the greatest size is this project's rule).
use Rattle.std.specs.Prelude.{ℕ, ◌^◌, ◌==◌, ◌&&◌, nat_le, ℤ, pos, negsuc, int_lt, Bool, true, List, count_by}
use Rattle.std.specs.List.{list_all}
use Rattle.cu_node.specs.declared.new_shape.NewShape.{NewShape}

-- a size of an axis
abbrev pub is_size : ℕ → Bool
is_size n = nat_le n (2 ^ 40)

-- a size of an axis of `reshape`, or -1, which stands for the size that is left
abbrev pub is_new_size : ℤ → Bool
is_new_size (pos n) = is_size n
is_new_size (negsuc n) = n == 0

-- such sizes, at most one of them -1
abbrev pub are_new_sizes : List ℤ → Bool
are_new_sizes sizes = list_all is_new_size sizes && nat_le (count_by (λ x. int_lt x (pos 0)) sizes) 1

-- the sizes are such, where the shape is written by its sizes
abbrev pub is_new_shape : NewShape → Bool
is_new_shape (NewShape.Sizes sizes) = are_new_sizes sizes
is_new_shape shape = true
