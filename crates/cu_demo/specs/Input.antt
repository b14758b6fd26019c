-- The inputs of the demonstration, by their size. This project's own.
use Rattle.std.specs.Prelude.{ℕ, ◌+◌, ◌*◌, ◌%◌, min, ℤ, pos, List, [], ◌∷◌, map, codes}
use Rattle.std.specs.Prelude.{slice_index}
use Rattle.cu_num.specs.declared.layout.Encoding.TheVariants.{Plain}
use Rattle.cu_num.specs.declared.layout.Endian.TheVariants.{Little}
use Rattle.cu_num.specs.declared.layout.Sep.TheVariants.{Slash}
use Rattle.cu_num.specs.declared.types.Dtype.TheVariants.{Int32}
use Rattle.cu_op.specs.declared.layout.Layout.{Layout}
use Rattle.cu_shape.specs.Index.{indices_of}
use Rattle.cu_demo.specs.declared.input.DemoInput.{DemoInput}
use Rattle.cu_demo.specs.declared.input.DemoInput.TheVariants.{Rows, Columns}

abbrev pub demo_name : DemoInput → List ℕ
demo_name Rows = codes "demo_a"
demo_name Columns = codes "demo_b"

-- square, in chunks of at most 64 whole rows or columns
abbrev pub demo_shape : ℕ → List ℕ
demo_shape n = n ∷ n ∷ []

abbrev pub demo_chunk : DemoInput → ℕ → List ℕ
demo_chunk Rows n = min 64 n ∷ n ∷ []
demo_chunk Columns n = n ∷ min 64 n ∷ []

-- how it is stored
abbrev pub demo_layout : DemoInput → ℕ → Layout
demo_layout input n = record {
  dtype = Int32;
  grid = record { shape = demo_shape n; chunk = demo_chunk input n };
  encoding = Plain Slash;
  endian = Little;
  fill = pos 0;
}

-- the element at row i and column j
abbrev pub demo_element : DemoInput → ℕ → ℕ → ℕ
demo_element Rows i j = (3 * i + j) % 16 + i % 5
demo_element Columns i j = (i + 5 * j) % 16

-- the element at an index
abbrev pub demo_at : DemoInput → List ℕ → ℤ
demo_at input idx = pos (demo_element input (slice_index idx 0) (slice_index idx 1))

-- all elements, in row-major order
abbrev pub demo_elements : DemoInput → ℕ → List ℤ
demo_elements input n = map (demo_at input) (indices_of (demo_shape n))
