-- The bytes of a chunk (Zarr v3 core, "Regular grids"; the codec "bytes"): full length, row-major.
use Rattle.std.specs.Prelude.{ℕ, zero, suc, ℤ, List, [], ◌++◌, Option, Some, option_map, option_and_then, if◌then◌else◌}
use Rattle.cu_num.specs.Element.{element_bytes}
use Rattle.cu_shape.specs.Index.{product, is_inside}
use Rattle.cu_zarr.specs.Layout.{ArrayLayout, index_in_chunk}

-- the parts at the places below n, one after another, where each has one
abbrev pub parts_in_order : (ℕ → Option (List ℕ)) → ℕ → Option (List ℕ)
parts_in_order part zero = Some []
parts_in_order part (suc n) = option_and_then (λ front. option_map (λ last. front ++ last) (part n)) (parts_in_order part n)

-- the element at place p of the chunk: that of f inside the shape, and the fill value past the edge (this project's own rule)
abbrev pub padded_element : ArrayLayout → (List ℕ → Option ℤ) → List ℕ → ℕ → Option ℤ
padded_element l f coord p = if is_inside l.shape (index_in_chunk l coord p) then f (index_in_chunk l coord p) else Some l.fill

-- the one list of bytes of the chunk at this coordinate of an array whose elements are f; none where an element isn't defined
abbrev pub spelled : ArrayLayout → (List ℕ → Option ℤ) → List ℕ → Option (List ℕ)
spelled l f coord = parts_in_order (λ p. option_map (element_bytes l.endian l.dtype) (padded_element l f coord p)) (product l.chunk)
