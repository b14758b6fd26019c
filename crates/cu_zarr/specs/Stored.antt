-- An element of a stored array (Zarr v3 core, "Regular grids", "Fill value"; the codec "bytes").
use Rattle.std.specs.Prelude.{ℕ, ◌==◌, ℤ, List, length, Option, Some, None, if◌then◌else◌}
use Rattle.cu_num.specs.Element.{element_at}
use Rattle.cu_shape.specs.Index.{place_of, quotients, remainders}
use Rattle.cu_zarr.specs.Key.{chunk_key_of}
use Rattle.cu_zarr.specs.Layout.{ArrayLayout, stored_chunk_bytes}

-- The element at this index of the array, in its chunk. A chunk that is absent has the fill value everywhere,
-- and one of another length has no element.
abbrev pub element_in : ArrayLayout → Option (List ℕ) → List ℕ → Option ℤ
element_in l None idx = Some l.fill
element_in l (Some bytes) idx = if length bytes == stored_chunk_bytes l then Some (element_at l.endian l.dtype bytes (place_of l.chunk (remainders idx l.chunk))) else None

-- the element at this index of the array with this name, where `held` has the bytes under each key
abbrev pub stored_element : ArrayLayout → List ℕ → (List ℕ → Option (List ℕ)) → List ℕ → Option ℤ
stored_element l name held idx = element_in l (held (chunk_key_of name l.encoding (quotients idx l.chunk))) idx
