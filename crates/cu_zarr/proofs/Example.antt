-- The definitions on the first worked example: six int32 numbers in chunks of four.
use Rattle.std.proofs.Common.{◌≡◌, ℕ, ◌+◌, ◌*◌, List, [], ◌∷◌, Option, Some, None, refl, codes, pos, negsuc, ℤ}
use Rattle.cu_num.specs.declared.types.Dtype.TheVariants.{Int32}
use Rattle.cu_num.specs.declared.layout.Encoding.TheVariants.{Plain, V2}
use Rattle.cu_num.specs.declared.layout.Sep.TheVariants.{Slash, Dot}
use Rattle.cu_num.specs.declared.layout.Endian.TheVariants.{Little}
use Rattle.cu_num.specs.Element.{element_at, element_bytes}
use Rattle.cu_num.specs.Wrap.{wrapped}
use Rattle.std.specs.Fmt.{digits}
use Rattle.cu_zarr.specs.Key.{chunk_key_of}
use Rattle.cu_zarr.specs.Layout.{ArrayLayout}
use Rattle.cu_zarr.specs.Metadata.{metadata_text}
use Rattle.cu_zarr.specs.Spelling.{spelled}
use Rattle.cu_zarr.specs.Stored.{element_in, stored_element}

unfoldable layout : ArrayLayout
layout = record { dtype = Int32; shape = 6 ∷ []; chunk = 4 ∷ []; encoding = Plain Slash; endian = Little; fill = pos 0 }

-- 11 at place 0, 22 at place 1, and so on
unfoldable elements : List ℕ → Option ℤ
elements [] = None
elements (i ∷ is) = Some (pos (11 * (i + 1)))

text : metadata_text layout ≡ codes "{\"chunk_grid\":{\"configuration\":{\"chunk_shape\":[4]},\"name\":\"regular\"},\"chunk_key_encoding\":{\"configuration\":{\"separator\":\"/\"},\"name\":\"default\"},\"codecs\":[{\"configuration\":{\"endian\":\"little\"},\"name\":\"bytes\"}],\"data_type\":\"int32\",\"fill_value\":0,\"node_type\":\"array\",\"shape\":[6],\"zarr_format\":3}"
unfolding layout digits
text = refl

first_chunk : spelled layout elements (0 ∷ []) ≡ Some (11 ∷ 0 ∷ 0 ∷ 0 ∷ 22 ∷ 0 ∷ 0 ∷ 0 ∷ 33 ∷ 0 ∷ 0 ∷ 0 ∷ 44 ∷ 0 ∷ 0 ∷ 0 ∷ [])
unfolding layout elements element_bytes wrapped
first_chunk = refl

-- past the edge stands the fill value
last_chunk : spelled layout elements (1 ∷ []) ≡ Some (55 ∷ 0 ∷ 0 ∷ 0 ∷ 66 ∷ 0 ∷ 0 ∷ 0 ∷ 0 ∷ 0 ∷ 0 ∷ 0 ∷ 0 ∷ 0 ∷ 0 ∷ 0 ∷ [])
unfolding layout elements element_bytes wrapped
last_chunk = refl

key : chunk_key_of (codes "y") (Plain Slash) (1 ∷ 20 ∷ []) ≡ codes "y/c/1/20"
unfolding digits
key = refl

key_v2 : chunk_key_of (codes "y") (V2 Dot) (1 ∷ 20 ∷ []) ≡ codes "y/1.20"
unfolding digits
key_v2 = refl

key_rank_0 : chunk_key_of (codes "y") (V2 Slash) [] ≡ codes "y/0"
key_rank_0 = refl

read : element_in layout (Some (11 ∷ 0 ∷ 0 ∷ 0 ∷ 254 ∷ 255 ∷ 255 ∷ 255 ∷ 33 ∷ 0 ∷ 0 ∷ 0 ∷ 44 ∷ 0 ∷ 0 ∷ 0 ∷ [])) (1 ∷ []) ≡ Some (negsuc 1)
unfolding layout element_at wrapped
read = refl

read_short : element_in layout (Some (11 ∷ 0 ∷ 0 ∷ [])) (1 ∷ []) ≡ None
unfolding layout digits
read_short = refl

read_absent : stored_element layout (codes "a") (λ key. None) (5 ∷ []) ≡ Some (pos 0)
unfolding layout digits
read_absent = refl
