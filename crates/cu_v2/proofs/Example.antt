-- The definition on a worked example, and on texts with a fault.
use Rattle.std.proofs.Common.{◌≡◌, [], ◌∷◌, refl, codes, negsuc, pos, Ok, Err}
use Rattle.std.specs.Str.{is_utf8, chars}
use Rattle.serde_json.proofs.OnLiterals.{serde_json_on_literals}
use Rattle.cu_num.specs.declared.types.Dtype.TheVariants.{Int16, Bool}
use Rattle.cu_num.specs.declared.layout.Encoding.TheVariants.{V2}
use Rattle.cu_num.specs.declared.layout.Sep.TheVariants.{Slash, Dot}
use Rattle.cu_num.specs.declared.layout.Endian.TheVariants.{Little, Big}
use Rattle.cu_v2.specs.Fault.{coded}
use Rattle.cu_v2.specs.Zarray.{zarray_layout}

big : zarray_layout (codes "{\"chunks\":[2],\"compressor\":null,\"dtype\":\">i2\",\"fill_value\":-1,\"filters\":null,\"order\":\"C\",\"shape\":[4],\"zarr_format\":2}")
    ≡ Ok (record { dtype = Int16; shape = 4 ∷ []; chunk = 2 ∷ []; encoding = V2 Dot; endian = Big; fill = negsuc 0 })
unfolding zarray_layout serde_json_on_literals is_utf8 chars
big = refl

with_slash : zarray_layout (codes "{\"chunks\":[2],\"compressor\":null,\"dtype\":\">b1\",\"fill_value\":null,\"filters\":[],\"order\":\"C\",\"shape\":[4],\"zarr_format\":2,\"dimension_separator\":\"/\"}")
    ≡ Ok (record { dtype = Bool; shape = 4 ∷ []; chunk = 2 ∷ []; encoding = V2 Slash; endian = Little; fill = pos 0 })
unfolding zarray_layout serde_json_on_literals is_utf8 chars
with_slash = refl

blosc : zarray_layout (codes "{\"chunks\":[2],\"compressor\":{\"id\":\"blosc\"},\"dtype\":\">i2\",\"fill_value\":-1,\"filters\":null,\"order\":\"C\",\"shape\":[4],\"zarr_format\":2}") ≡ Err coded
unfolding zarray_layout serde_json_on_literals is_utf8 chars
blosc = refl
