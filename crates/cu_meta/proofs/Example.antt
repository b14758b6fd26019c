-- The definition on the first worked example, and on texts with a fault.
use Rattle.std.proofs.Common.{◌≡◌, [], ◌∷◌, refl, codes, pos, Ok, Err}
use Rattle.std.specs.Str.{is_utf8, chars}
use Rattle.serde_json.proofs.OnLiterals.{serde_json_on_literals}
use Rattle.cu_num.specs.declared.types.Dtype.TheVariants.{Int32}
use Rattle.cu_num.specs.declared.layout.Encoding.TheVariants.{Plain}
use Rattle.cu_num.specs.declared.layout.Sep.TheVariants.{Slash}
use Rattle.cu_num.specs.declared.layout.Endian.TheVariants.{Little}
use Rattle.cu_meta.specs.Fault.{json}
use Rattle.cu_meta.specs.Metadata.{read_metadata}

sample : read_metadata (codes "{\"chunk_grid\":{\"configuration\":{\"chunk_shape\":[4]},\"name\":\"regular\"},\"chunk_key_encoding\":{\"configuration\":{\"separator\":\"/\"},\"name\":\"default\"},\"codecs\":[{\"configuration\":{\"endian\":\"little\"},\"name\":\"bytes\"}],\"data_type\":\"int32\",\"fill_value\":0,\"node_type\":\"array\",\"shape\":[6],\"zarr_format\":3}")
    ≡ Ok (record { dtype = Int32; shape = 6 ∷ []; chunk = 4 ∷ []; encoding = Plain Slash; endian = Little; fill = pos 0 })
unfolding read_metadata serde_json_on_literals is_utf8 chars
sample = refl

no_object : read_metadata (codes "[1]") ≡ Err json
unfolding read_metadata serde_json_on_literals is_utf8 chars
no_object = refl
