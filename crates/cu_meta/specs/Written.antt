-- The parts of the one text in which the metadata of an array is written, in their order.
use Rattle.std.specs.Prelude.{ℕ, List, ◌++◌, codes}

-- the whole, from the texts of the chunks' shape, the encoding, the codec, the type's name, the fill value and the shape
abbrev pub text_of : List ℕ → List ℕ → List ℕ → List ℕ → List ℕ → List ℕ → List ℕ
text_of chunk encoding codec name fill shape = codes "{\"chunk_grid\":{\"configuration\":{\"chunk_shape\":" ++ chunk ++ codes "},\"name\":\"regular\"},\"chunk_key_encoding\":"
    ++ encoding ++ codes ",\"codecs\":[" ++ codec ++ codes "],\"data_type\":\"" ++ name
    ++ codes "\",\"fill_value\":" ++ fill ++ codes ",\"node_type\":\"array\",\"shape\":" ++ shape ++ codes ",\"zarr_format\":3}"
