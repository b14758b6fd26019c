-- The keys of a stored array (Zarr v3 core, "Chunk key encoding").
use Rattle.std.specs.Prelude.{ℕ, List, [], ◌∷◌, ◌++◌, codes}
use Rattle.std.specs.Fmt.{decimal}
use Rattle.cu_num.specs.declared.layout.Encoding.{Encoding}
use Rattle.cu_num.specs.declared.layout.Encoding.TheVariants.{Plain, V2}
use Rattle.cu_num.specs.declared.layout.Sep.{Sep}
use Rattle.cu_num.specs.declared.layout.Sep.TheVariants.{Slash, Dot}

-- the separator as a character
abbrev pub separator : Sep → ℕ
separator Slash = 47
separator Dot = 46

-- each coordinate in decimal, with the separator in front
abbrev pub separated : ℕ → List ℕ → List ℕ
separated sep [] = []
separated sep (i ∷ is) = sep ∷ decimal i ++ separated sep is

-- "default" is `c`, then the separator and each coordinate; "v2" is the coordinates joined by the separator, and 0 for rank 0
abbrev pub coordinates : Encoding → List ℕ → List ℕ
coordinates (Plain sep) coord = codes "c" ++ separated (separator sep) coord
coordinates (V2 sep) [] = codes "0"
coordinates (V2 sep) (i ∷ is) = decimal i ++ separated (separator sep) is

-- the key of the chunk at this coordinate of the array with this name
abbrev pub chunk_key_of : List ℕ → Encoding → List ℕ → List ℕ
chunk_key_of name encoding coord = name ++ codes "/" ++ coordinates encoding coord

-- the key of the array's metadata
abbrev pub metadata_key_of : List ℕ → List ℕ
metadata_key_of name = name ++ codes "/zarr.json"

-- the key of the metadata of an array of version 2
abbrev pub zarray_key_of : List ℕ → List ℕ
zarray_key_of name = name ++ codes "/.zarray"
