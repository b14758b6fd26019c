-- Axes and limits, computed.
use Rattle.std.proofs.Common.{◌≡◌, ◌+◌, ◌^◌, true, false, pos, negsuc, [], ◌∷◌, Some, None, Ok, Err, refl}
use Rattle.cu_num.specs.declared.types.Dtype.TheVariants.{Int8, Int32, Uint8}
use Rattle.cu_node.specs.Axes.{axis_of, marked_of}
use Rattle.cu_node.specs.Info.{info_of}
use Rattle.cu_node.specs.Limited.{limit, limited, limited_beside}
use Rattle.cu_node.specs.Types.{in_range}

first_axis : axis_of (negsuc 2) 3 ≡ Some 0
first_axis = refl

no_axis : axis_of (negsuc 3) 3 ≡ None
no_axis = refl

past_the_axes : axis_of (pos 3) 3 ≡ None
past_the_axes = refl

two_axes : marked_of 3 (pos 1 ∷ negsuc 0 ∷ []) ≡ Some (false ∷ true ∷ true ∷ false ∷ false ∷ false ∷ [])
two_axes = refl

-- 2 and -1 are one axis of three
named_twice : marked_of 3 (pos 2 ∷ negsuc 0 ∷ []) ≡ None
named_twice = refl

scalar : limited Int32 [] [] ≡ Ok (info_of Int32 [] [])
scalar = refl

seven_axes : limited Int8 (1 ∷ 1 ∷ 1 ∷ 1 ∷ 1 ∷ 1 ∷ 1 ∷ []) (1 ∷ 1 ∷ 1 ∷ 1 ∷ 1 ∷ 1 ∷ 1 ∷ []) ≡ Err (limit 1)
seven_axes = refl

-- 2^40 elements are the most, also beside an axis of size 0
most_elements : limited Int8 (2 ^ 20 ∷ 0 ∷ 2 ^ 20 ∷ []) (2 ^ 14 ∷ 1 ∷ 2 ^ 14 ∷ []) ≡ Ok (info_of Int8 (2 ^ 20 ∷ 0 ∷ 2 ^ 20 ∷ []) (2 ^ 14 ∷ 1 ∷ 2 ^ 14 ∷ []))
most_elements = refl

one_more_element : limited Int8 (0 ∷ (2 ^ 40 + 1) ∷ []) (1 ∷ 2 ^ 28 ∷ []) ≡ Err (limit 2)
one_more_element = refl

most_bytes : limited Int32 (2 ^ 26 ∷ []) (2 ^ 26 ∷ []) ≡ Ok (info_of Int32 (2 ^ 26 ∷ []) (2 ^ 26 ∷ []))
most_bytes = refl

one_more_chunk : limited Int32 (65537 ∷ []) (1 ∷ []) ≡ Err (limit 4)
one_more_chunk = refl

-- the bytes of a chunk come before the count of chunks
too_many_bytes : limited Int32 (65537 ∷ 1 ∷ []) (1 ∷ (2 ^ 26 + 1) ∷ []) ≡ Err (limit 3)
too_many_bytes = refl

another_chunk_too_large : limited_beside false Int32 (65537 ∷ []) (1 ∷ []) ≡ Err (limit 3)
another_chunk_too_large = refl

greatest_byte : in_range Uint8 (pos 255) ≡ true
greatest_byte = refl

past_the_byte : in_range Uint8 (pos 256) ≡ false
past_the_byte = refl
