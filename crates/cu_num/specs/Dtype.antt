-- The element types of an array and their ranges (Python array API, data types).
use Rattle.std.specs.Prelude.{ℕ, ◌-◌, ◌^◌, true, false, not, ℤ, pos, neg_ℤ, ◌≤ℤ◌}
use Rattle.std.specs.Prelude.{Bool as Test}
use Rattle.cu_num.specs.declared.types.Dtype.{Dtype}
use Rattle.cu_num.specs.declared.types.Dtype.TheVariants.{Bool, Int8, Int16, Int32, Int64, Uint8, Uint16, Uint32, Uint64}

-- the bytes of an element
abbrev pub size_of : Dtype → ℕ
size_of Bool = 1
size_of Int8 = 1
size_of Int16 = 2
size_of Int32 = 4
size_of Int64 = 8
size_of Uint8 = 1
size_of Uint16 = 2
size_of Uint32 = 4
size_of Uint64 = 8

-- the bits of an element's value: one for a bool, else eight a byte
abbrev pub bit_width : Dtype → ℕ
bit_width Bool = 1
bit_width Int8 = 8
bit_width Int16 = 16
bit_width Int32 = 32
bit_width Int64 = 64
bit_width Uint8 = 8
bit_width Uint16 = 16
bit_width Uint32 = 32
bit_width Uint64 = 64

-- a signed integer type
abbrev pub is_signed : Dtype → Test
is_signed Int8 = true
is_signed Int16 = true
is_signed Int32 = true
is_signed Int64 = true
is_signed t = false

-- the type of truth values, and one of the eight integer types
abbrev pub is_bool : Dtype → Test
is_bool Bool = true
is_bool t = false

abbrev pub is_integer : Dtype → Test
is_integer t = not (is_bool t)

-- the least and the greatest number of the type
abbrev pub least : Dtype → ℤ
least Int8 = neg_ℤ (pos (2 ^ 7))
least Int16 = neg_ℤ (pos (2 ^ 15))
least Int32 = neg_ℤ (pos (2 ^ 31))
least Int64 = neg_ℤ (pos (2 ^ 63))
least t = pos 0

abbrev pub greatest : Dtype → ℤ
greatest Bool = pos 1
greatest Int8 = pos (2 ^ 7 - 1)
greatest Int16 = pos (2 ^ 15 - 1)
greatest Int32 = pos (2 ^ 31 - 1)
greatest Int64 = pos (2 ^ 63 - 1)
greatest Uint8 = pos (2 ^ 8 - 1)
greatest Uint16 = pos (2 ^ 16 - 1)
greatest Uint32 = pos (2 ^ 32 - 1)
greatest Uint64 = pos (2 ^ 64 - 1)

-- x is a number of the type
abbrev pub InRange : Dtype → ℤ → Type 0
InRange t x = (least t ≤ℤ x) × (x ≤ℤ greatest t)

-- one of the eight integer types
abbrev pub IsInteger : Dtype → Type 0
IsInteger Bool = ⊥
IsInteger t = Unit {0}

-- one of the four unsigned integer types
abbrev pub IsUnsigned : Dtype → Type 0
IsUnsigned Uint8 = Unit {0}
IsUnsigned Uint16 = Unit {0}
IsUnsigned Uint32 = Unit {0}
IsUnsigned Uint64 = Unit {0}
IsUnsigned t = ⊥
