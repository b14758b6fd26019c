-- The tests of a type, as facts.
use Rattle.std.proofs.Common.{◌≡◌, IsTrue, refl, ap}
use Rattle.cu_num.specs.Dtype.{is_bool, is_integer, IsInteger}
use Rattle.cu_num.specs.declared.types.Dtype.{Dtype}
use Rattle.cu_num.specs.declared.types.Dtype.TheVariants.{Bool, Int8, Int16, Int32, Int64, Uint8, Uint16, Uint32, Uint64}

pub IsInteger-is_integer : (t : Dtype) → IsTrue (is_integer t) → IsInteger t
IsInteger-is_integer Bool h = cc
IsInteger-is_integer Int8 h = tt
IsInteger-is_integer Int16 h = tt
IsInteger-is_integer Int32 h = tt
IsInteger-is_integer Int64 h = tt
IsInteger-is_integer Uint8 h = tt
IsInteger-is_integer Uint16 h = tt
IsInteger-is_integer Uint32 h = tt
IsInteger-is_integer Uint64 h = tt

pub is_integer-IsInteger : (t : Dtype) → IsInteger t → IsTrue (is_integer t)
is_integer-IsInteger Bool h = absurd h
is_integer-IsInteger Int8 h = refl
is_integer-IsInteger Int16 h = refl
is_integer-IsInteger Int32 h = refl
is_integer-IsInteger Int64 h = refl
is_integer-IsInteger Uint8 h = refl
is_integer-IsInteger Uint16 h = refl
is_integer-IsInteger Uint32 h = refl
is_integer-IsInteger Uint64 h = refl

pub bool-is_bool : (t : Dtype) → IsTrue (is_bool t) → t ≡ Bool
bool-is_bool Bool h = refl
bool-is_bool Int8 h = cc
bool-is_bool Int16 h = cc
bool-is_bool Int32 h = cc
bool-is_bool Int64 h = cc
bool-is_bool Uint8 h = cc
bool-is_bool Uint16 h = cc
bool-is_bool Uint32 h = cc
bool-is_bool Uint64 h = cc

pub is_bool-bool : (t : Dtype) → t ≡ Bool → IsTrue (is_bool t)
is_bool-bool t e = ap is_bool e
