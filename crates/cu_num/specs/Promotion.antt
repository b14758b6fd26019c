-- The type that two element types are promoted to (Python array API, type promotion).
use Rattle.std.specs.Prelude.{◌≡◌, ◌⊎◌, ℕ, ◌*◌, max, nat_lt, nat_eq, IsTrue, if◌then◌else◌, Option, Some, None}
use Rattle.cu_num.specs.Dtype.{is_signed, IsInteger}
use Rattle.cu_num.specs.declared.types.Dtype.{Dtype}
use Rattle.cu_num.specs.declared.types.Dtype.TheVariants.{Bool, Int8, Int16, Int32, Int64, Uint8, Uint16, Uint32, Uint64}

-- what the rule speaks of: a bool, or an integer type of some bits
pub data Kind : Type 0 where
  Truth : Kind
  Signed : ℕ → Kind
  Unsigned : ℕ → Kind

abbrev pub kind_of_type : Dtype → Kind
kind_of_type Bool = Truth
kind_of_type Int8 = Signed 8
kind_of_type Int16 = Signed 16
kind_of_type Int32 = Signed 32
kind_of_type Int64 = Signed 64
kind_of_type Uint8 = Unsigned 8
kind_of_type Uint16 = Unsigned 16
kind_of_type Uint32 = Unsigned 32
kind_of_type Uint64 = Unsigned 64

-- the type of that kind, where there is one
abbrev pub signed_type : ℕ → Option Dtype
signed_type w = if nat_eq w 8 then Some Int8 else (if nat_eq w 16 then Some Int16 else (if nat_eq w 32 then Some Int32 else (if nat_eq w 64 then Some Int64 else None)))

abbrev pub unsigned_type : ℕ → Option Dtype
unsigned_type w = if nat_eq w 8 then Some Uint8 else (if nat_eq w 16 then Some Uint16 else (if nat_eq w 32 then Some Uint32 else (if nat_eq w 64 then Some Uint64 else None)))

-- a signed type of s bits with an unsigned type of u bits
abbrev pub mixed_type : ℕ → ℕ → Option Dtype
mixed_type s u = signed_type (if nat_lt u s then s else 2 * u)

-- equal types stay; of two signed or two unsigned types the wider; mixed as above; no bool with an integer type (this project's rule)
abbrev pub promotion_of_kinds : Kind → Kind → Option Dtype
promotion_of_kinds Truth Truth = Some Bool
promotion_of_kinds Truth (Signed w) = None
promotion_of_kinds Truth (Unsigned w) = None
promotion_of_kinds (Signed w) Truth = None
promotion_of_kinds (Signed s) (Signed w) = signed_type (max s w)
promotion_of_kinds (Signed s) (Unsigned u) = mixed_type s u
promotion_of_kinds (Unsigned w) Truth = None
promotion_of_kinds (Unsigned u) (Signed s) = mixed_type s u
promotion_of_kinds (Unsigned u) (Unsigned w) = unsigned_type (max u w)

unfoldable pub promotion : Dtype → Dtype → Option Dtype
promotion a b = promotion_of_kinds (kind_of_type a) (kind_of_type b)

-- the pairs with no promotion: a bool with an integer type, and uint64 with a signed type
abbrev pub HasNoPromotion : Dtype → Dtype → Type 0
HasNoPromotion a b = ((a ≡ Bool) × IsInteger b) ⊎ (IsInteger a × (b ≡ Bool)) ⊎ ((a ≡ Uint64) × IsTrue (is_signed b)) ⊎ (IsTrue (is_signed a) × (b ≡ Uint64))
