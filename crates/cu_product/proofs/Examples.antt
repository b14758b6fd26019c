-- Products of small matrices.
use Rattle.std.proofs.Common.{◌≡◌, ℕ, pos, negsuc, ℤ, List, [], ◌∷◌, refl}
use Rattle.cu_num.specs.Element.{element_at, element_bytes}
use Rattle.cu_num.specs.Wrap.{wrapped}
use Rattle.cu_num.specs.declared.types.Dtype.TheVariants.{Int8, Uint8}
use Rattle.cu_num.specs.declared.layout.Endian.TheVariants.{Little}
use Rattle.cu_product.specs.Block.{left_number, right_number, inner_product}
use Rattle.cu_product.specs.declared.block.MulDims.{MulDims}

-- one left row for two right columns of two
abbrev dims : MulDims
dims = record { batch = 2 ∷ []; left_batch = 1 ∷ []; right_batch = 2 ∷ []; m = 1; k = 2; n = 1 }

abbrev left : List ℕ
left = 1 ∷ 254 ∷ []

abbrev right : List ℕ
right = 3 ∷ 4 ∷ 5 ∷ 100 ∷ []

abbrev entry : List ℕ → ℤ
entry b = inner_product (left_number Int8 dims left b 0) (λ q. right_number Uint8 dims right b q 0) dims.k

-- 1 * 3 - 2 * 4
first : entry (0 ∷ []) ≡ negsuc 4
unfolding element_at wrapped
first = refl

-- 1 * 5 - 2 * 100, whose bytes are those of 61
second : entry (1 ∷ []) ≡ negsuc 194
unfolding element_at wrapped
second = refl

second_wraps : element_bytes Little Int8 (entry (1 ∷ [])) ≡ 61 ∷ []
unfolding element_at element_bytes wrapped
second_wraps = refl

-- 1 * 3 + 3 * 5 and 1 * 4 + 3 * 100, in a matrix of two columns
abbrev square : MulDims
square = record { batch = []; left_batch = []; right_batch = []; m = 2; k = 2; n = 2 }

abbrev entry_of_square : ℕ → ℕ → ℤ
entry_of_square i j = inner_product (left_number Uint8 square (1 ∷ 3 ∷ 0 ∷ 2 ∷ []) [] i) (λ q. right_number Uint8 square right [] q j) square.k

upper_right : entry_of_square 0 1 ≡ pos 304
unfolding element_at wrapped
upper_right = refl

lower_left : entry_of_square 1 0 ≡ pos 10
unfolding element_at wrapped
lower_left = refl

-- nothing sums to 0
no_inner_place : inner_product (left_number Uint8 square [] [] 0) (λ q. right_number Uint8 square [] [] q 0) 0 ≡ pos 0
no_inner_place = refl
