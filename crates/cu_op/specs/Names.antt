-- Names of arrays in a plan whose stored made arrays have the encoding "default" with "/" (this project's rule).
use Rattle.std.specs.Prelude.{◌≡◌, ◌≢◌, ℕ, ◌<◌, false, List, length, None}
use Rattle.cu_num.specs.declared.layout.Encoding.TheVariants.{Plain}
use Rattle.cu_num.specs.declared.layout.Sep.TheVariants.{Slash}
use Rattle.cu_op.specs.declared.layout.ArrayInfo.{ArrayInfo}
use Rattle.cu_op.specs.Arrays.{array_at, is_inlined, maker_at}

-- an array of the plan that is made and stored
pub record HasCells (arrays : List ArrayInfo) (a : ℕ) : Type 0 where
  pub within : a < length arrays
  pub made : maker_at arrays a ≢ None
  pub stored : is_inlined arrays a ≡ false

-- different such arrays have different prefixes
pub record HasOwnNames (arrays : List ArrayInfo) : Type 0 where
  pub encodings : (a : ℕ) → HasCells arrays a → (array_at arrays a).layout.encoding ≡ Plain Slash
  pub prefixes : (a b : ℕ) → HasCells arrays a → HasCells arrays b → (array_at arrays a).prefix ≡ (array_at arrays b).prefix → a ≡ b
