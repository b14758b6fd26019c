-- Which types a reduction accepts, and the type that it gives (Python array API, statistical and utility functions; the types of
-- sums and products are those of the widest integers of the same sign).
use Rattle.std.specs.Prelude.{true, if◌then◌else◌}
use Rattle.std.specs.Prelude.{Bool as Test}
use Rattle.cu_num.specs.Dtype.{is_integer, is_signed}
use Rattle.cu_num.specs.declared.types.Dtype.{Dtype}
use Rattle.cu_num.specs.declared.types.Dtype.TheVariants.{Bool, Int64, Uint64}
use Rattle.cu_num.specs.declared.folds.FoldKind.{FoldKind}
use Rattle.cu_num.specs.declared.folds.FoldKind.TheVariants.{Sum, Prod, Any, All}

-- sums, products, least and greatest numbers are of integers alone
abbrev pub fold_accepts : FoldKind → Dtype → Test
fold_accepts Any t = true
fold_accepts All t = true
fold_accepts kind t = is_integer t

-- the least and the greatest number have the type itself
abbrev pub fold_type : FoldKind → Dtype → Dtype
fold_type Sum t = if is_signed t then Int64 else Uint64
fold_type Prod t = if is_signed t then Int64 else Uint64
fold_type Any t = Bool
fold_type All t = Bool
fold_type kind t = t
