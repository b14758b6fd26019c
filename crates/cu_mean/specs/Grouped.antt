-- What is kept of the elements of a group on the way.
use Rattle.std.specs.Prelude.{◌≡◌, ℤ, List}
use Rattle.cu_num.specs.declared.types.Dtype.{Dtype}
use Rattle.cu_num.specs.declared.folds.FoldKind.{FoldKind}
use Rattle.cu_mean.specs.Reductions.{kept_of, IsNone}
use Rattle.cu_mean.specs.declared.grouped.Members.{Members}

-- these elements are kept, and whether there are none
abbrev pub HasKept : FoldKind → Dtype → List ℤ → Members → Type 0
HasKept kind t xs members = (members.kept ≡ kept_of kind t xs) × IsNone xs members.none
