-- The operation of a plan that is a view. This project's own rules.
use Rattle.std.specs.Prelude.{◌≡◌, ℕ, pos, List}
use Rattle.cu_origin.specs.declared.provenance.Provenance.{Provenance}
use Rattle.cu_origin.specs.declared.provenance.Provenance.TheVariants.{Const}
use Rattle.cu_origin.specs.declared.pull.Pull.TheVariants.{Reshape}
use Rattle.cu_op.specs.declared.layout.ArrayInfo.{ArrayInfo}
use Rattle.cu_op.specs.declared.operation.Op.{Op}
use Rattle.cu_op.specs.declared.operation.Op.TheVariants.{Pull}
use Rattle.cu_op.specs.Arrays.{grid_at}
use Rattle.cu_op.specs.Kind.Pull.{origin_at}

-- the operation is a view
abbrev pub IsViewOperation : Op → Type 0
IsViewOperation (Pull pull ins out) = Unit {0}
IsViewOperation op = ⊥

-- from where the element of its result at this index comes; of an operation that isn't a view it means nothing
abbrev pub pull_origin : List ArrayInfo → Op → List ℕ → Provenance
pull_origin arrays (Pull pull ins out) idx = origin_at arrays pull ins.items out idx
pull_origin arrays op idx = Const (pos 0)

-- the view is a reshape
abbrev pub Reshapes : Op → Type 0
Reshapes (Pull pull ins out) = pull ≡ Reshape
Reshapes op = ⊥

-- the shape of an array of the plan
abbrev pub shape_at : List ArrayInfo → ℕ → List ℕ
shape_at arrays a = (grid_at arrays a).shape
