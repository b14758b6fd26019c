-- The value of each array of a plan, element by element: an input has its element of the environment, and a made array goes by
-- the operation that makes it. Where the rule reads an index that has no element, its own element isn't defined.
use Rattle.cu_op.specs.Elements.{Elements}
use Rattle.cu_num.specs.Dtype.{InRange}
use Rattle.cu_op.specs.Arrays.{array_at, maker_at, layout_at, type_at}
use Rattle.cu_op.specs.Kinds.{kind_of}
use Rattle.cu_op.specs.Operation.{writes_of}
use Rattle.cu_op.specs.PlanView.{PlanView, operation_at}
use Rattle.cu_op.specs.declared.layout.ArrayInfo.{ArrayInfo}
use Rattle.cu_op.specs.declared.operation.Op.{Op}
use Rattle.cu_op.specs.declared.operation.Planned.{Planned}
use Rattle.cu_zarr.specs.Stored.{stored_element}
use Rattle.std.specs.List.{list_any}
use Rattle.std.specs.Prelude.{◌≡◌, ℕ, ◌<◌, ℤ, List, [], ◌∷◌, length, Option, if◌then◌else◌, None, ◌==◌, Some, Contains}

-- the element that an operation gives to an array that it writes, over the elements of the arrays that it reads
abbrev pub rule : Op → List ArrayInfo → Elements → ℕ → List ℕ → Option ℤ
rule op arrays at array idx = (kind_of op).value arrays at array idx

-- the rule reads this array at this index
abbrev pub ReadsAt : Op → List ArrayInfo → List ℕ → ℕ → List ℕ → Type 0
ReadsAt op arrays idx a from = (kind_of op).reads_at arrays idx a from

-- the elements with those of the arrays that the operation writes
abbrev pub updated : Op → List ArrayInfo → Elements → Elements
updated op arrays at array idx = if list_any (λ a. a == array) (writes_of op) then rule op arrays at array idx else at array idx

-- the elements after the operations of a list, one after another
abbrev pub values_after : List Planned → List ArrayInfo → Elements → Elements
values_after [] arrays at = at
values_after (o ∷ os) arrays at = values_after os arrays (updated o.op arrays at)

abbrev pub plan_value : PlanView → Elements → Elements
plan_value p env = values_after p.ops p.arrays env

-- the elements of the inputs in what a store holds, where the bytes under each key are given
abbrev pub stored_inputs : List ArrayInfo → (List ℕ → Option (List ℕ)) → Elements
stored_inputs arrays held a idx = stored_element (layout_at arrays a) (array_at arrays a).prefix held idx

-- the environment gives each input numbers of its type
abbrev pub HasTypes : List ArrayInfo → Elements → Type 0
HasTypes arrays env = (a : ℕ) (idx : List ℕ) (x : ℤ) → a < length arrays → maker_at arrays a ≡ None → env a idx ≡ Some x → InRange (type_at arrays a) x

-- The same as equations: these elements are the environment's at each input, and at each array that an operation writes they are what
-- its rule makes of these elements themselves.
pub record Solves (p : PlanView) (env at : Elements) : Type 0 where
  pub inputs : (a : ℕ) (idx : List ℕ) → maker_at p.arrays a ≡ None → at a idx ≡ env a idx
  pub made : (k a : ℕ) (idx : List ℕ) → k < length p.ops → Contains (writes_of (operation_at p.ops k).op) a
      → at a idx ≡ rule (operation_at p.ops k).op p.arrays at a idx
