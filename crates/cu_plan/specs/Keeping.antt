-- What is kept of a plan by the steps that merge its operations and inline its arrays.
use Rattle.std.specs.Prelude.{◌≡◌, ◌≢◌, ◌⊎◌, ℕ, ◌^◌, ◌<◌, ◌≤◌, List, length, None}
use Rattle.cu_fuse.specs.Close.{HasInputsFirst}
use Rattle.cu_name.specs.Keys.{made_prefix_of}
use Rattle.cu_num.specs.declared.layout.Encoding.TheVariants.{Plain}
use Rattle.cu_num.specs.declared.layout.Sep.TheVariants.{Slash}
use Rattle.cu_op.specs.Arrays.{array_at, grid_at, maker_at}
use Rattle.cu_op.specs.Elements.{Elements}
use Rattle.cu_op.specs.Names.{HasCells, HasOwnNames}
use Rattle.cu_op.specs.PlanView.{PlanView, operation_at}
use Rattle.cu_op.specs.Sound.{Sound}
use Rattle.cu_op.specs.Value.{plan_value}
use Rattle.cu_shape.specs.Index.{IsInside}

-- an array is called as the output, or `_cubed/NAME/K` with the name of the output
abbrev pub IsMadeName : List ℕ → List ℕ → Type 0
IsMadeName name prefix =
    (prefix ≡ name) ⊎ ((k : ℕ) × (k < 2 ^ 64) × (prefix ≡ made_prefix_of name k))

-- The inputs, the first n arrays of plan p, are those of q; the result has its name, its layout and
-- its values; made arrays have names that tell them apart; and q is sound within the memory that p
-- is allowed.
pub record KeepsPlan (p : PlanView) (n : ℕ) (q : PlanView) : Type 0 where
  pub sound : Sound q
  pub allowed : q.allowed ≡ p.allowed
  pub needs : (k : ℕ) → k < length q.ops → (operation_at q.ops k).projected ≤ p.allowed
  pub inputs : (a : ℕ) → a < n → array_at q.arrays a ≡ array_at p.arrays a
  pub first : HasInputsFirst q n
  pub name : (array_at q.arrays q.out).prefix ≡ (array_at p.arrays p.out).prefix
  pub layout : (array_at q.arrays q.out).layout ≡ (array_at p.arrays p.out).layout
  pub output : maker_at q.arrays q.out ≢ None
  pub made : (a : ℕ) → HasCells q.arrays a
      → IsMadeName (array_at p.arrays p.out).prefix (array_at q.arrays a).prefix
  pub apart : HasOwnNames p.arrays → HasOwnNames q.arrays
  pub encodings : (a : ℕ) → HasCells q.arrays a
      → (array_at q.arrays a).layout.encoding ≡ Plain Slash
  pub value : (env : Elements) (idx : List ℕ) → IsInside (grid_at p.arrays p.out).shape idx
      → plan_value q env q.out idx ≡ plan_value p env p.out idx
