-- Operations that can run one after another, over arrays that keep their numbers while some of them
-- are merged away (this project's own rule). It is what a sound plan says of its operations,
-- without their numbers.
use Rattle.std.specs.Prelude.{◌≡◌, ◌≢◌, ◌⊎◌, ℕ, ◌^◌, ◌<◌, List, [], ◌∷◌, ◌++◌, All, Contains, length, None}
use Rattle.cu_shape.specs.Index.{IsInside}
use Rattle.cu_op.specs.declared.layout.ArrayInfo.{ArrayInfo}
use Rattle.cu_op.specs.declared.operation.Op.{Op}
use Rattle.cu_op.specs.declared.operation.Planned.{Planned}
use Rattle.cu_op.specs.Arrays.{maker_at, grid_at}
use Rattle.cu_op.specs.Operation.{reads_of, writes_of, Fits}
use Rattle.cu_op.specs.Projection.{own_projection}
use Rattle.cu_op.specs.Elements.{Elements}
use Rattle.cu_op.specs.Value.{rule}

-- some operation of the list writes the array, and some one reads it
abbrev pub HasWriter : List Planned → ℕ → Type 0
HasWriter [] a = ⊥
HasWriter (o ∷ os) a = Contains (writes_of o.op) a ⊎ HasWriter os a

abbrev pub HasReader : List Planned → ℕ → Type 0
HasReader [] a = ⊥
HasReader (o ∷ os) a = Contains (reads_of o.op) a ⊎ HasReader os a

-- an input, or an array that an operation before writes
abbrev pub IsAtHand : List ArrayInfo → List Planned → ℕ → Type 0
IsAtHand arrays before a = (a < length arrays) × ((maker_at arrays a ≡ None) ⊎ HasWriter before a)

-- a made array that no operation before writes
abbrev pub IsNew : List ArrayInfo → List Planned → ℕ → Type 0
IsNew arrays before a = (a < length arrays) × (maker_at arrays a ≢ None) × (HasWriter before a → ⊥)

-- the operation can run behind these
pub record CanFollow (arrays : List ArrayInfo) (reserved : ℕ) (before : List Planned) (o : Planned)
    : Type 0 where
  pub reads : All (IsAtHand arrays before) (reads_of o.op)
  pub writes : All (IsNew arrays before) (writes_of o.op)
  pub fits : Fits arrays o.op
  pub projected : o.projected ≡ own_projection arrays reserved o.op
  pub room : o.projected < 2 ^ 64

-- the operations can run behind these, in order
abbrev pub CanRun : List ArrayInfo → ℕ → List Planned → List Planned → Type 0
CanRun arrays reserved before [] = Unit {0}
CanRun arrays reserved before (o ∷ os) =
    CanFollow arrays reserved before o × CanRun arrays reserved (before ++ o ∷ []) os

-- these elements are what an operation makes of them, at each index inside what it writes; and what
-- each does
abbrev pub IsMade : List ArrayInfo → Elements → Planned → Type 0
IsMade arrays at o = (a : ℕ) (idx : List ℕ) → Contains (writes_of o.op) a
    → IsInside (grid_at arrays a).shape idx → at a idx ≡ rule o.op arrays at a idx

abbrev pub AreMade : List ArrayInfo → Elements → List Planned → Type 0
AreMade arrays at [] = Unit {0}
AreMade arrays at (o ∷ os) = IsMade arrays at o × AreMade arrays at os

-- an operation over arrays of the plan, which it fits
pub record IsOverArrays (arrays : List ArrayInfo) (op : Op) : Type 0 where
  pub reads : All (λ a. a < length arrays) (reads_of op)
  pub writes : All (λ a. a < length arrays) (writes_of op)
  pub fits : Fits arrays op
