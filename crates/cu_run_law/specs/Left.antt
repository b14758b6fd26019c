-- What a run of a plan finds, keeps and leaves. This project's own rule.
use Rattle.std.specs.Prelude.{◌≡◌, ◌⊎◌, ℕ, ◌<◌, List, length, Some, None}
use Rattle.cu_shape.specs.Index.{IsInside}
use Rattle.cu_store.specs.Held.{Contents, Write, IsAmong}
use Rattle.cu_store.specs.Steps.{Shown, Changes, Steps}
use Rattle.cu_op.specs.declared.cells.Cell.{Cell}
use Rattle.cu_op.specs.Arrays.{grid_at, maker_at}
use Rattle.cu_op.specs.Cells.{tasks_of}
use Rattle.cu_op.specs.PlanView.{PlanView}
use Rattle.cu_op.specs.Schedule.{op_of, key_of}
use Rattle.cu_op.specs.Sound.{Sound}
use Rattle.cu_op.specs.Elements.{Elements}
use Rattle.cu_op.specs.Value.{stored_inputs, HasTypes}
use Rattle.cu_run_law.specs.Pieces.{PlanRun, Piece, IsPiece, piece_key, piece_value, IsInputChunk, KeysApart, PieceChange, HoldsTask}

-- what is late: each put on a piece carries its value, and each on a chunk of an input what that chunk holds
pub record IsQuiet (r : PlanRun) (env : Elements) (held : Contents) (late : List Write) : Type 0 where
  pub pieces : (q : Piece) (bytes : List ℕ) → IsPiece r q → IsAmong late (piece_key r q) bytes → piece_value r env q ≡ Some bytes
  pub inputs : (c : Cell) (bytes : List ℕ) → IsInputChunk r.plan.arrays c → IsAmong late (key_of r.plan.arrays c) bytes → held (key_of r.plan.arrays c) ≡ Some bytes

-- Each piece of a sound plan, whose keys are apart, is absent or holds its one value. The elements of the inputs are these, each of
-- its array's type, and what is late changes neither.
pub record IsLeft (r : PlanRun) (env : Elements) (shown : Shown) : Type 0 where
  pub held : Contents
  pub told : shown.held ≡ Some held
  pub sound : Sound r.plan
  pub apart : KeysApart r
  pub typed : HasTypes r.plan.arrays env
  pub inputs : (a : ℕ) (idx : List ℕ) → a < length r.plan.arrays → maker_at r.plan.arrays a ≡ None → IsInside (grid_at r.plan.arrays a).shape idx
      → stored_inputs r.plan.arrays held a idx ≡ env a idx
  pub pieces : (q : Piece) → IsPiece r q → (held (piece_key r q) ≡ None) ⊎ ((bytes : List ℕ) × (held (piece_key r q) ≡ Some bytes) × (piece_value r env q ≡ Some bytes))
  pub quiet : IsQuiet r env held shown.late

-- two environments give each index inside an input the same element
abbrev pub AgreeOnInputs : PlanView → Elements → Elements → Type 0
AgreeOnInputs p env other = (a : ℕ) (idx : List ℕ) → a < length p.arrays → maker_at p.arrays a ≡ None → IsInside (grid_at p.arrays a).shape idx → env a idx ≡ other a idx

-- from one moment to another only values of pieces were put, late puts aside, by so many calls
abbrev pub Begun : PlanRun → Elements → ℕ → ℕ → Shown → Shown → Type 0
Begun r env least most old new = Steps (PieceChange r env) least most old new

-- A put under the key of a piece. Where the store was left so at a first moment, it is the piece's value.
abbrev pub RunChange : PlanRun → Shown → Changes
RunChange r first key value = (q : Piece) × (bytes : List ℕ) × IsPiece r q × (key ≡ piece_key r q) × (value ≡ Some bytes)
    × ((env : Elements) → IsLeft r env first → piece_value r env q ≡ Some bytes)

-- the tasks of the operations before k, and of operation k those before `task`
abbrev pub IsTaskBefore : PlanRun → ℕ → ℕ → ℕ → ℕ → Type 0
IsTaskBefore r k task l other = (l < length r.plan.ops) × (other < tasks_of r.plan.arrays (op_of r.plan l)) × ((l < k) ⊎ ((l ≡ k) × (other < task)))

-- each of them holds its chunks
abbrev pub AreDone : PlanRun → Elements → ℕ → ℕ → Shown → Type 0
AreDone r env k task shown = (l other : ℕ) → IsTaskBefore r k task l other → HoldsTask r env l other shown
