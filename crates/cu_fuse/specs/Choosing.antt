-- A plan while the arrays are chosen that are made where they are read.
use Rattle.std.specs.Prelude.{◌≡◌, ◌⊎◌, ◌↔◌, ℕ, ◌^◌, ◌<◌, Bool, true, false, slice_get, Contains, Some}
use Rattle.cu_op.specs.Arrays.{is_inlined}
use Rattle.cu_op.specs.Operation.{reads_of}
use Rattle.cu_op.specs.PlanView.{PlanView, op_of}
use Rattle.cu_op.specs.Sound.{Sound}
use Rattle.cu_fuse.specs.Inlining.{earlier_reads, inlining, trial, FitsOneTask, MayBeInlined}
use Rattle.cu_fuse.specs.declared.choice.Choice.{Choice}

abbrev pub plan_view : Choice → PlanView
plan_view c = record {
  arrays = c.arrays.items;
  ops = c.ops.items;
  out = c.out;
  allowed = c.allowed;
  reserved = c.reserved;
}

-- the plan in which each array is stored
abbrev pub all_stored : PlanView → PlanView
all_stored c = inlining c (λ a. false)

-- input number n of operation j is taken before number i of operation k
abbrev pub IsEarlier : ℕ → ℕ → ℕ → ℕ → Type 0
IsEarlier j n k i = (j < k) ⊎ ((j ≡ k) × (n < i))

-- these are the arrays that are chosen before input number i of operation k
pub record IsInliningChoiceTo (p : PlanView) (chosen : ℕ → Bool) (k i : ℕ) : Type 0 where
  pub read : (j n a : ℕ) → IsEarlier j n k i → slice_get (reads_of (op_of p j)) n ≡ Some a
      → (chosen a ≡ true) ↔ (MayBeInlined p j a × FitsOneTask (trial p chosen j n a) j)
  pub only : (a : ℕ) → chosen a ≡ true → Contains (earlier_reads p k i) a

-- they are the inlined ones of the plan
pub record IsChosenTo (c : PlanView) (k i : ℕ) : Type 0 where
  pub sound : Sound (all_stored c)
  pub allowed : c.allowed < 2 ^ 64
  pub choice : IsInliningChoiceTo (all_stored c) (is_inlined c.arrays) k i
