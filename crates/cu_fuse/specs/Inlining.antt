-- Which arrays of a plan are made where they are read, and the plan where they are (this project's
-- own rule). Operations are taken in order, and each one's inputs from first to last.
use Rattle.std.specs.Prelude.{◌≡◌, ◌≢◌, ◌↔◌, ℕ, ◌≤◌, ◌==◌, ◌&&◌, ◌||◌, not, Bool, true, false, List, ◌++◌, length, map, take, slice_get, flat_map, count_by, sum_by, Some, is_some, if◌then◌else◌}
use Rattle.std.specs.List.{range_with_len}
use Rattle.cu_name.specs.Keys.{made_prefix_of}
use Rattle.cu_op.specs.declared.operation.Planned.{Planned}
use Rattle.cu_op.specs.Arrays.{array_at, is_inlined, maker_at}
use Rattle.cu_op.specs.Operation.{reads_of, writes_one_chunk, ReadsByChunk}
use Rattle.cu_op.specs.PlanView.{PlanView, op_of, operation_at}
use Rattle.cu_op.specs.Projection.{instruction_count, projection}
use Rattle.cu_op.specs.Within.{ops_within, stored_reads}
use Rattle.cu_op.specs.Numbers.{stands_in}

-- the plan in which these arrays are inlined, and no others
abbrev pub inlining : PlanView → (ℕ → Bool) → PlanView
inlining p inlined = record p {
  arrays = map (λ a. record (array_at p.arrays a) { inlined = inlined a })
      (range_with_len 0 (length p.arrays));
}

-- ---- which may be

-- how many inputs of operations the array is
abbrev pub read_count : List Planned → ℕ → ℕ
read_count ops a = sum_by (λ o. count_by (λ b. b == a) (reads_of o.op)) ops

-- An array that operation k reads: its maker writes one chunk of it in each task and nothing else.
-- It isn't the output, and this one input alone reads it in the whole plan. Each task of operation
-- k reads one chunk of it.
pub record MayBeInlined (p : PlanView) (k a : ℕ) : Type 0 where
  pub maker : (m : ℕ) × (maker_at p.arrays a ≡ Some m) × (writes_one_chunk (op_of p m) ≡ true)
  pub inner : a ≢ p.out
  pub once : read_count p.ops a ≡ 1
  pub chunk : ReadsByChunk p.arrays (op_of p k) a

-- operation k with what is inside its tasks has few instructions, reads few stored arrays, and
-- needs at most the memory that is allowed
pub record FitsOneTask (p : PlanView) (k : ℕ) : Type 0 where
  pub instructions : sum_by instruction_count (ops_within p k) ≤ 32
  pub reads : sum_by (stored_reads p.arrays) (ops_within p k) ≤ 8
  pub memory : projection p k ≤ p.allowed

-- ---- which are

-- what is read before input number i of operation k
abbrev pub earlier_reads : PlanView → ℕ → ℕ → List ℕ
earlier_reads p k i = flat_map (λ o. reads_of o.op) (take k p.ops) ++ take i (reads_of (op_of p k))

-- the plan in which array a, input number i of operation k, is inlined, and of the chosen arrays
-- those that are read before
abbrev pub trial : PlanView → (ℕ → Bool) → ℕ → ℕ → ℕ → PlanView
trial p chosen k i a = inlining p (λ b. b == a || (chosen b && stands_in (earlier_reads p k i) b))

-- An array is chosen where it may be inlined, and its reader then fits one task with all that is
-- inlined so far, this array too.
pub record IsInliningChoice (p : PlanView) (chosen : ℕ → Bool) : Type 0 where
  pub read : (k i a : ℕ) → slice_get (reads_of (op_of p k)) i ≡ Some a
      → (chosen a ≡ true) ↔ (MayBeInlined p k a × FitsOneTask (trial p chosen k i a) k)
  pub unread : (a : ℕ) → read_count p.ops a ≡ 0 → chosen a ≡ false

-- ---- the plan

-- a made array that stays stored, other than the output
abbrev pub is_numbered : PlanView → (ℕ → Bool) → ℕ → Bool
is_numbered p chosen a = is_some (maker_at p.arrays a) && (not (a == p.out) && not (chosen a))

-- such arrays are called `_cubed/NAME/K`, where K counts them from 0 and NAME is the output's name
abbrev pub prefix_where : PlanView → (ℕ → Bool) → ℕ → List ℕ
prefix_where p chosen a =
    if is_numbered p chosen a
    then made_prefix_of (array_at p.arrays p.out).prefix
    (count_by (is_numbered p chosen) (range_with_len 0 a))
    else (array_at p.arrays a).prefix

-- the plan in which the chosen arrays are inlined: the names of the others close up, and each
-- operation needs the memory of what is inside its tasks too
abbrev pub inlined_by : PlanView → (ℕ → Bool) → PlanView
inlined_by p chosen = record p {
  arrays = map
      (λ a. record (array_at p.arrays a) { prefix = prefix_where p chosen a; inlined = chosen a })
      (range_with_len 0 (length p.arrays));
  ops = map (λ k. record (operation_at p.ops k) { projected = projection (inlining p chosen) k })
      (range_with_len 0 (length p.ops));
}

-- q is the plan p in which arrays are inlined by the rule
pub record IsInlinedOf (p q : PlanView) : Type 0 where
  pub choice : IsInliningChoice p (is_inlined q.arrays)
  pub plan : q ≡ inlined_by p (is_inlined q.arrays)
