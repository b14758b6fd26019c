-- The plan in which arrays are made where they are read, found array by array (this project's own
-- rule): what operations read is gone over in order. That these arrays are those which the rule
-- chooses, `merged_arrays_law` says.
use Rattle.std.specs.Prelude.{ℕ, ◌+◌, ◌==◌, ◌&&◌, not, Bool, false, List, [], ◌∷◌, ◌++◌, map, Option, Some, None, if◌then◌else◌}
use Rattle.cu_op.specs.Arrays.{maker_at}
use Rattle.cu_op.specs.Numbers.{stands_in}
use Rattle.cu_op.specs.Operation.{reads_by_chunk, reads_of, writes_one_chunk}
use Rattle.cu_op.specs.PlanView.{PlanView, op_of}
use Rattle.cu_op.specs.declared.operation.Planned.{Planned}
use Rattle.cu_fuse.specs.Inlining.{inlined_by, inlining, read_count}
use Rattle.cu_fuse.specs.Rooms.{fits_one_task}

-- ---- the tests of the rule

-- an operation makes the array, each of whose tasks writes one chunk of it and nothing else
abbrev pub is_made_by_chunk : PlanView → Option ℕ → Bool
is_made_by_chunk p None = false
is_made_by_chunk p (Some m) = writes_one_chunk (op_of p m)

abbrev pub may_be_inlined : PlanView → ℕ → ℕ → Bool
may_be_inlined p k a =
    is_made_by_chunk p (maker_at p.arrays a)
    && (not (a == p.out) && ((read_count p.ops a == 1) && reads_by_chunk p.arrays (op_of p k) a))

-- ---- array by array

-- operation k reads array a
pub record Reading : Type 0 where
  pub reader : ℕ
  pub array : ℕ

abbrev pub reading : ℕ → ℕ → Reading
reading k a = record { reader = k; array = a }

-- all that these operations read, of which the first has number k, in order
abbrev pub readings : ℕ → List Planned → List Reading
readings k [] = []
readings k (o ∷ os) = map (reading k) (reads_of o.op) ++ readings (k + 1) os

-- an array is inlined that may be, and with which its reader fits one task, where these are inlined
-- so far
abbrev pub reading_fits : PlanView → List ℕ → Reading → Bool
reading_fits p so_far r =
    may_be_inlined p r.reader r.array
    && fits_one_task (inlining p (stands_in (r.array ∷ so_far))) r.reader

abbrev pub with_next : (List ℕ → Reading → Bool) → List ℕ → Reading → List ℕ
with_next test so_far r = if test so_far r then r.array ∷ so_far else so_far

-- the arrays that are taken by such a test, one after another, where these are so far
abbrev pub taken : (List ℕ → Reading → Bool) → List ℕ → List Reading → List ℕ
taken test so_far [] = so_far
taken test so_far (r ∷ rs) = taken test (with_next test so_far r) rs

abbrev pub inlined_arrays : PlanView → List ℕ
inlined_arrays p = taken (reading_fits p) [] (readings 0 p.ops)

-- the plan in which they are inlined
abbrev pub inlined_of : PlanView → PlanView
inlined_of p = inlined_by p (stands_in (inlined_arrays p))
