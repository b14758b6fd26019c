-- Arrays that are made where they are read, on a worked example: how many of the int16 numbers of
-- [12, 4, 4], in chunks of [4, 4, 2], are above 20 along the first axis. The comparison's array is
-- made inside the tasks of the fold.
use Rattle.cu_num.specs.declared.folds.FoldKind.TheVariants.{Sum}
use Rattle.cu_num.specs.declared.functions.Fn2.TheVariants.{Greater}
use Rattle.cu_num.specs.declared.layout.Encoding.TheVariants.{Plain}
use Rattle.cu_num.specs.declared.layout.Endian.TheVariants.{Little}
use Rattle.cu_num.specs.declared.layout.Sep.TheVariants.{Slash}
use Rattle.cu_num.specs.declared.types.Dtype.{Dtype}
use Rattle.cu_num.specs.declared.types.Dtype.TheVariants.{Int16, Int32, Int64}
use Rattle.cu_op.specs.Cells.{regions_of, tasks_of}
use Rattle.cu_op.specs.Chunks.{cell}
use Rattle.cu_op.specs.Elements.{Elements}
use Rattle.cu_op.specs.InputCells.{input_cells}
use Rattle.cu_op.specs.PlanView.{PlanView}
use Rattle.cu_op.specs.Projection.{own_projection, projection}
use Rattle.cu_op.specs.Sound.{made_chunks}
use Rattle.cu_op.specs.Walks.{read_chunks}
use Rattle.cu_op.specs.Within.{fetched_chunks, listed_number, ops_within, stored_reads, with_inlined}
use Rattle.cu_op.specs.declared.kernel.Instr.TheVariants.{Const, Load, Select, Two}
use Rattle.cu_op.specs.declared.layout.ArrayInfo.{ArrayInfo}
use Rattle.cu_op.specs.declared.operation.Op.{Op}
use Rattle.cu_op.specs.declared.operation.Op.TheVariants.{Fold, Map, Merge}
use Rattle.std.proofs.Common.{◌≡◌, ℕ, zero, ◌+◌, Bool, true, false, List, [], ◌∷◌, Option, None, Some, codes, map, pos, refl}
use Rattle.std.specs.Prelude.{sum_by}

unfoldable array : Dtype → List ℕ → List ℕ → Option ℕ → Bool → ArrayInfo
array t shape chunk maker inlined = record {
  prefix = codes "a";
  layout = record { dtype = t; grid = record { shape = shape; chunk = chunk }; encoding = Plain Slash; endian = Little; fill = pos 0 };
  maker = maker;
  inlined = inlined;
}

unfoldable above : Op
above = Map (record { code = record { items = Load 0 ∷ Const (pos 20) ∷ Two Greater Int16 0 1 ∷ Select 2 2 2 ∷ [] } }) (record { items = 0 ∷ [] }) 1

unfoldable count : Op
count = Fold Sum (record { 0 = 1 }) 1 2

unfoldable total : Op
total = Merge Sum 0 4 2 3

unfoldable plan : Bool → PlanView
plan inlined = record {
  arrays = array Int16 (12 ∷ 4 ∷ 4 ∷ []) (4 ∷ 4 ∷ 2 ∷ []) None false
      ∷ array Int32 (12 ∷ 4 ∷ 4 ∷ []) (4 ∷ 4 ∷ 2 ∷ []) (Some 0) inlined
      ∷ array Int64 (3 ∷ 4 ∷ 4 ∷ []) (1 ∷ 4 ∷ 2 ∷ []) (Some 1) false
      ∷ array Int64 (4 ∷ 4 ∷ []) (4 ∷ 2 ∷ []) (Some 2) false ∷ [];
  ops = record { op = above; node = 2; projected = 2368 } ∷ record { op = count; node = 3; projected = 2432 } ∷ record { op = total; node = 3; projected = 384 } ∷ [];
  out = 3;
  allowed = 2432;
  reserved = 0;
}

-- each alone: chunks of 128 bytes, 512 for each of four instructions
alone : map (λ (o : Op). own_projection (plan true).arrays 0 o) (above ∷ count ∷ total ∷ []) ≡ 2368 ∷ 320 ∷ 384 ∷ []
unfolding plan above count total array
alone = refl

-- all stored, and with the comparison inside the fold: its chunk of 64 bytes, and its instructions
stored : map (projection (plan false)) (0 ∷ 1 ∷ 2 ∷ []) ≡ 2368 ∷ 320 ∷ 384 ∷ []
unfolding plan above count total array
stored = refl

inside : map (projection (plan true)) (0 ∷ 1 ∷ 2 ∷ []) ≡ 2368 ∷ 2432 ∷ 384 ∷ []
unfolding plan above count total array
inside = refl

within : ops_within (plan true) 1 ≡ count ∷ above ∷ []
unfolding plan above count total array
within = refl

reads : sum_by (stored_reads (plan true).arrays) (ops_within (plan true) 1) ≡ 1
unfolding plan above count total array
reads = refl

-- the comparison has no tasks of its own, and its array no cells
tasks : map (λ (o : Op). tasks_of (plan true).arrays o) (above ∷ count ∷ total ∷ []) ≡ 0 ∷ 6 ∷ 2 ∷ []
unfolding plan above count total array
tasks = refl

regions : regions_of (plan true).arrays above ≡ 6
unfolding plan above count total array
regions = refl

cells : map made_chunks (plan true).arrays ≡ 0 ∷ 0 ∷ 6 ∷ 2 ∷ []
unfolding plan above count total array
cells = refl

numbers : map (listed_number (plan true)) (1 ∷ 2 ∷ []) ≡ 0 ∷ 1 ∷ []
unfolding plan above count total array
numbers = refl

-- a task of the fold reads a chunk of the comparison, and so fetches a chunk of the numbers
read : read_chunks (plan true).arrays count 3 ≡ cell 1 (1 ∷ 0 ∷ 1 ∷ []) ∷ []
unfolding plan above count total array
read = refl

fetched : fetched_chunks (plan true) 1 3 ≡ cell 0 (1 ∷ 0 ∷ 1 ∷ []) ∷ []
unfolding plan above count total array
fetched = refl

needed : input_cells (plan true) 1 3 ≡ cell 0 (1 ∷ 0 ∷ 1 ∷ []) ∷ []
unfolding plan above count total array
needed = refl

-- the numbers 0, 1, .. along the first axis; there is nothing at the comparison's array
unfoldable given : Elements
given zero (i ∷ is) = Some (pos (i + 12))
given a idx = None

made : with_inlined (plan true) given 1 (9 ∷ 0 ∷ 0 ∷ []) ≡ Some (pos 1)
unfolding plan above count total array given
made = refl

unmade : with_inlined (plan true) given 2 (1 ∷ 0 ∷ 0 ∷ []) ≡ None
unfolding plan above count total array given
unmade = refl
