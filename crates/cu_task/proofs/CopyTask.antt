-- A task of a copy: the one region that it reads.
use Rattle.cu_op.proofs.TaskCells.{fit_of}
use Rattle.cu_op.specs.Chunks.{walk}
use Rattle.cu_op.specs.PlanView.{PlanView, op_of}
use Rattle.cu_op.specs.Sound.{Sound}
use Rattle.cu_op.specs.TaskView.{IsReadAsIs}
use Rattle.cu_op.specs.Walks.{input_walks, walk_cells}
use Rattle.cu_op.specs.declared.cells.Cell.{Cell}
use Rattle.cu_op.specs.declared.walks.Walk.{Walk}
use Rattle.cu_task.proofs.Inside.{ones, stored_read, stored_tally}
use Rattle.cu_task.proofs.TaskKinds.{of_copy, OfCopy}
use Rattle.cu_task.specs.Calls.{chunk_tally, read_calls, read_tally}
use Rattle.cu_task.specs.Task.{IsCopy}
use Rattle.std.proofs.Common.{◌≡◌, inl, ℕ, ◌<◌, List, [], length, Contains, refl, sym, ◌∙◌, subst, arith}
use Rattle.std.specs.Prelude.{slice_index_or, sum_by}

-- its region, which is read as it is
pub record CopyWalk (p : PlanView) (k task : ℕ) (w : Walk) : Type 0 where
  pub copy : OfCopy p (op_of p k) task w
  pub listed : Contains (input_walks p.arrays (op_of p k) task) w
  pub as_is : IsReadAsIs p.arrays w
  pub calls : read_calls p k task ≡ length (walk_cells p.arrays w)
  pub tally : (weight : Cell → ℕ) → read_tally weight p k task ≡ sum_by weight (walk_cells p.arrays w)

pub copy_walk : (p : PlanView) (k task : ℕ) (w : Walk) → Sound p → k < length p.ops → IsCopy (op_of p k)
    → w ≡ slice_index_or (input_walks p.arrays (op_of p k) task) 0 (walk 0 [] []) → CopyWalk p k task w
copy_walk p k task w s below is same = record {
  copy = copy;
  listed = subst (λ (ws : List Walk). Contains ws w) (sym copy.walks) (0, omega arith, refl);
  as_is = as_is;
  calls = tally (λ c. 1) ∙ ones (λ c. 1) (walk_cells p.arrays w) (λ c there. refl);
  tally = tally;
}
  where
    copy : OfCopy p (op_of p k) task w
    copy = subst (OfCopy p (op_of p k) task) (sym same) (of_copy p k (op_of p k) task (fit_of p s k below) is)

    as_is : IsReadAsIs p.arrays w
    as_is = inl (stored_read p s k w.array below copy.among (copy.whole w.array))

    tally : (weight : Cell → ℕ) → read_tally weight p k task ≡ sum_by weight (walk_cells p.arrays w)
    tally weight = copy.tally weight (chunk_tally weight p k) ∙ stored_tally p s weight k w as_is
