-- The steps that copy arrays into other chunks (this project's own rule): one copy, or two by way of an array between.
use Rattle.std.specs.Prelude.{◌≡◌, ℕ, ◌+◌, ◌*◌, ◌<◌, ◌≤◌, ◌^◌, true, List, [], ◌∷◌, ◌++◌, All, filter, length, max, None, sum_by, if◌then◌else◌}
use Rattle.cu_num.specs.Dtype.{size_of}
use Rattle.cu_shape.specs.Index.{product}
use Rattle.cu_copy.specs.Chunks.{chunk_count}
use Rattle.cu_copy.specs.Copies.{IsRechunk, between, greater_chunk, is_misaligned, is_one_copy, rechunked, staging}
use Rattle.cu_copy.specs.declared.copies.Rechunk.{Rechunk}
use Rattle.cu_grid.specs.Grid.{IsGrid}
use Rattle.cu_node.specs.declared.info.NodeInfo.{NodeInfo}
use Rattle.cu_op.specs.declared.operation.Op.TheVariants.{Copy}
use Rattle.cu_rechunk.specs.declared.staging.Staging.{Staging}
pub use Rattle.cu_lower_reduce.specs.Steps.{is_copy}
use Rattle.cu_lower_reduce.specs.Steps.{all_made, grid_of, last_made, step_tasks}
use Rattle.cu_lower_reduce.specs.declared.copy.CopySetting.{CopySetting}
use Rattle.cu_lower_reduce.specs.declared.step.Step.{Step}
use Rattle.cu_node.specs.Info.{chunk_bytes}

-- ---- one array

-- Array number `source`, of which `from` is known, copied in regions of this size to array number `out`, of which `made` is. It needs the
-- greater of their chunks as scratch, and a region.
abbrev pub copied : ℕ → ℕ → ℕ → List ℕ → NodeInfo → NodeInfo → Step
copied reserved source out region from made = record {
  op = Copy region source out;
  values = None;
  made = made;
  need = reserved + max (chunk_bytes from) (chunk_bytes made) + product region * size_of from.dtype;
}

-- by these stages: one copy where the regions that are read are those that are written, and else two
abbrev pub staged_steps : CopySetting → ℕ → Rechunk → Staging → List Step
staged_steps s source r st =
    if is_one_copy st then copied s.reserved source s.first st.write r.source (rechunked r) ∷ []
    else copied s.reserved source s.first st.read r.source (between r st) ∷ copied s.reserved s.first (s.first + 1) st.write (between r st) (rechunked r) ∷ []

abbrev pub copy_steps : CopySetting → ℕ → Rechunk → List Step
copy_steps s source r = staged_steps s source r (staging s.most r)

-- ---- the arrays that an operation reads in chunks that it tells

-- the copies of an array that has other chunks; one that has these chunks is read as it is
abbrev pub operand_steps : CopySetting → ℕ → Rechunk → List Step
operand_steps s source r = if is_misaligned r then copy_steps s source r else []

-- the number of the array that is read
abbrev pub operand_place : CopySetting → ℕ → Rechunk → ℕ
operand_place s source r = if is_misaligned r then last_made s.first (copy_steps s source r) else source

-- where copies stand behind these
abbrev pub behind_steps : CopySetting → List Step → CopySetting
behind_steps s steps = record { first = s.first + length (all_made steps); reserved = s.reserved; most = s.most }

-- of each array in order
abbrev pub aligned_steps : CopySetting → List ℕ → List Rechunk → List Step
aligned_steps s (a ∷ ins) (r ∷ rs) = operand_steps s a r ++ aligned_steps (behind_steps s (operand_steps s a r)) ins rs
aligned_steps s ins rs = []

abbrev pub aligned_places : CopySetting → List ℕ → List Rechunk → List ℕ
aligned_places s (a ∷ ins) (r ∷ rs) = operand_place s a r ∷ aligned_places (behind_steps s (operand_steps s a r)) ins rs
aligned_places s ins rs = []

-- ---- what is taken for granted

-- the numbers of arrays and the bytes fit
pub record IsCopySetting (s : CopySetting) : Type 0 where
  pub reserved : s.reserved ≤ 2 ^ 40
  pub most : s.most ≤ 2 ^ 40
  pub room : s.first < 2 ^ 31

-- a rechunk each chunk of which has at most as many bytes as a region may have
pub record IsStaged (s : CopySetting) (r : Rechunk) : Type 0 where
  pub rechunk : IsRechunk r
  pub fits : greater_chunk r ≤ s.most

-- arrays in the chunks that are wanted of them, of which those that have others can be copied
pub record AreOperands (s : CopySetting) (rs : List Rechunk) : Type 0 where
  pub staged : All (IsStaged s) (filter is_misaligned rs)

-- ---- what copies come to

-- a copy that needs at most a chunk and a region of the greatest size
pub record IsCopyStep (s : CopySetting) (step : Step) : Type 0 where
  pub copy : is_copy step.op ≡ true
  pub need : step.need ≤ s.reserved + 2 * s.most

-- Copies, at most two for each of so many arrays, with so many tasks, whose arrays have grids and so many chunks.
pub record AreCopies (s : CopySetting) (arrays tasks cells : ℕ) (steps : List Step) : Type 0 where
  pub each : All (IsCopyStep s) steps
  pub few : length steps ≤ 2 * arrays
  pub grids : All (λ i. IsGrid (grid_of i)) (all_made steps)
  pub tasks_are : sum_by step_tasks steps ≡ tasks
  pub cells_are : sum_by chunk_count (all_made steps) ≡ cells
