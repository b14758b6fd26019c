-- What the tasks of a plan read: chunks of arrays that are stored.
use Rattle.cu_op.proofs.Fetched.{fetched_same, fetched_stored}
use Rattle.cu_op.proofs.Members.{bool_cases}
use Rattle.cu_op.proofs.Plans.{own_region}
use Rattle.cu_op.specs.Arrays.{is_inlined, maker_at}
use Rattle.cu_op.specs.Cells.{regions_of, IsChunk}
use Rattle.cu_op.specs.InputCells.{input_cells}
use Rattle.cu_op.specs.PlanView.{PlanView, op_of}
use Rattle.cu_op.specs.Sound.{Sound, IsCell}
use Rattle.cu_op.specs.Within.{fetched_chunks}
use Rattle.cu_op.specs.declared.cells.Cell.{Cell}
use Rattle.cu_op.specs.declared.layout.ArrayInfo.{ArrayInfo}
use Rattle.cu_table.specs.Numbers.{IsTask}
use Rattle.std.proofs.Common.{◌≡◌, ◌≢◌, inl, inr, ℕ, ◌<◌, false, List, length, Contains, None}

-- a chunk of an array that is stored, whether it is given or made
abbrev pub IsStoredChunk : List ArrayInfo → Cell → Type 0
IsStoredChunk arrays c = IsChunk arrays c × (is_inlined arrays c.array ≡ false)

pub stored_cell : (arrays : List ArrayInfo) (c : Cell) → IsStoredChunk arrays c
    → maker_at arrays c.array ≢ None → IsCell arrays c.array c.coord
stored_cell arrays c at made = record { within = at.0.0; made = made; stored = at.1; coordinate = at.0.1 }

pub cell_chunk : (arrays : List ArrayInfo) (c : Cell) → IsCell arrays c.array c.coord
    → IsStoredChunk arrays c
cell_chunk arrays c piece = ((piece.within, piece.coordinate), piece.stored)

-- what is given is stored
pub given_stored : (p : PlanView) (a : ℕ) → Sound p → a < length p.arrays
    → maker_at p.arrays a ≡ None → is_inlined p.arrays a ≡ false
given_stored p a sound within given =
    elim (bool_cases (is_inlined p.arrays a)) [
      | inr stored ↦ stored
      | inl inner ↦ let m = (sound.inlined a within inner).maker in let e = m.1 in cc
    ]

module _ (p : PlanView) (sound : Sound p) (op task : ℕ) (is : IsTask p op task) where
  pub region : task < regions_of p.arrays (op_of p op)
  region = own_region p.arrays (op_of p op) task is.number

  pub read_stored : (c : Cell) → Contains (fetched_chunks p op task) c → IsStoredChunk p.arrays c
  read_stored c listed = fetched_stored p sound op task c is.operation region listed

  pub read_cell : (c : Cell) → Contains (fetched_chunks p op task) c → maker_at p.arrays c.array ≢ None
      → IsCell p.arrays c.array c.coord
  read_cell c listed made = stored_cell p.arrays c (read_stored c listed) made

  -- the input cells of a task are the chunks that it reads
  pub as_read : (c : Cell) → Contains (input_cells p op task) c → Contains (fetched_chunks p op task) c
  as_read c = (fetched_same p sound op task c is.operation region).1

  pub as_input : (c : Cell) → Contains (fetched_chunks p op task) c → Contains (input_cells p op task) c
  as_input c = (fetched_same p sound op task c is.operation region).0
