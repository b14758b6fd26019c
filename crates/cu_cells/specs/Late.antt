-- Puts on cells that failed and land at a later call of their pass. This project's own rules.
use Rattle.std.specs.Prelude.{◌≡◌, ℕ, zero, suc, ◌<◌, Bool, false, IsTrue, nat_lt, ◌==◌, ◌&&◌, ◌||◌, if◌then◌else◌, List, [], ◌∷◌, ◌++◌, length, Option, Some, None}
use Rattle.std.specs.Str.{bytes_eq}
use Rattle.cu_store.specs.Held.{Contents}
use Rattle.cu_store.specs.declared.yard.Spec.{Spec}
use Rattle.cu_cells.specs.Layout.{flag_count, is_named_cell}
use Rattle.cu_cells.specs.Rule.{Viewed, HasStored}
use Rattle.cu_cells.specs.Cells.{spec_key}
use Rattle.cu_cells.specs.declared.late.LateCell.{LateCell}
use Rattle.cu_cells.specs.declared.late.LatePut.{LatePut}

-- a late put behind those that wait after one call more, unless it is due
abbrev pub behind : LateCell → ℕ → List LateCell → List LateCell
behind l zero rest = rest
behind l (suc n) rest = record { cell = l.cell; wait = n } ∷ rest

-- the puts that are late after the next call: those that weren't due, which wait for one call less
abbrev pub cells_waiting : List LateCell → List LateCell
cells_waiting [] = []
cells_waiting (l ∷ ls) = behind l l.wait (cells_waiting ls)

-- whether a late put on the key lands at the next call
abbrev pub lands_now : List Spec → List LateCell → List ℕ → Bool
lands_now specs [] key = false
lands_now specs (l ∷ ls) key = (l.wait == 0 && bytes_eq (spec_key specs l.cell) key) || lands_now specs ls key

-- the cells that have landed once those have that are due
abbrev pub landed_by : List LateCell → List ℕ → List ℕ
landed_by [] landed = landed
landed_by (l ∷ ls) landed = landed_by ls (if l.wait == 0 then l.cell ∷ landed else landed)

-- the seat has stored the words of the cell, and the promise names its key
pub record IsPutOff (v : Viewed) (l : LateCell) : Type 0 where
  pub cell : l.cell < flag_count v.laid
  pub stored : HasStored v l.cell
  pub named : IsTrue (is_named_cell v.laid l.cell)

abbrev pub AreStored : Viewed → List LateCell → Type 0
AreStored v [] = Unit {0}
AreStored v (l ∷ ls) = IsPutOff v l × AreStored v ls

-- A put that fails and is to land is late too. A pass has places for eight, as many as a script has
-- rules, each of which lets one put land. Where all are taken, which wants a script that was set
-- while puts were late, it never lands.
abbrev pub with_late : List LateCell → Option ℕ → ℕ → List LateCell
with_late late None cell = late
with_late late (Some wait) cell = if nat_lt (length late) 8 then late ++ record { cell = cell; wait = wait } ∷ [] else late

-- the put that has been late longest, and those that are late without it: its key and its promised
-- bytes
pub record IsFirstLate (specs : List Spec) (promise : Contents) (old new : List LateCell) (p : LatePut) : Type 0 where
  pub first : LateCell
  pub rest : old ≡ first ∷ new
  pub key : p.key ≡ spec_key specs first.cell
  pub wait : p.wait ≡ first.wait
  pub bytes : promise (spec_key specs first.cell) ≡ Some p.bytes.items
