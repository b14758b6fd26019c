-- What cells serve and their passes know, and whose pass it is.
use Rattle.std.specs.Prelude.{◌≡◌, ℕ, Bool, true, false, if◌then◌else◌, List, [], length, map, Some}
use Rattle.cu_store.specs.Held.{Contents}
use Rattle.cu_store.specs.Yard.{bytes_under, Served, Known}
use Rattle.cu_store.specs.declared.yard.Spec.{Spec}
use Rattle.cu_cells.specs.Layout.{word_total}
use Rattle.cu_cells.specs.Cells.{has_cell_in, entries_in, IsFair, AreStarts}
use Rattle.cu_cells.specs.Late.{AreStored}
use Rattle.cu_cells.specs.Script.{Progress, progress}
use Rattle.cu_cells.specs.declared.late.LateCell.{LateCell}
use Rattle.cu_cells.specs.declared.shared.Cells.{Cells}
use Rattle.cu_cells.specs.declared.shared.CellPass.{CellPass}

abbrev pub served_by : Cells → Served
served_by y = record { specs = y.layout.specs; promise = Some (bytes_under y.layout.promise); entries = Some (entries_in y.layout y.entries.items) }

-- what the keys hold that are only read, as a pass knows it
abbrev pub known_entries : CellPass → Contents
known_entries p = entries_in p.seat.me.0.laid p.entries.value.items

abbrev pub known_of : CellPass → Known
known_of p = record {
  promise = bytes_under p.seat.me.0.laid.promise;
  entries = Some (known_entries p);
  lacks = false;
  seen = has_cell_in p.seat.me.0.laid p.seat.me.0.seen;
  faults = p.faults;
  calls = p.calls;
}

-- the script that says which calls of a pass fail
abbrev pub script_of : CellPass → Progress
script_of p = progress p.script

-- the cells of its failed puts that land later
abbrev pub waits_of : CellPass → List LateCell
waits_of p = p.late.items

-- the made keys of its failed puts that have landed: each is there, with the promised bytes
abbrev pub landed_of : CellPass → List ℕ → Bool
landed_of p = has_cell_in p.seat.me.0.laid p.seat.me.0.landed

-- A pass in use: it holds no slot, and the words of what lands later are stored.
pub record IsInUse (p : CellPass) : Type 0 where
  pub free : p.seat.me.1 ≡ []
  pub live : p.seat.me.0.live ≡ true
  pub late : AreStored p.seat.me.0 p.late.items

-- the parts of cells fit
pub record IsSound (y : Cells) : Type 0 where
  pub fair : IsFair y.layout
  pub places : y.places ≡ map (λ s. s.key) y.layout.specs
  pub starts : AreStarts y.layout y.starts.items
  pub entries : length y.entries.items ≡ length y.layout.specs
  pub key : y.table.shared.key ≡ y.layout
  pub size : y.table.shared.table_id.words ≡ word_total y.layout

-- the cells are sound, and the pass steps on their table and knows their layout and entries
pub record IsHandOf (y : Cells) (p : CellPass) : Type 0 where
  pub sound : IsSound y
  pub use_ : IsInUse p
  pub table : p.seat.table_id ≡ y.table.shared.table_id
  pub laid : p.seat.me.0.laid ≡ y.layout
  pub entries : p.entries.value ≡ y.entries

-- how many bytes the cells keep free to hand a key's value out
abbrev pub room_size : Spec → ℕ
room_size s = if s.made then s.len else 0

-- the same, and each made key has a room in which its value is handed out
pub record IsOwnPass (y : Cells) (p : CellPass) : Type 0 where
  pub hand : IsHandOf y p
  pub rooms : map (λ v. length v.items) y.rooms.items ≡ map room_size y.layout.specs

-- two passes in use step on one table, and know one layout and the same entries
pub record AreOfOneTable (p q : CellPass) : Type 0 where
  pub first : IsInUse p
  pub second : IsInUse q
  pub table : p.seat.table_id ≡ q.seat.table_id
  pub laid : p.seat.me.0.laid ≡ q.seat.me.0.laid
  pub entries : p.entries.value ≡ q.entries.value
