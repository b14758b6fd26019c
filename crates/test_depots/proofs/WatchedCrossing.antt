-- The yard of watched cells may be shared among threads, and its passes may go to another thread. It is shown field by field:
-- cells hold snapshots and lists with a fixed room, of which no proof is made where a call asks for one.
use denote.Builtin.{u8, u64, unit, usize}
use denote.Param.{number}
use denote.Param.Send.{IsSend, IsSync, sendable, view_sync, recorded_send, recorded_sync, struct_send, struct_sync}
use denote.Struct.Declared.{shape}
use Rattle.std.proofs.Crossing.{crosses, frees}
use Rattle.std.proofs.alloc.Global.TheSendSync as heap
use Rattle.std.specs.contracts.alloc.Global as Heap
use Rattle.std.specs.contracts.impls.GlobalAllocator.TheImpl.{ghosts}
use Rattle.std.specs.contracts.option.Option as Option
use Rattle.std.specs.contracts.snapshot.Snapshot as Snapshot
use Rattle.std.specs.contracts.vec.Vec as Vec
use Rattle.arrayvec.specs.contracts.array_vec.ArrayVec as ArrayVec
use Rattle.atomic_table.proofs.owned.Table.TheSendSync as table
use Rattle.atomic_table.proofs.shared.Seat.TheSendSync as seat
use Rattle.atomic_table.specs.contracts.owned.Table as Table
use Rattle.atomic_table.specs.contracts.shared.Seat as Seat
use Rattle.cu_store.proofs.yard.Spec.TheSendSync as spec
use Rattle.cu_store.specs.contracts.promise.Promise as Promise
use Rattle.cu_store.specs.contracts.yard.Spec as Spec
use Rattle.cu_cells.proofs.late.LateCell.TheSendSync as late
use Rattle.cu_cells.proofs.places.Places.TheSendSync as places
use Rattle.cu_cells.proofs.script.Counted.TheSendSync as counted
use Rattle.cu_cells.proofs.shared.ReadBytes.TheSendSync as entry
use Rattle.cu_cells.specs.contracts.late.LateCell as LateCell
use Rattle.cu_cells.specs.contracts.layout.CellLayout as CellLayout
use Rattle.cu_cells.specs.contracts.layout.CellLayout.TheInside as LayoutInside
use Rattle.cu_cells.specs.contracts.rule.CellsRule as CellsRule
use Rattle.cu_cells.specs.contracts.rule.CellsRuleTableRuleViewCellLayout.TheImpl as rule
use Rattle.cu_cells.specs.contracts.rule.View as View
use Rattle.cu_cells.specs.contracts.script.Counted as Counted
use Rattle.cu_cells.specs.contracts.script.Running as Running
use Rattle.cu_cells.specs.contracts.shared.CellPass as CellPass
use Rattle.cu_cells.specs.contracts.shared.Cells as Cells
use Rattle.cu_cells.specs.contracts.shared.ReadBytes as ReadBytes
use Rattle.test_depots.proofs.watched_yard.WatchedPass.TheSendSync as watched_pass
use Rattle.test_depots.proofs.watched_yard.WatchedYard.TheSendSync as watched_yard
use Rattle.test_depots.specs.contracts.watched_yard.WatchedPass as WatchedPass
use Rattle.test_depots.specs.contracts.watched_yard.WatchedYard as WatchedYard

-- ---- cells

promise_sync : IsSync (Snapshot.the_row Promise.the_row)
promise_sync = search crosses

specs_sync : IsSync (Vec.the_row Spec.the_row Heap.the_row ghosts)
specs_sync = search (spec.the_sync, crosses)

layout_sync : IsSync CellLayout.the_row
layout_sync = view_sync LayoutInside.the_row _ _ _ _
    (recorded_sync LayoutInside.the_field.row _ _ LayoutInside.the_type.to_one
    (struct_sync (shape LayoutInside.the_type) (specs_sync, (promise_sync, tt))))

starts_sync : IsSync (Vec.the_row usize Heap.the_row ghosts)
starts_sync = search (sendable, crosses) depth 20

entries_sync : IsSync (Vec.the_row ReadBytes.the_row Heap.the_row ghosts)
entries_sync = search (entry.the_sync, crosses)

bytes_sync : IsSync (Vec.the_row u8 Heap.the_row ghosts)
bytes_sync = search (sendable, crosses) depth 20

rooms_sync : IsSync (Vec.the_row (Vec.the_row u8 Heap.the_row ghosts) Heap.the_row ghosts)
rooms_sync = search (bytes_sync, crosses)

byte_send : IsSend u8
byte_send = search sendable depth 20

table_sync : IsSync (Table.the_field u8 View.the_row CellLayout.the_row CellsRule.the_row Heap.the_row (rule.ghosts u8) ghosts).row
table_sync =
    table.the_field_sync u8 View.the_row CellLayout.the_row CellsRule.the_row Heap.the_row (rule.ghosts u8) ghosts
    byte_send heap.the_send heap.the_sync frees

cells_sync : IsSync Cells.the_row
cells_sync = recorded_sync Cells.the_field.row _ _ Cells.the_type.to_one
    (struct_sync (shape Cells.the_type) (layout_sync, (places.the_sync, (starts_sync, (entries_sync, (rooms_sync, (table_sync, tt)))))))

-- ---- a pass

seat_send : IsSend (Seat.the_row u8 View.the_row)
seat_send = seat.the_send u8 View.the_row byte_send

known_send : IsSend (Snapshot.the_row (Vec.the_row ReadBytes.the_row Heap.the_row ghosts))
known_send = search crosses

count_send : IsSend u64
count_send = search sendable depth 20

rules_send : IsSend (ArrayVec.the_row Counted.the_row (number 8) unit)
rules_send = search (counted.the_send, sendable) depth 20

stop_send : IsSend (Option.the_field u64).row
stop_send = search sendable depth 20

script_send : IsSend Running.the_field.row
script_send = struct_send (shape Running.the_type) (rules_send, (stop_send, (count_send, tt)))

late_send : IsSend (ArrayVec.the_row LateCell.the_row (number 8) unit)
late_send = search (late.the_send, sendable) depth 20

pass_send : IsSend CellPass.the_row
pass_send = recorded_send CellPass.the_field.row _ _ CellPass.the_type.to_one
    (struct_send (shape CellPass.the_type) (seat_send, (known_send, (script_send, (late_send, (count_send, (count_send, tt)))))))

-- ---- both, watched

pub watched_cells_sync : IsSync (WatchedYard.the_row Cells.the_row CellPass.the_row)
watched_cells_sync = watched_yard.the_sync Cells.the_row CellPass.the_row cells_sync

pub watched_pass_send : IsSend (WatchedPass.the_row CellPass.the_row)
watched_pass_send = watched_pass.the_send CellPass.the_row pass_send
