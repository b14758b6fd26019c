-- A seat in its place.
use Rattle.std.specs.Prelude.{◌≡◌, List, [], ◌∷◌}
use Rattle.atomic_table.specs.Seated.{TableId}
use Rattle.atomic_table.specs.declared.badge.Badge.{Badge}
use Rattle.cu_lock.specs.declared.view.SeatView.{SeatView}
use Rattle.cu_lock.specs.Views.{spent}

abbrev pub first_view : List SeatView → SeatView
first_view [] = spent
first_view (v ∷ vs) = v

abbrev pub seat_view : Badge SeatView → SeatView
seat_view b = first_view b.views

-- the seat is of this table, and has this view
abbrev pub IsSeat : TableId → SeatView → Badge SeatView → Type 0
IsSeat id v b = (b.table_id ≡ id) × (b.views ≡ v ∷ [])
