-- What a seat knows, and what its own steps make of it.
use Rattle.std.specs.Prelude.{ℕ, ◌+◌, Bool, true, false, List, [], ◌∷◌, map, Option, None}
use Rattle.cu_store.specs.declared.faults.TaskFault.{TaskFault}
use Rattle.cu_history.specs.declared.entry.Entry.{Entry}
use Rattle.cu_lock.specs.declared.view.SeatView.{SeatView}

-- the root, before any split
abbrev pub first_root : SeatView
first_root = record {
  live = true;
  root = true;
  turn = false;
  number = 0;
  front = [];
  fault = None;
  joined = [];
}

-- a seat that was joined
abbrev pub spent : SeatView
spent = record first_root { live = false; root = false }

-- the same seat, with or without the turn, where it knows this front and fault
abbrev pub informed : SeatView → Bool → List Entry → Option TaskFault → SeatView
informed v turn front fault = record v { turn = turn; front = front; fault = fault }

-- the root after a split, and the seat that it gives, which knows as much
abbrev pub split_root : SeatView → SeatView
split_root v = record v { number = v.number + 1 }

abbrev pub split_off : SeatView → SeatView
split_off v = record {
  live = true;
  root = false;
  turn = false;
  number = v.number;
  front = v.front;
  fault = v.fault;
  joined = [];
}

-- whether the first list is shorter than the second
abbrev pub is_shorter : List Entry → List Entry → Bool
is_shorter [] [] = false
is_shorter [] (y ∷ ys) = true
is_shorter (x ∷ xs) [] = false
is_shorter (x ∷ xs) (y ∷ ys) = is_shorter xs ys

abbrev pub either_informed : Bool → SeatView → SeatView → SeatView
either_informed true v w = informed v v.turn w.front w.fault
either_informed false v w = v

-- the longer of both fronts, with its fault
abbrev pub longer_front : SeatView → SeatView → SeatView
longer_front v w = either_informed (is_shorter v.front w.front) v w

-- the root after it has taken in another seat
abbrev pub root_joined : SeatView → SeatView → SeatView
root_joined v w = record v {
  front = (longer_front v w).front;
  fault = (longer_front v w).fault;
  joined = record { number = w.number; front = w.front; fault = w.fault } ∷ v.joined;
}

-- the numbers of the seats that the root has joined
abbrev pub joined_numbers : SeatView → List ℕ
joined_numbers v = map (λ k. k.number) v.joined
