-- The rule of the lock: one history, and what each seat knows of it. This project's own rule.
use Rattle.std.specs.Prelude.{◌≡◌, ◌≢◌, ◌⊎◌, ℕ, ◌<◌, ◌%◌, true, false, List, [], ◌∷◌, ◌++◌, length, Option, Some, slice_index}
use mathlib.Core.Option as opt
use lib.ListN.{get_elem?}
use Rattle.atomic_table.specs.Table.{State, Me}
use Rattle.cu_store.specs.declared.faults.TaskFault.{TaskFault}
use Rattle.cu_history.specs.declared.entry.Entry.{Entry}
use Rattle.cu_history.specs.History.{own, has_halt}
use Rattle.cu_lock.specs.declared.view.SeatView.{SeatView}
use Rattle.cu_lock.specs.declared.view.KnownFront.{KnownFront}
use Rattle.cu_lock.specs.Views.{informed, joined_numbers}

-- xs is a beginning of ys
abbrev pub IsPrefix : List Entry → List Entry → Type 0
IsPrefix xs ys = (rest : List Entry) × (ys ≡ xs ++ rest)

-- each element has the property
abbrev pub Each : {X : Type 0} → (X → Type 0) → List X → Type 0
Each P [] = Unit {0}
Each P (x ∷ xs) = P x × Each P xs

-- each entry is of a number below n
abbrev pub AllBelow : ℕ → List Entry → Type 0
AllBelow n = Each (λ e. e.worker < n)

-- each entry is of number n
abbrev pub AllOf : ℕ → List Entry → Type 0
AllOf n = Each (λ e. e.worker ≡ n)

-- what a seat knew that was joined: a beginning of the history with all entries of its number, and the fault of a Halt in it
abbrev pub IsKnownFront : List Entry → Option TaskFault → KnownFront → Type 0
IsKnownFront log fault k =
    IsPrefix k.front log × (own k.number log ≡ own k.number k.front) × (has_halt k.front ≡ true → k.fault ≡ fault)

-- What a live seat knows, where the state has this history and fault, and `holder` is the number of the seat that has the
-- turn. No entry has a number at or above the root's count of splits.
pub record Agrees (log : List Entry) (kept : Option TaskFault) (holder : opt.Option ℕ) (at : ℕ) (v : SeatView) : Type 0 where
  pub front : IsPrefix v.front log
  pub fault : has_halt v.front ≡ true → v.fault ≡ kept
  pub own : v.root ≡ false → own v.number log ≡ own v.number v.front
  pub turn : v.turn ≡ true → (holder ≡ opt.some at) × (v.front ≡ log) × (v.fault ≡ kept) × (v.root ≡ false)
  pub below : v.root ≡ true → AllBelow v.number log × Each (λ n. n < v.number) (joined_numbers v)
  pub joined : v.root ≡ true → Each (IsKnownFront log kept) v.joined

-- Two live seats: at most one is the root, their numbers differ, and those of the others are below the root's count of
-- splits and not among the numbers that it has joined.
pub record SeatsApart (v w : SeatView) : Type 0 where
  pub root : v.root ≡ true → w.root ≡ false
  pub numbers : v.root ≡ false → w.root ≡ false → v.number ≢ w.number
  pub below : v.root ≡ true → (w.number < v.number) × Each (λ n. n ≢ w.number) (joined_numbers v)

-- a seat of a worker, without the turn
abbrev pub IsWorker : SeatView → Type 0
IsWorker v = (v.live ≡ true) × (v.root ≡ false) × (v.turn ≡ false)

abbrev pub IsRoot : SeatView → Type 0
IsRoot v = (v.live ≡ true) × (v.root ≡ true) × (v.turn ≡ false)

-- of states with this history, this fault and this invariant
module _ {S : Type 0} (history : S → List Entry) (fault_of : S → Option TaskFault) (IsValid : S → Type 0) where
  -- the rule: what holds of the word, the slot and all views between any two steps
  pub record IsTurnState (s : State (Option S) SeatView) : Type 0 where
    -- the state as nobody's turn left it: at home, or out with the one seat that has the turn
    pub state : S
    pub valid : IsValid state
    -- the number of the seat that has the turn
    pub holder : opt.Option ℕ
    pub one_word : length s.words ≡ 1
    pub one_slot : length s.homes ≡ 1
    pub even : slice_index s.words 0 % 2 ≡ 0 → holder ≡ opt.none
    pub home : holder ≡ opt.none → get_elem? s.homes 0 ≡ opt.some (opt.some (Some state))
    pub out : (k : ℕ) → holder ≡ opt.some k → (v : SeatView) × (get_elem? s.views k ≡ opt.some v) × (v.live ≡ true) × (v.turn ≡ true)
    pub agree : (at : ℕ) (v : SeatView) → get_elem? s.views at ≡ opt.some v → v.live ≡ true → Agrees (history state) (fault_of state) holder at v
    pub apart : (i j : ℕ) (v w : SeatView) → i ≢ j → get_elem? s.views i ≡ opt.some v → get_elem? s.views j ≡ opt.some w
        → v.live ≡ true → w.live ≡ true → SeatsApart v w

  -- What a seat learns that takes the turn: the history begins with its front and has no other entry of its number, and
  -- the fault of a Halt that it knows is the state's.
  abbrev pub Learns : SeatView → S → Type 0
  Learns v x = IsValid x × IsPrefix v.front (history x) × (own v.number (history x) ≡ own v.number v.front)
      × (has_halt v.front ≡ true → v.fault ≡ fault_of x)

  -- the turn was taken, and the state with it
  abbrev pub TurnTaken : SeatView → Me (Option S) SeatView → Type 0
  TurnTaken v m = (x : S) × (m ≡ (informed v true (history x) (fault_of x), (0, Some x) ∷ [])) × Learns v x

  -- the word was `even`, and the turn was taken; or it was another, and nothing changed
  abbrev pub TakesTurn : Me (Option S) SeatView → ℕ → ℕ → Me (Option S) SeatView → Type 0
  TakesTurn m even found n = ((found ≡ even) × TurnTaken m.0 n) ⊎ ((found ≢ even) × (n ≡ m))

  -- what the state may become under the turn: entries of this seat's number are added, and the fault of a Halt stays
  abbrev pub Grows : SeatView → S → Type 0
  Grows v x = IsValid x × ((es : List Entry) × (history x ≡ v.front ++ es) × AllOf v.number es)
      × (has_halt v.front ≡ true → v.fault ≡ fault_of x)

  -- the state was given back, and the seat knows all of it
  abbrev pub FreesTurn : Me (Option S) SeatView → Me (Option S) SeatView → Type 0
  FreesTurn m n = (x : S) → m.1 ≡ (0, Some x) ∷ [] → n ≡ (informed m.0 false (history x) (fault_of x), [])
