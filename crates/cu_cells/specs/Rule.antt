-- What holds of the words of cells, and of what seats know, between any two steps. This project's
-- own rules.
use Rattle.std.specs.Prelude.{◌≡◌, ◌≢◌, ◌⊎◌, ℕ, ◌+◌, ◌<◌, ◌≤◌, Bool, IsTrue, true, false, List, [], ◌∷◌, ◌++◌, length, slice_index}
use mathlib.Core.Option.{some}
use lib.ListN.{get_elem?}
use Rattle.atomic_table.specs.Table.{State, Me, Step}
use Rattle.cu_cells.specs.Layout.{Laid, flag_count, first_word, cell_size, value_at, word_total, is_named_cell}

-- the number is one of the list
abbrev pub IsIn : List ℕ → ℕ → Type 0
IsIn [] n = ⊥
IsIn (x ∷ xs) n = (n ≡ x) ⊎ IsIn xs n

-- what a seat knows
pub record Viewed : Type 0 where
  -- whether the seat is in use: a seat that was joined knows nothing
  pub live : Bool
  pub laid : Laid
  -- the cells that it has seen
  pub seen : List ℕ
  -- the cells of its failed puts that have landed: their flags are set, and it goes on as if it
  -- hadn't seen them
  pub landed : List ℕ
  -- the words that it has stored
  pub stored : List ℕ

-- each word of a cell is the promised one
abbrev pub IsWhole : Laid → List ℕ → ℕ → Type 0
IsWhole l words c = (k : ℕ) → k < cell_size l c → slice_index words (first_word l c + k) ≡ value_at l (first_word l c + k)

-- the cell of a key that the promise names, whole
abbrev pub IsThere : Laid → List ℕ → ℕ → Type 0
IsThere l words c = IsWhole l words c × IsTrue (is_named_cell l c)

-- what a seat knows is so
pub record Knows (l : Laid) (words : List ℕ) (v : Viewed) : Type 0 where
  pub laid : v.laid ≡ l
  pub seen : (c : ℕ) → IsIn v.seen c → (c < flag_count l) × (slice_index words c ≢ 0)
  pub landed : (c : ℕ) → IsIn v.landed c → (c < flag_count l) × (slice_index words c ≢ 0)
  pub stored : (w : ℕ) → IsIn v.stored w → (flag_count l ≤ w) × (slice_index words w ≡ value_at l w)

-- A data word is 0 or the promised one; where a flag isn't 0, the promise names its key, and all
-- words of its cell are the promised ones; and what each seat in use knows is so.
pub record KeepsPromise {S : Type 0} (l : Laid) (s : State S Viewed) : Type 0 where
  pub size : length s.words ≡ word_total l
  pub words : (w : ℕ) → flag_count l ≤ w → (slice_index s.words w ≡ 0) ⊎ (slice_index s.words w ≡ value_at l w)
  pub flags : (c : ℕ) → c < flag_count l → slice_index s.words c ≢ 0 → IsThere l s.words c
  pub views : (id : ℕ) (v : Viewed) → get_elem? s.views id ≡ some v → v.live ≡ true → Knows l s.words v

-- the first seat
abbrev pub opening_view : Laid → Viewed
opening_view l = record { live = true; laid = l; seen = []; landed = []; stored = [] }

-- a seat that is in use no more
abbrev pub spent_view : Viewed
spent_view = record { live = false; laid = record { specs = []; promise = [] }; seen = []; landed = []; stored = [] }

-- two seats in one
abbrev pub both_views : Viewed → Viewed → Viewed
both_views a b = record { live = true; laid = a.laid; seen = a.seen ++ b.seen; landed = a.landed ++ b.landed; stored = a.stored ++ b.stored }

-- the seat has stored each word of a cell
abbrev pub HasStored : Viewed → ℕ → Type 0
HasStored v c = (k : ℕ) → k < cell_size v.laid c → IsIn v.stored (first_word v.laid c + k)

-- the seat knows the words of a cell: it has seen it, or stored them itself
abbrev pub KnowsCell : Viewed → ℕ → Type 0
KnowsCell v c = IsIn v.seen c ⊎ HasStored v c

-- ---- what steps tell

-- one word more was stored
abbrev pub StoresWord : {S : Type 0} → Step S → Me S Viewed → ℕ → Me S Viewed → Type 0
StoresWord st m n w = w ≡ (record { live = m.0.live; laid = m.0.laid; seen = m.0.seen; landed = m.0.landed; stored = st.word ∷ m.0.stored }, m.1)

-- the cell was seen
abbrev pub SeesCell : {S : Type 0} → Step S → Me S Viewed → ℕ → Me S Viewed → Type 0
SeesCell st m n w = w ≡ (record { live = m.0.live; laid = m.0.laid; seen = st.word ∷ m.0.seen; landed = m.0.landed; stored = m.0.stored }, m.1)

-- the cell of a failed put has landed
abbrev pub LandsCell : {S : Type 0} → Step S → Me S Viewed → ℕ → Me S Viewed → Type 0
LandsCell st m n w = w ≡ (record { live = m.0.live; laid = m.0.laid; seen = m.0.seen; landed = st.word ∷ m.0.landed; stored = m.0.stored }, m.1)

-- A flag that isn't 0 tells that the cell is there and the promise names its key. The flag of a
-- cell that was seen, or has landed, isn't 0.
abbrev pub LooksAt : {S : Type 0} → Step S → Me S Viewed → ℕ → Me S Viewed → Type 0
LooksAt st m n w = (n ≡ 0 → w ≡ m) × (n ≢ 0 → SeesCell st m n w × IsTrue (is_named_cell m.0.laid st.word)) × (IsIn m.0.seen st.word → n ≢ 0) × (IsIn m.0.landed st.word → n ≢ 0)

-- a word of a cell that was seen is the promised one, and so is a word that the seat has stored
abbrev pub ReadsWord : {S : Type 0} → Step S → Me S Viewed → ℕ → Me S Viewed → Type 0
ReadsWord st m n w = (w ≡ m) × ((c k : ℕ) → IsIn m.0.seen c → k < cell_size m.0.laid c → st.word ≡ first_word m.0.laid c + k → n ≡ value_at m.0.laid st.word) × (IsIn m.0.stored st.word → n ≡ value_at m.0.laid st.word)
