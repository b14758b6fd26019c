-- What cells serve, and what their passes know. This project's own rules.
use Rattle.std.specs.Prelude.{◌≡◌, ℕ, zero, suc, ◌+◌, ◌*◌, ◌<◌, ◌≤◌, ◌^◌, Bool, IsTrue, false, ◌&&◌, ◌||◌, ◌==◌, if◌then◌else◌, List, [], ◌∷◌, length, take, drop, slice_index_or, Option, Some, None, option_map, All}
use Rattle.std.specs.Str.{bytes_eq}
use Rattle.std.specs.Option.{is_some}
use Rattle.cu_store.specs.Held.{Contents}
use Rattle.cu_store.specs.Yard.{bytes_under, is_made}
use Rattle.cu_store.specs.Share.{KeysDiffer, IsPromiseOf}
use Rattle.cu_store.specs.declared.depot.Got.{Got}
use Rattle.cu_store.specs.declared.depot.Got.TheVariants.{Absent, Held}
use Rattle.cu_store.specs.declared.yard.Spec.{Spec}
use Rattle.std.specs.Int.{w64, from_le_bytes}
use Rattle.cu_cells.specs.Layout.{Laid, word_count, word_total, first_word, flag_count, cell_size, value_at, is_named_cell}

-- the place of a key: that of its first spec
abbrev pub place_in : List Spec → List ℕ → Option ℕ
place_in [] key = None
place_in (s ∷ ss) key = if bytes_eq s.key key then Some 0 else option_map suc (place_in ss key)

-- the key at a place
abbrev pub spec_key : List Spec → ℕ → List ℕ
spec_key [] c = []
spec_key (s ∷ ss) zero = s.key
spec_key (s ∷ ss) (suc c) = spec_key ss c

-- how many bytes the value of the key at a place has
abbrev pub length_at : List Spec → ℕ → ℕ
length_at [] c = 0
length_at (s ∷ ss) zero = s.len
length_at (s ∷ ss) (suc c) = length_at ss c

-- the value of each made key has at most so many bytes
abbrev pub FitIn : List Spec → ℕ → Type 0
FitIn specs n = All (λ s. IsTrue s.made → s.len ≤ n) specs

-- whether a number is one of the list
abbrev pub has_number : List ℕ → ℕ → Bool
has_number [] n = false
has_number (x ∷ xs) n = (n == x) || has_number xs n

abbrev pub is_seen_place : List ℕ → Option ℕ → Bool
is_seen_place seen None = false
is_seen_place seen (Some c) = has_number seen c

-- whether a key is a made one with a promise, whose cell is one of these
abbrev pub has_cell_in : Laid → List ℕ → List ℕ → Bool
has_cell_in l cells key = is_made l.specs key && (is_some (bytes_under l.promise key) && is_seen_place cells (place_in l.specs key))

-- what the keys hold that are only read
abbrev pub entry_at : List (Option (List ℕ)) → Option ℕ → Option (List ℕ)
entry_at entries None = None
entry_at [] (Some c) = None
entry_at (e ∷ es) (Some zero) = e
entry_at (e ∷ es) (Some (suc c)) = entry_at es (Some c)

abbrev pub entries_in : Laid → List (Option (List ℕ)) → Contents
entries_in l entries key = if is_made l.specs key then None else entry_at entries (place_in l.specs key)

-- the layout may be used: no two keys are the same, and the promise is one of bytes, of each key's
-- length
pub record IsFair (l : Laid) : Type 0 where
  pub apart : KeysDiffer l.specs
  pub promise : IsPromiseOf l.specs (bytes_under l.promise)
  pub small : word_total l < 2 ^ 63

-- the first word of each cell
pub record AreStarts (l : Laid) (words : List ℕ) : Type 0 where
  pub count : length words ≡ flag_count l
  pub starts : (c d : ℕ) → c < flag_count l → slice_index_or words c d ≡ first_word l c

-- the cell of a made key, whose words start at `first` and are to hold these bytes
pub record IsLaidCell (l : Laid) (cell first : ℕ) (bytes : List ℕ) : Type 0 where
  pub less : cell < flag_count l
  pub named : IsTrue (is_named_cell l cell)
  pub start : first ≡ first_word l cell
  pub count : cell_size l cell ≡ word_count (length bytes)
  pub room : first + cell_size l cell < word_total l
  pub promised : (k : ℕ) → k < cell_size l cell → value_at l (first + k) ≡ from_le_bytes w64 (drop (8 * k) bytes)

-- An entry was copied as far as the buffer has room.
abbrev pub IsEntryCopied : Option (List ℕ) → List ℕ → List ℕ → Got → Type 0
IsEntryCopied None old new result = result ≡ Absent
IsEntryCopied (Some bytes) old new result = (result ≡ Held (length bytes)) × (take (length bytes) new ≡ take (length old) bytes) × (length new ≡ length old)
