-- Where the words of cells lie, and what each is to hold. This project's own rules.
use Rattle.std.specs.Prelude.{ℕ, zero, suc, ◌+◌, ◌-◌, ◌/◌, List, [], ◌∷◌, ◌++◌, length, drop, Option, Some, None, Bool, true, false, ◌&&◌, get_or}
use Rattle.std.specs.Option.{is_some}
use Rattle.std.specs.Int.{w64, from_le_bytes}
use Rattle.cu_store.specs.Held.{Write}
use Rattle.cu_store.specs.Yard.{bytes_under}
use Rattle.cu_store.specs.declared.yard.Spec.{Spec}

-- the keys and the promise
pub record Laid : Type 0 where
  pub specs : List Spec
  pub promise : List Write

-- how many words so many bytes take
abbrev pub word_count : ℕ → ℕ
word_count bytes = (bytes + 7) / 8

-- the first n words of bytes, eight bytes a word, lowest first; past the end they are 0
abbrev pub words_of : List ℕ → ℕ → List ℕ
words_of bytes zero = []
words_of bytes (suc n) = from_le_bytes w64 bytes ∷ words_of (drop 8 bytes) n

-- the promised bytes of a key, nothing where none are promised
abbrev pub promised_bytes : Option (List ℕ) → List ℕ
promised_bytes None = []
promised_bytes (Some bytes) = bytes

-- the promised words of a cell; a key that is only read has none
abbrev pub cell_words : Bool → ℕ → List ℕ → List ℕ
cell_words false len bytes = []
cell_words true len bytes = words_of bytes (word_count len)

abbrev pub words_in : List Write → Spec → List ℕ
words_in promise s = cell_words s.made s.len (promised_bytes (bytes_under promise s.key))

-- the promised words of all cells, one behind another
abbrev pub data_words : List Write → List Spec → List ℕ
data_words promise [] = []
data_words promise (s ∷ ss) = words_in promise s ++ data_words promise ss

-- how many words the cells before this one have
abbrev pub offset : List Write → List Spec → ℕ → ℕ
offset promise [] c = 0
offset promise (s ∷ ss) zero = 0
offset promise (s ∷ ss) (suc c) = length (words_in promise s) + offset promise ss c

-- how many words a cell has
abbrev pub size_at : List Write → List Spec → ℕ → ℕ
size_at promise [] c = 0
size_at promise (s ∷ ss) zero = length (words_in promise s)
size_at promise (s ∷ ss) (suc c) = size_at promise ss c

-- ---- the table: a flag for each key, the words of all cells, and one spare word

abbrev pub flag_count : Laid → ℕ
flag_count l = length l.specs

abbrev pub first_word : Laid → ℕ → ℕ
first_word l c = flag_count l + offset l.promise l.specs c

abbrev pub cell_size : Laid → ℕ → ℕ
cell_size l c = size_at l.promise l.specs c

-- the promised value of a word
abbrev pub value_at : Laid → ℕ → ℕ
value_at l w = get_or (data_words l.promise l.specs) (w - flag_count l) 0

abbrev pub word_total : Laid → ℕ
word_total l = flag_count l + length (data_words l.promise l.specs) + 1

-- whether a cell is that of a made key that the promise names
abbrev pub named_at : List Write → List Spec → ℕ → Bool
named_at promise [] c = false
named_at promise (s ∷ ss) zero = s.made && is_some (bytes_under promise s.key)
named_at promise (s ∷ ss) (suc c) = named_at promise ss c

abbrev pub is_named_cell : Laid → ℕ → Bool
is_named_cell l c = named_at l.promise l.specs c
