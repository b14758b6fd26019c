-- What the words behind a command are: options, each with its value, and positionals. This
-- project's own rules, which are those of most programs of a command line.
use Rattle.std.specs.Prelude.{ℕ, ◌==◌, ◌&&◌, Bool, not, true, false, List, [], ◌∷◌, map, bytes_eq}
use Rattle.std.specs.Prelude.{Option, Some, None, option_map, if◌then◌else◌}
use Rattle.std.specs.List.{before_first, after_first, list_any}

-- what a word before `--` is: `--` itself; an option, with what stands behind its `=`, if there is
-- one; none of these; or a word that begins with one `-`, which stands for nothing
pub data WordKind : Type 0 where
  ends : WordKind
  option : List ℕ → Option (List ℕ) → WordKind
  plain : WordKind
  stray : WordKind

-- by what follows `--`; the byte 61 is `=`
abbrev pub kind_after : List ℕ → WordKind
kind_after [] = ends
kind_after (c ∷ rest) =
    option (before_first (λ b. b == 61) (c ∷ rest))
    (if list_any (λ b. b == 61) (c ∷ rest)
    then Some (after_first (λ b. b == 61) (c ∷ rest)) else None)

-- the byte 45 is `-`, and `-` alone is a plain word
abbrev pub word_kind : List ℕ → WordKind
word_kind [] = plain
word_kind (c ∷ []) = plain
word_kind (c ∷ d ∷ rest) =
    if not (c == 45) then plain else if d == 45 then kind_after rest else stray

-- a part of the line: an option with its value, or a positional
pub data LinePart : Type 0 where
  valued : List ℕ → List ℕ → LinePart
  positional : List ℕ → LinePart

abbrev pub is_option_name : List (List ℕ) → List ℕ → Bool
is_option_name names name = list_any (λ n. bytes_eq n name) names

-- with one more part in front
abbrev pub and_part : LinePart → Option (List LinePart) → Option (List LinePart)
and_part part = option_map (λ parts. part ∷ parts)

-- an option that has its value, or waits for it
abbrev pub option_part : List ℕ → Option (List ℕ) → Option (List LinePart) → Option (List LinePart)
    → Option (List LinePart)
option_part name None behind valued_behind = valued_behind
option_part name (Some value) behind valued_behind = and_part (valued name value) behind

-- The parts of the words, where the options have these names. An option's value stands in its word,
-- or is the next word, which is plain. The first `--` ends the options, and all later words are
-- positionals. None where an option is unknown or has no value, or a word before `--` is stray. An
-- option that waits for its value stands before the words.
abbrev pub parts_by : WordKind → List (List ℕ) → List ℕ → List (List ℕ) → Option (List LinePart)
    → (List ℕ → Option (List LinePart)) → Option (List LinePart)
parts_by ends names word rest behind waiting = Some (map positional rest)
parts_by plain names word rest behind waiting = and_part (positional word) behind
parts_by stray names word rest behind waiting = None
parts_by (option name value) names word rest behind waiting =
    if is_option_name names name then option_part name value behind (waiting name) else None

-- a value in a word of its own
abbrev pub value_by : WordKind → Option (List LinePart) → Option (List LinePart)
value_by plain parts = parts
value_by kind parts = None

abbrev pub line_parts : List (List ℕ) → Option (List ℕ) → List (List ℕ) → Option (List LinePart)
line_parts names None [] = Some []
line_parts names (Some name) [] = None
line_parts names None (word ∷ rest) = parts_by (word_kind word) names word rest
    (line_parts names None rest) (λ name. line_parts names (Some name) rest)
line_parts names (Some name) (word ∷ rest) =
    value_by (word_kind word) (and_part (valued name word) (line_parts names None rest))

-- the values that are given to the option of this name, in order, and the positionals
abbrev pub values_given : List LinePart → List ℕ → List (List ℕ)
values_given [] name = []
values_given (valued n value ∷ rest) name =
    if bytes_eq n name then value ∷ values_given rest name else values_given rest name
values_given (positional word ∷ rest) name = values_given rest name

abbrev pub positionals_given : List LinePart → List (List ℕ)
positionals_given [] = []
positionals_given (valued n value ∷ rest) = positionals_given rest
positionals_given (positional word ∷ rest) = word ∷ positionals_given rest

abbrev pub is_stray : List ℕ → Bool
is_stray [] = false
is_stray (c ∷ []) = false
is_stray (c ∷ d ∷ rest) = c == 45 && not (d == 45)

-- a word before the first `--` is stray
abbrev pub stray_by : WordKind → Bool → Bool
stray_by ends later = false
stray_by stray later = true
stray_by kind later = later

abbrev pub has_stray : List (List ℕ) → Bool
has_stray [] = false
has_stray (word ∷ rest) = stray_by (word_kind word) (has_stray rest)
