-- The words of the command line: a command, its options and its positionals. This project's own
-- rules.
use Rattle.std.specs.Prelude.{◌≡◌, ◌≤◌, ℕ, Bool, true, false, nat_eq, nat_lt, nat_le, ◌&&◌, List, [], ◌∷◌}
use Rattle.std.specs.Prelude.{length, Option, Some, None, is_some, unwrap_or, Result, Ok, Err}
use Rattle.std.specs.Prelude.{if◌then◌else◌}
use Rattle.std.specs.List.{list_all}
use Rattle.std.specs.Str.{all_ascii_digits}
use Rattle.std.specs.Str.Parse.{without_leading_plus, digits_value}
use Rattle.cu_words.specs.Line.{LinePart, line_parts, positionals_given, values_given}
use Rattle.cu_words.specs.Options.{OptionRow, command_named, option_names, option_row}
use Rattle.cu_words.specs.Options.{positional_count, required_of}
use Rattle.std.specs.Borrow.{Bor}
use Rattle.cu_words.specs.declared.line.CommandLine.{CommandLine}
use Rattle.cu_words.specs.declared.line.LineFault.{LineFault}
use Rattle.cu_words.specs.declared.line.LineFault.TheVariants.{Refused, NoMemory}
use Rattle.cu_words.specs.declared.line.Numbers.{Numbers}
use Rattle.cu_words.specs.declared.options.CommandName.{CommandName}
use Rattle.cu_words.specs.declared.options.OptionName.{OptionName}
use Rattle.cu_words.specs.declared.options.OptionName.TheVariants.{AllowedMem, ReservedMem}
use Rattle.cu_words.specs.declared.options.OptionName.TheVariants.{SplitEvery, Fusion, Workers}
use Rattle.cu_words.specs.declared.options.OptionName.TheVariants.{Retries, Backups, Sync}
use Rattle.cu_words.specs.declared.options.OptionName.TheVariants.{Op, From, To}

-- ---- numbers

-- a decimal number as Rust's `u64::from_str` reads it: one digit or more, which a plus may lead
abbrev pub is_decimal_number : List ℕ → Bool
is_decimal_number text =
    nat_lt 0 (length (without_leading_plus text)) && all_ascii_digits (without_leading_plus text)

-- the number of a text, where it is one from `least` to `most`
abbrev pub number_between : ℕ → ℕ → List ℕ → Option ℕ
number_between least most text =
    let n = digits_value 10 (without_leading_plus text) in
    if is_decimal_number text && (nat_le least n && nat_le n most) then Some n else None

-- the number of an option by the values that are given to it: by default that of its row; None
-- where a value is no number of its range, or there are two
abbrev pub number_by : OptionRow → List (List ℕ) → Option ℕ
number_by row [] = Some row.default
number_by row (text ∷ []) = number_between row.least row.most text
number_by row (a ∷ b ∷ more) = None

-- the size of a demonstration: from 1 to 2,048
abbrev pub demo_size : List ℕ → Option ℕ
demo_size text = number_between 1 2048 text

-- ---- options; `given` has the values of each

abbrev pub number_given : (OptionName → List (List ℕ)) → OptionName → Option ℕ
number_given given o = number_by (option_row o) (given o)

abbrev pub number_or_zero : (OptionName → List (List ℕ)) → OptionName → ℕ
number_or_zero given o = unwrap_or (number_given given o) 0

abbrev pub has_numbers : (OptionName → List (List ℕ)) → Bool
has_numbers given = list_all (λ o. is_some (number_given given o))
    (AllowedMem ∷ ReservedMem ∷ SplitEvery ∷ Fusion ∷ Workers ∷ Retries ∷ Backups ∷ Sync ∷ Op
    ∷ From ∷ To ∷ [])

-- the values in the parts of a line
abbrev pub option_values : List LinePart → OptionName → List (List ℕ)
option_values parts o = values_given parts (option_row o).name

-- the numbers of all options; None where one of them has none
abbrev pub numbers_given : (OptionName → List (List ℕ)) → Option Numbers
numbers_given given = if has_numbers given then Some (record {
  allowed_mem = number_or_zero given AllowedMem;
  reserved_mem = number_or_zero given ReservedMem;
  split_every = number_or_zero given SplitEvery;
  fusion = number_or_zero given Fusion;
  workers = number_or_zero given Workers;
  retries = number_or_zero given Retries;
  backups = number_or_zero given Backups;
  sync = number_or_zero given Sync;
  op = number_or_zero given Op;
  from = number_or_zero given From;
  to = number_or_zero given To;
}) else None

-- some value is given
abbrev pub has_setting : List (List ℕ) → Bool
has_setting [] = false
has_setting (value ∷ more) = true

-- each option is given that the command must have
abbrev pub has_required : CommandName → (OptionName → List (List ℕ)) → Bool
has_required command given = list_all (λ o. has_setting (given o)) (required_of command)

-- the numbers of a command; None where such an option is missing, too
abbrev pub numbers_for : CommandName → (OptionName → List (List ℕ)) → Option Numbers
numbers_for command given = if has_required command given then numbers_given given else None

-- a number of the option's range
abbrev pub IsInRow : OptionName → ℕ → Type 0
IsInRow o n = ((option_row o).least ≤ n) × (n ≤ (option_row o).most)

-- each number is one of its option's range
pub record AreInRange (n : Numbers) : Type 0 where
  pub allowed_mem : IsInRow AllowedMem n.allowed_mem
  pub reserved_mem : IsInRow ReservedMem n.reserved_mem
  pub split_every : IsInRow SplitEvery n.split_every
  pub fusion : IsInRow Fusion n.fusion
  pub workers : IsInRow Workers n.workers
  pub retries : IsInRow Retries n.retries
  pub backups : IsInRow Backups n.backups
  pub sync : IsInRow Sync n.sync
  pub op : IsInRow Op n.op
  pub from : IsInRow From n.from
  pub to : IsInRow To n.to

-- ---- the whole line

-- a command with the numbers of its options and with its positionals
pub record GivenLine : Type 0 where
  pub command : CommandName
  pub numbers : Numbers
  pub positionals : List (List ℕ)

abbrev pub line_with : CommandName → List (List ℕ) → Option Numbers → Result GivenLine ℕ
line_with command words None = Err 2
line_with command words (Some numbers) =
    if nat_eq (length words) (positional_count command)
    then Ok (record { command = command; numbers = numbers; positionals = words }) else Err 2

-- the line whose words have these parts, if any
abbrev pub line_in : CommandName → Option (List LinePart) → Result GivenLine ℕ
line_in command None = Err 2
line_in command (Some parts) =
    line_with command (positionals_given parts) (numbers_for command (option_values parts))

abbrev pub line_after : Option CommandName → List (List ℕ) → Result GivenLine ℕ
line_after None words = Err 1
line_after (Some command) words = line_in command (line_parts (option_names command) None words)

-- What the words give. Code 1: the command is missing or unknown. Code 2: an option, a number, its
-- range, or the count of positionals is wrong, or an option is missing.
unfoldable pub line_given : List (List ℕ) → Result GivenLine ℕ
line_given [] = Err 1
line_given (word ∷ words) = line_after (command_named word) words

-- ---- what the code holds

abbrev pub positionals_held : Option (Bor (List ℕ)) → List (List ℕ)
positionals_held None = []
positionals_held (Some word) = word.now ∷ []

abbrev pub line_view : CommandLine → GivenLine
line_view l =
    record { command = l.command; numbers = l.numbers; positionals = positionals_held l.name }

-- the words were read, they are refused with this code, or memory was wanted
abbrev pub IsLineRead : Result GivenLine ℕ → Result CommandLine LineFault → Type 0
IsLineRead line (Ok l) = line ≡ Ok (line_view l)
IsLineRead line (Err (Refused code)) = line ≡ Err code
IsLineRead line (Err NoMemory) = Unit {0}
