-- The options of the command line: one table, with a row for each. The numbers are this project's
-- own rules.
use Rattle.std.specs.Prelude.{ℕ, ◌^◌, ◌-◌, List, [], ◌∷◌, map, codes, bytes_eq, Option, Some, None}
use Rattle.std.specs.Prelude.{if◌then◌else◌}
use Rattle.cu_words.specs.declared.options.CommandName.{CommandName}
use Rattle.cu_words.specs.declared.options.CommandName.TheVariants.{Run, Resume, Drop, Plan, Print}
use Rattle.cu_words.specs.declared.options.CommandName.TheVariants.{Demo, Load, Check, Begin, Part}
use Rattle.cu_words.specs.declared.options.OptionName.{OptionName}
use Rattle.cu_words.specs.declared.options.OptionName.TheVariants.{AllowedMem, ReservedMem}
use Rattle.cu_words.specs.declared.options.OptionName.TheVariants.{SplitEvery, Fusion, Workers}
use Rattle.cu_words.specs.declared.options.OptionName.TheVariants.{Retries, Backups, Sync}
use Rattle.cu_words.specs.declared.options.OptionName.TheVariants.{Op, From, To}
use Rattle.cu_words.specs.declared.options.TableRow.{TableRow}

-- an option's name, the least and the most number that it takes, and its number where it isn't
-- given
pub record OptionRow : Type 0 where
  pub name : List ℕ
  pub least : ℕ
  pub most : ℕ
  pub default : ℕ

-- the table; memory is in bytes
abbrev pub option_row : OptionName → OptionRow
option_row AllowedMem =
    record { name = codes "allowed-mem"; least = 0; most = 2 ^ 40; default = 200000000 }
option_row ReservedMem = record { name = codes "reserved-mem"; least = 0; most = 2 ^ 40; default = 0 }
option_row SplitEvery = record { name = codes "split-every"; least = 2; most = 64; default = 4 }
option_row Fusion = record { name = codes "fusion"; least = 1; most = 2; default = 1 }
option_row Workers = record { name = codes "workers"; least = 1; most = 64; default = 1 }
option_row Retries = record { name = codes "retries"; least = 0; most = 8; default = 2 }
option_row Backups = record { name = codes "backups"; least = 0; most = 1; default = 0 }
option_row Sync = record { name = codes "sync"; least = 0; most = 1; default = 1 }
option_row Op = record { name = codes "op"; least = 0; most = 2 ^ 64 - 1; default = 0 }
option_row From = record { name = codes "from"; least = 0; most = 2 ^ 64 - 1; default = 0 }
option_row To = record { name = codes "to"; least = 0; most = 2 ^ 64 - 1; default = 0 }

-- the options that a command takes
abbrev pub options_of : CommandName → List OptionName
options_of Run =
    AllowedMem ∷ ReservedMem ∷ SplitEvery ∷ Fusion ∷ Workers ∷ Retries ∷ Backups ∷ Sync ∷ []
options_of Demo =
    AllowedMem ∷ ReservedMem ∷ SplitEvery ∷ Fusion ∷ Workers ∷ Retries ∷ Backups ∷ Sync ∷ []
options_of Resume =
    AllowedMem ∷ ReservedMem ∷ SplitEvery ∷ Fusion ∷ Workers ∷ Retries ∷ Backups ∷ Sync ∷ []
options_of Drop = AllowedMem ∷ ReservedMem ∷ SplitEvery ∷ Fusion ∷ Retries ∷ []
options_of Begin = AllowedMem ∷ ReservedMem ∷ SplitEvery ∷ Fusion ∷ Retries ∷ Sync ∷ []
options_of Part =
    AllowedMem ∷ ReservedMem ∷ SplitEvery ∷ Fusion ∷ Retries ∷ Sync ∷ Op ∷ From ∷ To ∷ []
options_of Plan = AllowedMem ∷ ReservedMem ∷ SplitEvery ∷ Fusion ∷ []
options_of Load = Retries ∷ Sync ∷ []
options_of command = Retries ∷ []

-- those without which it is refused: which tasks of which operation are a part
abbrev pub required_of : CommandName → List OptionName
required_of Part = Op ∷ From ∷ To ∷ []
required_of command = []

abbrev pub option_names : CommandName → List (List ℕ)
option_names command = map (λ o. (option_row o).name) (options_of command)

-- how many positionals follow a command: the name of an array behind `print`, a size behind `demo`
abbrev pub positional_count : CommandName → ℕ
positional_count Print = 1
positional_count Demo = 1
positional_count command = 0

-- the command that a word names
abbrev pub command_named : List ℕ → Option CommandName
command_named word =
    if bytes_eq word (codes "run") then Some Run
    else if bytes_eq word (codes "resume") then Some Resume
    else if bytes_eq word (codes "drop") then Some Drop
    else if bytes_eq word (codes "plan") then Some Plan
    else if bytes_eq word (codes "load") then Some Load
    else if bytes_eq word (codes "check") then Some Check
    else if bytes_eq word (codes "print") then Some Print
    else if bytes_eq word (codes "demo") then Some Demo
    else if bytes_eq word (codes "begin") then Some Begin
    else if bytes_eq word (codes "part") then Some Part
    else None

-- the row as the code holds it
abbrev pub row_view : TableRow → OptionRow
row_view r = record { name = r.name.now; least = r.least; most = r.most; default = r.default }
