-- What the words of the command line ask for. This project's own rules.
use Rattle.std.specs.Prelude.{◌≤◌, ◌==◌, ℕ, List, [], ◌∷◌, Result, Ok, Err, if◌then◌else◌}
use Rattle.std.specs.Global.{Global}
use Rattle.std.specs.Prelude.{String, map, string_bytes}
use Rattle.cu_name.specs.Name.{is_name}
use Rattle.cu_lower.specs.Parts.{AreOptions}
use Rattle.cu_lower.specs.declared.options.Options.{Options}
use Rattle.std.specs.Prelude.{Option, Some, None}
use Rattle.cu_words.specs.Words.{GivenLine, demo_size, line_given}
use Rattle.cu_work.specs.declared.part.Part.{Part as Tasks}
use Rattle.cu_words.specs.declared.line.Numbers.{Numbers}
use Rattle.cu_top.specs.declared.words.PartNumbers.{PartNumbers}
use Rattle.cu_words.specs.declared.options.CommandName.{CommandName}
use Rattle.cu_words.specs.declared.options.CommandName.TheVariants.{Run, Resume, Drop, Plan, Print}
use Rattle.cu_words.specs.declared.options.CommandName.TheVariants.{Demo, Load, Check, Begin, Part}

-- each option is in its range, those that plans go by too
pub record IsInRange (o : Options) : Type 0 where
  pub of_plans : AreOptions o
  pub retries : o.retries ≤ 8
  pub some : 1 ≤ o.workers
  pub few : o.workers ≤ 64
  pub first : 1 ≤ o.fusion
  pub last : o.fusion ≤ 2

-- the options among the numbers of the line
abbrev pub options_among : Numbers → Options
options_among n = record {
  allowed = n.allowed_mem;
  reserved = n.reserved_mem;
  split_every = n.split_every;
  retries = n.retries;
  workers = n.workers;
  backups = n.backups == 1;
  fusion = n.fusion;
}

-- and the operation and the tasks that they name
abbrev pub tasks_among : Numbers → Tasks
tasks_among n = record { op = n.op; from = n.from; to = n.to }

-- as they are read
abbrev pub part_numbers : PartNumbers → Tasks
part_numbers n = record { op = n.op; from = n.from; to = n.to }

-- what the words ask for: a run, a run that goes on, the removal of a plan's keys, what a plan does,
-- a text that gives an array, the comparison of a stored output, the print of an array with this
-- name, the demonstration of this size, a run that is only begun, or some tasks of one operation
pub data Command : Type 0 where
  run : Options → Command
  resume : Options → Command
  drop : Options → Command
  plan : Options → Command
  load : ℕ → Command
  check : ℕ → Command
  print : List ℕ → ℕ → Command
  demo : ℕ → Options → Command
  begin : Options → Command
  part : Options → Tasks → Command

-- the print of the array that the positional names. Code 3: it is no name.
abbrev pub print_of : List (List ℕ) → ℕ → Result Command ℕ
print_of (word ∷ []) retries = if is_name word then Ok (print word retries) else Err 3
print_of words retries = Err 2

-- the demonstration whose size the positional gives
abbrev pub demo_sized : Option ℕ → Options → Result Command ℕ
demo_sized (Some size) options = Ok (demo size options)
demo_sized None options = Err 2

abbrev pub demo_of : List (List ℕ) → Options → Result Command ℕ
demo_of (word ∷ []) options = demo_sized (demo_size word) options
demo_of words options = Err 2

-- the command with these options, tasks and positionals
abbrev pub command_with : CommandName → Options → Tasks → List (List ℕ) → Result Command ℕ
command_with Run options tasks words = Ok (run options)
command_with Resume options tasks words = Ok (resume options)
command_with Drop options tasks words = Ok (drop options)
command_with Plan options tasks words = Ok (plan options)
command_with Load options tasks words = Ok (load options.retries)
command_with Check options tasks words = Ok (check options.retries)
command_with Print options tasks words = print_of words options.retries
command_with Demo options tasks words = demo_of words options
command_with Begin options tasks words = Ok (begin options)
command_with Part options tasks words = Ok (part options tasks)

abbrev pub command_by : Result GivenLine ℕ → Result Command ℕ
command_by (Ok line) = command_with line.command (options_among line.numbers) (tasks_among line.numbers) line.positionals
command_by (Err code) = Err code

-- What the words ask for. Code 1: the command is missing or unknown. Code 2: its options are wrong,
-- its size, or its count of positionals. Code 3: a name is none.
unfoldable pub command_of : List (List ℕ) → Result Command ℕ
command_of words = command_by (line_given words)

-- the same of words as they are passed
abbrev pub asked_by : List (String Global) → Result Command ℕ
asked_by words = command_of (map string_bytes words)
