-- What the call answers to the command `run`, from the text on. This project's own rules.
use Rattle.std.specs.Prelude.{◌≡◌, ◌≤◌, ◌⊎◌, Bool, ℕ, List, true, Result, Ok, Err}
use Rattle.cu_name.specs.Name.{is_name}
use Rattle.cu_words.specs.declared.line.LineFault.{LineFault}
use Rattle.cu_words.specs.declared.line.LineFault.TheVariants.{Refused, NoMemory as Wanting}
use Rattle.cu_read.specs.declared.faults.ReadFault.{ReadFault as ExpressionFault}
use Rattle.cu_store.specs.Faults.{Rose}
use Rattle.cu_store.specs.Steps.{NoChange}
use Rattle.cu_command.specs.Seen.{Stepped}
use Rattle.cu_command.specs.Streams.{ReadsAll}
use Rattle.cu_command.specs.declared.status.Status.{Status}
use Rattle.cu_command.specs.declared.status.Status.TheVariants.{BadWords, BadExpr, ReadFault, NoMemory}
use Rattle.cu_lower.specs.declared.options.Options.{Options}
use Rattle.cu_top.specs.Run.{Scene, RunCase, case, IsWanting, Ran}
use Rattle.cu_top.specs.Words.{Command, IsInRange, run, resume, drop, load, check, print, plan, demo}
use Rattle.cu_top.specs.Words.{begin, part, part_numbers}
use Rattle.cu_top.specs.declared.words.Asked.{Asked}
use Rattle.cu_top.specs.declared.words.Asked.TheVariants as asked
use Rattle.cu_top.specs.declared.words.Reading.{Reading}
use Rattle.cu_top.specs.declared.words.Reading.TheVariants as reading

-- what the words were read as
abbrev pub command_view : Asked → Command
command_view (asked.Run options) = run options
command_view (asked.Resume options) = resume options
command_view (asked.Drop options) = drop options
command_view (asked.Plan options) = plan options
command_view (asked.Load retries) = load retries
command_view (asked.Check retries) = check retries
command_view (asked.Print name retries) = print name retries
command_view (asked.Demo size options) = demo size options
command_view (asked.Begin options) = begin options
command_view (asked.Part options numbers) = part options (part_numbers numbers)

-- the words were read, they are refused with this code, or memory was wanted
abbrev pub AreWordsRead : Result Command ℕ → Result Asked LineFault → Type 0
AreWordsRead command (Ok a) = command ≡ Ok (command_view a)
AreWordsRead command (Err (Refused code)) = command ≡ Err code
AreWordsRead command (Err Wanting) = Unit {0}

-- options are in their ranges, a name is one, and a size is one of a demonstration
abbrev pub AreSoundWords : Asked → Type 0
AreSoundWords (asked.Run options) = IsInRange options
AreSoundWords (asked.Resume options) = IsInRange options
AreSoundWords (asked.Drop options) = IsInRange options
AreSoundWords (asked.Plan options) = IsInRange options
AreSoundWords (asked.Print name retries) = is_name name ≡ true
AreSoundWords (asked.Demo size options) = IsInRange options × (1 ≤ size) × (size ≤ 2048)
AreSoundWords (asked.Begin options) = IsInRange options
AreSoundWords (asked.Part options numbers) = IsInRange options
AreSoundWords a = Unit {0}

-- what came of reading words that ask for this command
abbrev pub IsReading : Result Command ℕ → Reading → Type 0
IsReading command (reading.Asked a) = (command ≡ Ok (command_view a)) × AreSoundWords a
IsReading command (reading.Refused code) = command ≡ Err code
IsReading command reading.NoMemory = Unit {0}

-- words with this fault are refused, or memory was wanted
abbrev pub IsWordsRefused : ℕ → Status → Type 0
IsWordsRefused code (BadWords c) = c ≡ code
IsWordsRefused code NoMemory = Unit {0}
IsWordsRefused code status = ⊥

-- nothing but puts that were late has landed
abbrev pub AreSpared : Scene → Scene → Type 0
AreSpared old new = Stepped NoChange old.depot new.depot

-- nothing was read or written either
abbrev pub DidNothing : Scene → Scene → Type 0
DidNothing old new = AreSpared old new × (new.source.told ≡ old.source.told) × (new.sink.told ≡ old.sink.told)

-- a text was read, and this is so of its run, or of its plan
abbrev pub CameToRun : Options → Scene → Scene → (RunCase → Type 0) → Type 0
CameToRun options old new fact = (text : List ℕ) × ReadsAll old.source.told new.source.told text × fact (case options text old new)

-- ---- the answers

-- 11: the source failed, and nothing was stored
abbrev pub IsReadFault : Scene → Scene → Type 0
IsReadFault old new = Rose 1 old.source.faults new.source.faults × AreSpared old new

-- 70: nothing was stored; or the run was started, and no chunk was put unless the depot's yards lack memory
abbrev pub IsShort : Bool → Options → Scene → Scene → Type 0
IsShort lack options old new = AreSpared old new ⊎ CameToRun options old new (IsWanting lack)

-- what the command `run` answers, of a depot whose yards lack memory or don't
abbrev pub RunTells : Bool → Options → Scene → Scene → Status → Type 0
RunTells lack options old new ReadFault = IsReadFault old new
RunTells lack options old new NoMemory = IsShort lack options old new
RunTells lack options old new status = CameToRun options old new (λ c. Ran lack c status)

-- 3 with this fault, unless the text wasn't read or memory was wanted
abbrev pub IsExpressionRefused : ExpressionFault → Status → Type 0
IsExpressionRefused f (BadExpr code node) = (code ≡ f.code) × (node ≡ f.node)
IsExpressionRefused f ReadFault = Unit {0}
IsExpressionRefused f NoMemory = Unit {0}
IsExpressionRefused f status = ⊥
