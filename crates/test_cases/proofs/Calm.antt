-- Where nothing is late, nothing is in the way of a run; and the words of another command ask for nothing that goes on.
use Rattle.std.proofs.Common.{◌≡◌, List, ℕ, [], ◌∷◌, Bool, true, false, Option, Some, None, ◌||◌, Result, Ok, Err, bytes_eq, codes, nat_eq, length, if◌then◌else◌, refl, ap, ◌∙◌, subst, sym, true≢false}
use Rattle.cu_store.specs.Held.{Contents, Write, IsAmong}
use Rattle.cu_store.specs.Steps.{Shown}
use Rattle.cu_op.specs.Value.{stored_inputs}
use Rattle.cu_lower.specs.declared.options.Options.{Options}
use Rattle.cu_run_law.specs.Left.{IsQuiet}
use Rattle.cu_run_law.specs.Pieces.{PlanRun}
use Rattle.cu_top.specs.Demo.{IsDemoCalm, WhereTold}
use Rattle.cu_top.specs.Held.{IsLeftBy, IsLeftEntry}
use Rattle.cu_top.specs.Prepare.{HasNoOwnInput}
use Rattle.cu_top.specs.Quiet.{IsCalmFor, IsCalm, run_of_job}
use Rattle.cu_name.specs.Name.{is_name}
use Rattle.cu_words.specs.Line.{LinePart, line_parts, positionals_given}
use Rattle.cu_words.specs.Options.{command_named, option_names, positional_count}
use Rattle.cu_words.specs.Words.{GivenLine, demo_size, line_after, line_given, line_in, line_with, numbers_for, option_values}
use Rattle.cu_words.specs.declared.line.Numbers.{Numbers}
use Rattle.cu_words.specs.declared.options.CommandName.{CommandName}
use Rattle.cu_words.specs.declared.options.CommandName.TheVariants as name
use Rattle.cu_work.specs.declared.part.Part.{Part}
use Rattle.cu_top.specs.Words.{Command, command_by, command_of, command_with, options_among, tasks_among, print, print_of, demo_of, demo_sized, resume, part}
use Rattle.test_cases.specs.Late.{GoesOnNowhere, MayCall, goes_on, is_going_on}

calm_run : (r : PlanRun) (words : List (List ℕ)) (held : Option Contents) (late : List Write) → MayCall words held late → IsCalmFor r held late
calm_run r words None late may = tt
calm_run r words (Some held) late (none, nowhere) =
    subst (λ (l : List Write). IsQuiet r (stored_inputs r.plan.arrays held) held l) (sym none)
    (record { pieces = λ q bytes piece among. absurd among; inputs = λ c bytes input among. absurd among })

pub may_run : (words : List (List ℕ)) (options : Options) (text : List ℕ) (shown : Shown) → MayCall words shown.held shown.late → IsCalm options text shown
may_run words options text shown may = λ job is planned. calm_run (run_of_job options job) words shown.held shown.late may

left_run : (r : PlanRun) (own : Type 0) (words : List (List ℕ)) (command : Command) (shown : Shown) (held : Option Contents) → MayCall words held shown.late → command_of words ≡ Ok command
    → goes_on command ≡ true → IsLeftBy r shown held own
left_run r own words command shown None may asks on = tt
left_run r own words command shown (Some held) (none, nowhere) asks on = absurd (nowhere command asks on)

pub may_resume : (words : List (List ℕ)) (options : Options) (text : List ℕ) (shown : Shown) → MayCall words shown.held shown.late → command_of words ≡ Ok (resume options) → IsLeftEntry options text shown
may_resume words options text shown may asks = λ job is planned. left_run (run_of_job options job) (HasNoOwnInput job.expr) words (resume options) shown shown.held may asks refl

pub may_part : (words : List (List ℕ)) (options : Options) (tasks : Part) (text : List ℕ) (shown : Shown) → MayCall words shown.held shown.late → command_of words ≡ Ok (part options tasks)
    → IsLeftEntry options text shown
may_part words options tasks text shown may asks = λ job is planned. left_run (run_of_job options job) (HasNoOwnInput job.expr) words (part options tasks) shown shown.held may asks refl

calm_demo : (words : List (List ℕ)) (options : Options) (n : ℕ) (shown : Shown) (held : Option Contents) → MayCall words held shown.late → WhereTold held (IsDemoCalm options n shown)
calm_demo words options n shown None may = tt
calm_demo words options n shown (Some held) (none, nowhere) = record {
  inputs = (λ key bytes among is. absurd (nothing key bytes among), λ key bytes among is. absurd (nothing key bytes among));
  hidden = λ input bytes among. nothing _ bytes among;
  plan = λ later job stores is planned. record {
    pieces = λ q bytes piece among. absurd (nothing _ bytes among);
    inputs = λ c bytes input among. absurd (nothing _ bytes among);
  };
}
  where
    nothing : (key bytes : List ℕ) → IsAmong shown.late key bytes → ⊥
    nothing key bytes among = subst (λ (l : List Write). IsAmong l key bytes) none among

pub may_demo : (words : List (List ℕ)) (options : Options) (n : ℕ) (shown : Shown) → MayCall words shown.held shown.late → WhereTold shown.held (IsDemoCalm options n shown)
may_demo words options n shown may = calm_demo words options n shown shown.held may

-- ---- words of another command

abbrev name_goes : CommandName → Bool
name_goes name.Resume = true
name_goes name.Part = true
name_goes command = false

abbrev named_goes : Option CommandName → Bool
named_goes None = false
named_goes (Some command) = name_goes command

abbrev answer_goes : Result Command ℕ → Bool
answer_goes (Ok command) = goes_on command
answer_goes (Err code) = false

by_name : (a b c d e f h i j k : Bool) → named_goes (if a then Some name.Run else if b then Some name.Resume else if c then Some name.Drop else if d then Some name.Plan else if e then Some name.Load
    else if f then Some name.Check else if h then Some name.Print else if i then Some name.Demo else if j then Some name.Begin else if k then Some name.Part else None) ≡ true → (b || k) ≡ true
by_name true b c d e f h i j k is = cc
by_name false true c d e f h i j k is = refl
by_name false false true d e f h i j k is = cc
by_name false false false true e f h i j k is = cc
by_name false false false false true f h i j k is = cc
by_name false false false false false true h i j k is = cc
by_name false false false false false false true i j k is = cc
by_name false false false false false false false true j k is = cc
by_name false false false false false false false false true k is = cc
by_name false false false false false false false false false true is = refl
by_name false false false false false false false false false false is = cc

by_word : (word : List ℕ) (rest : List (List ℕ)) → named_goes (command_named word) ≡ true → is_going_on (word ∷ rest) ≡ true
by_word word rest is = by_name (bytes_eq word (codes "run")) (bytes_eq word (codes "resume")) (bytes_eq word (codes "drop")) (bytes_eq word (codes "plan")) (bytes_eq word (codes "load")) (bytes_eq word (codes "check"))
    (bytes_eq word (codes "print")) (bytes_eq word (codes "demo")) (bytes_eq word (codes "begin")) (bytes_eq word (codes "part")) is

print_never : (words : List (List ℕ)) (retries : ℕ) → answer_goes (print_of words retries) ≡ true → ⊥
print_never [] retries is = cc
print_never (word ∷ []) retries is = at (is_name word) is
  where
    at : (b : Bool) → answer_goes (if◌then◌else◌ {A = Result Command ℕ} b (Ok (print word retries)) (Err 3)) ≡ true → ⊥
    at true e = cc
    at false e = cc
print_never (word ∷ more ∷ rest) retries is = cc

demo_never : (words : List (List ℕ)) (o : Options) → answer_goes (demo_of words o) ≡ true → ⊥
demo_never [] o is = cc
demo_never (word ∷ []) o is = at (demo_size word) is
  where
    at : (size : Option ℕ) → answer_goes (demo_sized size o) ≡ true → ⊥
    at (Some size) e = cc
    at None e = cc
demo_never (word ∷ more ∷ rest) o is = cc

with_only : (command : CommandName) (o : Options) (tasks : Part) (words : List (List ℕ)) → answer_goes (command_with command o tasks words) ≡ true → name_goes command ≡ true
with_only name.Run o tasks words is = is
with_only name.Resume o tasks words is = is
with_only name.Drop o tasks words is = is
with_only name.Plan o tasks words is = is
with_only name.Load o tasks words is = is
with_only name.Check o tasks words is = is
with_only name.Print o tasks words is = absurd (print_never words o.retries is)
with_only name.Demo o tasks words is = absurd (demo_never words o is)
with_only name.Begin o tasks words is = is
with_only name.Part o tasks words is = is

-- a line is of the command that it was read for
abbrev IsLineOf : CommandName → Result GivenLine ℕ → Type 0
IsLineOf command (Ok l) = l.command ≡ command
IsLineOf command (Err code) = Unit {0}

by_only : (command : CommandName) (line : Result GivenLine ℕ) → IsLineOf command line → answer_goes (command_by line) ≡ true → name_goes command ≡ true
by_only command (Ok l) of is = ap name_goes (sym of) ∙ with_only l.command (options_among l.numbers) (tasks_among l.numbers) l.positionals is
by_only command (Err code) of is = cc

line_of_with : (command : CommandName) (words : List (List ℕ)) (numbers : Option Numbers) → IsLineOf command (line_with command words numbers)
line_of_with command words None = tt
line_of_with command words (Some numbers) = at (nat_eq (length words) (positional_count command))
  where
    at : (b : Bool) → IsLineOf command (if b then Ok (record { command = command; numbers = numbers; positionals = words }) else Err 2)
    at true = refl
    at false = tt

line_of_in : (command : CommandName) (parts : Option (List LinePart)) → IsLineOf command (line_in command parts)
line_of_in command None = tt
line_of_in command (Some parts) = line_of_with command (positionals_given parts) (numbers_for command (option_values parts))

after_only : (named : Option CommandName) (words : List (List ℕ)) → answer_goes (command_by (line_after named words)) ≡ true → named_goes named ≡ true
after_only None words is = is
after_only (Some command) words is =
    by_only command (line_in command (line_parts (option_names command) None words)) (line_of_in command (line_parts (option_names command) None words)) is

-- words whose first is neither
pub goes_nowhere : (words : List (List ℕ)) → is_going_on words ≡ false → GoesOnNowhere words
unfolding command_of line_given
goes_nowhere [] other command is on = cc
goes_nowhere (word ∷ rest) other command is on =
    true≢false (sym (by_word word rest (after_only (command_named word) rest (ap answer_goes is ∙ on))) ∙ other)
