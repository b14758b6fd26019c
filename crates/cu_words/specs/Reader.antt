-- What `clap` is told and what it tells, in the words of the line.
use Rattle.std.specs.Prelude.{◌≡◌, ℕ, true, List, [], map, codes, Option, Some, None, option_map}
use Rattle.std.specs.Prelude.{unwrap_or, Result, Ok, Err}
use Rattle.clap.specs.Words.{App, Rule, found_of, matched_of, new_rule, raw_values, with_rule}
use Rattle.clap.specs.Simple.{new_shape}
use Rattle.clap.specs.declared.builder.action.ArgAction.TheVariants.{Append}
use Rattle.clap.specs.declared.error.kind.ErrorKind.{ErrorKind}
use Rattle.clap.specs.declared.error.kind.ErrorKind.TheVariants.{OutOfMemory}
use Rattle.clap.specs.declared.parser.matches.ArgMatches.{ArgMatches}
use Rattle.cu_words.specs.Line.{LinePart, positionals_given}
use Rattle.cu_words.specs.Options.{option_row}
use Rattle.cu_words.specs.Words.{option_values}
use Rattle.cu_words.specs.declared.line.LineFault.{LineFault}
use Rattle.cu_words.specs.declared.line.LineFault.TheVariants.{Refused, NoMemory}
use Rattle.cu_words.specs.declared.options.OptionName.{OptionName}

-- the values that were found under a name
abbrev pub values_found : ArgMatches → List ℕ → List (List ℕ)
values_found m name = unwrap_or (option_map raw_values (matched_of (found_of m) name)) []

-- the values that were found for an option
abbrev pub options_found : ArgMatches → OptionName → List (List ℕ)
options_found m o = values_found m (option_row o).name

-- the name of the positionals
abbrev pub positional_name : List ℕ
positional_name = codes "NAME"

-- what was found are these parts
pub record IsMatched (m : ArgMatches) (parts : List LinePart) : Type 0 where
  pub options : (o : OptionName) → options_found m o ≡ option_values parts o
  pub positionals : values_found m positional_name ≡ positionals_given parts

-- what `clap` is told of an option, and of the positionals
abbrev pub told_rule : List ℕ → Rule
told_rule name = record (new_rule name) { long = Some name; action = Some Append }

abbrev pub told_positional : Rule
told_positional = record (new_rule positional_name) { action = Some Append }

-- the command with options of these names
abbrev pub told_options : List (List ℕ) → App
told_options names = record {
  top = record (new_shape (codes "cubed")) {
    rules = map told_rule names;
    no_binary_name = true;
    disable_help_flag = true;
    disable_version_flag = true;
  };
  subs = [];
}

abbrev pub told : List (List ℕ) → App
told names = with_rule (told_options names) told_positional

-- the parts were found, the line has none, or memory was wanted
abbrev pub IsParted : Option (List LinePart) → Result ArgMatches LineFault → Type 0
IsParted parts (Ok m) = (ps : List LinePart) × (parts ≡ Some ps) × IsMatched m ps
IsParted parts (Err (Refused code)) = (parts ≡ None) × (code ≡ 2)
IsParted parts (Err NoMemory) = Unit {0}

-- memory was wanted, or the words are refused, and then memory wasn't
abbrev pub IsFaultOf : ErrorKind → LineFault → Type 0
IsFaultOf kind NoMemory = Unit {0}
IsFaultOf kind (Refused code) = (kind ≡ OutOfMemory → ⊥) × (code ≡ 2)
