-- The whole line, by what was found of it.
use Rattle.std.proofs.Common.{◌≡◌, ◌∙◌, ◌<◌, ◌≤◌, ◌-◌, ℕ, Bool, cond, true, false, refl, sym, ap, subst, arith, List, [], ◌∷◌, length, drop, take, take_all, get_or, map, String, Global, string_bytes, Option, Some, None, Result, Ok, Err}
use Rattle.std.specs.Prelude.{nat_eq}
use Rattle.clap.specs.declared.parser.matches.ArgMatches.{ArgMatches}
use Rattle.cu_words.specs.Line.{LinePart, line_parts, positionals_given}
use Rattle.cu_words.specs.Options.{command_named, option_names, option_row, positional_count}
use Rattle.cu_words.specs.Reader.{IsParted, positional_name, values_found}
use Rattle.cu_words.specs.Words.{GivenLine, IsLineRead, line_after, line_in, line_given, line_with, numbers_for}
use Rattle.cu_words.specs.declared.line.CommandLine.{CommandLine}
use Rattle.cu_words.specs.declared.line.LineFault.{LineFault}
use Rattle.cu_words.specs.declared.line.LineFault.TheVariants.{Refused, NoMemory}
use Rattle.cu_words.specs.declared.line.Numbers.{Numbers}
use Rattle.cu_words.specs.declared.options.CommandName.{CommandName}
use Rattle.cu_words.specs.declared.options.OptionName.{OptionName}

err_two : (line : Result GivenLine ℕ) → line ≡ Err 2 → line ≡ Err 1 → ⊥
err_two line two one = let bad : ◌≡◌ {A = ℕ} 2 1 = cc in absurd (omega arith)

-- code 1 is for the command alone
with_never_one : (command : CommandName) (words : List (List ℕ)) (o : Option Numbers) → line_with command words o ≡ Err 1 → ⊥
with_never_one command words None one = err_two (line_with command words None) refl one
with_never_one command words (Some numbers) one = go (nat_eq (length words) (positional_count command)) one
  where
    go : (t : Bool) → ◌≡◌ {A = Result GivenLine ℕ} (cond t (Ok (record { command = command; numbers = numbers; positionals = words })) (Err 2)) (Err 1) → ⊥
    go true e = cc
    go false e = err_two (Err 2) refl e

pub never_one : (command : CommandName) (parts : Option (List LinePart)) → line_in command parts ≡ Err 1 → ⊥
never_one command None one = err_two (line_in command None) refl one
never_one command (Some parts) one = with_never_one command (positionals_given parts) _ one

pub read_fault : (command : CommandName) (parts : Option (List LinePart)) (fault : LineFault) → IsParted parts (Err fault) → IsLineRead (line_in command parts) (Err fault)
read_fault command parts NoMemory parted = tt
read_fault command parts (Refused code) parted = ap (line_in command) parted.0 ∙ ap Err (sym parted.1)

pub read_found : (command : CommandName) (parts : Option (List LinePart)) (m : ArgMatches) (r : Result CommandLine LineFault) → IsParted parts (Ok m)
    → IsLineRead (line_with command (values_found m positional_name) (numbers_for command (λ o. values_found m (option_row o).name))) r → IsLineRead (line_in command parts) r
read_found command parts m r (ps, is, found) read =
    let same : line_with command (values_found m positional_name) (numbers_for command (λ o. values_found m (option_row o).name)) ≡ line_in command parts =
    ap (λ (words : List (List ℕ)). line_with command words (numbers_for command (λ o. values_found m (option_row o).name))) found.positionals
    ∙ ap (λ (given : OptionName → List (List ℕ)). line_with command (positionals_given ps) (numbers_for command given)) (λ i o. found.options o i)
    ∙ ap (line_in command) (sym is) in
    subst (λ (l : Result GivenLine ℕ). IsLineRead l r) same read

-- ---- by the first word

-- the words behind the first
abbrev pub words_behind : List (String Global) → List (List ℕ)
words_behind words = map string_bytes (take (length words - 1) (drop 1 words))

split_words : (words : List (String Global)) (w : String Global) → 1 ≤ length words → w ≡ get_or words 0 w → map string_bytes words ≡ string_bytes w ∷ words_behind words
split_words [] w some is = absurd (omega arith)
split_words (x ∷ xs) w some is =
    ap (λ (ws : List (String Global)). string_bytes x ∷ map string_bytes ws) (sym (take_all (length (x ∷ xs) - 1) xs (omega arith)))
    ∙ ap (λ (y : String Global). string_bytes y ∷ words_behind (x ∷ xs)) (sym is)

pub no_words : (words : List (String Global)) → length words < 1 → line_given (map string_bytes words) ≡ Err 1
unfolding line_given
no_words [] none = refl
no_words (w ∷ ws) none = absurd (omega arith)

pub named : (words : List (String Global)) (w : String Global) (command : CommandName) → 1 ≤ length words → w ≡ get_or words 0 w → command_named (string_bytes w) ≡ Some command
    → line_given (map string_bytes words) ≡ line_in command (line_parts (option_names command) None (words_behind words))
unfolding line_given
named words w command some is name =
    ap line_given (split_words words w some is) ∙ ap (λ (c : Option CommandName). line_after c (words_behind words)) name

pub unnamed : (words : List (String Global)) (w : String Global) → 1 ≤ length words → w ≡ get_or words 0 w → command_named (string_bytes w) ≡ None → line_given (map string_bytes words) ≡ Err 1
unfolding line_given
unnamed words w some is name = ap line_given (split_words words w some is) ∙ ap (λ (c : Option CommandName). line_after c (words_behind words)) name
