-- What `clap` is told.
use Rattle.std.proofs.Common.{◌≡◌, ◌∙◌, ◌<◌, ◌≤◌, ◌+◌, ℕ, true, sym, ap, List, [], ◌∷◌, ◌++◌, map, length, take, get_or, codes}
use Rattle.std.proofs.lemmas.List.{map-append, take_all, take_more}
use Rattle.clap.specs.Words.{App, Rule, app_of, new_app, with_rule}
use Rattle.clap.specs.Simple.{app_of_fields}
use Rattle.clap.specs.declared.builder.command.Command.{Command}
use Rattle.clap.specs.declared.builder.command.Command.TheViews.{out-Command}
use Rattle.cu_words.specs.Options.{option_names, option_row, options_of}
use Rattle.cu_words.specs.Reader.{told, told_options, told_positional, told_rule}
use Rattle.cu_words.specs.declared.options.CommandName.{CommandName}
use Rattle.cu_words.specs.declared.options.OptionName.{OptionName}

-- the settings
pub settings_told : (c c1 c2 c3 : Command) → app_of c ≡ new_app (codes "cubed") → out-Command c1 ≡ record (out-Command c) { no_binary_name = true }
    → out-Command c2 ≡ record (out-Command c1) { disable_help_flag = true } → out-Command c3 ≡ record (out-Command c2) { disable_version_flag = true } → app_of c3 ≡ told_options []
settings_told c c1 c2 c3 new one two three =
    ap app_of_fields three
    ∙ ap (λ (a : App). record a { top = record a.top { disable_version_flag = true } }) (ap app_of_fields two
    ∙ ap (λ (a : App). record a { top = record a.top { disable_help_flag = true } }) (ap app_of_fields one
    ∙ ap (λ (a : App). record a { top = record a.top { no_binary_name = true } }) new))

abbrev pub names_of_first : ℕ → List OptionName → List (List ℕ)
names_of_first n options = map (λ o. (option_row o).name) (take n options)

-- one more option
pub option_told : (c c2 : Command) (r : Rule) (options : List OptionName) (i : ℕ) (d : OptionName) → i < length options
    → app_of c ≡ told_options (names_of_first i options) → app_of c2 ≡ with_rule (app_of c) r → r ≡ told_rule (option_row (get_or options i d)).name → app_of c2 ≡ told_options (names_of_first (i + 1) options)
option_told c c2 r options i d below so_far added rule =
    let o = get_or options i d in
    let name = (option_row o).name in
    let names = names_of_first i options in
    let one_more : names_of_first (i + 1) options ≡ names ++ name ∷ [] =
    ap (map (λ x. (option_row x).name)) (take_more options i d below)
    ∙ map-append (λ x. (option_row x).name) (take i options) (o ∷ []) in
    added ∙ ap (λ (a : App). with_rule a r) so_far ∙ ap (with_rule (told_options names)) rule
    ∙ ap (λ (rs : List Rule). record (told_options []) { top = record (told_options []).top { rules = rs } }) (sym (map-append told_rule names (name ∷ [])))
    ∙ ap told_options (sym one_more)

-- all options, and the positionals
pub all_told : (c c2 : Command) (r : Rule) (options : List OptionName) (i : ℕ) (command : CommandName) → length options ≤ i → options ≡ options_of command → app_of c ≡ told_options (names_of_first i options)
    → app_of c2 ≡ with_rule (app_of c) r → r ≡ told_positional → app_of c2 ≡ told (option_names command)
all_told c c2 r options i command past are so_far added rule =
    let all : names_of_first i options ≡ option_names command = ap (map (λ x. (option_row x).name)) (take_all i options past ∙ are) in
    added ∙ ap (λ (a : App). with_rule a r) so_far ∙ ap (with_rule (told_options (names_of_first i options))) rule ∙ ap told all
