-- What a parse of the told command finds: the values of each option and the positionals, as the parts of the line have them.
use Rattle.std.proofs.Common.{◌≡◌, ◌∙◌, ◌&&◌, ◌||◌, Bool, cond, true, false, not, refl, sym, ap, subst, List, [], ◌∷◌, ◌++◌, Option, Some, None, Err, inl, inr, unwrap_or, is_some, append-nil, append_assoc, true≢false}
use Rattle.std.specs.List.{fold, list_all, list_any}
use Rattle.std.specs.Str.{bytes_eq}
use Rattle.std.proofs.lemmas.Bool.{and_parts}
use Rattle.clap.specs.declared.parser.matches.ArgMatches.{ArgMatches}
use Rattle.clap.specs.declared.parser.matches.ValueSource.TheVariants.{CommandLine}
use Rattle.clap.specs.declared.builder.value_parser.Reading.TheVariants as reading
use Rattle.clap.specs.declared.error.kind.ErrorKind.{ErrorKind}
use Rattle.clap.specs.Faults.{built_fault, defaults_fault, fault_of, is_simple_and_free, level_fault, settle_fault, walk_fault, check_fault, entered_fault}
use Rattle.clap.specs.Kinds.{HasKind, IsAmong, Kinds, or_else}
use Rattle.clap.specs.Values.{kind_of}
use Rattle.clap.specs.declared.error.Error.{Error}
use Rattle.clap.specs.Simple.{App, HasMatchesOf, built, entered, is_simple}
use Rattle.clap.specs.Takes.{is_given}
use Rattle.clap.specs.Walk.{Row, Text, all_of, finished, has_row, nothing_held, rows_after, rows_of, settled, walk, with_default, with_values, idle}
use Rattle.clap.specs.Matches.{found_of}
use Rattle.clap.proofs.WalkLemmas.{raw_values-rows}
use Rattle.cu_words.specs.Line.{LinePart, has_stray, is_option_name, line_parts, positional, positionals_given, valued, values_given}
use Rattle.cu_words.specs.Options.{option_names, option_row}
use Rattle.cu_words.specs.declared.line.LineFault.{LineFault}
use Rattle.cu_words.specs.declared.line.LineFault.TheVariants.{Refused, NoMemory}
use Rattle.cu_words.specs.Reader.{IsFaultOf, IsMatched, IsParted, positional_name, told, values_found}
use Rattle.cu_words.specs.declared.options.CommandName.{CommandName}
use Rattle.cu_words.specs.declared.options.CommandName.TheVariants.{Run, Resume, Drop, Plan, Load, Check, Print, Demo, Begin, Part}
use Rattle.cu_words.specs.declared.options.OptionName.{OptionName}
use Rattle.cu_words.specs.declared.options.OptionName.TheVariants.{AllowedMem, ReservedMem, SplitEvery, Fusion, Workers, Retries, Backups, Sync, Op, From, To}
use Rattle.cu_words.proofs.Walks.{Agrees, EndsWell, else_left, else_right, is_known_part, row_with, rows_with, rules, same_text, equal_text, shape, total, walk_agrees, walk_at}

-- ---- the values of a name

abbrev values_in : List Row → Text → List Text
values_in rows name = unwrap_or (all_of name rows) []

abbrev value_under : Text → Text → Text → List Text
value_under id v name = cond (bytes_eq id name) (v ∷ []) []

values_more : (rows : List Row) (id v name : Text) → values_in (with_values id reading.AsWritten CommandLine (v ∷ []) rows) name ≡ values_in rows name ++ value_under id v name
values_more [] id v name = go (bytes_eq id name) refl
  where
    go : (t : Bool) → bytes_eq id name ≡ t → values_in (with_values id reading.AsWritten CommandLine (v ∷ []) []) name ≡ [] ++ value_under id v name
    go true e = rw e refl
    go false e = rw e refl
values_more (r ∷ rs) id v name = go (bytes_eq r.id id) (bytes_eq r.id name) (bytes_eq id name) refl refl refl (values_more rs id v name)
  where
    go : (a b c : Bool) → bytes_eq r.id id ≡ a → bytes_eq r.id name ≡ b → bytes_eq id name ≡ c
        → values_in (with_values id reading.AsWritten CommandLine (v ∷ []) rs) name ≡ values_in rs name ++ value_under id v name
        → values_in (with_values id reading.AsWritten CommandLine (v ∷ []) (r ∷ rs)) name ≡ values_in (r ∷ rs) name ++ value_under id v name
    go true true true e f g later = rw (e, f, g) refl
    go true true false e f g later =
        let same : id ≡ name = sym (same_text r.id id e) ∙ same_text r.id name f in
        absurd (true≢false (sym (equal_text name) ∙ ap (λ (x : Text). bytes_eq x name) (sym same) ∙ g))
    go true false true e f g later =
        let same : r.id ≡ name = same_text r.id id e ∙ same_text id name g in
        absurd (true≢false (sym (equal_text name) ∙ ap (λ (x : Text). bytes_eq x name) (sym same) ∙ f))
    go true false false e f g later = rw (e, f, g) (sym (append-nil (values_in rs name)))
    go false true true e f g later =
        let same : r.id ≡ id = same_text r.id name f ∙ sym (same_text id name g) in
        absurd (true≢false (sym (equal_text id) ∙ ap (λ (x : Text). bytes_eq x id) (sym same) ∙ e))
    go false true false e f g later = rw (e, f, g) (sym (append-nil r.values))
    go false false c e f g later = rw (e, f) later

abbrev found_in : List LinePart → Text → List Text
found_in [] name = []
found_in (valued n v ∷ parts) name = value_under n v name ++ found_in parts name
found_in (positional word ∷ parts) name = value_under positional_name word name ++ found_in parts name

values_of_parts : (parts : List LinePart) (rows : List Row) (name : Text) → values_in (rows_with rows parts) name ≡ values_in rows name ++ found_in parts name
values_of_parts [] rows name = sym (append-nil (values_in rows name))
values_of_parts (valued n v ∷ parts) rows name =
    values_of_parts parts (row_with (valued n v) rows) name ∙ ap (λ (x : List Text). x ++ found_in parts name) (values_more rows n v name)
    ∙ append_assoc (values_in rows name) (value_under n v name) (found_in parts name)
values_of_parts (positional word ∷ parts) rows name =
    values_of_parts parts (row_with (positional word) rows) name ∙ ap (λ (x : List Text). x ++ found_in parts name) (values_more rows positional_name word name)
    ∙ append_assoc (values_in rows name) (value_under positional_name word name) (found_in parts name)

found_options : (parts : List LinePart) (name : Text) → bytes_eq positional_name name ≡ false → found_in parts name ≡ values_given parts name
found_options [] name apart = refl
found_options (valued n v ∷ parts) name apart = go (bytes_eq n name) (found_options parts name apart)
  where
    go : (t : Bool) → found_in parts name ≡ values_given parts name → cond t (v ∷ []) [] ++ found_in parts name ≡ cond t (v ∷ values_given parts name) (values_given parts name)
    go true later = ap (λ (x : List Text). v ∷ x) later
    go false later = later
found_options (positional word ∷ parts) name apart = rw apart (found_options parts name apart)

found_positionals : (names : List Text) (parts : List LinePart) → list_all (is_known_part names) parts ≡ true → is_option_name names positional_name ≡ false
    → found_in parts positional_name ≡ positionals_given parts
found_positionals names [] known free = refl
found_positionals names (valued n v ∷ parts) known free =
    let both = and_parts (is_option_name names n) (list_all (is_known_part names) parts) known in
    go (bytes_eq n positional_name) refl both.0 (found_positionals names parts both.1 free)
  where
    go : (t : Bool) → bytes_eq n positional_name ≡ t → is_option_name names n ≡ true → found_in parts positional_name ≡ positionals_given parts
        → found_in (valued n v ∷ parts) positional_name ≡ positionals_given parts
    go true e one later = absurd (true≢false (sym one ∙ ap (is_option_name names) (same_text n positional_name e) ∙ free))
    go false e one later = rw e later
found_positionals names (positional word ∷ parts) known free = ap (λ (x : List Text). word ∷ x) (found_positionals names parts known free)

-- ---- the command

abbrev built_told : List Text → App
built_told names = record { top = shape names; subs = [] }

built_is : (command : CommandName) → built (told (option_names command)) ≡ built_told (option_names command)
built_is Run = refl
built_is Resume = refl
built_is Drop = refl
built_is Plan = refl
built_is Load = refl
built_is Check = refl
built_is Print = refl
built_is Demo = refl
built_is Begin = refl
built_is Part = refl

pub told_simple : (command : CommandName) → is_simple_and_free (told (option_names command)) ≡ true
told_simple Run = refl
told_simple Resume = refl
told_simple Drop = refl
told_simple Plan = refl
told_simple Load = refl
told_simple Check = refl
told_simple Print = refl
told_simple Demo = refl
told_simple Begin = refl
told_simple Part = refl

no_positional_option : (command : CommandName) → is_option_name (option_names command) positional_name ≡ false
no_positional_option Run = refl
no_positional_option Resume = refl
no_positional_option Drop = refl
no_positional_option Plan = refl
no_positional_option Load = refl
no_positional_option Check = refl
no_positional_option Print = refl
no_positional_option Demo = refl
no_positional_option Begin = refl
no_positional_option Part = refl

option_apart : (o : OptionName) → bytes_eq positional_name (option_row o).name ≡ false
option_apart AllowedMem = refl
option_apart ReservedMem = refl
option_apart SplitEvery = refl
option_apart Fusion = refl
option_apart Workers = refl
option_apart Retries = refl
option_apart Backups = refl
option_apart Sync = refl
option_apart Op = refl
option_apart From = refl
option_apart To = refl

cond_same : {X : Type 0} (b : Bool) (x : X) → cond b x x ≡ x
cond_same true x = refl
cond_same false x = refl

cond_anyway : {X : Type 0} (b : Bool) (x y : X) → cond (b || true) x y ≡ x
cond_anyway true x y = refl
cond_anyway false x y = refl

no_defaults : (names : List Text) (rows : List Row) → fold with_default rows (rules names) ≡ rows
no_defaults [] rows = cond_same (has_row positional_name rows) rows
no_defaults (n ∷ ns) rows = ap (λ (r : List Row). fold with_default r (rules ns)) (cond_same (has_row n rows) rows) ∙ no_defaults ns rows

no_default_fault : (names : List Text) (rows : List Row) → defaults_fault rows (rules names) ≡ []
unfolding defaults_fault
no_default_fault [] rows = ap (λ (k : Kinds). or_else k []) (cond_anyway (has_row positional_name rows) [] _)
no_default_fault (n ∷ ns) rows =
    ap (λ (k : Kinds). or_else k (defaults_fault (cond (has_row n rows) rows rows) (rules ns))) (cond_anyway (has_row n rows) [] _)
    ∙ ap (λ (r : List Row). defaults_fault r (rules ns)) (cond_same (has_row n rows) rows) ∙ no_default_fault ns rows

none_required : (names : List Text) (rows : List Row) → list_any (λ a. a.required && not (is_given a.id rows)) (rules names) ≡ false
none_required [] rows = refl
none_required (n ∷ ns) rows = none_required ns rows

all_gone : (a b c d : Kinds) → a ≡ [] → b ≡ [] → c ≡ [] → d ≡ [] → or_else a (or_else [] (or_else b (or_else c d))) ≡ []
all_gone a b c d p q r s = rw (p, q, r, s) refl

-- ---- both outcomes of a parse

no_fault : (names words : List Text) (rows : List Row) → EndsWell names (walk_at nothing_held idle false) words rows → built_fault (built_told names) nothing_held words ≡ []
no_fault names words rows well =
    let walk_calm = else_left (walk_fault (shape names) [] (walk_at nothing_held idle false) words) _ well.calm in
    let end_calm = else_right (walk_fault (shape names) [] (walk_at nothing_held idle false) words) _ well.calm in
    let end = (walk (rules names) [] nothing_held words).held in
    let none_wanted : check_fault (shape names) (finished (rules names) end) false ≡ [] = rw (none_required names (finished (rules names) end)) refl in
    ap (λ (stop : Option (Text × List Text)). level_fault (shape names) [] nothing_held words (is_some (entered (built_told names) stop)) (entered_fault (built_told names) stop)) well.on
    ∙ all_gone _ _ _ _ walk_calm end_calm (no_default_fault names (settled (rules names) end).rows) none_wanted

fault_gone : (names words : List Text) → built_fault (built_told names) nothing_held words ≡ [] → total names (walk_at nothing_held idle false) words ≡ []
fault_gone names words e =
    let walk_part = walk_fault (shape names) [] (walk_at nothing_held idle false) words in
    let end_part = settle_fault (rules names) false (walk (rules names) [] nothing_held words).held in
    let walk_calm : walk_part ≡ [] = else_left walk_part _ e in
    let end_calm : end_part ≡ [] = else_left end_part _ (else_right _ _ (else_right walk_part _ e)) in
    rw (walk_calm, end_calm) refl

found_rows : (command : CommandName) (words : List Text) (m : ArgMatches) (parts : List LinePart) → HasMatchesOf (told (option_names command)) words m
    → EndsWell (option_names command) (walk_at nothing_held idle false) words (rows_with [] parts) → rows_of (found_of m) ≡ rows_with [] parts
found_rows command words m parts has well =
    let names = option_names command in
    let simple : is_simple (told names) ≡ true = (and_parts (is_simple (told names)) _ (told_simple command)).0 in
    (has simple).0 ∙ ap (λ (a : App). rows_after a.top.rules [] words) (built_is command)
    ∙ no_defaults names (settled (rules names) (walk (rules names) [] nothing_held words).held).rows ∙ well.left

found_values : (m : ArgMatches) (name : Text) (parts : List LinePart) → rows_of (found_of m) ≡ rows_with [] parts → values_found m name ≡ found_in parts name
found_values m name parts rows =
    ap (λ (o : Option (List Text)). unwrap_or o []) (raw_values-rows (found_of m) name) ∙ ap (λ (r : List Row). values_in r name) rows ∙ values_of_parts parts [] name

pub found_parts : (command : CommandName) (words : List Text) (m : ArgMatches) → has_stray words ≡ false → HasMatchesOf (told (option_names command)) words m
    → fault_of (told (option_names command)) words ≡ [] → (parts : List LinePart) × (line_parts (option_names command) None words ≡ Some parts) × IsMatched m parts
found_parts command words m clear has calm =
    go (line_parts (option_names command) None words) refl (walk_agrees (option_names command) (no_positional_option command) words clear)
  where
    go : (o : Option (List LinePart)) → line_parts (option_names command) None words ≡ o → Agrees (option_names command) (walk_at nothing_held idle false) words [] o
        → (parts : List LinePart) × (line_parts (option_names command) None words ≡ Some parts) × IsMatched m parts
    go None is fails = absurd (fails (fault_gone (option_names command) words (ap (λ (a : App). built_fault a nothing_held words) (sym (built_is command)) ∙ calm)))
    go (Some parts) is (well, known) =
        let rows = found_rows command words m parts has well in (
          parts,
          is,
          record {
            options = λ o. found_values m (option_row o).name parts rows ∙ found_options parts (option_row o).name (option_apart o);
            positionals = found_values m positional_name parts rows ∙ found_positionals (option_names command) parts known (no_positional_option command);
          },
        )

pub no_parts : (command : CommandName) (words : List Text) (kind : ErrorKind) → has_stray words ≡ false → IsAmong kind (fault_of (told (option_names command)) words)
    → line_parts (option_names command) None words ≡ None
no_parts command words kind clear among =
    go (line_parts (option_names command) None words) refl (walk_agrees (option_names command) (no_positional_option command) words clear)
  where
    go : (o : Option (List LinePart)) → line_parts (option_names command) None words ≡ o → Agrees (option_names command) (walk_at nothing_held idle false) words [] o
        → line_parts (option_names command) None words ≡ None
    go None is fails = is
    go (Some parts) is (well, known) =
        let calm : fault_of (told (option_names command)) words ≡ [] =
        ap (λ (a : App). built_fault a nothing_held words) (built_is command) ∙ no_fault (option_names command) words (rows_with [] parts) well in
        absurd (subst (IsAmong kind) calm among)

pub ok_parts : (command : CommandName) (words : List Text) (app : App) (m : ArgMatches) → app ≡ told (option_names command) → has_stray words ≡ false → HasMatchesOf app words m
    → (is_simple_and_free app ≡ true → fault_of app words ≡ []) → (parts : List LinePart) × (line_parts (option_names command) None words ≡ Some parts) × IsMatched m parts
ok_parts command words app m is clear has calm =
    found_parts command words m clear (subst (λ (a : App). HasMatchesOf a words m) is has) (subst (λ (a : App). is_simple_and_free a ≡ true → fault_of a words ≡ []) is calm (told_simple command))

pub err_parts : (command : CommandName) (words : List Text) (app : App) (e : Error) (fault : LineFault) → app ≡ told (option_names command) → has_stray words ≡ false
    → (is_simple_and_free app ≡ true → HasKind (fault_of app words) e) → IsFaultOf (kind_of e) fault → IsParted (line_parts (option_names command) None words) (Err fault)
err_parts command words app e NoMemory is clear has means = tt
err_parts command words app e (Refused code) is clear has means =
    elim (subst (λ (a : App). is_simple_and_free a ≡ true → HasKind (fault_of a words) e) is has (told_simple command)) [
      | inl memory ↦ absurd (means.0 memory)
      | inr among ↦ (no_parts command words (kind_of e) clear among, means.1)
    ]
