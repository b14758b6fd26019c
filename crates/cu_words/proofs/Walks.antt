-- What `clap` makes of the words behind a command: its walk over them finds the parts of the line, and fails where there are none.
use Rattle.std.proofs.Common.{◌≡◌, ◌∙◌, ◌&&◌, ◌==◌, ℕ, Bool, cond, true, false, refl, sym, ap, subst, List, [], ◌∷◌, ◌++◌, map, Option, Some, None, codes, true≢false}
use Rattle.std.specs.List.{fold, list_all}
use Rattle.std.specs.Str.{bytes_eq}
use Rattle.std.proofs.lemmas.Slice.Eq.{bytes_eq-Decides}
use Rattle.clap.specs.declared.builder.range.ValueRange.{ValueRange}
use Rattle.clap.specs.declared.builder.value_parser.ValueParser.TheVariants as vp
use Rattle.clap.specs.declared.builder.value_parser.Reading.TheVariants as reading
use Rattle.clap.specs.declared.parser.matches.ValueSource.TheVariants.{CommandLine}
use Rattle.clap.specs.Faults.{settle_fault, step_fault, turn_fault, walk_fault, word_fault, long_fault}
use Rattle.clap.specs.Kinds.{Kinds, or_else}
use Rattle.clap.specs.Lexer.{long_of, short_of}
use Rattle.clap.specs.Simple.{Shape, new_shape}
use Rattle.clap.specs.Walk.{Held, Row, Rule, Step, Text, Waiting, Walk, after_step, arg_by_id, arg_by_index, arg_by_long, is_pending, plain_word, long_word, pushed, settled, settled_rows, subcommand_met, walked, with_values, word_met, nothing_held, idle, option as awaits, positional as several, next, trailing, value}
use Rattle.cu_words.specs.Line.{LinePart, WordKind, and_part, ends, has_stray, is_option_name, kind_after, option, parts_by, line_parts, plain, positional, stray, stray_by, value_by, valued, word_kind}
use Rattle.cu_words.specs.Reader.{positional_name, told_positional, told_rule}

-- ---- the command as it is built

abbrev pub one_value : ValueRange
one_value = record { start_inclusive = 1; end_inclusive = 1 }

abbrev pub option_rule : Text → Rule
option_rule name = record (told_rule name) { range = Some one_value; parser = Some vp.String }

abbrev pub positional_rule : Rule
positional_rule = record told_positional { index = Some 1; range = Some one_value; parser = Some vp.String }

abbrev pub rules : List Text → List Rule
rules names = map option_rule names ++ positional_rule ∷ []

abbrev pub shape : List Text → Shape
shape names = record (new_shape (codes "cubed")) {
  rules = rules names;
  no_binary_name = true;
  disable_help_flag = true;
  disable_help_subcommand = true;
  disable_version_flag = true;
  is_built = true;
}

-- ---- looking up

pub same_text : (a b : Text) → bytes_eq a b ≡ true → a ≡ b
same_text a b h = (bytes_eq-Decides a b).0 h

pub equal_text : (a : Text) → bytes_eq a a ≡ true
equal_text a = (bytes_eq-Decides a a).1 refl

abbrev known_rule : List Text → Text → Option Rule
known_rule names name = cond (is_option_name names name) (Some (option_rule name)) None

pub by_long : (names : List Text) (name : Text) → arg_by_long (rules names) name ≡ known_rule names name
by_long [] name = refl
by_long (n ∷ ns) name = go (bytes_eq n name) refl (by_long ns name)
  where
    go : (t : Bool) → bytes_eq n name ≡ t → arg_by_long (rules ns) name ≡ known_rule ns name → arg_by_long (rules (n ∷ ns)) name ≡ known_rule (n ∷ ns) name
    go true e later = rw e (ap (λ (x : Text). Some (option_rule x)) (same_text n name e))
    go false e later = rw e later

pub by_id : (names : List Text) (name : Text) → is_option_name names name ≡ true → arg_by_id (rules names) name ≡ Some (option_rule name)
by_id [] name known = absurd (true≢false (sym known))
by_id (n ∷ ns) name known = go (bytes_eq n name) refl (λ e. by_id ns name (rw e at known))
  where
    go : (t : Bool) → bytes_eq n name ≡ t → (bytes_eq n name ≡ false → arg_by_id (rules ns) name ≡ Some (option_rule name)) → arg_by_id (rules (n ∷ ns)) name ≡ Some (option_rule name)
    go true e later = rw e (ap (λ (x : Text). Some (option_rule x)) (same_text n name e))
    go false e later = rw e (later e)

pub by_positional_id : (names : List Text) → is_option_name names positional_name ≡ false → arg_by_id (rules names) positional_name ≡ Some positional_rule
by_positional_id [] free = refl
by_positional_id (n ∷ ns) free = go (bytes_eq n positional_name) refl (λ e. by_positional_id ns (rw e at free))
  where
    go : (t : Bool) → bytes_eq n positional_name ≡ t → (bytes_eq n positional_name ≡ false → arg_by_id (rules ns) positional_name ≡ Some positional_rule) → arg_by_id (rules (n ∷ ns)) positional_name ≡ Some positional_rule
    go true e later = absurd (true≢false (rw e at free))
    go false e later = rw e (later e)

pub by_index : (names : List Text) → arg_by_index (rules names) 1 ≡ Some positional_rule
by_index [] = refl
by_index (n ∷ ns) = by_index ns

-- ---- what a word looks like

abbrev dashes : Text
dashes = 45 ∷ 45 ∷ []

abbrev LooksLike : WordKind → Text → Type 0
LooksLike ends word = bytes_eq word dashes ≡ true
LooksLike plain word = (bytes_eq word dashes ≡ false) × (long_of word ≡ None) × (short_of word ≡ None)
LooksLike stray word = Unit {0}
LooksLike (option name v) word = (bytes_eq word dashes ≡ false) × (long_of word ≡ Some (name, v))

plain_looks : (c d : ℕ) (rest : Text) → (c == 45) ≡ false → LooksLike plain (c ∷ d ∷ rest)
plain_looks c d rest e = (rw e refl, rw e refl, rw e refl)

ends_looks : (c d : ℕ) → (c == 45) ≡ true → (d == 45) ≡ true → bytes_eq (c ∷ d ∷ []) dashes ≡ true
ends_looks c d e f = rw (e, f) refl

option_looks : (c d x : ℕ) (xs : Text) → (c == 45) ≡ true → (d == 45) ≡ true → LooksLike (kind_after (x ∷ xs)) (c ∷ d ∷ x ∷ xs)
option_looks c d x xs e f = (rw (e, f) refl, rw (e, f) refl)

looks : (word : Text) → LooksLike (word_kind word) word
looks [] = (refl, refl, refl)
looks (c ∷ []) = go (c == 45) refl
  where
    go : (t : Bool) → (c == 45) ≡ t → LooksLike plain (c ∷ [])
    go true e = rw e (refl, refl, refl)
    go false e = rw e (refl, refl, refl)
looks (c ∷ d ∷ []) = go (c == 45) (d == 45) refl refl
  where
    go : (s t : Bool) → (c == 45) ≡ s → (d == 45) ≡ t → LooksLike (word_kind (c ∷ d ∷ [])) (c ∷ d ∷ [])
    go true true e f = rw (e, f) (ends_looks c d e f)
    go true false e f = rw (e, f) tt
    go false t e f = rw e (plain_looks c d [] e)
looks (c ∷ d ∷ x ∷ xs) = go (c == 45) (d == 45) refl refl
  where
    go : (s t : Bool) → (c == 45) ≡ s → (d == 45) ≡ t → LooksLike (word_kind (c ∷ d ∷ x ∷ xs)) (c ∷ d ∷ x ∷ xs)
    go true true e f = rw (e, f) (option_looks c d x xs e f)
    go true false e f = rw (e, f) tt
    go false t e f = rw e (plain_looks c d (x ∷ xs) e)

-- ---- the walk

-- the walk between two words
abbrev pub walk_at : Held → Waiting → Bool → Walk
walk_at h waiting is_trailing = record { held = h; waiting = waiting; position = 1; is_trailing = is_trailing; stopped = None }

-- what is pending has its value, and used up it leaves these rows
record IsSettled (names : List Text) (h : Held) (rows : List Row) : Type 0 where
  calm : settle_fault (rules names) false h ≡ []
  left : settled_rows (rules names) h.pending h.rows ≡ rows

abbrev pub total : List Text → Walk → List Text → Kinds
total names w words = or_else (walk_fault (shape names) [] w words) (settle_fault (rules names) false (fold (walked (rules names) []) w words).held)

abbrev pub row_with : LinePart → List Row → List Row
row_with (valued name v) rows = with_values name reading.AsWritten CommandLine (v ∷ []) rows
row_with (positional word) rows = with_values positional_name reading.AsWritten CommandLine (word ∷ []) rows

abbrev pub rows_with : List Row → List LinePart → List Row
rows_with rows [] = rows
rows_with rows (part ∷ parts) = rows_with (row_with part rows) parts

abbrev pub is_known_part : List Text → LinePart → Bool
is_known_part names (valued name v) = is_option_name names name
is_known_part names (positional word) = true

-- the walk ends well, with these rows
pub record EndsWell (names : List Text) (w : Walk) (words : List Text) (rows : List Row) : Type 0 where
  pub calm : total names w words ≡ []
  pub left : (settled (rules names) (fold (walked (rules names) []) w words).held).rows ≡ rows
  pub on : (fold (walked (rules names) []) w words).stopped ≡ None

abbrev pub Agrees : List Text → Walk → List Text → List Row → Option (List LinePart) → Type 0
Agrees names w words rows None = total names w words ≡ [] → ⊥
Agrees names w words rows (Some parts) = EndsWell names w words (rows_with rows parts) × (list_all (is_known_part names) parts ≡ true)

pub else_left : (a b : Kinds) → or_else a b ≡ [] → a ≡ []
else_left [] b e = refl
else_left (k ∷ ks) b e = e

pub else_right : (a b : Kinds) → or_else a b ≡ [] → b ≡ []
else_right [] b e = e
else_right (k ∷ ks) b e = cc

total_on : (names : List Text) (w w2 : Walk) (word : Text) (rest : List Text) → turn_fault (shape names) [] w word ≡ [] → walked (rules names) [] w word ≡ w2
    → total names w (word ∷ rest) ≡ total names w2 rest
unfolding walk_fault
total_on names w w2 word rest calm to =
    ap (λ (k : Kinds). or_else (or_else k (walk_fault (shape names) [] (walked (rules names) [] w word) rest)) (settle_fault (rules names) false (fold (walked (rules names) []) (walked (rules names) [] w word) rest).held)) calm
    ∙ ap (λ (v : Walk). or_else (walk_fault (shape names) [] v rest) (settle_fault (rules names) false (fold (walked (rules names) []) v rest).held)) to

-- a word that is refused
turn_fails : (names : List Text) (w : Walk) (word : Text) (rest : List Text) → (turn_fault (shape names) [] w word ≡ [] → ⊥) → total names w (word ∷ rest) ≡ [] → ⊥
unfolding walk_fault
turn_fails names w word rest none e = none (else_left (turn_fault (shape names) [] w word) _ (else_left (or_else (turn_fault (shape names) [] w word) (walk_fault (shape names) [] (walked (rules names) [] w word) rest)) _ e))

-- a word that is read alone
goes_on : (names : List Text) (w w2 : Walk) (word : Text) (rest : List Text) (rows : List Row) (o : Option (List LinePart))
    → turn_fault (shape names) [] w word ≡ [] → walked (rules names) [] w word ≡ w2 → Agrees names w2 rest rows o → Agrees names w (word ∷ rest) rows o
goes_on names w w2 word rest rows None calm to fails = λ e. fails (sym (total_on names w w2 word rest calm to) ∙ e)
goes_on names w w2 word rest rows (Some parts) calm to (well, known) = (
  record {
    calm = total_on names w w2 word rest calm to ∙ well.calm;
    left = ap (λ (v : Walk). (settled (rules names) (fold (walked (rules names) []) v rest).held).rows) to ∙ well.left;
    on = ap (λ (v : Walk). (fold (walked (rules names) []) v rest).stopped) to ∙ well.on;
  },
  known,
)

-- a word that ends a part
adds : (names : List Text) (w : Walk) (words : List Text) (rows rows2 : List Row) (part : LinePart) (o : Option (List LinePart))
    → is_known_part names part ≡ true → row_with part rows ≡ rows2 → Agrees names w words rows2 o → Agrees names w words rows (and_part part o)
adds names w words rows rows2 part None known is fails = fails
adds names w words rows rows2 part (Some parts) known is (well, all) =
    (subst (λ (r : List Row). EndsWell names w words (rows_with r parts)) (sym is) well, rw known all)

-- ---- one word

no_subcommand : (waiting : Waiting) (word : Text) → subcommand_met [] waiting word ≡ None
no_subcommand idle word = refl
no_subcommand (awaits name) word = refl
no_subcommand several word = refl

turn_by : (names : List Text) (h : Held) (waiting : Waiting) (t : Bool) (word : Text) (k : Kinds) (m : Held × Step)
    → word_fault (shape names) [] t waiting word h ≡ k → word_met (rules names) [] t waiting 1 word h ≡ m
    → turn_fault (shape names) [] (walk_at h waiting t) word ≡ or_else k (step_fault (shape names) 1 m.0 m.1)
turn_by names h waiting t word k m fault met =
    ap (λ (x : Kinds). or_else x (step_fault (shape names) 1 (word_met (rules names) [] t waiting 1 word h).0 (word_met (rules names) [] t waiting 1 word h).1)) fault
    ∙ ap (λ (y : Held × Step). or_else k (step_fault (shape names) 1 y.0 y.1)) met

walked_by : (names : List Text) (h : Held) (waiting : Waiting) (t : Bool) (word : Text) (m : Held × Step) → word_met (rules names) [] t waiting 1 word h ≡ m
    → walked (rules names) [] (walk_at h waiting t) word ≡ after_step (rules names) word (walk_at h waiting t) m.0 m.1
unfolding walked
walked_by names h waiting t word m met = ap (λ (y : Held × Step). after_step (rules names) word (walk_at h waiting t) y.0 y.1) met

-- by what it looks like
plain_fault : (names : List Text) (h : Held) (waiting : Waiting) (word : Text) → LooksLike plain word → word_fault (shape names) [] false waiting word h ≡ []
plain_fault names h waiting word like = rw (no_subcommand waiting word, like.0, like.1, like.2) refl

plain_met : (names : List Text) (h : Held) (waiting : Waiting) (word : Text) → LooksLike plain word → word_met (rules names) [] false waiting 1 word h ≡ plain_word (rules names) waiting word h
plain_met names h waiting word like = rw (no_subcommand waiting word, like.0, like.1, like.2) refl

ends_fault : (names : List Text) (h : Held) (waiting : Waiting) (word : Text) → bytes_eq word dashes ≡ true → word_fault (shape names) [] false waiting word h ≡ []
ends_fault names h waiting word like = rw (no_subcommand waiting word, like) refl

ends_met : (names : List Text) (h : Held) (waiting : Waiting) (word : Text) → bytes_eq word dashes ≡ true → word_met (rules names) [] false waiting 1 word h ≡ (h, trailing 1)
ends_met names h waiting word like = rw (no_subcommand waiting word, like) refl

option_fault : (names : List Text) (h : Held) (waiting : Waiting) (word name : Text) (v : Option Text) → LooksLike (option name v) word
    → word_fault (shape names) [] false waiting word h ≡ long_fault (rules names) false (known_rule names name) v h
option_fault names h waiting word name v like = rw (no_subcommand waiting word, like.0, like.1) (ap (λ (r : Option Rule). long_fault (rules names) false r v h) (by_long names name))

option_met_as : (names : List Text) (h : Held) (waiting : Waiting) (word name : Text) (v : Option Text) → LooksLike (option name v) word
    → word_met (rules names) [] false waiting 1 word h ≡ long_word (rules names) waiting word name v h
option_met_as names h waiting word name v like = rw (no_subcommand waiting word, like.0, like.1) refl

-- a word that takes the walk on
reads : (names : List Text) (h : Held) (waiting : Waiting) (t : Bool) (word : Text) (m : Held × Step) (w : Walk) (rest : List Text) (rows : List Row) (o : Option (List LinePart))
    → word_fault (shape names) [] t waiting word h ≡ [] → word_met (rules names) [] t waiting 1 word h ≡ m → step_fault (shape names) 1 m.0 m.1 ≡ []
    → after_step (rules names) word (walk_at h waiting t) m.0 m.1 ≡ w → Agrees names w rest rows o → Agrees names (walk_at h waiting t) (word ∷ rest) rows o
reads names h waiting t word m w rest rows o fault met step after agrees =
    goes_on names (walk_at h waiting t) w word rest rows o (turn_by names h waiting t word [] m fault met ∙ step) (walked_by names h waiting t word m met ∙ after) agrees

-- ---- a positional

cond_nothing : {X : Type 0} (b : Bool) (x y : X) → cond (b && false) x y ≡ y
cond_nothing true x y = refl
cond_nothing false x y = refl

abbrev with_positional : List Text → Held → Text → Held
with_positional names h word = record { rows = settled_rows (rules names) h.pending h.rows; pending = Some (positional_name, word ∷ []); skip = h.skip }

positional_step : (names : List Text) (h : Held) (rows : List Row) → IsSettled names h rows → step_fault (shape names) 1 h value ≡ []
positional_step names h rows settled_as =
    rw (by_index names) (cond_nothing (is_pending positional_rule h.pending) [] (settle_fault (rules names) false h) ∙ settled_as.calm)

positional_after : (names : List Text) (h : Held) (waiting : Waiting) (t : Bool) (word : Text)
    → after_step (rules names) word (walk_at h waiting t) h value ≡ walk_at (with_positional names h word) several t
positional_after names h waiting true word =
    rw (by_index names) (ap (λ (x : Held). walk_at (pushed positional_name word x) several true) (cond_nothing (is_pending positional_rule h.pending) h (settled (rules names) h)))
positional_after names h waiting false word =
    rw (by_index names) (ap (λ (x : Held). walk_at (pushed positional_name word x) several false) (cond_nothing (is_pending positional_rule h.pending) h (settled (rules names) h)))

positional_settled : (names : List Text) (h : Held) (rows : List Row) (word : Text) → is_option_name names positional_name ≡ false → IsSettled names h rows
    → IsSettled names (with_positional names h word) (row_with (positional word) rows)
positional_settled names h rows word free settled_as = record {
  calm = rw (by_positional_id names free) refl;
  left = rw (by_positional_id names free) (ap (row_with (positional word)) settled_as.left);
}

-- ---- behind `--`

trailing_agrees : (names : List Text) → is_option_name names positional_name ≡ false → (words : List Text) (h : Held) (waiting : Waiting) (rows : List Row) → IsSettled names h rows
    → Agrees names (walk_at h waiting true) words rows (Some (map positional words))
unfolding walk_fault
trailing_agrees names free [] h waiting rows settled_as = (record { calm = settled_as.calm; left = settled_as.left; on = refl }, refl)
trailing_agrees names free (word ∷ rest) h waiting rows settled_as =
    reads names h waiting true word (h, value) (walk_at (with_positional names h word) several true) rest rows (Some (map positional (word ∷ rest)))
    refl refl (positional_step names h rows settled_as) (positional_after names h waiting true word)
    (adds names (walk_at (with_positional names h word) several true) rest rows (row_with (positional word) rows) (positional word) (Some (map positional rest)) refl refl
    (trailing_agrees names free rest (with_positional names h word) several (row_with (positional word) rows) (positional_settled names h rows word free settled_as)))

-- ---- an option

abbrev with_option : List Text → Held → Text → Text → Held
with_option names h name v = record { rows = row_with (valued name v) (settled_rows (rules names) h.pending h.rows); pending = None; skip = h.skip }

abbrev with_waiting : List Row → Text → ℕ → Held
with_waiting rows name skip = record { rows = rows; pending = Some (name, []); skip = skip }

valued_fault : (names : List Text) (h : Held) (rows : List Row) (name v : Text) → is_option_name names name ≡ true → IsSettled names h rows
    → long_fault (rules names) false (known_rule names name) (Some v) h ≡ []
valued_fault names h rows name v known settled_as = rw known (ap (λ (k : Kinds). or_else k []) settled_as.calm)

valued_met : (names : List Text) (h : Held) (waiting : Waiting) (word name v : Text) → is_option_name names name ≡ true
    → long_word (rules names) waiting word name (Some v) h ≡ (with_option names h name v, next idle)
valued_met names h waiting word name v known = rw (by_long names name, known) refl

waits_met : (names : List Text) (h : Held) (waiting : Waiting) (word name : Text) → is_option_name names name ≡ true
    → long_word (rules names) waiting word name None h ≡ (with_waiting (settled_rows (rules names) h.pending h.rows) name h.skip, next (awaits name))
waits_met names h waiting word name known = rw (by_long names name, known) refl

unknown_fails : (names : List Text) (h : Held) (waiting : Waiting) (word name : Text) (v : Option Text) (rest : List Text) → LooksLike (option name v) word → is_option_name names name ≡ false
    → total names (walk_at h waiting false) (word ∷ rest) ≡ [] → ⊥
unknown_fails names h waiting word name v rest like unknown =
    turn_fails names (walk_at h waiting false) word rest (λ e.
    let fault : long_fault (rules names) false (known_rule names name) v h ≡ [] = sym (option_fault names h waiting word name v like) ∙ else_left (word_fault (shape names) [] false waiting word h) _ e in
    let bad = rw unknown at fault in cc)

-- ---- an option that waits for its value

lost_fault : (names : List Text) (rows : List Row) (name : Text) (skip : ℕ) → is_option_name names name ≡ true → settle_fault (rules names) false (with_waiting rows name skip) ≡ [] → ⊥
lost_fault names rows name skip known e = let bad = rw (by_id names name known) at e in cc

lost_behind : (names : List Text) (rows : List Row) (name : Text) (skip : ℕ) (waiting : Waiting) (words : List Text) → is_option_name names name ≡ true
    → total names (walk_at (with_waiting rows name skip) waiting true) words ≡ [] → ⊥
unfolding walk_fault
lost_behind names rows name skip waiting [] known e = lost_fault names rows name skip known e
lost_behind names rows name skip waiting (word ∷ rest) known fine =
    turn_fails names (walk_at (with_waiting rows name skip) waiting true) word rest (λ e.
    let stepped : step_fault (shape names) 1 (with_waiting rows name skip) value ≡ [] = e in
    let asked = rw (by_index names) at stepped in
    lost_fault names rows name skip known (sym (cond_nothing (is_pending positional_rule (Some (name, []))) [] (settle_fault (rules names) false (with_waiting rows name skip))) ∙ asked)) fine

lost_option : (names : List Text) (rows : List Row) (name : Text) (skip : ℕ) (waiting : Waiting) (word other : Text) (v : Option Text) (rest : List Text) → is_option_name names name ≡ true
    → LooksLike (option other v) word → total names (walk_at (with_waiting rows name skip) waiting false) (word ∷ rest) ≡ [] → ⊥
lost_option names rows name skip waiting word other v rest known like =
    turn_fails names (walk_at (with_waiting rows name skip) waiting false) word rest (λ e.
    go (is_option_name names other) v refl (sym (option_fault names (with_waiting rows name skip) waiting word other v like) ∙ else_left (word_fault (shape names) [] false waiting word (with_waiting rows name skip)) _ e))
  where
    go : (t : Bool) (v2 : Option Text) → is_option_name names other ≡ t → long_fault (rules names) false (known_rule names other) v2 (with_waiting rows name skip) ≡ [] → ⊥
    go true None is fault = lost_fault names rows name skip known (rw is at fault)
    go true (Some x) is fault = lost_fault names rows name skip known (else_left (settle_fault (rules names) false (with_waiting rows name skip)) _ (rw is at fault))
    go false v2 is fault = let bad = rw is at fault in cc

value_met : (names : List Text) (rows : List Row) (name : Text) (skip : ℕ) (word : Text) → is_option_name names name ≡ true
    → plain_word (rules names) (awaits name) word (with_waiting rows name skip) ≡ (record { rows = rows; pending = Some (name, word ∷ []); skip = skip }, next idle)
value_met names rows name skip word known = rw (by_id names name known, equal_text name) refl

value_settled : (names : List Text) (rows : List Row) (name : Text) (skip : ℕ) (word : Text) → is_option_name names name ≡ true
    → IsSettled names (record { rows = rows; pending = Some (name, word ∷ []); skip = skip }) (row_with (valued name word) rows)
value_settled names rows name skip word known = record { calm = rw (by_id names name known) refl; left = rw (by_id names name known) refl }

-- ---- all words

abbrev IsResting : Waiting → Type 0
IsResting idle = Unit {0}
IsResting several = Unit {0}
IsResting (awaits name) = ⊥

-- what is so of words at which no option waits, and of words before which one does
abbrev RestsWell : List Text → List Text → Type 0
RestsWell names words = (h : Held) (rows : List Row) (waiting : Waiting) → IsResting waiting → IsSettled names h rows → has_stray words ≡ false
    → Agrees names (walk_at h waiting false) words rows (line_parts names None words)

abbrev WaitsWell : List Text → List Text → Type 0
WaitsWell names words = (rows : List Row) (name : Text) (skip : ℕ) → is_option_name names name ≡ true → has_stray words ≡ false
    → Agrees names (walk_at (with_waiting rows name skip) (awaits name) false) words rows (line_parts names (Some name) words)

resting_word : (names : List Text) (waiting : Waiting) (word : Text) (h : Held) → IsResting waiting → plain_word (rules names) waiting word h ≡ (h, value)
resting_word names idle word h rests = refl
resting_word names several word h rests = refl
resting_word names (awaits name) word h rests = absurd rests

plain_rests : (names : List Text) (word : Text) (rest : List Text) → is_option_name names positional_name ≡ false → RestsWell names rest → LooksLike plain word
    → (h : Held) (rows : List Row) (waiting : Waiting) → IsResting waiting → IsSettled names h rows → has_stray rest ≡ false
    → Agrees names (walk_at h waiting false) (word ∷ rest) rows (and_part (positional word) (line_parts names None rest))
plain_rests names word rest free well like h rows waiting rests settled_as clear =
    reads names h waiting false word (h, value) (walk_at (with_positional names h word) several false) rest rows (and_part (positional word) (line_parts names None rest))
    (plain_fault names h waiting word like) (plain_met names h waiting word like ∙ resting_word names waiting word h rests) (positional_step names h rows settled_as) (positional_after names h waiting false word)
    (adds names (walk_at (with_positional names h word) several false) rest rows (row_with (positional word) rows) (positional word) (line_parts names None rest) refl refl
    (well (with_positional names h word) (row_with (positional word) rows) several tt (positional_settled names h rows word free settled_as) clear))

valued_rests : (names : List Text) (word name v : Text) (rest : List Text) → RestsWell names rest → LooksLike (option name (Some v)) word → is_option_name names name ≡ true
    → (h : Held) (rows : List Row) (waiting : Waiting) → IsSettled names h rows → has_stray rest ≡ false
    → Agrees names (walk_at h waiting false) (word ∷ rest) rows (and_part (valued name v) (line_parts names None rest))
valued_rests names word name v rest well like known h rows waiting settled_as clear =
    reads names h waiting false word (with_option names h name v, next idle) (walk_at (with_option names h name v) idle false) rest rows (and_part (valued name v) (line_parts names None rest))
    (option_fault names h waiting word name (Some v) like ∙ valued_fault names h rows name v known settled_as) (option_met_as names h waiting word name (Some v) like ∙ valued_met names h waiting word name v known) refl refl
    (adds names (walk_at (with_option names h name v) idle false) rest rows (row_with (valued name v) rows) (valued name v) (line_parts names None rest) known refl
    (well (with_option names h name v) (row_with (valued name v) rows) idle tt (record { calm = refl; left = ap (row_with (valued name v)) settled_as.left }) clear))

waits_rests : (names : List Text) (word name : Text) (rest : List Text) → WaitsWell names rest → LooksLike (option name None) word → is_option_name names name ≡ true
    → (h : Held) (rows : List Row) (waiting : Waiting) → IsSettled names h rows → has_stray rest ≡ false
    → Agrees names (walk_at h waiting false) (word ∷ rest) rows (line_parts names (Some name) rest)
waits_rests names word name rest well like known h rows waiting settled_as clear =
    let held = with_waiting (settled_rows (rules names) h.pending h.rows) name h.skip in
    reads names h waiting false word (held, next (awaits name)) (walk_at held (awaits name) false) rest rows (line_parts names (Some name) rest)
    (option_fault names h waiting word name None like ∙ rw known settled_as.calm) (option_met_as names h waiting word name None like ∙ waits_met names h waiting word name known) refl refl
    (subst (λ (r : List Row). Agrees names (walk_at held (awaits name) false) rest r (line_parts names (Some name) rest)) settled_as.left
    (well (settled_rows (rules names) h.pending h.rows) name h.skip known clear))

rests_by : (names : List Text) (word : Text) (rest : List Text) → is_option_name names positional_name ≡ false → RestsWell names rest → WaitsWell names rest
    → (kind : WordKind) → LooksLike kind word → (h : Held) (rows : List Row) (waiting : Waiting) → IsResting waiting → IsSettled names h rows → stray_by kind (has_stray rest) ≡ false
    → Agrees names (walk_at h waiting false) (word ∷ rest) rows (parts_by kind names word rest (line_parts names None rest) (λ name. line_parts names (Some name) rest))
rests_by names word rest free well waits ends like h rows waiting rests settled_as clear =
    reads names h waiting false word (h, trailing 1) (walk_at h waiting true) rest rows (Some (map positional rest))
    (ends_fault names h waiting word like) (ends_met names h waiting word like) refl refl (trailing_agrees names free rest h waiting rows settled_as)
rests_by names word rest free well waits plain like h rows waiting rests settled_as clear =
    plain_rests names word rest free well like h rows waiting rests settled_as clear
rests_by names word rest free well waits stray like h rows waiting rests settled_as clear = absurd (true≢false clear)
rests_by names word rest free well waits (option name (Some v)) like h rows waiting rests settled_as clear = go (is_option_name names name) refl
  where
    go : (t : Bool) → is_option_name names name ≡ t
        → Agrees names (walk_at h waiting false) (word ∷ rest) rows (cond (is_option_name names name) (and_part (valued name v) (line_parts names None rest)) None)
    go true known = rw known (valued_rests names word name v rest well like known h rows waiting settled_as clear)
    go false unknown = rw unknown (unknown_fails names h waiting word name (Some v) rest like unknown)
rests_by names word rest free well waits (option name None) like h rows waiting rests settled_as clear = go (is_option_name names name) refl
  where
    go : (t : Bool) → is_option_name names name ≡ t
        → Agrees names (walk_at h waiting false) (word ∷ rest) rows (cond (is_option_name names name) (line_parts names (Some name) rest) None)
    go true known = rw known (waits_rests names word name rest waits like known h rows waiting settled_as clear)
    go false unknown = rw unknown (unknown_fails names h waiting word name None rest like unknown)

waits_by : (names : List Text) (word : Text) (rest : List Text) → RestsWell names rest → (kind : WordKind) → LooksLike kind word
    → (rows : List Row) (name : Text) (skip : ℕ) → is_option_name names name ≡ true → stray_by kind (has_stray rest) ≡ false
    → Agrees names (walk_at (with_waiting rows name skip) (awaits name) false) (word ∷ rest) rows (value_by kind (and_part (valued name word) (line_parts names None rest)))
waits_by names word rest well plain like rows name skip known clear =
    let held : Held = record { rows = rows; pending = Some (name, word ∷ []); skip = skip } in
    reads names (with_waiting rows name skip) (awaits name) false word (held, next idle) (walk_at held idle false) rest rows (and_part (valued name word) (line_parts names None rest))
    (plain_fault names (with_waiting rows name skip) (awaits name) word like) (plain_met names (with_waiting rows name skip) (awaits name) word like ∙ value_met names rows name skip word known) refl refl
    (adds names (walk_at held idle false) rest rows (row_with (valued name word) rows) (valued name word) (line_parts names None rest) known refl
    (well held (row_with (valued name word) rows) idle tt (value_settled names rows name skip word known) clear))
waits_by names word rest well ends like rows name skip known clear =
    goes_on names (walk_at (with_waiting rows name skip) (awaits name) false) (walk_at (with_waiting rows name skip) (awaits name) true) word rest rows None
    (turn_by names (with_waiting rows name skip) (awaits name) false word [] (with_waiting rows name skip, trailing 1) (ends_fault names (with_waiting rows name skip) (awaits name) word like) (ends_met names (with_waiting rows name skip) (awaits name) word like))
    (walked_by names (with_waiting rows name skip) (awaits name) false word (with_waiting rows name skip, trailing 1) (ends_met names (with_waiting rows name skip) (awaits name) word like))
    (lost_behind names rows name skip (awaits name) rest known)
waits_by names word rest well stray like rows name skip known clear = absurd (true≢false clear)
waits_by names word rest well (option other v) like rows name skip known clear = lost_option names rows name skip (awaits name) word other v rest known like

words_agree : (names : List Text) → is_option_name names positional_name ≡ false → (words : List Text) → RestsWell names words × WaitsWell names words
unfolding walk_fault
words_agree names free [] = (
  λ h rows waiting rests settled_as clear. (record { calm = settled_as.calm; left = settled_as.left; on = refl }, refl),
  λ rows name skip known clear e. lost_fault names rows name skip known e,
)
words_agree names free (word ∷ rest) =
    let later = words_agree names free rest in (
      λ h rows waiting rests settled_as clear. rests_by names word rest free later.0 later.1 (word_kind word) (looks word) h rows waiting rests settled_as clear,
      λ rows name skip known clear. waits_by names word rest later.0 (word_kind word) (looks word) rows name skip known clear,
    )

-- from the first word on
pub walk_agrees : (names : List Text) → is_option_name names positional_name ≡ false → (words : List Text) → has_stray words ≡ false
    → Agrees names (walk_at nothing_held idle false) words [] (line_parts names None words)
walk_agrees names free words clear = (words_agree names free words).0 nothing_held [] idle tt (record { calm = refl; left = refl }) clear

-- a stray word leaves no parts
stray_kind : (names : List Text) (word : Text) (rest : List Text) (kind : WordKind) → (has_stray rest ≡ true → (line_parts names None rest ≡ None) × ((name : Text) → line_parts names (Some name) rest ≡ None)) → stray_by kind (has_stray rest) ≡ true
    → (parts_by kind names word rest (line_parts names None rest) (λ name. line_parts names (Some name) rest) ≡ None) × ((name : Text) → value_by kind (and_part (valued name word) (line_parts names None rest)) ≡ None)
stray_kind names word rest ends later is = absurd (true≢false (sym is))
stray_kind names word rest stray later is = (refl, λ name. refl)
stray_kind names word rest plain later is = (ap (and_part (positional word)) (later is).0, λ name. ap (and_part (valued name word)) (later is).0)
stray_kind names word rest (option n None) later is = (go (is_option_name names n), λ name. refl)
  where
    go : (t : Bool) → cond t (line_parts names (Some n) rest) None ≡ None
    go true = (later is).1 n
    go false = refl
stray_kind names word rest (option n (Some v)) later is = (go (is_option_name names n), λ name. refl)
  where
    go : (t : Bool) → cond t (and_part (valued n v) (line_parts names None rest)) None ≡ None
    go true = ap (and_part (valued n v)) (later is).0
    go false = refl

pub stray_none : (names : List Text) (words : List Text) → has_stray words ≡ true → (line_parts names None words ≡ None) × ((name : Text) → line_parts names (Some name) words ≡ None)
stray_none names [] is = absurd (true≢false (sym is))
stray_none names (word ∷ rest) is = stray_kind names word rest (word_kind word) (stray_none names rest) is
