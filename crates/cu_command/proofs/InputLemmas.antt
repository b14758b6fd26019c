-- What is read of the metadata of an expression's inputs, name by name.
use Rattle.std.proofs.Common.{◌≡◌, ℕ, ◌+◌, ◌*◌, ◌<◌, ◌≤◌, Bool, true, false, List, [], ◌∷◌, ◌++◌, length, take, drop, get_or, All, Option, Some, None, refl, sym, ap, ◌∙◌, subst, inl, inr, append_assoc, append-nil, length-append, length-take, length-drop, arith}
use Rattle.std.specs.Prelude.{bytes_eq}
use Rattle.std.specs.List.{list_any}
use Rattle.std.proofs.lemmas.List.{map-append, length-map, drop_more, at_drop_all}
use Rattle.std.proofs.lemmas.List.Elements.{All-nil, All-push}
use Rattle.cu_expr.specs.declared.inputs.InputInfo.{InputInfo}
use Rattle.cu_form.specs.declared.expr.Node.{Node}
use Rattle.cu_form.specs.declared.form.Form.{Form}
use Rattle.cu_op.specs.declared.layout.Layout.{Layout}
use Rattle.cu_store.specs.Held.{Contents, Write, Holds, IsAmong, IsGone}
use Rattle.cu_store.specs.Steps.{Shown, NoChange, OrLate, IsChangedBy, Lands, Steps, OnceEach}
use Rattle.cu_store.proofs.Once.{once_then, once_few}
use Rattle.cu_store.proofs.Steps.{steps_same, steps_then, steps_wider}
use Rattle.cu_zarr.specs.Key.{metadata_key_of, zarray_key_of}
use Rattle.cu_command.proofs.SeenLemmas.{stepped, gone_before}
use Rattle.cu_command.specs.Inputs.{name_before, used_names, others_once, names_from, names_of, AreCalmAt, IsReadAt, IsTurn, IsRefusedAt, IsInputFault, HasRead, IsMetadataStatus}
use Rattle.cu_command.specs.Job.{status_of}
use Rattle.cu_command.specs.Stored.{IsArrayLayout, HoldsSuch, IsMetadata, IsZarrayOf, IsRefusedText, IsRefusedZarray, FindsLayout, FindsRefused, StoresLayout, StoresRefused, HasNoMetadata, IsMetadataAsked, IsMetadataFault, IsFindFault}
use Rattle.cu_command.specs.declared.status.Status.{Status}
use Rattle.cu_command.specs.declared.status.Status.TheVariants as status
use Rattle.cu_command.specs.declared.job.JobFault.{JobFault}
use Rattle.cu_command.specs.declared.job.JobFault.TheVariants.{DepotFailed, NoArray, BadMeta, NoMemory}

-- ---- names

any_named : (x : List ℕ) (is : List InputInfo) → list_any (bytes_eq x) (names_of is) ≡ list_any (λ i. bytes_eq x i.name) is
any_named x [] = refl
any_named x (i ∷ is) = rw (any_named x is) refl

pub seen_name : (is : List InputInfo) (x : List ℕ) (rest : List (List ℕ)) → list_any (λ i. bytes_eq x i.name) is ≡ true → names_from (names_of is) rest ≡ names_from (names_of is) (x ∷ rest)
seen_name is x rest seen = rw (any_named x is, seen) refl

new_name : (is : List InputInfo) (x : List ℕ) (rest : List (List ℕ)) → list_any (λ i. bytes_eq x i.name) is ≡ false
    → names_from (names_of is) (x ∷ rest) ≡ names_of is ++ x ∷ others_once (names_of is ++ x ∷ []) rest
new_name is x rest new = rw (any_named x is, new) refl

pub pushed_name : (old new : List InputInfo) (i : InputInfo) (x : List ℕ) (rest : List (List ℕ)) → new ≡ old ++ i ∷ [] → i.name ≡ x → list_any (λ i. bytes_eq x i.name) old ≡ false
    → names_from (names_of new) rest ≡ names_from (names_of old) (x ∷ rest)
pushed_name old new i x rest pushed named fresh =
    let names : names_of new ≡ names_of old ++ x ∷ [] =
    ap names_of pushed ∙ map-append (λ (j : InputInfo). j.name) old (i ∷ []) ∙ ap (λ (n : List ℕ). names_of old ++ n ∷ []) named in
    ap (λ (s : List (List ℕ)). names_from s rest) names ∙ append_assoc (names_of old) (x ∷ []) (others_once (names_of old ++ x ∷ []) rest) ∙ sym (new_name old x rest fresh)

pub turn_of : (entry : Shown) (old : List InputInfo) (x : List ℕ) (rest : List (List ℕ)) → All (IsReadAt entry) old → list_any (λ i. bytes_eq x i.name) old ≡ false
    → IsTurn (names_from (names_of old) (x ∷ rest)) entry x
turn_of entry old x rest read fresh = record {
  before = old;
  behind = others_once (names_of old ++ x ∷ []) rest;
  place = new_name old x rest fresh;
  read = read;
}

-- the node at this place, in front of those behind it
pub next_names : (all : List (List ℕ)) (nodes : List Node) (k : ℕ) (node : Node) (is : List InputInfo) → k < length nodes → node ≡ get_or nodes k node
    → all ≡ names_from (names_of is) (used_names (drop k nodes)) → all ≡ names_from (names_of is) (name_before node.form (used_names (drop (k + 1) nodes)))
next_names all nodes k node is within at whole =
    whole ∙ ap (λ (ns : List Node). names_from (names_of is) (used_names ns)) (drop_more nodes k node within ∙ ap (λ (n : Node). n ∷ drop (k + 1) nodes) (sym at))

-- behind the last node
pub end_names : (all : List (List ℕ)) (nodes : List Node) (k : ℕ) (is : List InputInfo) → length nodes ≤ k → all ≡ names_from (names_of is) (used_names (drop k nodes)) → names_of is ≡ all
end_names all nodes k is past whole =
    sym (whole ∙ at_drop_all (λ (ns : List Node). names_from (names_of is) (used_names ns)) nodes k past ∙ append-nil (names_of is))

-- ---- a node that is an input

pub was_named : (x : List ℕ) (old listed : List InputInfo) (answer is : Bool) → listed ≡ old → answer ≡ list_any (λ i. bytes_eq x i.name) listed → answer ≡ is
    → list_any (λ i. bytes_eq x i.name) old ≡ is
was_named x old listed answer is same told so = ap (λ (l : List InputInfo). list_any (λ (i : InputInfo). bytes_eq x i.name) l) (sym same) ∙ sym told ∙ so

-- what is said of the names behind the input's is said of those behind the form
pub of_form : (P : List (List ℕ) → Type 0) (form : Form) (name : List ℕ) (rest : List (List ℕ)) → form ≡ Form.Input name → P (name ∷ rest) → P (name_before form rest)
of_form P form name rest is holds = subst (λ (f : Form). P (name_before f rest)) (sym is) holds

-- ---- what was held at the beginning

held_then : (late : List Write) (a b : Contents) (key : List ℕ) → IsChangedBy (OrLate NoChange late) a b key → ((bytes : List ℕ) → IsAmong late key bytes → a key ≡ Some bytes) → b key ≡ a key
held_then late a b key (inl same) calm = same
held_then late a b key (inr (inl none)) calm = absurd none
held_then late a b key (inr (inr (bytes, is, among))) calm = is ∙ sym (calm bytes among)

-- what a calm key holds was held there
pub such_then : (late : List Write) (a b : Option Contents) (key : List ℕ) (fact : List ℕ → Type 0) → Lands (OrLate NoChange late) a b
    → ((bytes : List ℕ) → IsAmong late key bytes → Holds a key bytes) → HoldsSuch b key fact → HoldsSuch a key fact
such_then late None b key fact lands calm holds = tt
such_then late (Some a) None key fact lands calm holds = absurd lands
such_then late (Some a) (Some b) key fact lands calm (text, there, says) = (text, sym (held_then late a b key (lands key) calm) ∙ there, says)

module _ {l m : ℕ} (entry now : Shown) (name : List ℕ) (step : Steps NoChange l m entry now) (calm : AreCalmAt entry name) where
  -- what was found from then on, where both keys are calm, was held then
  pub layout_then : (layout : Layout) → FindsLayout entry.held now.held name layout → StoresLayout entry.held name layout
  layout_then layout (inl holds) = inl (such_then entry.late entry.held now.held (metadata_key_of name) (IsMetadata layout) step.lands calm.0 holds)
  layout_then layout (inr (gone, holds)) = inr (gone, such_then entry.late entry.held now.held (zarray_key_of name) (IsZarrayOf layout) step.lands calm.1 holds)

  refused_then : (code : ℕ) → FindsRefused entry.held now.held name code → StoresRefused entry.held name code
  refused_then code (inl holds) = inl (such_then entry.late entry.held now.held (metadata_key_of name) (λ text. IsRefusedText text code) step.lands calm.0 holds)
  refused_then code (inr (gone, holds)) = inr (gone, such_then entry.late entry.held now.held (zarray_key_of name) (λ text. IsRefusedZarray text code) step.lands calm.1 holds)

-- what was found since a moment was found since an earlier one
module _ {l m : ℕ} (entry mid now : Shown) (name : List ℕ) (earlier : Steps NoChange l m entry mid) where
  gone_at_entry : IsGone mid.held (metadata_key_of name) → IsGone entry.held (metadata_key_of name)
  gone_at_entry gone = gone_before entry mid (metadata_key_of name) (stepped earlier) gone

  finds_layout : (layout : Layout) → FindsLayout mid.held now.held name layout → FindsLayout entry.held now.held name layout
  finds_layout layout (inl holds) = inl holds
  finds_layout layout (inr (gone, holds)) = inr (gone_at_entry gone, holds)

  finds_refused : (code : ℕ) → FindsRefused mid.held now.held name code → FindsRefused entry.held now.held name code
  finds_refused code (inl holds) = inl holds
  finds_refused code (inr (gone, holds)) = inr (gone_at_entry gone, holds)

  asked_at_entry : (key : List ℕ) → IsMetadataAsked mid.held name key → IsMetadataAsked entry.held name key
  asked_at_entry key (inl first) = inl first
  asked_at_entry key (inr (second, gone)) = inr (second, gone_at_entry gone)

read_at : {l m : ℕ} (entry now : Shown) (i : InputInfo) → Steps NoChange l m entry now → IsArrayLayout i.layout → FindsLayout entry.held now.held i.name i.layout → IsReadAt entry i
read_at entry now i step layout found = record {
  layout = layout;
  held = λ calm. layout_then entry now i.name step calm i.layout found;
}

refused_at : {l m : ℕ} (entry now : Shown) (name : List ℕ) (code : ℕ) → Steps NoChange l m entry now → FindsRefused entry.held now.held name code → IsRefusedAt entry now name code
refused_at entry now name code step found = record {
  now = found;
  entry = λ calm. refused_then entry now name step calm code found;
}

-- ---- calls

-- room of which a call has written all is as long as before
pub written_back : (n len : ℕ) (new old : List ℕ) → length new ≡ n → length old ≡ n → len ≡ length old → length (take len (new ++ drop (length new) old)) ≡ n
written_back n len new old is_new is_old is_len = simp (length-take, length-append, length-drop) (omega arith)

more_calls : (t n m : ℕ) → n + 1 ≤ m → t * n + t ≤ t * m
more_calls t n m h = grind arith

-- one name more, with its calls
pub step_more : {tries : ℕ} {entry mid now : Shown} (n m : ℕ) → n + 1 ≤ m → Steps NoChange 0 (tries * n) entry mid → Steps NoChange 0 tries mid now → Steps NoChange 0 (tries * m) entry now
step_more {tries = tries} n m within first second = steps_wider (λ key value own. own) (omega arith) (more_calls tries n m within) (steps_then first second)

pub once_more : (n m : ℕ) (entry mid now : Shown) → n + 1 ≤ m → OnceEach (2 * n) entry mid → OnceEach 2 mid now → OnceEach (2 * m) entry now
once_more n m entry mid now within first second = once_few (2 * n + 2) (2 * m) entry now (omega arith) (once_then (2 * n) 2 entry mid now first second)

pub no_step : {entry : Shown} (n : ℕ) → Steps NoChange 0 n entry entry
no_step {entry = entry} n = steps_wider (λ key value own. own) (omega arith) (omega arith) (steps_same NoChange entry)

pub count_of : (old : List InputInfo) (x : List ℕ) (rest : List (List ℕ)) → list_any (λ i. bytes_eq x i.name) old ≡ false → length old + 1 ≤ length (names_from (names_of old) (x ∷ rest))
count_of old x rest fresh =
    let others = others_once (names_of old ++ x ∷ []) rest in
    let long : length (names_of old ++ x ∷ others) ≡ length (names_of old) + length (x ∷ others) = length-append (names_of old) (x ∷ others) in
    let same : length (names_of old) ≡ length old = length-map old (λ (i : InputInfo). i.name) in
    rw (new_name old x rest fresh) (omega (arith, long, same))

pub read_none : {tries : ℕ} {entry : Shown} → HasRead tries entry entry []
read_none {tries = tries} {entry = entry} = record { read = All-nil (IsReadAt entry); step = no_step (tries * 0); once = omega arith }

pub read_more : {tries : ℕ} (entry mid now : Shown) (old new : List InputInfo) (i : InputInfo) → HasRead tries entry mid old → new ≡ old ++ i ∷ [] → IsArrayLayout i.layout
    → FindsLayout mid.held now.held i.name i.layout → Steps NoChange 0 tries mid now → OnceEach 2 mid now → HasRead tries entry now new
read_more {tries = tries} entry mid now old new i so_far pushed layout found step once =
    let whole : Steps NoChange 0 (tries * (length old + 1)) entry now = step_more (length old) (length old + 1) (omega arith) so_far.step step in
    let both : OnceEach (2 * (length old + 1)) entry now = once_more (length old) (length old + 1) entry mid now (omega arith) so_far.once once in
    subst (λ (is : List InputInfo). HasRead tries entry now is) (sym pushed) (record {
      read = All-push (IsReadAt entry) old i so_far.read (read_at entry now i whole layout (finds_layout entry mid now i.name so_far.step i.layout found));
      step = rw length-append whole;
      once = rw length-append both;
    })

-- ---- faults

-- from `mid` on, no metadata was found for the name, whose turn it was then
pub fault_at : {l m n k : ℕ} (tries : ℕ) (names : List (List ℕ)) (entry mid now : Shown) (name : List ℕ) (fault : JobFault) → IsTurn names entry name → Steps NoChange l m entry mid
    → Steps NoChange n k entry now → IsFindFault tries mid now name (status_of fault) → IsInputFault tries names entry now fault
fault_at tries names entry mid now name (DepotFailed key) turn earlier step h = (name, asked_at_entry entry mid now name earlier key h.0, turn, omega (arith, h.1, earlier.count))
fault_at tries names entry mid now name (NoArray missing) turn earlier step h =
    subst (λ (n : List ℕ). IsTurn names entry n × HasNoMetadata entry.held n) (sym h.0)
    (turn, (gone_before entry mid (metadata_key_of name) (stepped earlier) h.1.0, gone_before entry mid (zarray_key_of name) (stepped earlier) h.1.1))
fault_at tries names entry mid now name (BadMeta refused code) turn earlier step h =
    subst (λ (n : List ℕ). IsTurn names entry n × IsRefusedAt entry now n code) (sym h.0)
    (turn, refused_at entry now name code step (finds_refused entry mid now name earlier code h.1))
fault_at tries names entry mid now name NoMemory turn earlier step h = tt
fault_at tries names entry mid now name fault turn earlier step h = absurd h

pub metadata_status : (tries before after : ℕ) (held : Option Contents) (name : List ℕ) (status : Status) → IsMetadataFault tries before after held name status → IsMetadataStatus status
metadata_status tries before after held name (status.DepotFailed key) h = tt
metadata_status tries before after held name (status.BadMeta refused code) h = tt
metadata_status tries before after held name (status.NoArray missing) h = tt
metadata_status tries before after held name status.NoMemory h = tt
metadata_status tries before after held name other h = absurd h

pub find_status : (tries : ℕ) (old new : Shown) (name : List ℕ) (status : Status) → IsFindFault tries old new name status → IsMetadataStatus status
find_status tries old new name (status.DepotFailed key) h = tt
find_status tries old new name (status.BadMeta refused code) h = tt
find_status tries old new name (status.NoArray missing) h = tt
find_status tries old new name status.NoMemory h = tt
find_status tries old new name other h = absurd h
