-- What is read as a value of a node's member has no float.
use Rattle.std.proofs.Common.{◌≡◌, ℕ, ◌+◌, ℤ, Float, Bool, true, false, List, [], ◌∷◌, ◌++◌, Option, Some, None, codes, option_map, option_and_then, refl, sym, ◌∙◌, arith}
use Rattle.std.specs.Option.{option_or}
use Rattle.std.specs.Prelude.{is_some, if◌then◌else◌, ⊤}
use Rattle.serde_json.specs.Data.{Num, unsigned, negative, float, Data, Items, no_items, item}
use Rattle.serde_json.specs.Find.{as_null, as_bool, as_number, as_str, as_array, as_i64, as_u64, as_integer}
use Rattle.serde_json.specs.Written.{has_float, items_have_float}
use Rattle.cu_json.specs.Form.{is_object_of}
use Rattle.cu_name.specs.Name.{is_name}
use Rattle.cu_num.specs.TypeName.{dtype_named}
use Rattle.cu_form.specs.declared.args.Arg.{Arg}
use Rattle.cu_form.specs.Form.{is_written, is_chunk_size}
use Rattle.cu_node.specs.NewShape.{is_size, are_new_sizes}
use Rattle.cu_node.specs.declared.index_item.IndexItem.{IndexItem}
use Rattle.cu_node.specs.declared.literal.Literal.{Literal}
use Rattle.cu_result.specs.Options.{◌>>=◌, when}
use Rattle.cu_read.specs.Args.{node_named, written_arg, arg_of}
use Rattle.cu_read.specs.IndexItem.{index_word, slice_part, slice_of, index_item_of}
use Rattle.cu_read.specs.Lists.{entries_after, entries_of}
use Rattle.cu_read.specs.Members.{passing, integer_of, written_of, literal_of, natural_of, dtype_of, name_of, integers_of, sizes_of, chunk_sizes_of, new_sizes_of, or_null, present}
use Rattle.cu_read.proofs.PlainMembers.{IsPlainReader, hold_none, and_may, object_plain}
use Rattle.cu_read.proofs.TextItems.{stepped}

-- ---- readers made of others

then_plain : {A B : Type 0} (f : A → Option B) (value : Data → Option A) → IsPlainReader value → IsPlainReader (λ d. option_and_then f (value d))
then_plain f value plain d x h = let s = stepped f (value d) x h in plain d s.0 s.1

map_at : {A B : Type 0} (f : A → B) (value : Data → Option A) (d : Data) (found : Option A) (x : B) → ((a : A) → value d ≡ Some a → has_float d ≡ false)
    → value d ≡ found → option_map f found ≡ Some x → has_float d ≡ false
map_at f value d (Some a) x plain e h = plain a e
map_at f value d None x plain e h = cc

map_plain : {A B : Type 0} (f : A → B) (value : Data → Option A) → IsPlainReader value → IsPlainReader (λ d. option_map f (value d))
map_plain f value plain d x h = map_at f value d (value d) x (plain d) refl h

either_at : {A : Type 0} (first second : Data → Option A) (d : Data) (found : Option A) (x : A) → ((a : A) → first d ≡ Some a → has_float d ≡ false)
    → ((a : A) → second d ≡ Some a → has_float d ≡ false) → first d ≡ found → option_or found (second d) ≡ Some x → has_float d ≡ false
either_at first second d (Some a) x p q e h = p a e
either_at first second d None x p q e h = q x h

either_plain : {A : Type 0} (first second : Data → Option A) → IsPlainReader first → IsPlainReader second → IsPlainReader (λ d. option_or (first d) (second d))
either_plain first second p q d x h = either_at first second d (first d) x (p d) (q d) refl h

-- ---- one value

null_plain : IsPlainReader as_null
null_plain Data.null x h = refl
null_plain (Data.boolean b) x h = refl
null_plain (Data.number n) x h = cc
null_plain (Data.string s) x h = refl
null_plain (Data.array ds) x h = cc
null_plain (Data.object ms) x h = cc

pub truth_plain : IsPlainReader as_bool
truth_plain Data.null x h = refl
truth_plain (Data.boolean b) x h = refl
truth_plain (Data.number n) x h = cc
truth_plain (Data.string s) x h = refl
truth_plain (Data.array ds) x h = cc
truth_plain (Data.object ms) x h = cc

pub text_plain : IsPlainReader as_str
text_plain Data.null x h = refl
text_plain (Data.boolean b) x h = refl
text_plain (Data.number n) x h = cc
text_plain (Data.string s) x h = refl
text_plain (Data.array ds) x h = cc
text_plain (Data.object ms) x h = cc

-- a reader of numbers that reads no float
number_plain : {A : Type 0} (f : Num → Option A) → ((x : Float) → f (float x) ≡ None) → IsPlainReader (λ d. option_and_then f (as_number d))
number_plain f none Data.null x h = refl
number_plain f none (Data.boolean b) x h = refl
number_plain f none (Data.number (unsigned n)) x h = refl
number_plain f none (Data.number (negative z)) x h = refl
number_plain f none (Data.number (float v)) x h = let e = sym (none v) ∙ h in cc
number_plain f none (Data.string s) x h = refl
number_plain f none (Data.array ds) x h = cc
number_plain f none (Data.object ms) x h = cc

pub integer_plain : IsPlainReader integer_of
integer_plain = number_plain as_i64 (λ x. refl)

pub natural_plain : (test : ℕ → Bool) → IsPlainReader (natural_of test)
natural_plain test = then_plain (passing test) (λ d. option_and_then as_u64 (as_number d)) (number_plain as_u64 (λ x. refl))

pub written_plain : IsPlainReader written_of
written_plain = then_plain (passing is_written) (λ d. option_and_then as_integer (as_number d)) (number_plain as_integer (λ x. refl))

pub literal_plain : IsPlainReader literal_of
literal_plain = either_plain (λ d. option_map Literal.Truth (as_bool d)) (λ d. option_map Literal.Int (written_of d)) (map_plain Literal.Truth as_bool truth_plain) (map_plain Literal.Int written_of written_plain)

pub dtype_plain : IsPlainReader dtype_of
dtype_plain = then_plain dtype_named as_str text_plain

pub name_plain : IsPlainReader name_of
name_plain = then_plain (passing is_name) as_str text_plain

null_at : {A : Type 0} (value : Data → Option A) (d : Data) (found : Option ⊤) (x : Option A) → IsPlainReader value → as_null d ≡ found
    → (if is_some found then Some None else option_map Some (value d)) ≡ Some x → has_float d ≡ false
null_at value d (Some t) x plain e h = null_plain d t e
null_at value d None x plain e h = map_plain Some value plain d x h

pub or_null_plain : {A : Type 0} (value : Data → Option A) → IsPlainReader value → IsPlainReader (or_null value)
or_null_plain value plain d x h = null_at value d (as_null d) x plain refl h

-- ---- lists

entries_plain : {A : Type 0} (entry : Data → Option A) (front : List A) (ds : Items) (xs : List A) → IsPlainReader entry → entries_after entry front ds ≡ Some xs → items_have_float ds ≡ false
entries_plain entry front no_items xs plain h = refl
entries_plain entry front (item d ds) xs plain h =
    let s = stepped (λ x. entries_after entry (front ++ x ∷ []) ds) (entry d) xs h in
    rw (plain d s.0 s.1, entries_plain entry (front ++ s.0 ∷ []) ds xs plain s.2) refl

-- a list of items that have no float
pub items_plain : {B : Type 0} (read : Items → Option B) → ((ds : Items) (x : B) → read ds ≡ Some x → items_have_float ds ≡ false) → IsPlainReader (λ d. option_and_then read (as_array d))
items_plain read plain Data.null x h = refl
items_plain read plain (Data.boolean b) x h = refl
items_plain read plain (Data.number n) x h = cc
items_plain read plain (Data.string s) x h = refl
items_plain read plain (Data.array ds) x h = plain ds x h
items_plain read plain (Data.object ms) x h = cc

pub list_plain : {A : Type 0} (entry : Data → Option A) → IsPlainReader entry → IsPlainReader (entries_of entry)
list_plain entry plain = items_plain (entries_after entry []) (λ ds xs h. entries_plain entry [] ds xs plain h)

pub sizes_plain : IsPlainReader sizes_of
sizes_plain = list_plain (natural_of is_size) (natural_plain is_size)

pub chunk_plain : IsPlainReader chunk_sizes_of
chunk_plain = list_plain (natural_of is_chunk_size) (natural_plain is_chunk_size)

pub integers_plain : IsPlainReader integers_of
integers_plain = list_plain integer_of integer_plain

pub new_sizes_plain : IsPlainReader new_sizes_of
new_sizes_plain = then_plain (passing are_new_sizes) integers_of integers_plain

-- ---- arguments and the entries of an index

arg_plain : (ids : List (List ℕ)) → IsPlainReader (arg_of ids)
arg_plain ids =
    either_plain (λ d. option_map (λ id. Arg.Node (node_named ids id)) (as_str d)) (λ d. option_map written_arg (literal_of d))
    (map_plain (λ id. Arg.Node (node_named ids id)) as_str text_plain) (map_plain written_arg literal_of literal_plain)

pub args_plain : (ids : List (List ℕ)) → IsPlainReader (entries_of (arg_of ids))
args_plain ids = list_plain (arg_of ids) (arg_plain ids)

slice_steps : (b : Bool) (start stop step : Option (Option ℤ)) (x : IndexItem)
    → (when b >>= λ _. start >>= λ from. stop >>= λ to. step >>= λ by. Some (IndexItem.Slice from to by)) ≡ Some x
    → (from to by : Option ℤ) × (b ≡ true) × (start ≡ Some from) × (stop ≡ Some to) × (step ≡ Some by)
slice_steps true (Some from) (Some to) (Some by) x h = (from, to, by, refl, refl, refl, refl)
slice_steps true (Some from) (Some to) None x h = cc
slice_steps true (Some from) None step x h = cc
slice_steps true None stop step x h = cc
slice_steps false start stop step x h = cc

three_sum : (a b c : ℕ) → a + b + c ≡ a + (b + (c + 0))
three_sum a b c = omega arith

slice_plain : IsPlainReader slice_of
slice_plain d x h =
    let s = slice_steps (is_object_of (present (codes "start") d + present (codes "stop") d + present (codes "step") d) d)
    (slice_part (codes "start") d) (slice_part (codes "stop") d) (slice_part (codes "step") d) x h in
    let bound = or_null_plain integer_of integer_plain in
    object_plain (codes "start" ∷ codes "stop" ∷ codes "step" ∷ []) (present (codes "start") d + (present (codes "stop") d + (present (codes "step") d + 0))) d refl
    (rw (← three_sum (present (codes "start") d) (present (codes "stop") d) (present (codes "step") d)) s.3)
    (and_may None (or_null integer_of) (codes "start") (codes "stop" ∷ codes "step" ∷ []) _ d s.0 bound s.4
    (and_may None (or_null integer_of) (codes "stop") (codes "step" ∷ []) _ d s.1 bound s.5
    (and_may None (or_null integer_of) (codes "step") [] 0 d s.2 bound s.6 (hold_none d))))

index_item_plain : IsPlainReader index_item_of
index_item_plain =
    either_plain (λ d. option_map IndexItem.At (integer_of d)) (λ d. option_or (option_and_then index_word (as_str d)) (slice_of d))
    (map_plain IndexItem.At integer_of integer_plain)
    (either_plain (λ d. option_and_then index_word (as_str d)) slice_of (then_plain index_word as_str text_plain) slice_plain)

pub index_plain : IsPlainReader (entries_of index_item_of)
index_plain = list_plain index_item_of index_item_plain
