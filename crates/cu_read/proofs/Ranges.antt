-- Members that are read lie in their ranges.
use Rattle.std.proofs.Common.{◌≡◌, ◌++◌, ◌&&◌, Bool, true, Option, Some, None, List, [], ◌∷◌, ℕ, ℤ, codes, option_and_then, refl, ◌∙◌, subst}
use Rattle.std.specs.Prelude.{option_map}
use Rattle.std.specs.List.{list_all}
use Rattle.std.specs.Option.{option_or}
use Rattle.std.proofs.lemmas.List.Folds.{list_all-append}
use Rattle.serde_json.specs.Data.{Data, Items, no_items, item}
use Rattle.serde_json.specs.Find.{get, as_array, as_bool, as_str, as_number, as_u64, as_integer}
use Rattle.cu_form.specs.Form.{is_chunk_size, is_written, is_written_arg, is_written_value}
use Rattle.cu_form.specs.declared.args.Arg.{Arg}
use Rattle.cu_node.specs.NewShape.{is_size}
use Rattle.cu_node.specs.declared.literal.Literal.{Literal}
use Rattle.cu_result.proofs.OptionSteps.{step_some}
use Rattle.cu_read.specs.Args.{node_named, written_arg, arg_of}
use Rattle.cu_read.specs.Lists.{entries_after, entries_of}
use Rattle.cu_read.specs.Members.{written_of, literal_of, natural_of, sizes_of, chunk_sizes_of, member_of}
use Rattle.cu_read.proofs.Passing.{both, passes, member_passes}

-- ---- lists

entries_pass_after : {A : Type 0} (entry : Data → Option A) (test : A → Bool) → ((d : Data) (x : A) → entry d ≡ Some x → test x ≡ true)
    → (front : List A) (items : Items) (xs : List A) → list_all test front ≡ true → entries_after entry front items ≡ Some xs → list_all test xs ≡ true
entries_pass_after {A} entry test each front no_items xs all h = let same : front ≡ xs = cc in subst (λ (ys : List A). list_all test ys ≡ true) same all
entries_pass_after {A} entry test each front (item d ds) xs all h =
    let s : (x : A) × (entry d ≡ Some x) × (entries_after entry (front ++ x ∷ []) ds ≡ Some xs) = step_some (entry d) (λ (x : A). entries_after entry (front ++ x ∷ []) ds) xs h in
    entries_pass_after entry test each (front ++ s.0 ∷ []) ds xs
    (list_all-append test front (s.0 ∷ []) ∙ both (list_all test front) (test s.0 && true) all (both (test s.0) true (each d s.0 s.1) refl)) s.2

entries_pass_list : {A : Type 0} (entry : Data → Option A) (test : A → Bool) → ((d : Data) (x : A) → entry d ≡ Some x → test x ≡ true)
    → (list : Option Items) (xs : List A) → option_and_then (entries_after entry []) list ≡ Some xs → list_all test xs ≡ true
entries_pass_list entry test each (Some items) xs h = entries_pass_after entry test each [] items xs refl h
entries_pass_list entry test each None xs h = cc

pub entries_pass : {A : Type 0} (entry : Data → Option A) (test : A → Bool) → ((d : Data) (x : A) → entry d ≡ Some x → test x ≡ true)
    → (d : Data) (xs : List A) → entries_of entry d ≡ Some xs → list_all test xs ≡ true
entries_pass entry test each d xs h = entries_pass_list entry test each (as_array d) xs h

-- ---- values

pub natural_passes : (test : ℕ → Bool) (d : Data) (x : ℕ) → natural_of test d ≡ Some x → test x ≡ true
natural_passes test d x h = passes test (option_and_then as_u64 (as_number d)) x h

pub written_passes : (d : Data) (x : ℤ) → written_of d ≡ Some x → is_written x ≡ true
written_passes d x h = passes is_written (option_and_then as_integer (as_number d)) x h

literal_by : (d : Data) (truth : Option Bool) (number : Option ℤ) (x : Literal) → written_of d ≡ number
    → option_or (option_map Literal.Truth truth) (option_map Literal.Int number) ≡ Some x → is_written_value x ≡ true
literal_by d (Some b) number x e h = let same : Literal.Truth b ≡ x = cc in subst (λ v. is_written_value v ≡ true) same refl
literal_by d None (Some n) x e h = let same : Literal.Int n ≡ x = cc in subst (λ v. is_written_value v ≡ true) same (written_passes d n e)
literal_by d None None x e h = cc

pub literal_passes : (d : Data) (x : Literal) → literal_of d ≡ Some x → is_written_value x ≡ true
literal_passes d x h = literal_by d (as_bool d) (written_of d) x refl h

written_arg_passes : (x : Literal) → is_written_value x ≡ true → is_written_arg (written_arg x) ≡ true
written_arg_passes (Literal.Int n) h = h
written_arg_passes (Literal.Truth b) h = refl

arg_by : (ids : List (List ℕ)) (d : Data) (text : Option (List ℕ)) (value : Option Literal) (x : Arg) → literal_of d ≡ value
    → option_or (option_map (λ id. Arg.Node (node_named ids id)) text) (option_map written_arg value) ≡ Some x → is_written_arg x ≡ true
arg_by ids d (Some id) value x e h = let same : Arg.Node (node_named ids id) ≡ x = cc in subst (λ v. is_written_arg v ≡ true) same refl
arg_by ids d None (Some v) x e h = let same : written_arg v ≡ x = cc in subst (λ a. is_written_arg a ≡ true) same (written_arg_passes v (literal_passes d v e))
arg_by ids d None None x e h = cc

arg_passes : (ids : List (List ℕ)) (d : Data) (x : Arg) → arg_of ids d ≡ Some x → is_written_arg x ≡ true
arg_passes ids d x h = arg_by ids d (as_str d) (literal_of d) x refl h

-- ---- members

pub sizes_pass : (d : Data) (name : List ℕ) (xs : List ℕ) → member_of sizes_of name d ≡ Some xs → list_all is_size xs ≡ true
sizes_pass d name xs h = member_passes sizes_of (list_all is_size) (entries_pass (natural_of is_size) is_size (natural_passes is_size)) (get name d) xs h

pub chunk_sizes_pass : (d : Data) (name : List ℕ) (xs : List ℕ) → member_of chunk_sizes_of name d ≡ Some xs → list_all is_chunk_size xs ≡ true
chunk_sizes_pass d name xs h = member_passes chunk_sizes_of (list_all is_chunk_size) (entries_pass (natural_of is_chunk_size) is_chunk_size (natural_passes is_chunk_size)) (get name d) xs h

pub args_pass : (ids : List (List ℕ)) (d : Data) (xs : List Arg) → member_of (entries_of (arg_of ids)) (codes "args") d ≡ Some xs → list_all is_written_arg xs ≡ true
args_pass ids d xs h = member_passes (entries_of (arg_of ids)) (list_all is_written_arg) (entries_pass (arg_of ids) is_written_arg (arg_passes ids)) (get (codes "args") d) xs h

pub size_passes : (d : Data) (name : List ℕ) (x : ℕ) → member_of (natural_of is_size) name d ≡ Some x → is_size x ≡ true
size_passes d name x h = member_passes (natural_of is_size) is_size (natural_passes is_size) (get name d) x h
