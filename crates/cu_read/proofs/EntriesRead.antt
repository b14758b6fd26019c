-- The loop over the items of a list, each of which is an entry.
use Rattle.std.proofs.Common.{◌≡◌, ◌<◌, ◌≤◌, ◌+◌, ◌++◌, Bool, false, List, [], ◌∷◌, ℕ, drop, get_or, length, Option, Some, None, option_and_then, Result, Ok, Err, ap, sym, ◌∙◌}
use Rattle.std.specs.Prelude.{if◌then◌else◌}
use Rattle.std.specs.Result.{is_ok, is_err}
use Rattle.std.proofs.lemmas.List.{drop_more, at_drop_all}
use Rattle.serde_json.specs.Data.{Data}
use Rattle.serde_json.specs.View.{view, items_view}
use Rattle.serde_json.specs.declared.value.Value.{Value}
use Rattle.cu_result.specs.Results.{need}
use Rattle.cu_read.specs.Lists.{entries_after}
use Rattle.cu_read.specs.declared.faults.NodeCode.{NodeCode}

-- what is left begins with the item here
pub cut_at : (items : List Value) (k : ℕ) (v : Value) → k < length items → v ≡ get_or items k v → drop k items ≡ v ∷ drop (k + 1) items
cut_at items k v within is = drop_more items k v within ∙ ap (λ (w : Value). w ∷ drop (k + 1) items) (sym is)

next_entry : {A : Type 0} (entry : Data → Option A) (items : List Value) (k : ℕ) (v : Value) (front : List A) (found : Option A) → k < length items → v ≡ get_or items k v → entry (view v) ≡ found
    → entries_after entry front (items_view (drop k items)) ≡ option_and_then (λ x. entries_after entry (front ++ x ∷ []) (items_view (drop (k + 1) items))) found
next_entry entry items k v front found within is said =
    ap (λ (vs : List Value). entries_after entry front (items_view vs)) (cut_at items k v within is)
    ∙ ap (option_and_then (λ x. entries_after entry (front ++ x ∷ []) (items_view (drop (k + 1) items)))) said

pushed : {A E : Type 0} (r : Result (Unit {0}) E) (failed : Bool) (front list : List A) (x : A) → failed ≡ is_err r → failed ≡ false → list ≡ (if is_ok r then front ++ x ∷ [] else front) → list ≡ front ++ x ∷ []
pushed (Ok u) failed front list x is fails h = h
pushed (Err e) failed front list x is fails h = cc

-- an item that is an entry goes behind those in front
pub one_more : {A E : Type 0} (entry : Data → Option A) (items : List Value) (k : ℕ) (v : Value) (found : Option A) (x : A) (r : Result (Unit {0}) E) (failed : Bool) (front list : List A) (whole : Option (List A))
    → k < length items → v ≡ get_or items k v → found ≡ entry (view v) → found ≡ Some x → failed ≡ is_err r → failed ≡ false → list ≡ (if is_ok r then front ++ x ∷ [] else front)
    → whole ≡ entries_after entry front (items_view (drop k items)) → whole ≡ entries_after entry list (items_view (drop (k + 1) items))
one_more {A = A} entry items k v found x r failed front list whole within is said some is_failed fails h so_far =
    so_far ∙ next_entry entry items k v front (Some x) within is (sym said ∙ some)
    ∙ ap (λ (xs : List A). entries_after entry xs (items_view (drop (k + 1) items))) (sym (pushed r failed front list x is_failed fails h))

-- an item that is none refuses the whole
pub no_entry : {A : Type 0} (entry : Data → Option A) (code : NodeCode) (given items : List Value) (k : ℕ) (v : Value) (found : Option A) (front : List A)
    → items ≡ given → k < length items → v ≡ get_or items k v → found ≡ entry (view v) → found ≡ None
    → entries_after entry [] (items_view items) ≡ entries_after entry front (items_view (drop k items)) → need (entries_after entry [] (items_view given)) code ≡ Err code
no_entry {A = A} entry code given items k v found front same within is said none so_far =
    ap (λ (vs : List Value). need (entries_after entry [] (items_view vs)) code) (sym same)
    ∙ ap (λ (o : Option (List A)). need o code) (so_far ∙ next_entry entry items k v front None within is (sym said ∙ none))

-- behind the last item
pub all_entries : {A : Type 0} (entry : Data → Option A) (code : NodeCode) (given items : List Value) (k : ℕ) (list result : List A) → items ≡ given → length items ≤ k → result ≡ list
    → entries_after entry [] (items_view items) ≡ entries_after entry list (items_view (drop k items)) → need (entries_after entry [] (items_view given)) code ≡ Ok result
all_entries {A = A} entry code given items k list result same past made so_far =
    ap (λ (vs : List Value). need (entries_after entry [] (items_view vs)) code) (sym same)
    ∙ ap (λ (o : Option (List A)). need o code) (so_far ∙ at_drop_all (λ (vs : List Value). entries_after entry list (items_view vs)) items k past)
    ∙ ap (λ (xs : List A). Ok xs) (sym made)
