-- The loop over the items of a list of nodes.
use Rattle.std.proofs.Common.{◌≡◌, ◌<◌, ◌≤◌, ◌+◌, ◌++◌, ◌^◌, List, [], ◌∷◌, ℕ, drop, get_or, length, false, nat_le, Some, Bool, codes, Ok, Err, Result, OnOk, refl, sym, ap, ◌∙◌, subst, arith}
use Rattle.std.specs.Prelude.{bytes_eq}
use Rattle.std.specs.List.{position}
use Rattle.std.specs.Result.{is_err}
use Rattle.std.proofs.Math.ListN.{drop_of_length-le}
use Rattle.std.proofs.lemmas.Bool.{le-leb}
use Rattle.std.proofs.lemmas.List.{map-append}
use Rattle.serde_json.specs.Data.{Data, Items}
use Rattle.serde_json.specs.Find.{as_array}
use Rattle.serde_json.specs.View.{view, items_view}
use Rattle.serde_json.specs.declared.value.Value.{Value}
use Rattle.serde_json.proofs.Views.{items_len-items_view}
use Rattle.cu_name.specs.Name.{is_name}
use Rattle.cu_form.specs.Expression.{Expression, IsExpression, HaveShortIndices}
use Rattle.cu_form.specs.declared.expr.Node.{Node}
use Rattle.cu_result.specs.Results.{◌>>=◌}
use Rattle.cu_read.specs.Faults.{GivesAs}
use Rattle.cu_read.specs.Members.{passing, member_of}
use Rattle.cu_read.specs.Node.{node_in}
use Rattle.cu_read.specs.Read.{whole_fault, answer_at, ids_of, nodes_after, AreNodes, expression_with, listed_in, top_member}
use Rattle.cu_read.specs.Size.{item_count, items_count}
use Rattle.cu_read.specs.declared.faults.ReadFault.{ReadFault}
use Rattle.cu_read.specs.declared.faults.ReadRefused.{ReadRefused}
use Rattle.cu_read.specs.declared.nodes.Nodes.{Nodes}
use Rattle.cu_result.proofs.ResultSteps.{need_ok}
use Rattle.cu_read.proofs.EntriesRead.{cut_at}
use Rattle.cu_read.proofs.IndexLength.{list_within}
use Rattle.cu_read.proofs.Says.{length-ids, listed_nodes, listed_short, stored_is, name_passes}

-- the answer for the next item, where the nodes so far are those in front
next_said : (v : Value) (front : List Node) (ids : List (List ℕ)) (r : Result Node ReadFault) → ids ≡ ids_of front
    → answer_at (length ids) (node_in ids (view v)) ≡ r → answer_at (length front) (node_in (ids_of front) (view v)) ≡ r
next_said v front ids r same said =
    ap (λ (n : ℕ). answer_at n (node_in (ids_of front) (view v))) (sym (length-ids front)) ∙ subst (λ (names : List (List ℕ)). answer_at (length names) (node_in names (view v)) ≡ r) same said

pub go_on : (items : List Value) (k : ℕ) (v : Value) (front : List Node) (ids : List (List ℕ)) (node : Node) (whole : Result (List Node) ReadFault)
    → k < length items → v ≡ get_or items k v → ids ≡ ids_of front → whole ≡ nodes_after front (items_view (drop k items))
    → answer_at (length ids) (node_in ids (view v)) ≡ Ok node → whole ≡ nodes_after (front ++ node ∷ []) (items_view (drop (k + 1) items))
go_on items k v front ids node whole within is same so_far said =
    so_far ∙ ap (λ (vs : List Value). nodes_after front (items_view vs)) (cut_at items k v within is)
    ∙ ap (λ (r : Result Node ReadFault). r >>= λ (n : Node). nodes_after (front ++ n ∷ []) (items_view (drop (k + 1) items))) (next_said v front ids (Ok node) same said)

pub stop_at : (items : List Value) (k : ℕ) (v : Value) (front : List Node) (ids : List (List ℕ)) (refused : ReadRefused) (whole : Result (List Node) ReadFault)
    → k < length items → v ≡ get_or items k v → ids ≡ ids_of front → whole ≡ nodes_after front (items_view (drop k items))
    → GivesAs {A = Node} {B = Node} (λ n. n) (Err refused) (answer_at (length ids) (node_in ids (view v)))
    → GivesAs {A = Nodes} {B = List Node} (λ n. n.list.items) (Err refused) whole
stop_at items k v front ids (ReadRefused.Fault fault) whole within is same so_far said =
    so_far ∙ ap (λ (vs : List Value). nodes_after front (items_view vs)) (cut_at items k v within is)
    ∙ ap (λ (r : Result Node ReadFault). r >>= λ (n : Node). nodes_after (front ++ n ∷ []) (items_view (drop (k + 1) items))) (next_said v front ids (Err fault) same said)
stop_at items k v front ids ReadRefused.NoMemory whole within is same so_far said = tt

pub ids_pushed : (front list : List Node) (ids names : List (List ℕ)) (node : Node) → ids ≡ ids_of front → list ≡ front ++ node ∷ [] → names ≡ ids ++ node.name ∷ [] → names ≡ ids_of list
ids_pushed front list ids names node same is pushed =
    pushed ∙ ap (λ (l : List (List ℕ)). l ++ node.name ∷ []) same ∙ sym (map-append (λ (n : Node). n.name) front (node ∷ [])) ∙ ap ids_of (sym is)

pub are_nodes : (items : List Value) (nodes : List Node) → length items ≤ 256 → nodes_after [] (items_view items) ≡ Ok nodes → AreNodes nodes
are_nodes items nodes short h = listed_nodes (items_view items) nodes (rw items_len-items_view short) h

-- the indices of nodes that were read
pub are_short : (items : List Value) (nodes : List Node) → length items ≤ 256 → items_count (items_view items) < 2 ^ 32 → nodes_after [] (items_view items) ≡ Ok nodes → HaveShortIndices nodes
are_short items nodes short few h = listed_short (items_view items) nodes (rw items_len-items_view short) few h

-- the list of nodes of a value
pub top_within : (d : Data) (items : Items) → Ok items ≡ top_member as_array (codes "nodes") d → items_count items ≤ item_count d
top_within d items h = list_within (codes "nodes") d items (need_ok (member_of as_array (codes "nodes") d) (whole_fault 2) items (sym h))

-- ---- the whole list

longer : (m n : ℕ) → n < m → nat_le m n ≡ false
longer m n h = grind arith

pub too_many : (items : List Value) (out store_as : List ℕ) → 256 < length items → listed_in (items_view items) out store_as ≡ Err (whole_fault 7)
too_many items out store_as many = rw (items_len-items_view items, longer (length items) 256 many) refl

listed_is : (items : List Value) (out store_as : List ℕ) (r : Result (List Node) ReadFault) → length items ≤ 256 → nodes_after [] (items_view items) ≡ r
    → listed_in (items_view items) out store_as ≡ (r >>= λ (nodes : List Node). expression_with nodes (ids_of nodes) out store_as)
listed_is items out store_as r short said = rw (items_len-items_view items, le-leb (length items) 256 short, said) refl

pub listed_ok : (items : List Value) (out store_as : List ℕ) (nodes : List Node) (ids : List (List ℕ)) (result : Result Expression ReadRefused) → length items ≤ 256
    → nodes_after [] (items_view items) ≡ Ok nodes → ids ≡ ids_of nodes → GivesAs (λ e. e) result (expression_with nodes ids out store_as)
    → GivesAs (λ e. e) result (listed_in (items_view items) out store_as)
listed_ok items out store_as nodes ids result short said same answer =
    subst (λ (r : Result Expression ReadFault). GivesAs (λ (e : Expression). e) result r) (sym (listed_is items out store_as (Ok nodes) short said))
    (subst (λ (names : List (List ℕ)). GivesAs (λ (e : Expression). e) result (expression_with nodes names out store_as)) same answer)

pub listed_err : (items : List Value) (out store_as : List ℕ) (refused : ReadRefused) → length items ≤ 256
    → GivesAs {A = Nodes} {B = List Node} (λ n. n.list.items) (Err refused) (nodes_after [] (items_view items))
    → GivesAs {A = Expression} {B = Expression} (λ e. e) (Err refused) (listed_in (items_view items) out store_as)
listed_err items out store_as (ReadRefused.Fault fault) short said = listed_is items out store_as (Err fault) short said
listed_err items out store_as ReadRefused.NoMemory short said = tt

-- ---- the node that is stored

pub is_stored : (nodes : List Node) (ids : List (List ℕ)) (out store_as : List ℕ) (k : ℕ) (name : List ℕ) → AreNodes nodes → HaveShortIndices nodes → ids ≡ ids_of nodes
    → position (bytes_eq out) ids ≡ Some k → passing is_name store_as ≡ Some name → IsExpression (record { nodes = nodes; out = k; store_as = name })
is_stored nodes ids out store_as k name are indices same at named =
    stored_is nodes out k name are indices (subst (λ (names : List (List ℕ)). position (bytes_eq out) names ≡ Some k) same at) (name_passes store_as name named).1

-- ---- the loop's ends

pub added : {E : Type 0} (r : Result (Unit {0}) E) (b : Bool) (P : Type 0) → b ≡ is_err r → b ≡ false → OnOk r P → P
added (Ok x) b P is fails h = h
added (Err e) b P is fails h = cc

pub all_said : (items : List Value) (k : ℕ) (list : List Node) → length items ≤ k → nodes_after [] (items_view items) ≡ nodes_after list (items_view (drop k items))
    → nodes_after [] (items_view items) ≡ Ok list
all_said items k list past so_far = so_far ∙ ap (λ (vs : List Value). nodes_after list (items_view vs)) (drop_of_length-le items past)
