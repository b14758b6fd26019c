-- An index that is read has fewer than 2^32 entries.
use Rattle.std.proofs.Common.{◌≡◌, inl, inr, ℕ, zero, suc, ◌+◌, ◌≤◌, ◌<◌, ◌^◌, List, [], ◌∷◌, ◌++◌, length, codes, Option, Some, None, Ordering, Less, Equal, Greater, subst, arith, length-append}
use Rattle.std.specs.Ordering.{nat_cmp, match_ordering}
use Rattle.std.specs.Cmp.Lexicographic.{slice_cmp}
use Rattle.serde_json.specs.Data.{Data, Items, no_items, item, Members, no_members, member}
use Rattle.serde_json.specs.Events.{items_len}
use Rattle.serde_json.specs.Find.{get, get_member, as_array}
use Rattle.cu_form.specs.Expression.{HaveShortIndices}
use Rattle.cu_form.specs.Form.{HasShortIndex}
use Rattle.cu_form.specs.declared.expr.Node.{Node}
use Rattle.cu_form.specs.declared.form.Form.{Form}
use Rattle.cu_node.specs.declared.index_item.IndexItem.{IndexItem}
use Rattle.cu_read.specs.Form.{IsRow, SayNodes}
use Rattle.cu_read.specs.IndexItem.{index_item_of}
use Rattle.cu_read.specs.Lists.{entries_after, entries_of}
use Rattle.cu_read.specs.Members.{member_of}
use Rattle.cu_read.specs.Size.{item_count, items_count, members_count}
use Rattle.cu_read.proofs.TextItems.{stepped}

-- ---- a member

abbrev AtMost : ℕ → Option Data → Type 0
AtMost n None = Unit {0}
AtMost n (Some d) = item_count d ≤ n

more : (m n : ℕ) (o : Option Data) → m ≤ n → AtMost m o → AtMost n o
more m n None le h = tt
more m n (Some d) le h = omega arith

member_by : (o : Ordering) (e : Data) (n : ℕ) (rest : Option Data) → AtMost n rest → AtMost (item_count e + n) (match_ordering o rest (Some e) rest)
member_by Less e n rest h = more n (item_count e + n) rest (omega arith) h
member_by Equal e n rest h = let w : item_count e ≤ item_count e + n = omega arith in w
member_by Greater e n rest h = more n (item_count e + n) rest (omega arith) h

member_within : (k : List ℕ) (ms : Members) → AtMost (members_count ms) (get_member k ms)
member_within k no_members = tt
member_within k (member l e ms) = member_by (slice_cmp nat_cmp k l) e (members_count ms) (get_member k ms) (member_within k ms)

get_within : (k : List ℕ) (d : Data) → AtMost (item_count d) (get k d)
get_within k (Data.object ms) = member_within k ms
get_within k d = tt

found_within : (k : List ℕ) (d e : Data) → get k d ≡ Some e → item_count e ≤ item_count d
found_within k d e h = let P : Option Data → Type 0 = AtMost (item_count d) in subst P h (get_within k d)

-- ---- a list

array_within : (d : Data) (ds : Items) → as_array d ≡ Some ds → items_count ds ≤ item_count d
array_within (Data.array xs) ds h = let e : xs ≡ ds = cc in rw (← e) (omega arith)
array_within d ds h = cc

pub list_within : (name : List ℕ) (d : Data) (ds : Items) → member_of as_array name d ≡ Some ds → items_count ds ≤ item_count d
list_within name d ds h =
    let s = stepped as_array (get name d) ds h in
    let a = array_within s.0 ds s.2 in
    let b = found_within name d s.0 s.1 in
    omega arith

items_within : (ds : Items) → items_len ds ≤ items_count ds
items_within no_items = omega arith
items_within (item d ds) = let w = items_within ds in omega arith

entries_length : {A : Type 0} (entry : Data → Option A) (front : List A) (ds : Items) (xs : List A) → entries_after entry front ds ≡ Some xs → length xs ≡ length front + items_len ds
entries_length entry front no_items xs h = let e : front ≡ xs = cc in rw (← e) (omega arith)
entries_length entry front (item d ds) xs h =
    let s = stepped (λ x. entries_after entry (front ++ x ∷ []) ds) (entry d) xs h in
    let rest = entries_length entry (front ++ s.0 ∷ []) ds xs s.2 in
    let pushed = length-append front (s.0 ∷ []) in
    omega arith

index_within : (name : List ℕ) (d : Data) (items : List IndexItem) → member_of (entries_of index_item_of) name d ≡ Some items → length items ≤ item_count d
index_within name d items h =
    let s = stepped (entries_of index_item_of) (get name d) items h in
    let a = stepped (entries_after index_item_of []) (as_array s.0) items s.2 in
    let n = entries_length index_item_of [] a.0 items a.2 in
    let w = items_within a.0 in
    let l = array_within s.0 a.0 a.1 in
    let f = found_within name d s.0 s.1 in
    omega arith

-- ---- nodes

short_form : (ids : List (List ℕ)) (op : List ℕ) (d : Data) (form : Form) → item_count d < 2 ^ 32 → IsRow ids op d form → HasShortIndex form
short_form ids op d (Form.Index args items) few (inl h) = absurd h
short_form ids op d (Form.Index args items) few (inr (inl h)) = absurd h
short_form ids op d (Form.Index args items) few (inr (inr (inl h))) = let w = index_within (codes "index") d items h.2 in omega arith
short_form ids op d (Form.Index args items) few (inr (inr (inr (inl h)))) = absurd h
short_form ids op d (Form.Index args items) few (inr (inr (inr (inr h)))) = absurd h
short_form ids op d form few h = tt

pub say_short : (ids : List (List ℕ)) (ds : Items) (nodes : List Node) → items_count ds < 2 ^ 32 → SayNodes ids ds nodes → HaveShortIndices nodes
say_short ids no_items [] few h k node at = cc
say_short ids no_items (n ∷ nodes) few h k node at = absurd h
say_short ids (item d ds) [] few h k node at = absurd h
say_short ids (item d ds) (n ∷ nodes) few h zero node at =
    let same : n ≡ node = cc in
    subst (λ (m : Node). HasShortIndex m.form) same (short_form ids h.0.op d n.form (omega arith) h.0.row)
say_short ids (item d ds) (n ∷ nodes) few h (suc k) node at = say_short (ids ++ n.name ∷ []) ds nodes (omega arith) h.1 k node at
