-- An expression that the relation gives is read.
use Rattle.std.proofs.Common.{◌≡◌, ◌<◌, ◌++◌, ◌||◌, zero, suc, Bool, true, false, Option, Some, List, [], ◌∷◌, ℕ, length, codes, Result, Ok, refl, sym, ap, ◌∙◌, subst, get_or, arith, append_assoc}
use Rattle.std.specs.Prelude.{bytes_eq, nat_le, slice_get}
use Rattle.std.specs.List.{list_any, position, position_or_len}
use Rattle.std.specs.Str.{is_utf8}
use Rattle.std.proofs.lemmas.Bool.{le-leb, lt-ltb}
use Rattle.std.proofs.lemmas.List.Sums.{position_or_len_is}
use Rattle.std.proofs.lemmas.Option.{slice_get-get_or, slice_get_within, get_or_from_slice_get}
use Rattle.std.proofs.lemmas.Slice.Eq.{bytes_eq-Decides}
use Rattle.serde_json.specs.Data.{Data, Items, no_items, item}
use Rattle.serde_json.specs.Events.{items_len}
use Rattle.serde_json.specs.Find.{as_str, as_array}
use Rattle.serde_json.specs.Read.{read}
use Rattle.cu_json.specs.Form.{is_object_of}
use Rattle.cu_name.specs.Name.{is_name}
use Rattle.cu_form.specs.Expression.{Expression, IsExpression, IsNode, IdsDiffer}
use Rattle.cu_form.specs.declared.expr.Node.{Node}
use Rattle.cu_form.specs.declared.form.Form.{Form}
use Rattle.cu_result.specs.Results.{◌>>=◌, check, need}
use Rattle.cu_read.specs.Form.{SaysNode, SayNodes, SaysExpression, HasForm}
use Rattle.cu_read.specs.Members.{passing, member_of}
use Rattle.cu_read.specs.Node.{row_of, is_new_id, name_for, node_in}
use Rattle.cu_read.specs.Read.{whole_fault, answer_at, ids_of, nodes_after, listed_in, expression_in, expression_of}
use Rattle.cu_read.specs.declared.faults.NodeCode.{NodeCode}
use Rattle.cu_read.specs.declared.faults.ReadFault.{ReadFault}
use Rattle.cu_read.proofs.RowLaws.{row_laws}
use Rattle.cu_read.proofs.Says.{length-ids, ids_of-append}

-- ---- a node

new_id : (ids : List (List ℕ)) (id : List ℕ) → is_name id ≡ true → list_any (bytes_eq id) ids ≡ false → is_new_id ids id ≡ true
new_id ids id named new = rw (named, new) refl

name_read : (ids : List (List ℕ)) (node : Node) → IsNode (length ids) node → list_any (bytes_eq node.name) ids ≡ false → name_for ids node.name node.form ≡ Ok node.name
name_read ids node is new = rw (is.form.args, new_id ids node.name is.name new, is.form.earlier) refl

abbrev made : List ℕ → Form → Result Node NodeCode
made n form = Ok (record { name = n; form = form })

steps_read : (id op : Option (List ℕ)) (row : List ℕ → Result Form NodeCode) (name : List ℕ → Form → Result (List ℕ) NodeCode) (i o : List ℕ) (form : Form) (n : List ℕ)
    → id ≡ Some i → op ≡ Some o → row o ≡ Ok form → name i form ≡ Ok n
    → (need id NodeCode.Form >>= λ j. need op NodeCode.Form >>= λ p. row p >>= λ f. name j f >>= λ m. made m f) ≡ made n form
steps_read id op row name i o form n h k l m = rw (h, k, l, m) refl

node_read : (ids : List (List ℕ)) (d : Data) (node : Node) → SaysNode ids d node → IsNode (length ids) node → list_any (bytes_eq node.name) ids ≡ false → node_in ids d ≡ Ok node
node_read ids d node says is new =
    steps_read (member_of as_str (codes "id") d) (member_of as_str (codes "op") d) (λ (op : List ℕ). row_of op ids d) (λ (id : List ℕ) (form : Form). name_for ids id form)
    node.name says.op node.form node.name says.id says.operator (row_laws ids says.op d node.form says.row).read (name_read ids node is new)

-- ---- the nodes

append_nil : (xs : List Node) → xs ++ [] ≡ xs
append_nil [] = refl
append_nil (x ∷ xs) = ap (λ (ys : List Node). x ∷ ys) (append_nil xs)

-- each of the nodes is one of its number, behind those in front, and its id is new
abbrev AreFresh : List Node → List Node → Type 0
AreFresh front [] = Unit {0}
AreFresh front (node ∷ rest) = IsNode (length front) node × (list_any (bytes_eq node.name) (ids_of front) ≡ false) × AreFresh (front ++ node ∷ []) rest

nodes_read : (front : List Node) (items : Items) (rest : List Node) → SayNodes (ids_of front) items rest → AreFresh front rest → nodes_after front items ≡ Ok (front ++ rest)
nodes_read front no_items [] says fresh = ap (λ (ns : List Node). Ok ns) (sym (append_nil front))
nodes_read front no_items (node ∷ rest) says fresh = absurd says
nodes_read front (item d items) [] says fresh = absurd says
nodes_read front (item d items) (node ∷ rest) says fresh =
    let is : node_in (ids_of front) d ≡ Ok node = node_read (ids_of front) d node says.0 (subst (λ (k : ℕ). IsNode k node) (sym (length-ids front)) fresh.0) fresh.1 in
    ap (λ (r : Result Node NodeCode). answer_at (length front) r >>= λ (n : Node). nodes_after (front ++ n ∷ []) items) is
    ∙ nodes_read (front ++ node ∷ []) items rest (subst (λ (ids : List (List ℕ)). SayNodes ids items rest) (sym (ids_of-append front node)) says.1) fresh.2
    ∙ ap (λ (ns : List Node). Ok ns) (append_assoc front (node ∷ []) rest)

-- ---- the nodes of an expression

get_front : (front rest : List Node) (k : ℕ) (node : Node) → slice_get front k ≡ Some node → slice_get (front ++ rest) k ≡ Some node
get_front [] rest k node h = cc
get_front (first ∷ front) rest zero node h = h
get_front (first ∷ front) rest (suc k) node h = get_front front rest k node h

get_behind : (front : List Node) (node : Node) (rest : List Node) → slice_get (front ++ node ∷ rest) (length front) ≡ Some node
get_behind [] node rest = refl
get_behind (first ∷ front) node rest = get_behind front node rest

-- a name that is among the ids is one of a node
record IsUsed (front : List Node) (name : List ℕ) : Type 0 where
  pub place : ℕ
  pub by : Node
  pub at : slice_get front place ≡ Some by
  pub same : name ≡ by.name

used : (front : List Node) (name : List ℕ) → list_any (bytes_eq name) (ids_of front) ≡ true → IsUsed front name
used [] name h = cc
used (first ∷ front) name h = used_by first front name (bytes_eq name first.name) refl h (used front name) where
  used_by : (first : Node) (front : List Node) (name : List ℕ) (b : Bool) → bytes_eq name first.name ≡ b → (b || list_any (bytes_eq name) (ids_of front)) ≡ true
      → (list_any (bytes_eq name) (ids_of front) ≡ true → IsUsed front name) → IsUsed (first ∷ front) name
  used_by first front name true e h later = record { place = 0; by = first; at = refl; same = (bytes_eq-Decides name first.name).0 e }
  used_by first front name false e h later = let u : IsUsed front name = later h in record { place = suc u.place; by = u.by; at = u.at; same = u.same }

unused_by : (front : List Node) (node : Node) (rest : List Node) (b : Bool) → list_any (bytes_eq node.name) (ids_of front) ≡ b → IdsDiffer (front ++ node ∷ rest) → b ≡ false
unused_by front node rest true e ids =
    let u : IsUsed front node.name = used front node.name e in
    let lt : u.place < length front = slice_get_within front u.place u.by u.at in
    let same : u.place ≡ length front = ids u.place (length front) u.by node (get_front front (node ∷ rest) u.place u.by u.at) (get_behind front node rest) (sym u.same) in
    absurd (omega arith)
unused_by front node rest false e ids = refl

unused : (front : List Node) (node : Node) (rest : List Node) → IdsDiffer (front ++ node ∷ rest) → list_any (bytes_eq node.name) (ids_of front) ≡ false
unused front node rest ids = unused_by front node rest (list_any (bytes_eq node.name) (ids_of front)) refl ids

abbrev AreNumbered : List Node → Type 0
AreNumbered nodes = (k : ℕ) (node : Node) → slice_get nodes k ≡ Some node → IsNode k node

fresh : (front rest : List Node) → AreNumbered (front ++ rest) → IdsDiffer (front ++ rest) → AreFresh front rest
fresh front [] nodes ids = tt
fresh front (node ∷ rest) nodes ids = (
  nodes (length front) node (get_behind front node rest),
  unused front node rest ids,
  fresh (front ++ node ∷ []) rest (subst AreNumbered (sym (append_assoc front (node ∷ []) rest)) nodes) (subst IdsDiffer (sym (append_assoc front (node ∷ []) rest)) ids),
)

-- ---- the node that is stored

node_at : (nodes : List Node) (k : ℕ) (id : List ℕ) → slice_get (ids_of nodes) k ≡ Some id → (node : Node) × (slice_get nodes k ≡ Some node) × (node.name ≡ id)
node_at [] k id h = cc
node_at (node ∷ nodes) zero id h = (node, refl, cc)
node_at (node ∷ nodes) (suc k) id h = node_at nodes k id h

first_by : (nodes : List Node) (j k : ℕ) (id : List ℕ) (b : Bool) → j < k → k < length (ids_of nodes) → IdsDiffer nodes → slice_get (ids_of nodes) k ≡ Some id → bytes_eq id (get_or (ids_of nodes) j []) ≡ b → b ≡ false
first_by nodes j k id true lt within ids at e =
    let same : id ≡ get_or (ids_of nodes) j [] = (bytes_eq-Decides id (get_or (ids_of nodes) j [])).0 e in
    let here : slice_get (ids_of nodes) j ≡ Some id = slice_get-get_or (ids_of nodes) j [] (omega arith) ∙ ap Some (sym same) in
    let a : (node : Node) × (slice_get nodes j ≡ Some node) × (node.name ≡ id) = node_at nodes j id here in
    let b : (node : Node) × (slice_get nodes k ≡ Some node) × (node.name ≡ id) = node_at nodes k id at in
    let equal : j ≡ k = ids j k a.0 b.0 a.1 b.1 (a.2 ∙ sym b.2) in
    absurd (omega arith)
first_by nodes j k id false lt within ids at e = refl

placed : (ids : List (List ℕ)) (id : List ℕ) (k : ℕ) → k < length ids → position_or_len (bytes_eq id) ids ≡ k → position (bytes_eq id) ids ≡ Some k
placed ids id k within h = rw (h, lt-ltb k (length ids) within) refl

stored_at : (nodes : List Node) (k : ℕ) (id : List ℕ) → IdsDiffer nodes → slice_get (ids_of nodes) k ≡ Some id → position (bytes_eq id) (ids_of nodes) ≡ Some k
stored_at nodes k id ids at =
    let within : k < length (ids_of nodes) = slice_get_within (ids_of nodes) k id at in
    placed (ids_of nodes) id k within
    (position_or_len_is (bytes_eq id) (ids_of nodes) k [] (omega arith) (λ j lt. first_by nodes j k id (bytes_eq id (get_or (ids_of nodes) j [])) lt within ids at refl)
    (λ lt. (bytes_eq-Decides id (get_or (ids_of nodes) k [])).1 (sym (get_or_from_slice_get (ids_of nodes) k id [] at))))

-- ---- the whole

said_length : (ids : List (List ℕ)) (items : Items) (nodes : List Node) → SayNodes ids items nodes → items_len items ≡ length nodes
said_length ids no_items [] h = refl
said_length ids no_items (node ∷ nodes) h = absurd h
said_length ids (item d items) [] h = absurd h
said_length ids (item d items) (node ∷ nodes) h = ap suc (said_length (ids ++ node.name ∷ []) items nodes h.1)

abbrev stored : List Node → ℕ → List ℕ → Result Expression ReadFault
stored nodes k n = Ok (record { nodes = nodes; out = k; store_as = n })

listed_read : (b : Bool) (found : Result (List Node) ReadFault) (at : List Node → Option ℕ) (name : Option (List ℕ)) (nodes : List Node) (k : ℕ) (n : List ℕ)
    → b ≡ true → found ≡ Ok nodes → at nodes ≡ Some k → name ≡ Some n
    → (check b (whole_fault 7) >>= λ _. found >>= λ ns. need (at ns) (whole_fault 2) >>= λ j. need name (whole_fault 2) >>= λ m. stored ns j m) ≡ stored nodes k n
listed_read b found at name nodes k n h l m o = rw (h, l, m, o) refl

top_read : (b : Bool) (items : Option Items) (out store_as : Option (List ℕ)) (rest : Items → List ℕ → List ℕ → Result Expression ReadFault) (i : Items) (o s : List ℕ)
    → b ≡ true → items ≡ Some i → out ≡ Some o → store_as ≡ Some s
    → (check b (whole_fault 2) >>= λ _. need items (whole_fault 2) >>= λ j. need out (whole_fault 2) >>= λ p. need store_as (whole_fault 2) >>= λ t. rest j p t) ≡ rest i o s
top_read b items out store_as rest i o s h k l m = rw (h, k, l, m) refl

named_passes : (name : List ℕ) → is_name name ≡ true → passing is_name name ≡ Some name
named_passes name h = rw h refl

said_is_read : (d : Data) (e : Expression) → SaysExpression d e → IsExpression e → expression_in d ≡ Ok e
said_is_read d e says is =
    top_read (is_object_of 3 d) (member_of as_array (codes "nodes") d) (member_of as_str (codes "out") d) (member_of as_str (codes "store_as") d) listed_in
    says.items says.id e.store_as says.members says.listed says.out says.store_as
    ∙ listed_read (nat_le (items_len says.items) 256) (nodes_after [] says.items) (λ (nodes : List Node). position (bytes_eq says.id) (ids_of nodes)) (passing is_name e.store_as) e.nodes e.out e.store_as
    (le-leb (items_len says.items) 256 (rw (said_length [] says.items e.nodes says.nodes) is.few))
    (nodes_read [] says.items e.nodes says.nodes (fresh [] e.nodes is.nodes is.ids))
    (stored_at e.nodes e.out says.id is.ids says.stored)
    (named_passes e.store_as is.store_as)

text_read : (a b : Bool) (value : Option Data) (rest : Data → Result Expression ReadFault) (d : Data) → a ≡ true → b ≡ true → value ≡ Some d
    → (check a (whole_fault 7) >>= λ _. check b (whole_fault 1) >>= λ _. need value (whole_fault 1) >>= λ v. rest v) ≡ rest d
text_read a b value rest d h k l = rw (h, k, l) refl

pub form_read : (text : List ℕ) (e : Expression) → HasForm text e → expression_of text ≡ Ok e
unfolding expression_of
form_read text e h =
    text_read (nat_le (length text) 1048576) (is_utf8 text) (read text) expression_in h.value (le-leb (length text) 1048576 h.short) h.utf8 h.reads ∙ said_is_read h.value e h.says h.expression
