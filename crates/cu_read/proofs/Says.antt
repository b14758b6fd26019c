-- What a text that is read says, and that it is an expression.
use Rattle.std.proofs.Common.{◌≡◌, ◌⊎◌, inl, inr, ◌<◌, ◌≤◌, ◌+◌, ◌++◌, ◌^◌, ◌&&◌, ◌||◌, zero, suc, Bool, true, false, not, Option, Some, None, List, [], ◌∷◌, ℕ, length, codes, Result, Ok, Err, IfOk, refl, sym, ap, ◌∙◌, subst, get_or, arith, length-append, append_assoc}
use Rattle.std.specs.Prelude.{bytes_eq, nat_le, slice_get, if◌then◌else◌}
use Rattle.std.specs.List.{list_any, position}
use Rattle.std.specs.Str.{is_utf8}
use Rattle.std.proofs.lemmas.Bool.{leb-true}
use Rattle.std.proofs.lemmas.List.{map-append}
use Rattle.std.proofs.lemmas.List.Quantifiers.{position-Some}
use Rattle.std.proofs.lemmas.Option.{slice_get-get_or}
use Rattle.std.proofs.lemmas.Slice.Eq.{bytes_eq-Decides}
use Rattle.serde_json.specs.Data.{Data, Items, no_items, item}
use Rattle.serde_json.specs.Events.{items_len}
use Rattle.serde_json.specs.Find.{as_str, as_array}
use Rattle.serde_json.specs.Read.{read}
use Rattle.cu_json.specs.Form.{is_object_of}
use Rattle.cu_name.specs.Name.{is_name}
use Rattle.cu_result.specs.Results.{◌>>=◌, check, need}
use Rattle.cu_form.specs.Form.{takes_args, names_earlier}
use Rattle.cu_form.specs.Expression.{Expression, IsExpression, IsNode, IdsDiffer, HaveShortIndices}
use Rattle.cu_form.specs.declared.expr.Node.{Node}
use Rattle.cu_form.specs.declared.form.Form.{Form}
use Rattle.cu_read.specs.Form.{IsRow, SaysNode, SayNodes, SaysExpression, HasForm}
use Rattle.cu_read.specs.Members.{passing, member_of}
use Rattle.cu_read.specs.Node.{row_of, is_new_id, name_for, node_in}
use Rattle.cu_read.specs.Read.{whole_fault, answer_at, ids_of, nodes_after, AreNodes, listed_in, expression_in, expression_of}
use Rattle.cu_read.specs.Size.{item_count, items_count}
use Rattle.cu_read.specs.declared.faults.NodeCode.{NodeCode}
use Rattle.cu_read.specs.declared.faults.ReadFault.{ReadFault}
use Rattle.cu_read.proofs.IndexLength.{list_within, say_short}
use Rattle.cu_read.proofs.RowLaws.{row_says, row_laws}
use Rattle.cu_read.proofs.Steps.{after_need, after_step}
use Rattle.cu_read.proofs.TextItems.{text_items}

-- ---- tests

left_true : (a b : Bool) → (a && b) ≡ true → a ≡ true
left_true true b h = refl
left_true false b h = cc

right_true : (a b : Bool) → (a && b) ≡ true → b ≡ true
right_true true b h = h
right_true false b h = cc

was_false : (b : Bool) → not b ≡ true → b ≡ false
was_false true h = cc
was_false false h = refl

weaker : {A E : Type 0} (r : Result A E) (P Q : A → Type 0) → ((x : A) → P x → Q x) → IfOk r P → IfOk r Q
weaker (Ok x) P Q f h = f x h
weaker (Err e) P Q f h = tt

-- ---- a node

-- what a node that was read has: the value says it, it is one of its number, and its id is new
record IsRead (ids : List (List ℕ)) (d : Data) (said : Node) : Type 0 where
  pub says : SaysNode ids d said
  pub node : IsNode (length ids) said
  pub new : list_any (bytes_eq said.name) ids ≡ false

-- what a name that was given says
record IsNamed (ids : List (List ℕ)) (id : List ℕ) (form : Form) (name : List ℕ) : Type 0 where
  pub same : id ≡ name
  pub is : is_name id ≡ true
  pub new : list_any (bytes_eq id) ids ≡ false
  pub args : takes_args form ≡ true
  pub earlier : names_earlier (length ids) form ≡ true

three_checks : {A : Type 0} (a b c : Bool) (e f g : NodeCode) (x : A) (P : A → Type 0) → (a ≡ true → b ≡ true → c ≡ true → P x)
    → IfOk (check a e >>= λ _. check b f >>= λ _. check c g >>= λ _. Ok x) P
three_checks true true true e f g x P h = h refl refl refl
three_checks a b c e f g x P h = tt

name_says : (ids : List (List ℕ)) (id : List ℕ) (form : Form) → IfOk (name_for ids id form) (IsNamed ids id form)
name_says ids id form =
    three_checks (takes_args form) (is_new_id ids id) (names_earlier (length ids) form) NodeCode.Args NodeCode.Id NodeCode.Id id (IsNamed ids id form) (λ takes new earlier. record {
      same = refl;
      is = left_true (is_name id) (not (list_any (bytes_eq id) ids)) new;
      new = was_false (list_any (bytes_eq id) ids) (right_true (is_name id) (not (list_any (bytes_eq id) ids)) new);
      args = takes;
      earlier = earlier;
    })

read_node : (ids : List (List ℕ)) (d : Data) (op id : List ℕ) (form : Form) (name : List ℕ) → member_of as_str (codes "op") d ≡ Some op
    → member_of as_str (codes "id") d ≡ Some id → IsRow ids op d form → IsNamed ids id form name → IsRead ids d (record { name = name; form = form })
read_node ids d op id form name o i row h = record {
  says = record { op = op; operator = o; id = i ∙ ap Some h.same; row = row };
  node = record {
    name = subst (λ (n : List ℕ). is_name n ≡ true) h.same h.is;
    form = record { args = h.args; earlier = h.earlier; ranges = (row_laws ids op d form row).ranges };
  };
  new = subst (λ (n : List ℕ). list_any (bytes_eq n) ids ≡ false) h.same h.new;
}

abbrev made_node : List ℕ → Form → Result Node NodeCode
made_node n form = Ok (record { name = n; form = form })

node_steps : (id op : Option (List ℕ)) (row : List ℕ → Result Form NodeCode) (name : List ℕ → Form → Result (List ℕ) NodeCode) (P : Node → Type 0)
    → ((i o : List ℕ) (form : Form) (n : List ℕ) → id ≡ Some i → op ≡ Some o → row o ≡ Ok form → name i form ≡ Ok n → P (record { name = n; form = form }))
    → IfOk (need id NodeCode.Form >>= λ i. need op NodeCode.Form >>= λ o. row o >>= λ form. name i form >>= λ n. made_node n form) P
node_steps (Some i) (Some o) row name P h =
    after_step (row o) (λ (form : Form). name i form >>= λ n. made_node n form) P (λ form r.
    after_step (name i form) (λ (n : List ℕ). made_node n form) P (λ n s. h i o form n refl refl r s))
node_steps (Some i) None row name P h = tt
node_steps None op row name P h = tt

node_says : (ids : List (List ℕ)) (d : Data) → IfOk (node_in ids d) (IsRead ids d)
node_says ids d =
    node_steps (member_of as_str (codes "id") d) (member_of as_str (codes "op") d) (λ (op : List ℕ). row_of op ids d) (λ (id : List ℕ) (form : Form). name_for ids id form) (IsRead ids d)
    (λ id op form name i o r n. read_node ids d op id form name o i (subst (λ (x : Result Form NodeCode). IfOk x (IsRow ids op d)) r (row_says ids op d))
    (subst (λ (x : Result (List ℕ) NodeCode). IfOk x (IsNamed ids id form)) n (name_says ids id form)))

pub node_new : (ids : List (List ℕ)) (d : Data) → IfOk (node_in ids d) (λ node. list_any (bytes_eq node.name) ids ≡ false)
node_new ids d = weaker (node_in ids d) (IsRead ids d) (λ node. list_any (bytes_eq node.name) ids ≡ false) (λ node h. h.new) (node_says ids d)

at_node_ok : (number : ℕ) (r : Result Node NodeCode) (node : Node) → answer_at number r ≡ Ok node → r ≡ Ok node
at_node_ok number (Ok x) node h = let same : x ≡ node = cc in ap Ok same
at_node_ok number (Err code) node h = cc

node_read : (front : List Node) (d : Data) (node : Node) → answer_at (length front) (node_in (ids_of front) d) ≡ Ok node → IsRead (ids_of front) d node
node_read front d node h =
    subst (λ (r : Result Node NodeCode). IfOk r (IsRead (ids_of front) d)) (at_node_ok (length front) (node_in (ids_of front) d) node h) (node_says (ids_of front) d)

-- ---- the nodes

pub ids_of-append : (front : List Node) (node : Node) → ids_of (front ++ node ∷ []) ≡ ids_of front ++ node.name ∷ []
ids_of-append front node = map-append (λ (n : Node). n.name) front (node ∷ [])

pub length-ids : (front : List Node) → length (ids_of front) ≡ length front
length-ids [] = refl
length-ids (node ∷ front) = ap suc (length-ids front)

append-nil : (xs : List Node) → xs ++ [] ≡ xs
append-nil [] = refl
append-nil (x ∷ xs) = ap (λ (ys : List Node). x ∷ ys) (append-nil xs)

-- the nodes that are read begin with those in front, and the rest is what the items say
record GoOn (front : List Node) (items : Items) (nodes : List Node) : Type 0 where
  pub rest : List Node
  pub is : nodes ≡ front ++ rest
  pub say : SayNodes (ids_of front) items rest

go_on_next : (front : List Node) (d : Data) (items : Items) (node : Node) → SaysNode (ids_of front) d node → (nodes : List Node)
    → GoOn (front ++ node ∷ []) items nodes → GoOn front (item d items) nodes
go_on_next front d items node says nodes h = record {
  rest = node ∷ h.rest;
  is = h.is ∙ append_assoc front (node ∷ []) h.rest;
  say = (says, subst (λ (ids : List (List ℕ)). SayNodes ids items h.rest) (ids_of-append front node) h.say);
}

nodes_say : (front : List Node) (items : Items) → IfOk (nodes_after front items) (GoOn front items)
nodes_say front no_items = record { rest = []; is = sym (append-nil front); say = tt }
nodes_say front (item d items) =
    after_step (answer_at (length front) (node_in (ids_of front) d)) (λ (node : Node). nodes_after (front ++ node ∷ []) items) (GoOn front (item d items)) (λ node h. weaker (nodes_after (front ++ node ∷ []) items) (GoOn (front ++ node ∷ []) items) (GoOn front (item d items))
    (go_on_next front d items node (node_read front d node h).says) (nodes_say (front ++ node ∷ []) items))

-- ---- the nodes of an expression

record AreGood (list : List Node) : Type 0 where
  pub nodes : (k : ℕ) (node : Node) → slice_get list k ≡ Some node → IsNode k node
  pub ids : IdsDiffer list

get_pushed : {A : Type 0} (xs : List A) (x : A) (k : ℕ) (y : A) → slice_get (xs ++ x ∷ []) k ≡ Some y → (slice_get xs k ≡ Some y) ⊎ ((k ≡ length xs) × (x ≡ y))
get_pushed [] x zero y h = inr (refl, cc)
get_pushed [] x (suc k) y h = cc
get_pushed (z ∷ xs) x zero y h = inl h
get_pushed (z ∷ xs) x (suc k) y h = elim (get_pushed xs x k y h) [ inl a ↦ inl a | inr b ↦ inr (ap suc b.0, b.1) ]

left_false : (a b : Bool) → (a || b) ≡ false → a ≡ false
left_false true b h = cc
left_false false b h = refl

right_false : (a b : Bool) → (a || b) ≡ false → b ≡ false
right_false true b h = cc
right_false false b h = h

differ : (a b : List ℕ) → bytes_eq a b ≡ false → a ≡ b → ⊥
differ a b h same = let equal : bytes_eq a b ≡ true = (bytes_eq-Decides a b).1 same in cc

-- a name that is new differs from each name before it
name_is_new : (front : List Node) (name : List ℕ) (k : ℕ) (node : Node) → list_any (bytes_eq name) (ids_of front) ≡ false → slice_get front k ≡ Some node → name ≡ node.name → ⊥
name_is_new [] name k node new h same = cc
name_is_new (x ∷ front) name zero node new h same =
    let is : x ≡ node = cc in
    differ name x.name (left_false (bytes_eq name x.name) _ new) (same ∙ ap (λ (n : Node). n.name) (sym is))
name_is_new (x ∷ front) name (suc k) node new h same = name_is_new front name k node (right_false (bytes_eq name x.name) _ new) h same

good_pushed : (front : List Node) (node : Node) → AreGood front → IsNode (length front) node → list_any (bytes_eq node.name) (ids_of front) ≡ false → AreGood (front ++ node ∷ [])
good_pushed front node good is new = record {
  nodes = λ k m h. elim (get_pushed front node k m h) [
    | inl a ↦ good.nodes k m a
    | inr b ↦ subst (λ (j : ℕ). IsNode j m) (sym b.0) (subst (λ (n : Node). IsNode (length front) n) b.1 is)
  ];
  ids = λ j k m n g h same. elim (get_pushed front node j m g) [
    | inl a ↦ elim (get_pushed front node k n h) [
      | inl b ↦ good.ids j k m n a b same
      | inr b ↦ absurd (name_is_new front node.name j m new a (ap (λ (p : Node). p.name) b.1 ∙ sym same))
    ]
    | inr a ↦ elim (get_pushed front node k n h) [
      | inl b ↦ absurd (name_is_new front node.name k n new b (ap (λ (p : Node). p.name) a.1 ∙ same))
      | inr b ↦ a.0 ∙ sym b.0
    ]
  ];
}

record AreRead (front : List Node) (items : Items) (nodes : List Node) : Type 0 where
  pub good : AreGood nodes
  pub count : length nodes ≡ length front + items_len items

nodes_read : (front : List Node) (items : Items) → AreGood front → IfOk (nodes_after front items) (AreRead front items)
nodes_read front no_items good = record { good = good; count = omega arith }
nodes_read front (item d items) good =
    after_step (answer_at (length front) (node_in (ids_of front) d)) (λ (node : Node). nodes_after (front ++ node ∷ []) items) (AreRead front (item d items)) (λ node h. weaker (nodes_after (front ++ node ∷ []) items) (AreRead (front ++ node ∷ []) items) (AreRead front (item d items))
    (λ nodes r. record { good = r.good; count = omega (arith, r.count, length-append front (node ∷ [])) })
    (nodes_read (front ++ node ∷ []) items
    (let is : IsRead (ids_of front) d node = node_read front d node h in
    good_pushed front node good (subst (λ (k : ℕ). IsNode k node) (length-ids front) is.node) is.new)))

no_nodes : AreGood []
no_nodes = record { nodes = λ k node h. cc; ids = λ j k m n g h same. cc }

-- ---- the whole

found : (name : List ℕ) (ids : List (List ℕ)) (k : ℕ) → position (bytes_eq name) ids ≡ Some k → (k < length ids) × (slice_get ids k ≡ Some name)
found name ids k h =
    let at : (k < length ids) × (bytes_eq name (get_or ids k []) ≡ true) × ((j : ℕ) → j < k → bytes_eq name (get_or ids j []) ≡ false) = position-Some (bytes_eq name) ids k [] h in
    (at.0, slice_get-get_or ids k [] at.0 ∙ ap Some (sym ((bytes_eq-Decides name (get_or ids k [])).0 at.1)))

few : (count : ℕ) → nat_le count 256 ≡ true → count ≤ 256
few count h = leb-true count 256 h

-- what a list of nodes that was read has
record AreListed (items : Items) (list : List Node) : Type 0 where
  pub say : SayNodes [] items list
  pub are : AreNodes list

listed : (items : Items) → items_len items ≤ 256 → IfOk (nodes_after [] items) (AreListed items)
listed items short = listed_by items short (nodes_after [] items) (nodes_say [] items) (nodes_read [] items no_nodes) where
  listed_by : (items : Items) → items_len items ≤ 256 → (r : Result (List Node) ReadFault) → IfOk r (GoOn [] items) → IfOk r (AreRead [] items) → IfOk r (AreListed items)
  listed_by items short (Ok nodes) on read = record {
    say = subst (λ (ns : List Node). SayNodes [] items ns) (sym on.is) on.say;
    are = record { few = omega (arith, read.count); nodes = read.good.nodes; ids = read.good.ids };
  }
  listed_by items short (Err fault) on read = tt

pub listed_short : (items : Items) (nodes : List Node) → items_len items ≤ 256 → items_count items < 2 ^ 32 → nodes_after [] items ≡ Ok nodes → HaveShortIndices nodes
listed_short items nodes short few_items h =
    let are : AreListed items nodes = subst (λ (r : Result (List Node) ReadFault). IfOk r (AreListed items)) h (listed items short) in
    say_short [] items nodes few_items are.say

pub listed_nodes : (items : Items) (nodes : List Node) → items_len items ≤ 256 → nodes_after [] items ≡ Ok nodes → AreNodes nodes
listed_nodes items nodes short h =
    let are : AreListed items nodes = subst (λ (r : Result (List Node) ReadFault). IfOk r (AreListed items)) h (listed items short) in are.are

-- the expression of nodes
pub stored_is : (nodes : List Node) (out : List ℕ) (number : ℕ) (name : List ℕ) → AreNodes nodes → HaveShortIndices nodes → position (bytes_eq out) (ids_of nodes) ≡ Some number
    → is_name name ≡ true → IsExpression (record { nodes = nodes; out = number; store_as = name })
stored_is nodes out number name are indices at named = record {
  few = are.few;
  nodes = are.nodes;
  ids = are.ids;
  indices = indices;
  out = omega (arith, (found out (ids_of nodes) number at).0, length-ids nodes);
  store_as = named;
}

pub name_passes : (text name : List ℕ) → passing is_name text ≡ Some name → (text ≡ name) × (is_name name ≡ true)
name_passes text name h = name_by text name (is_name text) refl h where
  name_by : (text name : List ℕ) (b : Bool) → is_name text ≡ b → (if b then Some text else None) ≡ Some name → (text ≡ name) × (is_name name ≡ true)
  name_by text name true e h = let same : text ≡ name = cc in (same, subst (λ (n : List ℕ). is_name n ≡ true) same e)
  name_by text name false e h = cc

-- what an expression that was read has
abbrev Said : Data → Expression → Type 0
Said d e = SaysExpression d e × IsExpression e

-- the steps of the whole
abbrev made_expression : List Node → ℕ → List ℕ → Result Expression ReadFault
made_expression nodes k n = Ok (record { nodes = nodes; out = k; store_as = n })

listed_steps : (b : Bool) (found : Result (List Node) ReadFault) (at : List Node → Option ℕ) (name : Option (List ℕ)) (P : Expression → Type 0)
    → (b ≡ true → (nodes : List Node) → found ≡ Ok nodes → (k : ℕ) → at nodes ≡ Some k → (n : List ℕ) → name ≡ Some n → P (record { nodes = nodes; out = k; store_as = n }))
    → IfOk (check b (whole_fault 7) >>= λ _. found >>= λ nodes. need (at nodes) (whole_fault 2) >>= λ k. need name (whole_fault 2) >>= λ n. made_expression nodes k n) P
listed_steps true (Ok nodes) at (Some n) P h =
    after_need (at nodes) (whole_fault 2) (λ (k : ℕ). made_expression nodes k n) P (λ k e. h refl nodes refl k e n refl)
listed_steps true (Ok nodes) at None P h =
    after_need (at nodes) (whole_fault 2) (λ (k : ℕ). Err (whole_fault 2)) P (λ k e. tt)
listed_steps true (Err fault) at name P h = tt
listed_steps false found at name P h = tt

top_steps : (b : Bool) (items : Option Items) (out store_as : Option (List ℕ)) (rest : Items → List ℕ → List ℕ → Result Expression ReadFault) (P : Expression → Type 0)
    → (b ≡ true → (i : Items) → items ≡ Some i → (o : List ℕ) → out ≡ Some o → (s : List ℕ) → store_as ≡ Some s → IfOk (rest i o s) P)
    → IfOk (check b (whole_fault 2) >>= λ _. need items (whole_fault 2) >>= λ i. need out (whole_fault 2) >>= λ o. need store_as (whole_fault 2) >>= λ s. rest i o s) P
top_steps true (Some i) (Some o) (Some s) rest P h = h refl i refl o refl s refl
top_steps b items out store_as rest P h = tt

pub expression_says : (d : Data) → item_count d < 2 ^ 32 → IfOk (expression_in d) (Said d)
expression_says d few_items =
    top_steps (is_object_of 3 d) (member_of as_array (codes "nodes") d) (member_of as_str (codes "out") d) (member_of as_str (codes "store_as") d) listed_in (Said d)
    (λ members items i out o store_as s.
    listed_steps (nat_le (items_len items) 256) (nodes_after [] items) (λ (nodes : List Node). position (bytes_eq out) (ids_of nodes)) (passing is_name store_as) (Said d)
    (λ short nodes n number p name m.
    let list : AreListed items nodes = subst (λ (r : Result (List Node) ReadFault). IfOk r (AreListed items)) n (listed items (few (items_len items) short)) in
    let named : (store_as ≡ name) × (is_name name ≡ true) = name_passes store_as name m in (
      record {
        members = members;
        items = items;
        listed = i;
        nodes = list.say;
        id = out;
        out = o;
        stored = (found out (ids_of nodes) number p).1;
        store_as = s ∙ ap Some named.0;
      },
      stored_is nodes out number name list.are (say_short [] items nodes (let w = list_within (codes "nodes") d items i in omega arith) list.say) p named.1,
    )))

text_steps : (a b : Bool) (value : Option Data) (rest : Data → Result Expression ReadFault) (P : Expression → Type 0)
    → (a ≡ true → b ≡ true → (d : Data) → value ≡ Some d → IfOk (rest d) P)
    → IfOk (check a (whole_fault 7) >>= λ _. check b (whole_fault 1) >>= λ _. need value (whole_fault 1) >>= λ d. rest d) P
text_steps true true (Some d) rest P h = h refl refl d refl
text_steps a b value rest P h = tt

text_says : (text : List ℕ) → IfOk (expression_of text) (HasForm text)
unfolding expression_of
text_says text =
    text_steps (nat_le (length text) 1048576) (is_utf8 text) (read text) expression_in (HasForm text) (λ short utf8 value r.
    weaker (expression_in value) (Said value) (HasForm text)
    (λ x s. record { short = leb-true (length text) 1048576 short; utf8 = utf8; value = value; reads = r; says = s.0; expression = s.1 }) (expression_says value (let w = text_items text value r in let l = leb-true (length text) 1048576 short in omega arith)))

pub text_has_form : (text : List ℕ) (e : Expression) → expression_of text ≡ Ok e → HasForm text e
text_has_form text e h = subst (λ (r : Result Expression ReadFault). IfOk r (HasForm text)) h (text_says text)
