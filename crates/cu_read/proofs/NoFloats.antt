-- The value of a text that is read as an expression has no float.
use Rattle.std.proofs.Common.{◌≡◌, ℕ, ◌++◌, false, List, [], ◌∷◌, Option, Some, codes, Ok, refl, subst}
use Rattle.serde_json.specs.Data.{Data, Items, no_items, item}
use Rattle.serde_json.specs.Find.{get, as_str, as_array}
use Rattle.serde_json.specs.Read.{read}
use Rattle.serde_json.specs.Written.{has_float, items_have_float}
use Rattle.cu_form.specs.Expression.{Expression}
use Rattle.cu_form.specs.declared.expr.Node.{Node}
use Rattle.cu_read.specs.Form.{SaysNode, SayNodes, SaysExpression}
use Rattle.cu_read.specs.Read.{expression_of}
use Rattle.cu_read.proofs.PlainMembers.{hold_none, and_plain, and_has, object_plain}
use Rattle.cu_read.proofs.PlainReaders.{text_plain}
use Rattle.cu_read.proofs.RowLaws.{row_laws}
use Rattle.cu_read.proofs.Says.{text_has_form}
use Rattle.cu_read.proofs.TextItems.{stepped}

-- ---- nodes

node_plain : (ids : List (List ℕ)) (d : Data) (node : Node) → SaysNode ids d node → has_float d ≡ false
node_plain ids d node s = (row_laws ids s.op d node.form s.row).plain (record { op = s.op; operator = s.operator; name = node.name; id = s.id })

nodes_plain : (ids : List (List ℕ)) (ds : Items) (nodes : List Node) → SayNodes ids ds nodes → items_have_float ds ≡ false
nodes_plain ids no_items nodes h = refl
nodes_plain ids (item d ds) [] h = absurd h
nodes_plain ids (item d ds) (node ∷ nodes) h = rw (node_plain ids d node h.0, nodes_plain (ids ++ node.name ∷ []) ds nodes h.1) refl

-- ---- the whole

array_plain : (d : Data) (ds : Items) → as_array d ≡ Some ds → items_have_float ds ≡ false → has_float d ≡ false
array_plain Data.null ds h plain = refl
array_plain (Data.boolean b) ds h plain = refl
array_plain (Data.number n) ds h plain = cc
array_plain (Data.string s) ds h plain = refl
array_plain (Data.array xs) ds h plain = let same : xs ≡ ds = cc in rw same plain
array_plain (Data.object ms) ds h plain = cc

whole_plain : (d : Data) (e : Expression) → SaysExpression d e → has_float d ≡ false
whole_plain d e s =
    let list = stepped as_array (get (codes "nodes") d) s.items s.listed in
    object_plain (codes "nodes" ∷ codes "out" ∷ codes "store_as" ∷ []) 3 d refl s.members
    (and_plain (codes "nodes") (codes "out" ∷ codes "store_as" ∷ []) 2 d list.0 list.1 (array_plain list.0 s.items list.2 (nodes_plain [] s.items e.nodes s.nodes))
    (and_has as_str (codes "out") (codes "store_as" ∷ []) 1 d s.id text_plain s.out
    (and_has as_str (codes "store_as") [] 0 d e.store_as text_plain s.store_as (hold_none d))))

same_value : (read : Option Data) (d e : Data) → read ≡ Some d → read ≡ Some e → d ≡ e
same_value read d e h k = cc

-- Each value of an expression's text is a text, an integer, true, false or null, or a list or an object of such values.
pub read_has_no_float : (text : List ℕ) (e : Expression) (d : Data) → expression_of text ≡ Ok e → read text ≡ Some d → has_float d ≡ false
read_has_no_float text e d says reads =
    let form = text_has_form text e says in
    subst (λ (v : Data). has_float v ≡ false) (same_value (read text) form.value d form.reads reads) (whole_plain form.value e form.says)
