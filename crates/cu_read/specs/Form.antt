-- The form of an expression's text as a relation between the text and the expression, apart from the order in which faults are
-- answered (this project's own form).
use Rattle.std.specs.Prelude.{◌≡◌, ◌⊎◌, ℕ, ◌≤◌, true, List, [], ◌∷◌, ◌++◌, map, length, codes, Some, slice_get}
use Rattle.std.specs.Str.{is_utf8}
use Rattle.serde_json.specs.Data.{Data, Items, no_items, item}
use Rattle.serde_json.specs.Find.{as_str, as_array}
use Rattle.serde_json.specs.Read.{read}
use Rattle.cu_form.specs.Expression.{Expression, IsExpression}
use Rattle.cu_form.specs.declared.expr.Node.{Node}
use Rattle.cu_form.specs.declared.form.Form.{Form}
use Rattle.cu_read.specs.Creation.{SaysCreation}
use Rattle.cu_read.specs.Elementwise.{SaysElementwise}
use Rattle.cu_read.specs.Members.{IsObjectOf, Has}
use Rattle.cu_read.specs.NewShape.{SaysReshape}
use Rattle.cu_read.specs.Reduction.{SaysReduction}
use Rattle.cu_read.specs.View.{SaysView}

-- A node with this operator says this form: one of the families has the operator, and the node says the form as a row of the family.
abbrev pub IsRow : List (List ℕ) → List ℕ → Data → Form → Type 0
IsRow ids op d form = SaysCreation op d form ⊎ SaysElementwise ids op d form ⊎ SaysView ids op d form ⊎ SaysReduction ids op d form ⊎ SaysReshape ids op d form

-- the value says the node that comes after those with these ids
pub record SaysNode (ids : List (List ℕ)) (d : Data) (node : Node) : Type 0 where
  pub op : List ℕ
  pub operator : Has as_str (codes "op") d op
  pub id : Has as_str (codes "id") d node.name
  pub row : IsRow ids op d node.form

-- each item says the node at its place, after those with these ids
abbrev pub SayNodes : List (List ℕ) → Items → List Node → Type 0
SayNodes ids no_items [] = Unit {0}
SayNodes ids (item d ds) (node ∷ nodes) = SaysNode ids d node × SayNodes (ids ++ node.name ∷ []) ds nodes
SayNodes ids items nodes = ⊥

-- the value says the expression
pub record SaysExpression (d : Data) (e : Expression) : Type 0 where
  pub members : IsObjectOf 3 d
  pub items : Items
  pub listed : Has as_array (codes "nodes") d items
  pub nodes : SayNodes [] items e.nodes
  pub id : List ℕ
  pub out : Has as_str (codes "out") d id
  pub stored : slice_get (map (λ node. node.name) e.nodes) e.out ≡ Some id
  pub store_as : Has as_str (codes "store_as") d e.store_as

-- The text is a JSON value of at most 1048576 bytes that says the expression, and the expression is one.
pub record HasForm (text : List ℕ) (e : Expression) : Type 0 where
  pub short : length text ≤ 1048576
  pub utf8 : is_utf8 text ≡ true
  pub value : Data
  pub reads : read text ≡ Some value
  pub says : SaysExpression value e
  pub expression : IsExpression e
