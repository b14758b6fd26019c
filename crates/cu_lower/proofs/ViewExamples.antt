-- Plans of small expressions with views: their operations, values and meanings.
use Rattle.std.proofs.Common.{◌≡◌, ℕ, zero, suc, ◌+◌, ◌*◌, ◌<◌, pos, negsuc, false, List, [], ◌∷◌, None, Some, refl, ap, sym, ◌∙◌, subst, codes, arith}
use Rattle.std.specs.Prelude.{slice_get, slice_index, bytes_eq}
use Rattle.std.specs.List.{position_or_len}
use Rattle.std.proofs.lemmas.Int.{ints}
use Rattle.std.proofs.lemmas.List.Elements.{All-nil, All-cons}
use Rattle.cu_num.specs.Dtype.{InRange}
use Rattle.cu_num.specs.declared.types.Dtype.TheVariants.{Int32, Int64}
use Rattle.cu_origin.specs.declared.pull.Pull.TheVariants.{Slice, Concat, Arange}
use Rattle.cu_op.specs.Layout.{IsLayout}
use Rattle.cu_op.specs.Elements.{Elements}
use Rattle.cu_op.specs.Value.{plan_value}
use Rattle.cu_op.specs.declared.operation.Op.TheVariants.{Pull}
use Rattle.cu_form.specs.Expression.{Expression, IsNode}
use Rattle.cu_form.specs.Form.{HasShortIndex}
use Rattle.cu_form.specs.declared.args.Arg.{Arg}
use Rattle.cu_form.specs.declared.expr.Node.{Node}
use Rattle.cu_form.specs.declared.form.Form.{Form}
use Rattle.cu_node.specs.Info.{IsInfo, info_of}
use Rattle.cu_node.specs.declared.index_item.IndexItem.{IndexItem}
use Rattle.cu_node.specs.declared.info.NodeInfo.{NodeInfo}
use Rattle.cu_typing_view.specs.Entries.{count_taken}
use Rattle.cu_expr.specs.declared.inputs.InputInfo.{InputInfo}
use Rattle.cu_semantics.specs.Argument.{NodeElements}
use Rattle.cu_semantics.specs.Meaning.{meaning_of}
use Rattle.cu_lower_view.specs.Runs.{slice_run}
use Rattle.cu_lower.specs.Parts.{made_layout}
use Rattle.cu_lower.specs.Plan.{plan_of}
use Rattle.cu_lower.specs.Premises.{IsLowerable}
use Rattle.cu_lower.specs.declared.options.Options.{Options}

abbrev of_form : List ℕ → Form → Node
of_form name form = record { name = name; form = form }

abbrev stored_last : Node → Node → Expression
stored_last x y = record { nodes = x ∷ y ∷ []; out = 1; store_as = codes "y" }

abbrev options : Options
options = record { allowed = 64; reserved = 0; split_every = 4; retries = 2; workers = 1; backups = false; fusion = 1 }

abbrev stored : List ℕ → NodeInfo → InputInfo
stored name i = record { name = name; layout = made_layout i }

abbrev a : Node
a = of_form (codes "a") (Form.Input (codes "a"))

-- five numbers in chunks of two
abbrev five : NodeInfo
five = info_of Int32 (5 ∷ []) (2 ∷ [])

abbrev inputs : List InputInfo
inputs = stored (codes "a") five ∷ []

-- the elements of an input: its indices
abbrev indices : Elements
indices array idx = Some (pos (slice_index idx 0))

abbrev of_nodes : NodeElements
of_nodes k idx = pos (slice_index idx 0)

-- ---- every other element from the last on

abbrev v : Node
v = of_form (codes "v") (Form.Index (Arg.Node 0 ∷ []) (IndexItem.Slice None None (Some (negsuc 1)) ∷ []))

abbrev backward : Expression
backward = stored_last a v

abbrev three : NodeInfo
three = info_of Int32 (3 ∷ []) (2 ∷ [])

abbrev backward_infos : List NodeInfo
backward_infos = five ∷ three ∷ []

-- it reads the input's array, and needs a chunk of 8 bytes twice
the_operation : (plan_of backward backward_infos inputs options).ops
    ≡ record { op = Pull (Slice (record { items = record { first = 4; step = negsuc 1; count = 3 } ∷ [] }) (record { items = [] })) (record { items = 0 ∷ [] }) 1; node = 1; projected = 16 } ∷ []
unfolding slice_run
the_operation = refl

the_arrays : (plan_of backward backward_infos inputs options).arrays
    ≡ record { prefix = codes "a"; layout = made_layout five; maker = None; inlined = false } ∷ record { prefix = codes "y"; layout = made_layout three; maker = Some 0; inlined = false } ∷ []
the_arrays = refl

the_value : plan_value (plan_of backward backward_infos inputs options) indices 1 (1 ∷ []) ≡ Some (pos 2)
unfolding slice_run
the_value = refl

the_meaning : meaning_of backward backward_infos of_nodes 1 (1 ∷ []) ≡ pos 2
the_meaning = refl

-- ---- arrays of two types behind one another, of which the second is the longer

abbrev b : Node
b = of_form (codes "b") (Form.Input (codes "b"))

abbrev joined : Expression
joined = record { nodes = a ∷ b ∷ of_form (codes "c") (Form.Concat (Arg.Node 1 ∷ Arg.Node 0 ∷ []) (negsuc 0)) ∷ []; out = 2; store_as = codes "y" }

abbrev joined_infos : List NodeInfo
joined_infos = five ∷ info_of Int64 (3 ∷ []) (3 ∷ []) ∷ info_of Int64 (8 ∷ []) (3 ∷ []) ∷ []

abbrev two_inputs : List InputInfo
two_inputs = stored (codes "a") five ∷ stored (codes "b") (info_of Int64 (3 ∷ []) (3 ∷ [])) ∷ []

-- the operation reads the second input's array first
the_join : (plan_of joined joined_infos two_inputs options).ops
    ≡ record { op = Pull (Concat 0) (record { items = 1 ∷ 0 ∷ [] }) 2; node = 2; projected = 48 } ∷ []
the_join = refl

-- index 4 is index 1 of the other
behind_the_first : plan_value (plan_of joined joined_infos two_inputs options) (λ array idx. Some (pos (10 * array + slice_index idx 0))) 2 (4 ∷ []) ≡ Some (pos 1)
behind_the_first = refl

behind_is_meant : meaning_of joined joined_infos (λ k idx. pos (10 * k + slice_index idx 0)) 2 (4 ∷ []) ≡ pos 1
behind_is_meant = refl

-- ---- moved by two along the only axis: the first element is the fourth

abbrev rolled : Expression
rolled = stored_last a (of_form (codes "r") (Form.Roll (Arg.Node 0 ∷ []) (pos 2 ∷ []) (pos 0 ∷ [])))

the_fourth : plan_value (plan_of rolled (five ∷ five ∷ []) inputs options) indices 1 (0 ∷ []) ≡ Some (pos 3)
the_fourth = refl

the_fourth_is_meant : meaning_of rolled (five ∷ five ∷ []) of_nodes 1 (0 ∷ []) ≡ pos 3
the_fourth_is_meant = refl

-- ---- numbers from nothing: no array is read

abbrev counted : Expression
counted = record { nodes = of_form (codes "n") (Form.Arange (pos 0) (pos 4) (pos 1) Int32 (4 ∷ [])) ∷ []; out = 0; store_as = codes "y" }

from_nothing : (plan_of counted (info_of Int32 (4 ∷ []) (4 ∷ []) ∷ []) [] options).ops ≡ record { op = Pull (Arange (pos 0) (pos 1)) (record { items = [] }) 0; node = 0; projected = 32 } ∷ []
from_nothing = refl

-- ---- the premises hold of the first expression

each_node : (P : ℕ → Node → Type 0) → P 0 a → P 1 v → (k : ℕ) (n : Node) → slice_get backward.nodes k ≡ Some n → P k n
each_node P pa pv zero n at = let e : a ≡ n = cc in subst (P 0) e pa
each_node P pa pv (suc zero) n at = let e : v ≡ n = cc in subst (P 1) e pv
each_node P pa pv (suc (suc k)) n at = cc

abbrev place_of_id : List ℕ → ℕ
place_of_id id = position_or_len (λ (n : Node). bytes_eq id n.name) backward.nodes

ids : (k : ℕ) (n : Node) → slice_get backward.nodes k ≡ Some n → place_of_id n.name ≡ k
ids = each_node (λ k n. place_of_id n.name ≡ k) refl refl

five_kept : IsInfo five
five_kept = record {
  ranks = refl;
  short = omega arith;
  positive = All-cons (λ (c : ℕ). 0 < c) 2 [] (omega arith) (All-nil (λ (c : ℕ). 0 < c));
  elements = omega arith;
  chunks = omega arith;
  bytes = omega arith;
}

three_kept : IsInfo three
three_kept = record {
  ranks = refl;
  short = omega arith;
  positive = All-cons (λ (c : ℕ). 0 < c) 2 [] (omega arith) (All-nil (λ (c : ℕ). 0 < c));
  elements = omega arith;
  chunks = omega arith;
  bytes = omega arith;
}

zero_fits : InRange Int32 (pos 0)
zero_fits = (omega (arith, ints), omega (arith, ints))

pub lowerable : IsLowerable backward backward_infos inputs options
unfolding count_taken
lowerable = record {
  form = record {
    few = omega arith;
    nodes = each_node IsNode (record { name = refl; form = record { args = refl; earlier = refl; ranges = refl } }) (record { name = refl; form = record { args = refl; earlier = refl; ranges = refl } });
    ids = λ j k m n at there same. sym (ids j m at) ∙ ap place_of_id same ∙ ids k n there;
    out = omega arith;
    store_as = refl;
    indices = each_node (λ k n. HasShortIndex n.form) tt (omega arith);
  };
  types = refl;
  kept = All-cons IsInfo five (three ∷ []) five_kept (All-cons IsInfo three [] three_kept (All-nil IsInfo));
  fills = All-cons (λ (i : InputInfo). IsLayout i.layout) (stored (codes "a") five) [] zero_fits (All-nil (λ (i : InputInfo). IsLayout i.layout));
  memory = refl;
  counts = refl;
  allowed = omega arith;
  several = omega arith;
  few = omega arith;
}
