-- Plans of small reductions, of a search for a place and of a product: their operations, arrays, values and meanings.
use Rattle.std.proofs.Common.{◌≡◌, ℕ, zero, suc, ◌<◌, pos, true, false, List, [], ◌∷◌, None, Some, refl, ap, sym, ◌∙◌, subst, codes, arith}
use Rattle.std.specs.Prelude.{slice_get, slice_index, bytes_eq}
use Rattle.std.specs.List.{position_or_len}
use Rattle.std.proofs.lemmas.Int.{ints}
use Rattle.std.proofs.lemmas.List.Elements.{All-nil, All-cons}
use Rattle.cu_num.specs.Dtype.{InRange}
use Rattle.cu_num.specs.Wrap.{wrapped}
use Rattle.cu_name.specs.Keys.{made_prefix_of}
use Rattle.cu_num.specs.declared.folds.FoldKind.TheVariants.{Sum}
use Rattle.cu_num.specs.declared.types.Dtype.TheVariants.{Int32, Int64}
use Rattle.cu_op.specs.Layout.{IsLayout}
use Rattle.cu_op.specs.Elements.{Elements}
use Rattle.cu_op.specs.Value.{plan_value}
use Rattle.cu_op.specs.declared.operation.Op.TheVariants.{Fold, Merge, PairFold, PairMerge, Mul}
use Rattle.cu_form.specs.Expression.{Expression, IsNode}
use Rattle.cu_form.specs.Form.{HasShortIndex}
use Rattle.cu_form.specs.declared.args.Arg.{Arg}
use Rattle.cu_form.specs.declared.expr.Node.{Node}
use Rattle.cu_form.specs.declared.form.Form.{Form}
use Rattle.cu_node.specs.Info.{IsInfo, info_of}
use Rattle.cu_node.specs.declared.info.NodeInfo.{NodeInfo}
use Rattle.cu_expr.specs.declared.inputs.InputInfo.{InputInfo}
use Rattle.cu_semantics.specs.Argument.{NodeElements}
use Rattle.cu_semantics.specs.Meaning.{meaning_of}
use Rattle.cu_lower.specs.Parts.{made_layout}
use Rattle.cu_lower.specs.Plan.{plan_of}
use Rattle.cu_lower.specs.Premises.{IsLowerable, IsComputedNode, NeedsAsMuch}
use Rattle.cu_lower.specs.declared.options.Options.{Options}

abbrev of_form : List ℕ → Form → Node
of_form name form = record { name = name; form = form }

abbrev stored_last : Node → Node → Expression
stored_last x y = record { nodes = x ∷ y ∷ []; out = 1; store_as = codes "y" }

abbrev options : Options
options = record { allowed = 64; reserved = 0; split_every = 4; retries = 2; workers = 1; backups = false; fusion = 1 }

abbrev a : Node
a = of_form (codes "a") (Form.Input (codes "a"))

-- five numbers in chunks of two
abbrev five : NodeInfo
five = info_of Int32 (5 ∷ []) (2 ∷ [])

abbrev one : NodeInfo
one = info_of Int64 [] []

abbrev inputs : List InputInfo
inputs = record { name = codes "a"; layout = made_layout five } ∷ []

-- the elements of an input: its indices
abbrev indices : Elements
indices array idx = Some (pos (slice_index idx 0))

abbrev of_nodes : NodeElements
of_nodes k idx = pos (slice_index idx 0)

-- ---- a sum: a partial result for each of three chunks, which one merge takes together

abbrev s : Node
s = of_form (codes "s") (Form.Reduce Sum (Arg.Node 0 ∷ []) None false)

abbrev summed : Expression
summed = stored_last a s

abbrev sum_infos : List NodeInfo
sum_infos = five ∷ one ∷ []

the_operations : (plan_of summed sum_infos inputs options).ops
    ≡ record { op = Fold Sum (record { 0 = 63 }) 0 1; node = 1; projected = 24 } ∷ record { op = Merge Sum 0 4 1 2; node = 1; projected = 48 } ∷ []
the_operations = refl

-- only the last array has the output's name
the_arrays : (plan_of summed sum_infos inputs options).arrays
    ≡ record { prefix = codes "a"; layout = made_layout five; maker = None; inlined = false }
    ∷ record { prefix = made_prefix_of (codes "y") 0; layout = made_layout (info_of Int64 (3 ∷ []) (1 ∷ [])); maker = Some 0; inlined = false }
    ∷ record { prefix = codes "y"; layout = made_layout one; maker = Some 1; inlined = false } ∷ []
the_arrays = refl

the_result : (plan_of summed sum_infos inputs options).out ≡ 2
the_result = refl

the_sum : plan_value (plan_of summed sum_infos inputs options) indices 2 [] ≡ Some (pos 10)
unfolding wrapped
the_sum = refl

the_sum_is_meant : meaning_of summed sum_infos of_nodes 1 [] ≡ pos 10
unfolding wrapped
the_sum_is_meant = refl

-- merged in pairs it has two rounds
in_pairs : (plan_of summed sum_infos inputs (record { allowed = 64; reserved = 0; split_every = 2; retries = 2; workers = 1; backups = false; fusion = 1 })).ops
    ≡ record { op = Fold Sum (record { 0 = 63 }) 0 1; node = 1; projected = 24 } ∷ record { op = Merge Sum 0 2 1 2; node = 1; projected = 32 } ∷ record { op = Merge Sum 0 2 2 3; node = 1; projected = 32 } ∷ []
in_pairs = refl

-- ---- the place of the greatest: the values are stored beside the places but in the last step

abbrev placed : Expression
placed = stored_last a (of_form (codes "p") (Form.ArgPlace false (Arg.Node 0 ∷ []) (Some (pos 0)) true))

abbrev place_infos : List NodeInfo
place_infos = five ∷ info_of Int64 (1 ∷ []) (1 ∷ []) ∷ []

the_searches : (plan_of placed place_infos inputs options).ops
    ≡ record { op = PairFold false (Some 0) 0 (Some 1) 2; node = 1; projected = 28 } ∷ record { op = PairMerge false 0 4 1 2 None 3; node = 1; projected = 68 } ∷ []
the_searches = refl

pair_arrays : (plan_of placed place_infos inputs options).arrays
    ≡ record { prefix = codes "a"; layout = made_layout five; maker = None; inlined = false }
    ∷ record { prefix = made_prefix_of (codes "y") 0; layout = made_layout (info_of Int32 (3 ∷ []) (1 ∷ [])); maker = Some 0; inlined = false }
    ∷ record { prefix = made_prefix_of (codes "y") 1; layout = made_layout (info_of Int64 (3 ∷ []) (1 ∷ [])); maker = Some 0; inlined = false }
    ∷ record { prefix = codes "y"; layout = made_layout (info_of Int64 (1 ∷ []) (1 ∷ [])); maker = Some 1; inlined = false } ∷ []
pair_arrays = refl

the_place : plan_value (plan_of placed place_infos inputs options) indices 3 (0 ∷ []) ≡ Some (pos 4)
the_place = refl

the_place_is_meant : meaning_of placed place_infos of_nodes 1 (0 ∷ []) ≡ pos 4
the_place_is_meant = refl

-- ---- a vector by itself

abbrev multiplied : Expression
multiplied = stored_last a (of_form (codes "m") (Form.Matmul (Arg.Node 0 ∷ Arg.Node 0 ∷ [])))

abbrev product_infos : List NodeInfo
product_infos = five ∷ info_of Int32 [] [] ∷ []

the_products : (plan_of multiplied product_infos inputs options).ops ≡ record { op = Mul 0 0 1; node = 1; projected = 28 } ∷ record { op = Merge Sum 0 4 1 2; node = 1; projected = 24 } ∷ []
the_products = refl

the_square : plan_value (plan_of multiplied product_infos inputs options) indices 2 [] ≡ Some (pos 30)
unfolding wrapped
the_square = refl

the_square_is_meant : meaning_of multiplied product_infos of_nodes 1 [] ≡ pos 30
unfolding wrapped
the_square_is_meant = refl

-- ---- what a node needs: the sum as much as its merge, the vector by itself as much as its first operation

the_sum_is_computed : IsComputedNode summed 1 s
the_sum_is_computed = record { at = refl; live = refl; form = refl }

the_sum_needs : NeedsAsMuch sum_infos options (plan_of summed sum_infos inputs options).ops 1 s
the_sum_needs = record { at = 1; below = omega arith; of_node = refl; other = refl; need = refl }

the_square_needs : NeedsAsMuch product_infos options (plan_of multiplied product_infos inputs options).ops 1 (of_form (codes "m") (Form.Matmul (Arg.Node 0 ∷ Arg.Node 0 ∷ [])))
the_square_needs = record { at = 0; below = omega arith; of_node = refl; other = refl; need = refl }

-- ---- the premises hold of the first expression

each_node : (P : ℕ → Node → Type 0) → P 0 a → P 1 s → (k : ℕ) (n : Node) → slice_get summed.nodes k ≡ Some n → P k n
each_node P pa pv zero n at = let e : a ≡ n = cc in subst (P 0) e pa
each_node P pa pv (suc zero) n at = let e : s ≡ n = cc in subst (P 1) e pv
each_node P pa pv (suc (suc k)) n at = cc

abbrev place_of_id : List ℕ → ℕ
place_of_id id = position_or_len (λ (n : Node). bytes_eq id n.name) summed.nodes

ids : (k : ℕ) (n : Node) → slice_get summed.nodes k ≡ Some n → place_of_id n.name ≡ k
ids = each_node (λ k n. place_of_id n.name ≡ k) refl refl

five_kept : IsInfo five
five_kept = record {
  ranks = refl;
  short = omega arith;
  positive = All-cons (λ (c : ℕ). 0 < c) 2 [] (omega arith) (All-nil (λ (c : ℕ). 0 < c));
  elements = omega arith;
  chunks = omega arith;
  bytes = omega arith;
}

one_kept : IsInfo one
one_kept = record {
  ranks = refl;
  short = omega arith;
  positive = All-nil (λ (c : ℕ). 0 < c);
  elements = omega arith;
  chunks = omega arith;
  bytes = omega arith;
}

zero_fits : InRange Int32 (pos 0)
zero_fits = (omega (arith, ints), omega (arith, ints))

pub lowerable : IsLowerable summed sum_infos inputs options
lowerable = record {
  form = record {
    few = omega arith;
    nodes = each_node IsNode (record { name = refl; form = record { args = refl; earlier = refl; ranges = refl } }) (record { name = refl; form = record { args = refl; earlier = refl; ranges = refl } });
    ids = λ j k m n at there same. sym (ids j m at) ∙ ap place_of_id same ∙ ids k n there;
    out = omega arith;
    store_as = refl;
    indices = each_node (λ k n. HasShortIndex n.form) tt tt;
  };
  types = refl;
  kept = All-cons IsInfo five (one ∷ []) five_kept (All-cons IsInfo one [] one_kept (All-nil IsInfo));
  fills = All-cons (λ (i : InputInfo). IsLayout i.layout) (record { name = codes "a"; layout = made_layout five }) [] zero_fits (All-nil (λ (i : InputInfo). IsLayout i.layout));
  memory = refl;
  counts = refl;
  allowed = omega arith;
  several = omega arith;
  few = omega arith;
}
