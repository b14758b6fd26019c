-- Plans with copies: their operations, arrays, values and meanings.
use Rattle.std.proofs.Common.{◌≡◌, ℕ, zero, suc, ◌<◌, pos, false, List, [], ◌∷◌, None, Some, Ok, refl, ap, sym, ◌∙◌, subst, codes, arith}
use Rattle.std.specs.Prelude.{slice_get, slice_index, bytes_eq, map}
use Rattle.std.specs.List.{position_or_len}
use Rattle.std.proofs.lemmas.Int.{ints}
use Rattle.std.proofs.lemmas.List.Elements.{All-nil, All-cons}
use Rattle.cu_num.specs.Dtype.{InRange}
use Rattle.cu_num.specs.Promotion.{promotion}
use Rattle.cu_num.specs.Wrap.{wrapped}
use Rattle.cu_num.specs.declared.functions.Fn2.TheVariants.{Add}
use Rattle.cu_num.specs.declared.folds.FoldKind.TheVariants.{Sum}
use Rattle.cu_num.specs.declared.types.Dtype.TheVariants.{Int16, Int32}
use Rattle.cu_name.specs.Keys.{made_prefix_of}
use Rattle.cu_op.specs.Layout.{IsLayout}
use Rattle.cu_op.specs.Elements.{Elements}
use Rattle.cu_op.specs.Value.{plan_value}
use Rattle.cu_op.specs.declared.kernel.Instr.TheVariants.{Load, Two}
use Rattle.cu_op.specs.declared.operation.Op.TheVariants.{Copy, Map, Merge, Mul}
use Rattle.cu_form.specs.Expression.{Expression, IsNode}
use Rattle.cu_form.specs.Form.{HasShortIndex}
use Rattle.cu_form.specs.declared.args.Arg.{Arg}
use Rattle.cu_form.specs.declared.expr.Node.{Node}
use Rattle.cu_form.specs.declared.form.Form.{Form}
use Rattle.cu_node.specs.Info.{IsInfo, info_of}
use Rattle.cu_node.specs.declared.element_op.ElementOp.{ElementOp}
use Rattle.cu_node.specs.declared.info.NodeInfo.{NodeInfo}
use Rattle.cu_copy.specs.Chunks.{chunk_count}
use Rattle.cu_copy.specs.Copies.{rechunked}
use Rattle.cu_typing.specs.Matmul.{typed_matmul}
use Rattle.cu_need.specs.Operands.{right_wanted}
use Rattle.cu_expr.specs.declared.inputs.InputInfo.{InputInfo}
use Rattle.cu_semantics.specs.Argument.{NodeElements}
use Rattle.cu_semantics.specs.Meaning.{meaning_of}
use Rattle.cu_lower.specs.Parts.{made_layout}
use Rattle.cu_lower.specs.Plan.{plan_of}
use Rattle.cu_lower.specs.Premises.{IsComputedNode, IsLowerable, NeedsAsMuch}
use Rattle.cu_lower.specs.declared.options.Options.{Options}

abbrev of_form : List ℕ → Form → Node
of_form name form = record { name = name; form = form }

abbrev with_memory : ℕ → Options
with_memory allowed = record { allowed = allowed; reserved = 0; split_every = 4; retries = 2; workers = 1; backups = false; fusion = 1 }

abbrev x : Node
x = of_form (codes "x") (Form.Input (codes "x"))

abbrev z : Node
z = of_form (codes "z") (Form.Input (codes "z"))

abbrev input_of : List ℕ → NodeInfo → InputInfo
input_of name i = record { name = name; layout = made_layout i }

-- the elements of an input: its indices
abbrev indices : Elements
indices array idx = Some (pos (slice_index idx 0))

abbrev of_nodes : NodeElements
of_nodes k idx = pos (slice_index idx 0)

-- ---- 7 elements of 2 bytes from chunks of 5 to 3, with the least memory

abbrev fives : NodeInfo
fives = info_of Int16 (7 ∷ []) (5 ∷ [])

abbrev t : Node
t = of_form (codes "t") (Form.Rechunk (Arg.Node 0 ∷ []) (3 ∷ []))

abbrev tight : Expression
tight = record { nodes = x ∷ t ∷ []; out = 1; store_as = codes "y" }

abbrev tight_infos : List NodeInfo
tight_infos = fives ∷ info_of Int16 (7 ∷ []) (3 ∷ []) ∷ []

abbrev tight_inputs : List InputInfo
tight_inputs = input_of (codes "x") fives ∷ []

one_copy : (plan_of tight tight_infos tight_inputs (with_memory 20)).ops ≡ record { op = Copy (3 ∷ []) 0 1; node = 1; projected = 16 } ∷ []
one_copy = refl

one_made : (plan_of tight tight_infos tight_inputs (with_memory 20)).arrays
    ≡ record { prefix = codes "x"; layout = made_layout fives; maker = None; inlined = false } ∷ record { prefix = codes "y"; layout = made_layout (info_of Int16 (7 ∷ []) (3 ∷ [])); maker = Some 0; inlined = false } ∷ []
one_made = refl

sixth : plan_value (plan_of tight tight_infos tight_inputs (with_memory 20)) indices 1 (6 ∷ []) ≡ Some (pos 6)
sixth = refl

sixth_is_meant : meaning_of tight tight_infos of_nodes 1 (6 ∷ []) ≡ pos 6
sixth_is_meant = refl

-- ---- 512 times 512 elements of 4 bytes from [512,64] to [64,512]: two copies, the array between under a number

abbrev tall : NodeInfo
tall = info_of Int32 (512 ∷ 512 ∷ []) (512 ∷ 64 ∷ [])

abbrev wide : NodeInfo
wide = info_of Int32 (512 ∷ 512 ∷ []) (64 ∷ 512 ∷ [])

abbrev turned : Expression
turned = record { nodes = x ∷ of_form (codes "t") (Form.Rechunk (Arg.Node 0 ∷ []) (64 ∷ 512 ∷ [])) ∷ []; out = 1; store_as = codes "y" }

two_copies : (plan_of turned (tall ∷ wide ∷ []) (input_of (codes "x") tall ∷ []) (with_memory 1000000)).ops
    ≡ record { op = Copy (512 ∷ 192 ∷ []) 0 1; node = 1; projected = 540672 } ∷ record { op = Copy (192 ∷ 512 ∷ []) 1 2; node = 1; projected = 540672 } ∷ []
two_copies = refl

two_made : (plan_of turned (tall ∷ wide ∷ []) (input_of (codes "x") tall ∷ []) (with_memory 1000000)).arrays
    ≡ record { prefix = codes "x"; layout = made_layout tall; maker = None; inlined = false }
    ∷ record { prefix = made_prefix_of (codes "y") 0; layout = made_layout (info_of Int32 (512 ∷ 512 ∷ []) (192 ∷ 192 ∷ [])); maker = Some 0; inlined = false }
    ∷ record { prefix = codes "y"; layout = made_layout wide; maker = Some 1; inlined = false } ∷ []
two_made = refl

-- ---- numbers in one chunk, and copies of one another into chunks of one

abbrev ones : NodeInfo
ones = info_of Int32 (65536 ∷ []) (1 ∷ [])

abbrev chain : Expression
chain = record {
  nodes = of_form (codes "a") (Form.Arange (pos 0) (pos 65536) (pos 1) Int32 (65536 ∷ [])) ∷ of_form (codes "b") (Form.Rechunk (Arg.Node 0 ∷ []) (1 ∷ [])) ∷ of_form (codes "c") (Form.Rechunk (Arg.Node 1 ∷ []) (1 ∷ []))
      ∷ of_form (codes "d") (Form.Rechunk (Arg.Node 2 ∷ []) (1 ∷ [])) ∷ [];
  out = 3;
  store_as = codes "y";
}

projections : map (λ o. o.projected) (plan_of chain (info_of Int32 (65536 ∷ []) (65536 ∷ []) ∷ ones ∷ ones ∷ ones ∷ []) [] (with_memory 200000000)).ops ≡ 524288 ∷ 524288 ∷ 262148 ∷ 262148 ∷ []
projections = refl

-- ---- a sum whose second argument has other chunks

abbrev fours : NodeInfo
fours = info_of Int32 (6 ∷ []) (4 ∷ [])

abbrev threes : NodeInfo
threes = info_of Int32 (6 ∷ []) (3 ∷ [])

abbrev s : Node
s = of_form (codes "s") (Form.Elementwise (ElementOp.Two Add) (Arg.Node 0 ∷ Arg.Node 1 ∷ []))

abbrev added : Expression
added = record { nodes = x ∷ z ∷ s ∷ []; out = 2; store_as = codes "y" }

abbrev added_infos : List NodeInfo
added_infos = fours ∷ threes ∷ fours ∷ []

abbrev added_inputs : List InputInfo
added_inputs = input_of (codes "x") fours ∷ input_of (codes "z") threes ∷ []

-- the copy reads the second argument, and the sum the first and the copy
copied_first : (plan_of added added_infos added_inputs (with_memory 2000)).ops
    ≡ record { op = Copy (6 ∷ []) 1 2; node = 2; projected = 40 } ∷ record { op = Map (record { code = record { items = Load 0 ∷ Load 1 ∷ Two Add Int32 0 1 ∷ [] } }) (record { items = 0 ∷ 2 ∷ [] }) 3; node = 2; projected = 1600 } ∷ []
unfolding promotion
copied_first = refl

copied_arrays : (plan_of added added_infos added_inputs (with_memory 2000)).arrays
    ≡ record { prefix = codes "x"; layout = made_layout fours; maker = None; inlined = false } ∷ record { prefix = codes "z"; layout = made_layout threes; maker = None; inlined = false }
    ∷ record { prefix = made_prefix_of (codes "y") 0; layout = made_layout fours; maker = Some 0; inlined = false } ∷ record { prefix = codes "y"; layout = made_layout fours; maker = Some 1; inlined = false } ∷ []
copied_arrays = refl

the_sum : plan_value (plan_of added added_infos added_inputs (with_memory 2000)) indices 3 (5 ∷ []) ≡ Some (pos 10)
unfolding promotion wrapped
the_sum = refl

the_sum_is_meant : meaning_of added added_infos of_nodes 2 (5 ∷ []) ≡ pos 10
unfolding wrapped
the_sum_is_meant = refl

the_sum_is_computed : IsComputedNode added 2 s
the_sum_is_computed = record { at = refl; live = refl; form = refl }

the_sum_needs : NeedsAsMuch added_infos (with_memory 2000) (plan_of added added_infos added_inputs (with_memory 2000)).ops 2 s
the_sum_needs = record { at = 1; below = omega arith; of_node = refl; other = refl; need = refl }

-- ---- a matrix of two inner chunks by a vector in one chunk of 3, which is copied into chunks of 2

abbrev matrix : NodeInfo
matrix = info_of Int32 (2 ∷ 3 ∷ []) (2 ∷ 2 ∷ [])

abbrev vector : NodeInfo
vector = info_of Int32 (3 ∷ []) (3 ∷ [])

abbrev multiplied : Expression
multiplied = record { nodes = x ∷ z ∷ of_form (codes "m") (Form.Matmul (Arg.Node 0 ∷ Arg.Node 1 ∷ [])) ∷ []; out = 2; store_as = codes "y" }

abbrev multiplied_infos : List NodeInfo
multiplied_infos = matrix ∷ vector ∷ info_of Int32 (2 ∷ []) (2 ∷ []) ∷ []

abbrev multiplied_inputs : List InputInfo
multiplied_inputs = input_of (codes "x") matrix ∷ input_of (codes "z") vector ∷ []

the_products : (plan_of multiplied multiplied_infos multiplied_inputs (with_memory 48)).ops
    ≡ record { op = Copy (3 ∷ []) 1 2; node = 2; projected = 24 } ∷ record { op = Mul 0 2 3; node = 2; projected = 48 } ∷ record { op = Merge Sum 1 4 3 4; node = 2; projected = 48 } ∷ []
the_products = refl

-- rows 0, 0, 0 and 1, 1, 1 by 0, 1, 2
the_product : plan_value (plan_of multiplied multiplied_infos multiplied_inputs (with_memory 48)) indices 4 (1 ∷ []) ≡ Some (pos 3)
unfolding wrapped
the_product = refl

the_product_is_meant : meaning_of multiplied multiplied_infos of_nodes 2 (1 ∷ []) ≡ pos 3
unfolding wrapped
the_product_is_meant = refl

-- ---- a product that is typed, whose right operand has more than 65,536 chunks as it is wanted

abbrev long_left : NodeInfo
long_left = info_of Int32 (65536 ∷ []) (1 ∷ [])

abbrev long_right : NodeInfo
long_right = info_of Int32 (65536 ∷ 2 ∷ []) (65536 ∷ 1 ∷ [])

long_typed : typed_matmul long_left long_right ≡ Ok (info_of Int32 (2 ∷ []) (1 ∷ []))
unfolding promotion
long_typed = refl

many_chunks : chunk_count (rechunked (right_wanted (info_of Int32 (2 ∷ []) (1 ∷ [])) long_left long_right)) ≡ 131072
many_chunks = refl

-- ---- an input that is stored itself

abbrev kept : Expression
kept = record { nodes = x ∷ []; out = 0; store_as = codes "y" }

the_copy : (plan_of kept (fours ∷ []) (input_of (codes "x") fours ∷ []) (with_memory 32)).ops ≡ record { op = Copy (4 ∷ []) 0 1; node = 0; projected = 32 } ∷ []
the_copy = refl

the_copied : (plan_of kept (fours ∷ []) (input_of (codes "x") fours ∷ []) (with_memory 32)).arrays
    ≡ record { prefix = codes "x"; layout = made_layout fours; maker = None; inlined = false } ∷ record { prefix = codes "y"; layout = made_layout fours; maker = Some 0; inlined = false } ∷ []
the_copied = refl

the_copied_value : plan_value (plan_of kept (fours ∷ []) (input_of (codes "x") fours ∷ []) (with_memory 32)) indices 1 (5 ∷ []) ≡ Some (pos 5)
the_copied_value = refl

-- ---- the premises hold of the first expression

each_node : (P : ℕ → Node → Type 0) → P 0 x → P 1 t → (k : ℕ) (n : Node) → slice_get tight.nodes k ≡ Some n → P k n
each_node P pa pv zero n at = let e : x ≡ n = cc in subst (P 0) e pa
each_node P pa pv (suc zero) n at = let e : t ≡ n = cc in subst (P 1) e pv
each_node P pa pv (suc (suc k)) n at = cc

abbrev place_of_id : List ℕ → ℕ
place_of_id id = position_or_len (λ (n : Node). bytes_eq id n.name) tight.nodes

ids : (k : ℕ) (n : Node) → slice_get tight.nodes k ≡ Some n → place_of_id n.name ≡ k
ids = each_node (λ k n. place_of_id n.name ≡ k) refl refl

fives_kept : IsInfo fives
fives_kept = record {
  ranks = refl;
  short = omega arith;
  positive = All-cons (λ (c : ℕ). 0 < c) 5 [] (omega arith) (All-nil (λ (c : ℕ). 0 < c));
  elements = omega arith;
  chunks = omega arith;
  bytes = omega arith;
}

threes_kept : IsInfo (info_of Int16 (7 ∷ []) (3 ∷ []))
threes_kept = record {
  ranks = refl;
  short = omega arith;
  positive = All-cons (λ (c : ℕ). 0 < c) 3 [] (omega arith) (All-nil (λ (c : ℕ). 0 < c));
  elements = omega arith;
  chunks = omega arith;
  bytes = omega arith;
}

zero_fits : InRange Int16 (pos 0)
zero_fits = (omega (arith, ints), omega (arith, ints))

pub lowerable : IsLowerable tight tight_infos tight_inputs (with_memory 20)
lowerable = record {
  form = record {
    few = omega arith;
    nodes = each_node IsNode (record { name = refl; form = record { args = refl; earlier = refl; ranges = refl } }) (record { name = refl; form = record { args = refl; earlier = refl; ranges = refl } });
    ids = λ j k m n at there same. sym (ids j m at) ∙ ap place_of_id same ∙ ids k n there;
    out = omega arith;
    store_as = refl;
    indices = each_node (λ k n. HasShortIndex n.form) tt tt;
  };
  types = refl;
  kept = All-cons IsInfo fives (info_of Int16 (7 ∷ []) (3 ∷ []) ∷ []) fives_kept (All-cons IsInfo (info_of Int16 (7 ∷ []) (3 ∷ [])) [] threes_kept (All-nil IsInfo));
  fills = All-cons (λ (i : InputInfo). IsLayout i.layout) (record { name = codes "x"; layout = made_layout fives }) [] zero_fits (All-nil (λ (i : InputInfo). IsLayout i.layout));
  memory = refl;
  counts = refl;
  allowed = omega arith;
  several = omega arith;
  few = omega arith;
}
