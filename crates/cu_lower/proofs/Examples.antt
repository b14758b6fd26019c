-- Plans of small expressions: their arrays, operations and values.
use Rattle.std.proofs.Common.{◌≡◌, ℕ, zero, suc, ◌<◌, ◌==◌, pos, true, false, List, [], ◌∷◌, All, None, Some, refl, ap, sym, ◌∙◌, subst, codes, replicate, arith, if◌then◌else◌}
use Rattle.std.specs.Prelude.{slice_get, bytes_eq}
use Rattle.std.specs.List.{position_or_len}
use Rattle.std.proofs.lemmas.List.Elements.{All-nil, All-cons}
use Rattle.std.proofs.lemmas.Int.{ints}
use Rattle.cu_num.specs.Dtype.{InRange}
use Rattle.cu_num.specs.Wrap.{wrapped}
use Rattle.cu_num.specs.declared.functions.Fn2.{Fn2}
use Rattle.cu_shape.specs.Index.{is_inside}
use Rattle.cu_name.specs.Name.{is_name}
use Rattle.cu_op.specs.Layout.{IsLayout}
use Rattle.cu_op.specs.Elements.{Elements}
use Rattle.cu_op.specs.Value.{plan_value}
use Rattle.cu_form.specs.Expression.{IsNode, Expression}
use Rattle.cu_form.specs.Form.{takes_args, names_earlier, in_ranges, HasShortIndex}
use Rattle.cu_semantics.specs.Meaning.{meaning_of}
use Rattle.cu_lower.specs.Premises.{IsLowerable}
use Rattle.std.specs.Fmt.{digits}
use Rattle.cu_num.specs.Promotion.{promotion}
use Rattle.cu_num.specs.declared.functions.Fn2.TheVariants.{Add, Multiply, Subtract, Less, LessEqual, GreaterEqual}
use Rattle.cu_num.specs.declared.types.Dtype.{Dtype}
use Rattle.cu_num.specs.declared.types.Dtype.TheVariants.{Bool, Int32}
use Rattle.cu_op.specs.declared.kernel.Instr.TheVariants.{Load, Const, Two, Select}
use Rattle.cu_op.specs.declared.operation.Op.TheVariants.{Map}
use Rattle.cu_op.specs.Sound.{cell_key}
use Rattle.cu_form.specs.declared.args.Arg.{Arg}
use Rattle.cu_form.specs.declared.expr.Node.{Node}
use Rattle.cu_node.specs.declared.element_op.ElementOp.{ElementOp}
use Rattle.cu_form.specs.declared.form.Form.{Form}
use Rattle.cu_node.specs.Info.{IsInfo, info_of}
use Rattle.cu_node.specs.declared.info.NodeInfo.{NodeInfo}
use Rattle.cu_expr.specs.declared.inputs.InputInfo.{InputInfo}
use Rattle.cu_lower.specs.Plan.{plan_of}
use Rattle.cu_lower.specs.Parts.{made_layout}
use Rattle.cu_lower.specs.declared.options.Options.{Options}

abbrev of_form : List ℕ → Form → Node
of_form name form = record { name = name; form = form }

abbrev expression : List Node → ℕ → Expression
expression nodes out = record { nodes = nodes; out = out; store_as = codes "y" }

abbrev two : Fn2 → List Arg → Form
two f args = Form.Elementwise (ElementOp.Two f) args

-- ten numbers in chunks of four
abbrev ten : Dtype → NodeInfo
ten t = info_of t (10 ∷ []) (4 ∷ [])

abbrev stored : List ℕ → Dtype → InputInfo
stored name t = record { name = name; layout = made_layout (ten t) }

abbrev options : Options
options = record { allowed = 10000; reserved = 0; split_every = 4; retries = 2; workers = 1; backups = false; fusion = 1 }

abbrev b : Node
b = of_form (codes "b") (Form.Input (codes "b"))

abbrev a : Node
a = of_form (codes "a") (Form.Input (codes "a"))

-- s = a + a; u = a - b; t = s * 2
abbrev s : Node
s = of_form (codes "s") (two Add (Arg.Node 1 ∷ Arg.Node 1 ∷ []))

abbrev u : Node
u = of_form (codes "u") (two Subtract (Arg.Node 1 ∷ Arg.Node 0 ∷ []))

abbrev t : Node
t = of_form (codes "t") (two Multiply (Arg.Node 2 ∷ Arg.Int (pos 2) ∷ []))

-- t is stored, so b and u are dead
abbrev dead_between : Expression
dead_between = expression (b ∷ a ∷ s ∷ u ∷ t ∷ []) 4

abbrev all_ten : List NodeInfo
all_ten = ten Int32 ∷ ten Int32 ∷ ten Int32 ∷ ten Int32 ∷ ten Int32 ∷ []

abbrev inputs : List InputInfo
inputs = stored (codes "a") Int32 ∷ stored (codes "b") Int32 ∷ []

-- one input array, then what is made besides the output, then the output
the_arrays : (plan_of dead_between all_ten inputs options).arrays
    ≡ record { prefix = codes "a"; layout = made_layout (ten Int32); maker = None; inlined = false }
    ∷ record { prefix = codes "_cubed/y/0"; layout = made_layout (ten Int32); maker = Some 0; inlined = false }
    ∷ record { prefix = codes "y"; layout = made_layout (ten Int32); maker = Some 1; inlined = false } ∷ []
unfolding promotion digits
the_arrays = refl

-- a sum of an array and itself reads it twice; a literal is a step
the_operations : (plan_of dead_between all_ten inputs options).ops
    ≡ record { op = Map (record { code = record { items = Load 0 ∷ Load 1 ∷ Two Add Int32 0 1 ∷ [] } }) (record { items = 0 ∷ 0 ∷ [] }) 1; node = 2; projected = 1600 }
    ∷ record { op = Map (record { code = record { items = Load 0 ∷ Const (pos 2) ∷ Two Multiply Int32 0 1 ∷ [] } }) (record { items = 1 ∷ [] }) 2; node = 4; projected = 1584 } ∷ []
unfolding promotion
the_operations = refl

the_key : cell_key (plan_of dead_between all_ten inputs options).arrays 1 (2 ∷ []) ≡ codes "_cubed/y/0/c/2"
unfolding promotion digits
the_key = refl

-- the elements of the inputs: 5 at each index inside, and no other
abbrev fives : Elements
fives array idx = if is_inside (10 ∷ []) idx then Some (pos 5) else None

-- (5 + 5) * 2
the_value : plan_value (plan_of dead_between all_ten inputs options) fives 2 (9 ∷ []) ≡ Some (pos 20)
unfolding promotion wrapped
the_value = refl

the_meaning : meaning_of dead_between all_ten (λ k idx. pos 5) 4 (9 ∷ []) ≡ pos 20
unfolding wrapped
the_meaning = refl

no_value_outside : plan_value (plan_of dead_between all_ten inputs options) fives 2 (10 ∷ []) ≡ None
unfolding promotion
no_value_outside = refl

-- inputs a and b; c = a < b; w = a where c holds, else 7
abbrev choice : Expression
choice = expression (of_form (codes "a") (Form.Input (codes "a")) ∷ of_form (codes "b") (Form.Input (codes "b"))
    ∷ of_form (codes "c") (two Less (Arg.Node 0 ∷ Arg.Node 1 ∷ [])) ∷ of_form (codes "w") (Form.Elementwise ElementOp.Where (Arg.Node 2 ∷ Arg.Node 0 ∷ Arg.Int (pos 7) ∷ [])) ∷ []) 3

abbrev choice_infos : List NodeInfo
choice_infos = ten Int32 ∷ ten Int32 ∷ ten Bool ∷ ten Int32 ∷ []

-- 5 in the first array and 6 in the others
abbrev five_six : Elements
five_six array idx = if array == 0 then Some (pos 5) else Some (pos 6)

chosen : plan_value (plan_of choice choice_infos inputs options) five_six 3 (0 ∷ []) ≡ Some (pos 5)
unfolding promotion
chosen = refl

not_chosen : plan_value (plan_of choice choice_infos inputs options) (λ array idx. Some (pos 6)) 3 (0 ∷ []) ≡ Some (pos 7)
unfolding promotion
not_chosen = refl

-- m = the greater of a and b; n = m between 2 and 5
abbrev bounded : Expression
bounded = expression (a ∷ b ∷ of_form (codes "m") (Form.Elementwise (ElementOp.Extreme false) (Arg.Node 0 ∷ Arg.Node 1 ∷ []))
    ∷ of_form (codes "n") (Form.Elementwise (ElementOp.Clip (pos 2) (pos 5)) (Arg.Node 2 ∷ [])) ∷ []) 3

bounded_operations : (plan_of bounded all_ten inputs options).ops
    ≡ record { op = Map (record { code = record { items = Load 0 ∷ Load 1 ∷ Two GreaterEqual Int32 0 1 ∷ Select 2 0 1 ∷ [] } }) (record { items = 0 ∷ 1 ∷ [] }) 2; node = 2; projected = 2112 }
    ∷ record {
      op = Map (record { code = record { items = Load 0 ∷ Const (pos 2) ∷ Two GreaterEqual Int32 0 1 ∷ Select 2 0 1 ∷ Const (pos 5) ∷ Two LessEqual Int32 3 4 ∷ Select 5 3 4 ∷ [] } })
          (record { items = 2 ∷ [] }) 3;
      node = 3;
      projected = 3632;
    } ∷ []
unfolding promotion
bounded_operations = refl

-- the greater of 5 and 6 is cut to 5
bounded_value : plan_value (plan_of bounded all_ten inputs options) five_six 3 (0 ∷ []) ≡ Some (pos 5)
unfolding promotion
bounded_value = refl

-- ---- the premises hold of the first expression

each_node : (P : ℕ → Node → Type 0) → P 0 b → P 1 a → P 2 s → P 3 u → P 4 t → (k : ℕ) (n : Node) → slice_get dead_between.nodes k ≡ Some n → P k n
each_node P pb pa ps pu pt zero n at = let e : b ≡ n = cc in subst (P 0) e pb
each_node P pb pa ps pu pt (suc zero) n at = let e : a ≡ n = cc in subst (P 1) e pa
each_node P pb pa ps pu pt (suc (suc zero)) n at = let e : s ≡ n = cc in subst (P 2) e ps
each_node P pb pa ps pu pt (suc (suc (suc zero))) n at = let e : u ≡ n = cc in subst (P 3) e pu
each_node P pb pa ps pu pt (suc (suc (suc (suc zero)))) n at = let e : t ≡ n = cc in subst (P 4) e pt
each_node P pb pa ps pu pt (suc (suc (suc (suc (suc k))))) n at = cc

-- the place of a node's id
abbrev place_of_id : List ℕ → ℕ
place_of_id id = position_or_len (λ (n : Node). bytes_eq id n.name) dead_between.nodes

ids : (k : ℕ) (n : Node) → slice_get dead_between.nodes k ≡ Some n → place_of_id n.name ≡ k
ids = each_node (λ k n. place_of_id n.name ≡ k) refl refl refl refl refl

abbrev of_number : (k : ℕ) (n : Node) → is_name n.name ≡ true → takes_args n.form ≡ true → names_earlier k n.form ≡ true → in_ranges n.form ≡ true → IsNode k n
of_number k n name args earlier ranges = record { name = name; form = record { args = args; earlier = earlier; ranges = ranges } }

ten_kept : IsInfo (ten Int32)
ten_kept = record {
  ranks = refl;
  short = omega arith;
  positive = All-cons (λ (c : ℕ). 0 < c) 4 [] (omega arith) (All-nil (λ (c : ℕ). 0 < c));
  elements = omega arith;
  chunks = omega arith;
  bytes = omega arith;
}

tens : (n : ℕ) → All IsInfo (replicate n (ten Int32))
tens zero = All-nil IsInfo
tens (suc n) = All-cons IsInfo (ten Int32) (replicate n (ten Int32)) ten_kept (tens n)

zero_fits : InRange Int32 (pos 0)
zero_fits = (omega (arith, ints), omega (arith, ints))

pub lowerable : IsLowerable dead_between all_ten inputs options
unfolding promotion
lowerable = record {
  form = record {
    few = omega arith;
    nodes = each_node IsNode (of_number 0 b refl refl refl refl) (of_number 1 a refl refl refl refl) (of_number 2 s refl refl refl refl) (of_number 3 u refl refl refl refl) (of_number 4 t refl refl refl refl);
    ids = λ j k m n at there same. sym (ids j m at) ∙ ap place_of_id same ∙ ids k n there;
    out = omega arith;
    store_as = refl;
    indices = each_node (λ k n. HasShortIndex n.form) tt tt tt tt tt;
  };
  types = refl;
  kept = tens 5;
  fills = All-cons (λ (i : InputInfo). IsLayout i.layout) (stored (codes "a") Int32) (stored (codes "b") Int32 ∷ []) zero_fits (All-cons (λ (i : InputInfo). IsLayout i.layout) (stored (codes "b") Int32) [] zero_fits (All-nil (λ (i : InputInfo). IsLayout i.layout)));
  memory = refl;
  counts = refl;
  allowed = omega arith;
  several = omega arith;
  few = omega arith;
}
