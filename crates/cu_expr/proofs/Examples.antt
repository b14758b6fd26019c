-- Expressions typed: worked examples, with what is known of each node, or the first fault as its code, node and place.
use Rattle.std.proofs.Common.{◌≡◌, ℕ, pos, false, List, [], ◌∷◌, None, Ok, Err, refl}
use Rattle.std.specs.Prelude.{codes}
use Rattle.cu_num.specs.Promotion.{promotion}
use Rattle.cu_num.specs.declared.layout.Encoding.TheVariants.{Plain}
use Rattle.cu_num.specs.declared.layout.Endian.TheVariants.{Little}
use Rattle.cu_num.specs.declared.layout.Sep.TheVariants.{Slash}
use Rattle.cu_num.specs.declared.types.Dtype.{Dtype}
use Rattle.cu_num.specs.declared.types.Dtype.TheVariants.{Bool, Int8, Int32, Int64, Uint64}
use Rattle.cu_num.specs.declared.functions.Fn1.TheVariants.{Negative}
use Rattle.cu_num.specs.declared.functions.Fn2.TheVariants.{Add}
use Rattle.cu_num.specs.declared.folds.FoldKind.TheVariants.{Sum, Max}
use Rattle.cu_form.specs.declared.args.Arg.TheVariants as arg
use Rattle.cu_form.specs.declared.expr.Node.{Node}
use Rattle.cu_node.specs.declared.element_op.ElementOp.TheVariants.{One, Two}
use Rattle.cu_form.specs.declared.form.Form.{Form}
use Rattle.cu_node.specs.declared.new_shape.NewShape.{NewShape}
use Rattle.cu_form.specs.Expression.{Expression}
use Rattle.cu_node.specs.Info.{info_of}
use Rattle.cu_expr.specs.Typing.{typed}
use Rattle.cu_expr.specs.declared.inputs.InputInfo.{InputInfo}
use Rattle.cu_expr.specs.declared.types.TypeFault.{TypeFault}

abbrev stored : List ℕ → Dtype → List ℕ → List ℕ → InputInfo
stored name t shape chunk = record { name = name; layout = record { dtype = t; grid = record { shape = shape; chunk = chunk }; encoding = Plain Slash; endian = Little; fill = pos 0 } }

abbrev of_form : List ℕ → Form → Node
of_form name form = record { name = name; form = form }

abbrev input : List ℕ → Node
input name = of_form name (Form.Input name)

abbrev x : List ℕ
x = codes "x"

abbrev y : List ℕ
y = codes "y"

abbrev expression : List Node → Expression
expression nodes = record { nodes = nodes; out = 0; store_as = codes "r" }

-- the sum of the arrays x and y
abbrev addition : Expression
addition = expression (input x ∷ input y ∷ of_form (codes "s") (Form.Elementwise (Two Add) (arg.Node 0 ∷ arg.Node 1 ∷ [])) ∷ [])

abbrev fault_at_node : ℕ → ℕ → ℕ → TypeFault
fault_at_node code node place = record { code = code; node = node; place = place }

no_common_type : typed (stored x Int64 (1 ∷ []) (1 ∷ []) ∷ stored y Uint64 (1 ∷ []) (1 ∷ []) ∷ []) addition ≡ Err (fault_at_node 1 2 0)
unfolding promotion
no_common_type = refl

each_row : typed (stored y Int32 (3 ∷ []) (3 ∷ []) ∷ stored x Int32 (2 ∷ 3 ∷ []) (2 ∷ 3 ∷ []) ∷ []) addition ≡ Ok (info_of Int32 (2 ∷ 3 ∷ []) (2 ∷ 3 ∷ []) ∷ info_of Int32 (3 ∷ []) (3 ∷ []) ∷ info_of Int32 (2 ∷ 3 ∷ []) (2 ∷ 3 ∷ []) ∷ [])
unfolding promotion
each_row = refl

other_sizes : typed (stored x Int32 (2 ∷ 3 ∷ []) (2 ∷ 3 ∷ []) ∷ stored y Int32 (2 ∷ []) (2 ∷ []) ∷ []) addition ≡ Err (fault_at_node 2 2 1)
unfolding promotion
other_sizes = refl

-- of several inputs with one name the first
first_of_a_name : typed (stored x Int32 [] [] ∷ stored x Bool [] [] ∷ []) (expression (input x ∷ [])) ≡ Ok (info_of Int32 [] [] ∷ [])
first_of_a_name = refl

abbrev reduction : Form → Expression
reduction form = expression (input x ∷ of_form (codes "s") form ∷ [])

sum_of_nothing : typed (stored x Int32 (0 ∷ []) (4 ∷ []) ∷ []) (reduction (Form.Reduce Sum (arg.Node 0 ∷ []) None false)) ≡ Ok (info_of Int32 (0 ∷ []) (4 ∷ []) ∷ info_of Int64 [] [] ∷ [])
sum_of_nothing = refl

greatest_of_nothing : typed (stored x Int32 (0 ∷ []) (4 ∷ []) ∷ []) (reduction (Form.Reduce Max (arg.Node 0 ∷ []) None false)) ≡ Err (fault_at_node 4 1 0)
greatest_of_nothing = refl

reshaped : typed (stored x Int8 (4 ∷ 3 ∷ []) (2 ∷ 3 ∷ []) ∷ []) (reduction (Form.Reshape (arg.Node 0 ∷ []) (NewShape.Sizes (pos 5 ∷ pos 2 ∷ [])))) ≡ Err (fault_at_node 8 1 0)
reshaped = refl

-- the first node's fault is answered, and nothing is typed after it
first_fault : typed (stored x Bool [] [] ∷ []) (expression (input x ∷ of_form (codes "n") (Form.Elementwise (One Negative) (arg.Node 0 ∷ [])) ∷ of_form (codes "m") (Form.Matmul (arg.Node 0 ∷ arg.Node 0 ∷ [])) ∷ [])) ≡ Err (fault_at_node 6 1 0)
first_fault = refl
