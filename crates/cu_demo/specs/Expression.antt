-- The expression of the demonstration: its text, its nodes, and its job over inputs of a size.
use Rattle.std.specs.Prelude.{◌≡◌, ℕ, pos, false, List, [], ◌∷◌, codes, Some, None, Ok, string_bytes}
use Rattle.cu_num.specs.declared.folds.FoldKind.TheVariants.{Sum}
use Rattle.cu_num.specs.declared.functions.Fn2.TheVariants.{Add, Multiply, Subtract}
use Rattle.cu_num.specs.declared.types.Dtype.TheVariants.{Int64}
use Rattle.cu_form.specs.Expression.{Expression}
use Rattle.cu_form.specs.declared.args.Arg.{Arg}
use Rattle.cu_form.specs.declared.args.Arg.TheVariants as arg
use Rattle.cu_form.specs.declared.expr.Node.{Node}
use Rattle.cu_form.specs.declared.form.Form.{Form}
use Rattle.cu_node.specs.declared.element_op.ElementOp.TheVariants.{Two}
use Rattle.cu_node.specs.Info.{info_at, info_of}
use Rattle.cu_expr.specs.Typing.{typed}
use Rattle.cu_expr.specs.declared.inputs.InputInfo.{InputInfo}
use Rattle.cu_read.specs.Read.{compact_of, expression_of}
use Rattle.cu_command.specs.declared.job.Job.{Job}
use Rattle.cu_demo.specs.Input.{demo_layout, demo_name}
use Rattle.cu_demo.specs.declared.input.DemoInput.{DemoInput}
use Rattle.cu_demo.specs.declared.input.DemoInput.TheVariants.{Rows, Columns}

-- the text of the expression
unfoldable pub demo_text : List ℕ
demo_text = codes "{\"nodes\":[{\"id\":\"a\",\"name\":\"demo_a\",\"op\":\"input\"},{\"id\":\"b\",\"name\":\"demo_b\",\"op\":\"input\"},{\"args\":[\"a\",\"b\"],\"id\":\"s\",\"op\":\"add\"},{\"args\":[\"s\",2],\"id\":\"m\",\"op\":\"multiply\"},{\"args\":[\"b\"],\"axes\":[1,0],\"id\":\"p\",\"op\":\"permute_dims\"},{\"args\":[\"m\",\"p\"],\"id\":\"d\",\"op\":\"subtract\"},{\"args\":[\"d\"],\"axes\":[1],\"id\":\"r\",\"op\":\"sum\"},{\"args\":[\"r\"],\"axis\":null,\"id\":\"x\",\"op\":\"argmax\"}],\"out\":\"x\",\"store_as\":\"demo_y\"}"

abbrev pub demo_node : List ℕ → Form → Node
demo_node name form = record { name = name; form = form }

abbrev pub node : ℕ → Arg
node = arg.Node

-- the place of the greatest row sum of 2 * (a + b) less b with its axes exchanged
abbrev pub demo_expression : Expression
demo_expression = record {
  nodes = demo_node (codes "a") (Form.Input (codes "demo_a"))
      ∷ demo_node (codes "b") (Form.Input (codes "demo_b"))
      ∷ demo_node (codes "s") (Form.Elementwise (Two Add) (node 0 ∷ node 1 ∷ []))
      ∷ demo_node (codes "m") (Form.Elementwise (Two Multiply) (node 2 ∷ arg.Int (pos 2) ∷ []))
      ∷ demo_node (codes "p") (Form.PermuteDims (node 1 ∷ []) (pos 1 ∷ pos 0 ∷ []))
      ∷ demo_node (codes "d") (Form.Elementwise (Two Subtract) (node 3 ∷ node 4 ∷ []))
      ∷ demo_node (codes "r") (Form.Reduce Sum (node 5 ∷ []) (Some (pos 1 ∷ [])) false)
      ∷ demo_node (codes "x") (Form.ArgPlace false (node 6 ∷ []) None false) ∷ [];
  out = 7;
  store_as = codes "demo_y";
}

abbrev pub demo_info : DemoInput → ℕ → InputInfo
demo_info input n = record { name = demo_name input; layout = demo_layout input n }

abbrev pub demo_inputs : ℕ → List InputInfo
demo_inputs n = demo_info Rows n ∷ demo_info Columns n ∷ []

-- The job over the inputs of size n. Its result is one number of type int64.
pub record IsDemoJob (n : ℕ) (job : Job) : Type 0 where
  pub said : expression_of demo_text ≡ Ok job.expr
  pub compact : compact_of demo_text ≡ Some (string_bytes job.compact)
  pub expr : job.expr ≡ demo_expression
  pub inputs : job.inputs.items ≡ demo_inputs n
  pub types : typed (demo_inputs n) job.expr ≡ Ok job.types
  pub result : info_at job.types 7 ≡ info_of Int64 [] []
