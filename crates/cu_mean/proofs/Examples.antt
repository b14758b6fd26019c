-- An expression of two inputs, a made array and a sum, held element by element.
use Rattle.std.proofs.Common.{◌≡◌, ◌<◌, zero, suc, ℕ, ℤ, pos, negsuc, List, [], ◌∷◌, Some, codes, refl, arith}
use Rattle.std.specs.Prelude.{slice_get}
use Rattle.cu_num.specs.declared.functions.Fn2.TheVariants.{Add}
use Rattle.cu_num.specs.declared.types.Dtype.TheVariants.{Int8}
use Rattle.cu_num.specs.Wrap.{wrapped}
use Rattle.cu_shape.specs.Index.{index_at}
use Rattle.cu_form.specs.Expression.{Expression}
use Rattle.cu_form.specs.declared.args.Arg.{Arg}
use Rattle.cu_form.specs.declared.expr.Node.{Node}
use Rattle.cu_form.specs.declared.form.Form.{Form}
use Rattle.cu_node.specs.Info.{info_at, info_of}
use Rattle.cu_node.specs.declared.element_op.ElementOp.{ElementOp}
use Rattle.cu_node.specs.declared.info.NodeInfo.{NodeInfo}
use Rattle.cu_node.specs.declared.literal.Literal.{Literal}
use Rattle.cu_semantics.specs.Meaning.{meaning_of}
use Rattle.cu_mean.specs.Going.{input_elements}
use Rattle.cu_mean.specs.Plain.{PlainArray}
use Rattle.cu_mean.specs.Whole.{inputs_before, HoldsElements}

abbrev node_of : Form → Node
node_of form = record { name = codes "n"; form = form }

-- a, a made array, b, and the sum of a and b
abbrev sum_of_two : Expression
sum_of_two = record {
  nodes = node_of (Form.Input (codes "a")) ∷ node_of (Form.Full [] Int8 (Literal.Int (pos 7)) []) ∷ node_of (Form.Input (codes "b"))
      ∷ node_of (Form.Elementwise (ElementOp.Two Add) (Arg.Node 0 ∷ Arg.Node 2 ∷ [])) ∷ [];
  out = 3;
  store_as = codes "r";
}

abbrev three : NodeInfo
three = info_of Int8 (3 ∷ []) (2 ∷ [])

abbrev infos : List NodeInfo
infos = three ∷ info_of Int8 [] [] ∷ three ∷ three ∷ []

abbrev array_of : ℤ → ℤ → ℤ → PlainArray
array_of x y z = record { dtype = Int8; dims = 3 ∷ []; cells = x ∷ y ∷ z ∷ [] }

abbrev inputs : List PlainArray
inputs = array_of (pos 1) (pos 2) (pos 127) ∷ array_of (pos 10) (pos 20) (pos 1) ∷ []

-- b is the second input
second : inputs_before sum_of_two 2 ≡ 1
second = refl

-- its elements, and none outside
inside : input_elements sum_of_two inputs 2 (1 ∷ []) ≡ pos 20
inside = refl

outside : input_elements sum_of_two inputs 2 (3 ∷ []) ≡ pos 0
outside = refl

-- the sum's array, which wraps at its end
sums : (place : ℕ) → place < 3 → slice_get (array_of (pos 11) (pos 22) (negsuc 127)).cells place ≡ Some (meaning_of sum_of_two infos (input_elements sum_of_two inputs) 3 (index_at (3 ∷ []) place))
unfolding wrapped
sums zero below = refl
sums (suc zero) below = refl
sums (suc (suc zero)) below = refl
sums (suc (suc (suc place))) below = absurd (omega arith)

held : HoldsElements (info_at infos 3) (meaning_of sum_of_two infos (input_elements sum_of_two inputs) 3) (array_of (pos 11) (pos 22) (negsuc 127))
held = record { info = record { dtype = refl; dims = refl }; count = refl; cells = sums }
