-- What is proved of a node of an expression, by its form.
use Rattle.std.proofs.Common.{◌≡◌, ℕ, true, List, refl, subst, sym}
use Rattle.cu_form.specs.Form.{takes_args}
use Rattle.cu_form.specs.declared.form.Form.{Form}
use Rattle.cu_node.specs.declared.info.NodeInfo.{NodeInfo}
use Rattle.cu_need.specs.Need.{own_need}
use Rattle.cu_need.specs.View.{is_view}
use Rattle.cu_lower.specs.Parts.{only_step, steps_of, view_op, CanMakeCopies, CanGrow, IsFitting}
use Rattle.cu_lower.specs.declared.options.Options.{Options}
use Rattle.cu_lower.proofs.Node.{Laws}
use Rattle.cu_lower.proofs.Node.Function.{function_laws}
use Rattle.cu_lower.proofs.Node.Groups.{groups_laws}
use Rattle.cu_lower.proofs.Node.Input.{input_laws}
use Rattle.cu_lower.proofs.Node.PrefixSum.{prefix_laws}
use Rattle.cu_lower.proofs.Node.Product.{product_laws}
use Rattle.cu_lower.proofs.Node.Rechunk.{rechunk_laws}
use Rattle.cu_lower.proofs.Node.Reduction.{reduction_laws}
use Rattle.cu_lower.proofs.Node.Search.{search_laws}
use Rattle.cu_lower.proofs.Node.View.{view_laws, IsView}

-- a form that is none of those with rows of their own is a view
pub viewed : (f : Form) → is_view f ≡ true → IsView f
viewed (Form.Input name) h = cc
viewed (Form.Elementwise op args) h = cc
viewed (Form.Rechunk args chunk) h = cc
viewed (Form.Reduce kind args axes keepdims) h = cc
viewed (Form.ArgPlace least args axis keepdims) h = cc
viewed (Form.Matmul args) h = cc
viewed (Form.CumulativeSum args axis) h = cc
viewed (Form.GroupBy least args axis groups) h = cc
viewed f h = record {
  steps = λ infos options k ins first. refl;
  sources = λ e places. refl;
  needs = λ reserved split_every infos k. refl;
  outline = λ split_every infos k. refl;
  operands = λ infos k. refl;
  copies = λ infos out k. refl;
  told = λ stored told. refl;
  typed = λ infos k. tt;
  fitting = λ infos options k. tt;
}

pub view_step : (infos : List NodeInfo) (options : Options) (k : ℕ) (f : Form) (ins : List ℕ) (first : ℕ) → is_view f ≡ true
    → only_step infos k (view_op infos f ins first) (own_need options.reserved options.split_every infos k f) ≡ steps_of infos options k f ins first
view_step infos options k f ins first view = sym ((viewed f view).steps infos options k ins first)

pub laws_of : (f : Form) → takes_args f ≡ true → Laws f
laws_of (Form.Input name) takes = input_laws name
laws_of (Form.Elementwise op args) takes = function_laws op args
laws_of (Form.Rechunk args chunk) takes = rechunk_laws args chunk takes
laws_of (Form.Reduce kind args axes keepdims) takes = reduction_laws kind args axes keepdims takes
laws_of (Form.ArgPlace least args axis keepdims) takes = search_laws least args axis keepdims takes
laws_of (Form.Matmul args) takes = product_laws args takes
laws_of (Form.CumulativeSum args axis) takes = prefix_laws args axis takes
laws_of (Form.GroupBy least args axis groups) takes = groups_laws least args axis groups takes
laws_of f takes = view_laws f (viewed f refl)

-- ---- what the steps of a node take for granted

-- by another name of its form
pub fitting_as : {f g : Form} (infos : List NodeInfo) (options : Options) (k : ℕ) → f ≡ g → CanGrow infos options k f → IsFitting infos options k g
fitting_as infos options k is grow = subst (IsFitting infos options k) is grow.fitting

pub can_copy : (infos : List NodeInfo) (options : Options) (k : ℕ) (f : Form) (first : ℕ) → CanGrow infos options k f → CanMakeCopies infos options k f first
can_copy infos options k f first grow = (laws_of f grow.written.takes).copies infos options k grow.fitting first
