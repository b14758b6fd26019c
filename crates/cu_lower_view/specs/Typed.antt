-- What a typed view's pull has: it fits the shapes, and its numbers are of the result's type (this project's own rule).
use Rattle.std.specs.Prelude.{◌≡◌, ℕ, ℤ, true, List, All, Some, Result, Ok}
use Rattle.cu_num.specs.Dtype.{InRange}
use Rattle.cu_num.specs.Promotion.{promotion}
use Rattle.cu_num.specs.declared.types.Dtype.{Dtype}
use Rattle.cu_shape.specs.Index.{IsInside}
use Rattle.cu_origin.specs.Fits.{FitsPull}
use Rattle.cu_origin.specs.Pull.{origin_of}
use Rattle.cu_origin.specs.declared.provenance.Provenance.TheVariants.{Const}
use Rattle.cu_origin.specs.declared.pull.Pull.{Pull}
use Rattle.cu_origin.specs.declared.pull.Pull.TheVariants as pull
use Rattle.cu_form.specs.Form.{args_of, takes_args, in_ranges}
use Rattle.cu_form.specs.declared.form.Form.{Form}
use Rattle.cu_node.specs.Info.{IsInfo}
use Rattle.cu_node.specs.declared.faults.NodeFault.{NodeFault}
use Rattle.cu_node.specs.declared.info.NodeInfo.{NodeInfo}
use Rattle.cu_lower_view.specs.Sources.{sources_of, dtypes_of, source_shapes}
use Rattle.cu_lower_view.specs.View.{as_view, pull_of}

-- the typing of a view over what is known of the arrays that it reads; a fault where the form is no view
abbrev pub typed_as_view : Form → List NodeInfo → Result NodeInfo NodeFault
typed_as_view form is = (as_view form).typed is

-- a node whose form is a view that is typed, where each node's array keeps the limits
pub record IsTypedView (infos : List NodeInfo) (form : Form) (i : NodeInfo) : Type 0 where
  pub args : takes_args form ≡ true
  pub ranges : in_ranges form ≡ true
  pub kept : All IsInfo infos
  pub typed : typed_as_view form (sources_of infos (args_of form)) ≡ Ok i

-- a source of type s may be read into a result of type t: what is put together is promoted, and each other view keeps the type
abbrev pub SuitsType : Pull → Dtype → Dtype → Type 0
SuitsType (pull.Concat axis) t s = promotion s t ≡ Some t
SuitsType (pull.Stack axis) t s = promotion s t ≡ Some t
SuitsType p t s = s ≡ t

-- what the pull of such a node has: its sources' shapes and the result's fit it, their types suit the result's, and so does each
-- number that comes from no source
pub record IsPull (infos : List NodeInfo) (form : Form) (i : NodeInfo) (p : Pull) : Type 0 where
  pub pull : pull_of infos form ≡ Some p
  pub fits : FitsPull p (source_shapes infos form) i.dims
  pub types : All (SuitsType p i.dtype) (dtypes_of (sources_of infos (args_of form)))
  pub numbers : (idx : List ℕ) (x : ℤ) → IsInside i.dims idx → origin_of p (source_shapes infos form) i.dims idx ≡ Const x → InRange i.dtype x
