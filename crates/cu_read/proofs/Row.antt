-- What is proved of a form that a node says.
pub mod Creation
pub mod Elementwise
pub mod NewShape
pub mod Reduction
pub mod View
use Rattle.std.proofs.Common.{◌≡◌, true, false, List, ℕ, Ok}
use Rattle.serde_json.specs.Data.{Data}
use Rattle.serde_json.specs.Written.{has_float}
use Rattle.cu_form.specs.Form.{in_ranges}
use Rattle.cu_form.specs.declared.form.Form.{Form}
use Rattle.cu_read.specs.Node.{row_of}
use Rattle.cu_read.proofs.PlainNodes.{HasTexts}

-- The node is read as the form, whose numbers lie in their ranges. The node's value has no float.
pub record Laws (ids : List (List ℕ)) (op : List ℕ) (d : Data) (form : Form) : Type 0 where
  pub read : row_of op ids d ≡ Ok form
  pub ranges : in_ranges form ≡ true
  pub plain : HasTexts d → has_float d ≡ false
