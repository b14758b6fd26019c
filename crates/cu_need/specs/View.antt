-- Which nodes are views.
use Rattle.std.specs.Prelude.{Bool}
use Rattle.cu_form.specs.declared.form.Form.{Form}
use Rattle.cu_need.specs.Cost.{cost_of}
pub use Rattle.cu_need.specs.ViewBytes.{view_bytes, view_need}

-- The form is a view, or an array that is made from nothing. The same elements in other chunks are a copy, and no view.
abbrev pub is_view : Form → Bool
is_view form = (cost_of form).is_view
