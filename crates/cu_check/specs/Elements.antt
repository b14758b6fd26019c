-- The arrays that an expression's input nodes use, and their elements by what a depot held. This project's own rules.
use Rattle.std.specs.Prelude.{ℕ, ℤ, pos, List, Option, Some, None, slice_get, unwrap_or}
use Rattle.cu_form.specs.declared.expr.Node.{Node}
use Rattle.cu_form.specs.declared.form.Form.{Form}
use Rattle.cu_semantics.specs.Argument.{NodeElements}
use Rattle.cu_op.specs.Layout.{layout_view}
use Rattle.cu_store.specs.Held.{Contents}
use Rattle.cu_zarr.specs.Stored.{stored_element}
use Rattle.cu_command.specs.declared.job.Job.{Job}
use Rattle.cu_expr.specs.Inputs.{layout_named}

-- the element of the array that an input node uses, by what was held; 0 where it has none, and for any other node
abbrev pub form_element : Job → Contents → List ℕ → Form → ℤ
form_element job held idx (Form.Input name) = unwrap_or (stored_element (layout_view (layout_named job.inputs.items name)) name held idx) (pos 0)
form_element job held idx form = pos 0

abbrev pub used_element : Job → Contents → List ℕ → Option Node → ℤ
used_element job held idx (Some node) = form_element job held idx node.form
used_element job held idx None = pos 0

-- the elements of the input nodes
abbrev pub elements_of : Job → Contents → NodeElements
elements_of job held k idx = used_element job held idx (slice_get job.expr.nodes k)
