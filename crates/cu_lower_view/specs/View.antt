-- The typing of a view and its pull: from where each element of a node's array comes, by the node's form (Python array API, "Creation
-- Functions", "Manipulation Functions", "Indexing"). `source` is the shape of the first array that the view reads.
use Rattle.std.specs.Prelude.{ℕ, ◌+◌, nat_le, ℤ, List, [], length, map, Option, Some, None, Result, Err, if◌then◌else◌}
use Rattle.cu_origin.specs.declared.pull.Pull.{Pull}
use Rattle.cu_origin.specs.declared.pull.Pull.TheVariants as pull
use Rattle.cu_form.specs.declared.form.Form.{Form}
use Rattle.cu_node.specs.Fault.{fault}
use Rattle.cu_node.specs.Info.{info_at}
use Rattle.cu_node.specs.Literal.{literal_number}
use Rattle.cu_node.specs.declared.faults.FaultCode.TheVariants.{Kind}
use Rattle.cu_node.specs.declared.faults.NodeFault.{NodeFault}
use Rattle.cu_node.specs.declared.index_item.IndexItem.{IndexItem}
use Rattle.cu_node.specs.declared.info.NodeInfo.{NodeInfo}
use Rattle.cu_node.specs.declared.new_shape.NewShape.{NewShape}
use Rattle.cu_typing_view.specs.Creation.{typed_full, typed_arange, typed_eye}
use Rattle.cu_typing_view.specs.Entries.{typed_index, untaken}
use Rattle.cu_typing_view.specs.NewShapes.{typed_new_shape}
use Rattle.cu_typing_view.specs.Pieces.{typed_concat, typed_stack}
use Rattle.cu_typing_view.specs.Rearranged.{typed_triangle, typed_permute, typed_flip, typed_roll}
use Rattle.cu_typing_view.specs.Reshaped.{typed_broadcast}
use Rattle.cu_lower_view.specs.Axes.{named_axis, is_turned, axes_that, shifts_along}
use Rattle.cu_lower_view.specs.Runs.{whole_run, index_runs, axes_taken}
use Rattle.cu_lower_view.specs.Sources.{first_shape}

-- an index takes a run of each axis; none where it has more runs than an array has axes, which typing refuses
abbrev pub slice_pull : List IndexItem → List ℕ → Option Pull
slice_pull items source =
    let more = untaken (length source) items in
    let runs = index_runs more items source in
    if nat_le (length runs) 6 then Some (pull.Slice (record { items = runs }) (record { items = axes_taken more (length source) items source })) else None

abbrev pub permute_pull : List ℤ → List ℕ → Option Pull
permute_pull axes source = if nat_le (length axes) 6 then Some (pull.Permute (record { items = map (named_axis (length source)) axes })) else None

-- axes are turned round
abbrev pub flip_pull : Option (List ℤ) → List ℕ → Pull
flip_pull axes source = pull.Flip (axes_that (length source) (is_turned (length source) axes))

-- Sizes that are written may join and part axes. Where axes of size 1 alone are put in or taken out, the whole of each axis is taken:
-- they change no row-major place.
abbrev pub new_shape_pull : NewShape → List ℕ → Pull
new_shape_pull (NewShape.Sizes sizes) source = pull.Reshape
new_shape_pull (NewShape.Expanded axis) source = pull.Slice (record { items = map whole_run source }) (record { items = [] })
new_shape_pull (NewShape.Squeezed axes) source = pull.Slice (record { items = map whole_run source }) (record { items = [] })

-- what a form is as a view
pub record View : Type 0 where
  -- its typing over what is known of the arrays that it reads
  pub typed : (sources : List NodeInfo) → Result NodeInfo NodeFault
  -- its pull; none where it is no view, or where typing refuses it
  pub pull : (source : List ℕ) → Option Pull

-- each form; the last row is of those that are no views
abbrev pub as_view : Form → View
as_view (Form.Full shape t value chunk) = record {
  typed = λ is. typed_full shape t value chunk;
  pull = λ source. Some (pull.Full (literal_number value));
}
as_view (Form.Arange start stop step t chunk) = record {
  typed = λ is. typed_arange start stop step t chunk;
  pull = λ source. Some (pull.Arange start step);
}
as_view (Form.Eye rows cols k t chunk) = record {
  typed = λ is. typed_eye rows cols t chunk;
  pull = λ source. Some (pull.Eye k);
}
as_view (Form.Triangle lower args k) = record {
  typed = λ is. typed_triangle (info_at is 0);
  pull = λ source. Some (pull.Triangle lower k);
}
as_view (Form.Index args items) = record {
  typed = λ is. typed_index (info_at is 0) items;
  pull = λ source. slice_pull items source;
}
as_view (Form.Concat args axis) = record {
  typed = λ is. typed_concat is axis;
  pull = λ source. Some (pull.Concat (named_axis (length source) axis));
}
as_view (Form.Stack args axis) = record {
  typed = λ is. typed_stack is axis;
  pull = λ source. Some (pull.Stack (named_axis (length source + 1) axis));
}
as_view (Form.PermuteDims args axes) = record {
  typed = λ is. typed_permute (info_at is 0) axes;
  pull = λ source. permute_pull axes source;
}
as_view (Form.Reshape args shape) = record {
  typed = λ is. typed_new_shape (info_at is 0) shape;
  pull = λ source. Some (new_shape_pull shape source);
}
as_view (Form.Flip args axes) = record {
  typed = λ is. typed_flip (info_at is 0) axes;
  pull = λ source. Some (flip_pull axes source);
}
as_view (Form.Roll args shifts axes) = record {
  typed = λ is. typed_roll (info_at is 0) shifts axes;
  pull = λ source. Some (pull.Roll (record { items = shifts_along (length source) shifts axes }));
}
as_view (Form.BroadcastTo args shape chunk) = record {
  typed = λ is. typed_broadcast (info_at is 0) shape chunk;
  pull = λ source. Some pull.Broadcast;
}
as_view form = record { typed = λ is. Err (fault Kind); pull = λ source. None }

-- the view that a form is; none where it is no view
abbrev pub view_of : Form → List ℕ → Option Pull
view_of form source = (as_view form).pull source

-- the same over what is known of the nodes of an expression
abbrev pub pull_of : List NodeInfo → Form → Option Pull
pull_of infos form = view_of form (first_shape infos form)
