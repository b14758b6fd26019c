-- The pulls of views on worked examples.
use Rattle.std.proofs.Common.{◌≡◌, [], ◌∷◌, List, Some, None, pos, negsuc, refl}
use Rattle.cu_form.specs.declared.args.Arg.{Arg}
use Rattle.cu_form.specs.declared.form.Form.{Form}
use Rattle.cu_node.specs.declared.index_item.IndexItem.TheVariants.{At, Slice, New, Ellipsis}
use Rattle.cu_origin.specs.declared.pull.Pull.TheVariants as pull
use Rattle.cu_lower_view.specs.Runs.{slice_run}
use Rattle.cu_lower_view.specs.View.{view_of}

abbrev args : List Arg
args = Arg.Node 0 ∷ []

-- [1, ::-1] of 3 by 4: the last axis backward, the first one taken out
row_backward : view_of (Form.Index args (At (pos 1) ∷ Slice None None (Some (negsuc 0)) ∷ [])) (3 ∷ 4 ∷ [])
    ≡ Some (pull.Slice (record { items = record { first = 1; step = pos 1; count = 1 } ∷ record { first = 3; step = negsuc 0; count = 4 } ∷ [] }) (record { items = 0 ∷ [] }))
unfolding slice_run
row_backward = refl

-- [..., -1, new] of 2 by 3 by 4: the last axis is taken out, the others are whole
last_of_each : view_of (Form.Index args (Ellipsis ∷ At (negsuc 0) ∷ New ∷ [])) (2 ∷ 3 ∷ 4 ∷ [])
    ≡ Some (pull.Slice (record { items = record { first = 0; step = pos 1; count = 2 } ∷ record { first = 0; step = pos 1; count = 3 } ∷ record { first = 3; step = pos 1; count = 1 } ∷ [] }) (record { items = 2 ∷ [] }))
last_of_each = refl

-- [1:] of 3 by 4: axes that no entry takes follow at the end
from_the_second : view_of (Form.Index args (Slice (Some (pos 1)) None None ∷ [])) (3 ∷ 4 ∷ [])
    ≡ Some (pull.Slice (record { items = record { first = 1; step = pos 1; count = 2 } ∷ record { first = 0; step = pos 1; count = 4 } ∷ [] }) (record { items = [] }))
unfolding slice_run
from_the_second = refl

-- the last axis of two, and a new one behind them
joined_at_the_end : view_of (Form.Concat args (negsuc 0)) (3 ∷ 4 ∷ []) ≡ Some (pull.Concat 1)
joined_at_the_end = refl

stacked_at_the_end : view_of (Form.Stack args (negsuc 0)) (3 ∷ 4 ∷ []) ≡ Some (pull.Stack 2)
stacked_at_the_end = refl

turned_axes : view_of (Form.PermuteDims args (pos 2 ∷ pos 0 ∷ pos 1 ∷ [])) (2 ∷ 3 ∷ 4 ∷ []) ≡ Some (pull.Permute (record { items = 2 ∷ 0 ∷ 1 ∷ [] }))
turned_axes = refl

-- bit d for axis d: the last and the first axis of three, and all of them
flipped_at_both_ends : view_of (Form.Flip args (Some (negsuc 0 ∷ pos 0 ∷ []))) (2 ∷ 3 ∷ 4 ∷ []) ≡ Some (pull.Flip (record { 0 = 5 }))
flipped_at_both_ends = refl

all_flipped : view_of (Form.Flip args None) (2 ∷ 3 ∷ 4 ∷ []) ≡ Some (pull.Flip (record { 0 = 7 }))
all_flipped = refl

none_flipped : view_of (Form.Flip args (Some [])) (2 ∷ 3 ∷ 4 ∷ []) ≡ Some (pull.Flip (record { 0 = 0 }))
none_flipped = refl

-- the last axis by 2, and the first one by -1
rolled : view_of (Form.Roll args (pos 2 ∷ negsuc 0 ∷ []) (negsuc 0 ∷ pos 0 ∷ [])) (2 ∷ 3 ∷ 4 ∷ []) ≡ Some (pull.Roll (record { items = negsuc 0 ∷ pos 0 ∷ pos 2 ∷ [] }))
rolled = refl

not_a_view : view_of (Form.Rechunk args (1 ∷ [])) (3 ∷ []) ≡ None
not_a_view = refl
