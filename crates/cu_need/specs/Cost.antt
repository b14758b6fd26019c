-- What a node costs by its form (this project's own rule): which arrays its operations want in which chunks, what is copied for it, what
-- it makes and how much memory a task needs. A later form is a row of `cost_of`, and all else follows.
use Rattle.std.specs.Prelude.{◌≡◌, ℕ, ◌+◌, ◌<◌, Bool, true, false, if◌then◌else◌, List, [], ◌∷◌, length, map, Ok}
use Rattle.cu_copy.specs.Copies.{in_chunks, rechunked}
use Rattle.cu_copy.specs.declared.copies.Rechunk.{Rechunk}
use Rattle.cu_form.specs.Form.{args_of, group_kind}
use Rattle.cu_form.specs.declared.form.Form.{Form}
use Rattle.cu_need.specs.Along.{sum_axis, cumulative_need, labels_wanted, group_need, AreGroupsWithin}
use Rattle.cu_need.specs.Chunks.{arrays_in}
use Rattle.cu_need.specs.Elementwise.{in_aligned, own_instructions, function_bytes, function_need}
use Rattle.cu_need.specs.Reduction.{array_of, axes_reduced, axes_sought, left_wanted, right_wanted, reduction_need, place_need, matmul_need, IsFoldWithin, IsSearchWithin}
use Rattle.cu_need.specs.ViewBytes.{view_bytes, view_need}
use Rattle.cu_node.specs.Info.{chunk_bytes}
use Rattle.cu_node.specs.declared.info.NodeInfo.{NodeInfo}
use Rattle.cu_tree.specs.Outlines.{plain, cumulative_outline, product_outline, reduction_outline, search_outline}
use Rattle.cu_tree.specs.Sums.{IsSummed}
use Rattle.cu_tree.specs.declared.outline.Outlined.{Outlined}
use Rattle.cu_typing.specs.Along.{typed_cumulative, typed_groups}
use Rattle.cu_typing.specs.Elementwise.{typed_elementwise}
use Rattle.cu_typing.specs.Joined.{arrays_of}
use Rattle.cu_typing.specs.Matmul.{typed_matmul}
use Rattle.cu_typing.specs.Reduction.{typed_reduction, typed_arg_place}
use Rattle.cu_typing.specs.declared.argument.Argument.{Argument}

-- `infos` tell of the arrays of all nodes, `made` of the node's own; `reserved` are the bytes that are kept for everything else, and
-- `split_every` is how many partial results a task merges.
pub record Cost : Type 1 where
  -- each element is one of a source, or a number that the index tells
  pub is_view : Bool
  -- the arrays that its operations read in chunks that they tell, in order; one that is an argument twice stands twice
  pub operands : (infos : List NodeInfo) (made : NodeInfo) → List Rechunk
  -- the arrays that are copied, in order, where the node is itself stored or isn't, and these of its operands have other chunks
  pub copies : (infos : List NodeInfo) (made : NodeInfo) (stored : Bool) (misaligned : List Rechunk) → List Rechunk
  -- what it makes besides copies, with the bytes of a task beside those that are reserved
  pub outline : (infos : List NodeInfo) (made : NodeInfo) (split_every : ℕ) → List Outlined
  -- the bytes that its operations need besides copies; the reserved bytes where it has none
  pub need : (infos : List NodeInfo) (made : NodeInfo) (reserved split_every : ℕ) → ℕ
  -- what it is typed by: the typing over what is told of its arguments, where its cost rests on that
  pub typed : (infos : List NodeInfo) (made : NodeInfo) → Type 0
  -- what its partial results keep, to which typing sees
  pub partials : (infos : List NodeInfo) (made : NodeInfo) → Type 0

abbrev pub cost_of : Form → Cost
-- a stored array, which the nodes that use it read; one that is itself the result is copied in chunks of its own
cost_of (Form.Input name) = record {
  is_view = false;
  operands = λ infos made. [];
  copies = λ infos made stored misaligned. if stored then in_chunks made made.chunk ∷ [] else [];
  outline = λ infos made split_every. [];
  need = λ infos made reserved split_every. reserved;
  typed = λ infos made. Unit {0};
  partials = λ infos made. Unit {0};
}
-- the same elements in other chunks: a copy of its argument
cost_of (Form.Rechunk args chunk) = record {
  is_view = false;
  operands = λ infos made. [];
  copies = λ infos made stored misaligned. in_chunks (array_of infos args 0) made.chunk ∷ [];
  outline = λ infos made split_every. [];
  need = λ infos made reserved split_every. reserved;
  typed = λ infos made. (made.dims ≡ (array_of infos args 0).dims) × (made.dtype ≡ (array_of infos args 0).dtype);
  partials = λ infos made. Unit {0};
}
-- one operation over aligned chunks
cost_of (Form.Elementwise op args) = record {
  is_view = false;
  operands = λ infos made. map (in_aligned made) (arrays_in infos args);
  copies = λ infos made stored misaligned. misaligned;
  outline = λ infos made split_every. plain made (function_bytes made (length args + own_instructions op) (arrays_in infos args)) ∷ [];
  need = λ infos made reserved split_every. function_need reserved made (length args + own_instructions op) (arrays_in infos args);
  typed = λ infos made. (told : List Argument) × (arrays_of told ≡ arrays_in infos args) × (typed_elementwise op told ≡ Ok made);
  partials = λ infos made. Unit {0};
}
-- a fold of any chunks, and merges
cost_of (Form.Reduce kind args axes keepdims) = record {
  is_view = false;
  operands = λ infos made. [];
  copies = λ infos made stored misaligned. misaligned;
  outline = λ infos made split_every. reduction_outline split_every made (array_of infos args 0) (axes_reduced (array_of infos args 0) axes);
  need = λ infos made reserved split_every. reduction_need reserved split_every made (array_of infos args 0) (axes_reduced (array_of infos args 0) axes);
  typed = λ infos made. typed_reduction kind axes keepdims (array_of infos args 0) ≡ Ok made;
  partials = λ infos made. IsFoldWithin made (array_of infos args 0) axes;
}
-- the same with values and places
cost_of (Form.ArgPlace least args axis keepdims) = record {
  is_view = false;
  operands = λ infos made. [];
  copies = λ infos made stored misaligned. misaligned;
  outline = λ infos made split_every. search_outline split_every made (array_of infos args 0) (axes_sought (array_of infos args 0) axis);
  need = λ infos made reserved split_every. place_need reserved split_every made (array_of infos args 0) (axes_sought (array_of infos args 0) axis);
  typed = λ infos made. typed_arg_place axis keepdims (array_of infos args 0) ≡ Ok made;
  partials = λ infos made. IsSearchWithin made (array_of infos args 0) axis;
}
-- products of operands in the chunks that are wanted of them, and merges
cost_of (Form.Matmul args) = record {
  is_view = false;
  operands = λ infos made. left_wanted made (array_of infos args 0) (array_of infos args 1) ∷ right_wanted made (array_of infos args 0) (array_of infos args 1) ∷ [];
  copies = λ infos made stored misaligned. misaligned;
  outline = λ infos made split_every.
      product_outline split_every made (array_of infos args 0)
      (chunk_bytes (rechunked (left_wanted made (array_of infos args 0) (array_of infos args 1))))
      (chunk_bytes (rechunked (right_wanted made (array_of infos args 0) (array_of infos args 1))));
  need = λ infos made reserved split_every.
      matmul_need reserved split_every made
      (left_wanted made (array_of infos args 0) (array_of infos args 1)) (right_wanted made (array_of infos args 0) (array_of infos args 1));
  typed = λ infos made. typed_matmul (array_of infos args 0) (array_of infos args 1) ≡ Ok made;
  partials = λ infos made. (0 < length (array_of infos args 0).dims) × (length made.dims < 6);
}
-- the sums of any chunks, and what is carried into them
cost_of (Form.CumulativeSum args axis) = record {
  is_view = false;
  operands = λ infos made. [];
  copies = λ infos made stored misaligned. misaligned;
  outline = λ infos made split_every. cumulative_outline split_every made (array_of infos args 0) (sum_axis (array_of infos args 0) axis);
  need = λ infos made reserved split_every. cumulative_need reserved split_every made (array_of infos args 0) (sum_axis (array_of infos args 0) axis);
  typed = λ infos made. typed_cumulative axis (array_of infos args 0) ≡ Ok made;
  partials = λ infos made. IsSummed made (array_of infos args 0) (sum_axis (array_of infos args 0) axis);
}
-- folds by labels, and merges: the array in chunks of its own, and the labels in these
cost_of (Form.GroupBy least args axis groups) = record {
  is_view = false;
  operands = λ infos made. in_chunks (array_of infos args 0) (array_of infos args 0).chunk ∷ labels_wanted (array_of infos args 0) axis (array_of infos args 1) ∷ [];
  copies = λ infos made stored misaligned. misaligned;
  outline = λ infos made split_every.
      product_outline split_every made (rechunked (labels_wanted (array_of infos args 0) axis (array_of infos args 1)))
      (chunk_bytes (array_of infos args 0)) (chunk_bytes (rechunked (labels_wanted (array_of infos args 0) axis (array_of infos args 1))));
  need = λ infos made reserved split_every. group_need reserved split_every made (array_of infos args 0) (labels_wanted (array_of infos args 0) axis (array_of infos args 1));
  typed = λ infos made. typed_groups (group_kind least) axis groups (array_of infos args 0) (array_of infos args 1) ≡ Ok made;
  partials = λ infos made. AreGroupsWithin made (rechunked (labels_wanted (array_of infos args 0) axis (array_of infos args 1)));
}
-- a view of any chunks, or an array that is made from nothing
cost_of form = record {
  is_view = true;
  operands = λ infos made. [];
  copies = λ infos made stored misaligned. misaligned;
  outline = λ infos made split_every. plain made (view_bytes made (arrays_in infos (args_of form))) ∷ [];
  need = λ infos made reserved split_every. view_need reserved made (arrays_in infos (args_of form));
  typed = λ infos made. Unit {0};
  partials = λ infos made. Unit {0};
}
