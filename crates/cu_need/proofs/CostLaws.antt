-- What is proved of a node's cost, by its form. A later form is a row of `laws_of`.
use Rattle.std.proofs.Common.{◌≡◌, ℕ, ◌+◌, Bool, List, All, None, Some, sym, arith}
use Rattle.std.proofs.lemmas.List.Elements.{All-nil}
use Rattle.cu_copy.specs.Copies.{IsRechunk, rechunked}
use Rattle.cu_copy.specs.declared.copies.Rechunk.{Rechunk}
use Rattle.cu_form.specs.Form.{group_kind}
use Rattle.cu_form.specs.declared.form.Form.{Form}
use Rattle.cu_need.proofs.AlongTypes.{groups_within, sums_within}
use Rattle.cu_need.proofs.WithinLimits.{array_kept, reduction_within, search_within, product_within, function_within, matrices_within, grouped_within, copy_within, stored_within}
use Rattle.cu_need.specs.Along.{sum_axis, labels_wanted}
use Rattle.cu_need.specs.Cost.{Cost, cost_of}
use Rattle.cu_need.specs.Reduction.{array_of, axes_reduced, axes_sought}
use Rattle.cu_node.specs.Info.{IsInfo, info_at}
use Rattle.cu_node.specs.declared.info.NodeInfo.{NodeInfo}
use Rattle.cu_num.specs.declared.types.Dtype.TheVariants.{Int64}
use Rattle.cu_tree.proofs.Outlines.{chain_most, cumulative_most}
use Rattle.cu_tree.specs.Outlines.{outline_bytes}
use Rattle.cu_tree.specs.Partials.{first_partial, product_partial, product_rounds, reduction_rounds}
use Rattle.cu_typing.specs.Reduction.{fold_rule}

-- a node of such a cost is typed over others, and their arrays and its own keep the limits
pub record IsTypedNode (c : Cost) (infos : List NodeInfo) (made : NodeInfo) : Type 0 where
  pub arrays : (n : ℕ) → IsInfo (info_at infos n)
  pub own : IsInfo made
  pub typed : c.typed infos made

pub record Laws (c : Cost) : Type 0 where
  -- the table of needs has the greatest need of the outline
  pub most : (infos : List NodeInfo) (made : NodeInfo) (reserved split_every : ℕ) → c.need infos made reserved split_every ≡ reserved + outline_bytes (c.outline infos made split_every)
  -- typing sees to it that the partial results keep the limits
  pub partials : (infos : List NodeInfo) (made : NodeInfo) → IsTypedNode c infos made → c.partials infos made
  -- that each operand does in the chunks that are wanted of it
  pub operands : (infos : List NodeInfo) (made : NodeInfo) → IsTypedNode c infos made → All IsRechunk (c.operands infos made)
  -- and that each copy does where those of operands do
  pub copies : (infos : List NodeInfo) (made : NodeInfo) (stored : Bool) (misaligned : List Rechunk) → IsTypedNode c infos made → All IsRechunk misaligned
      → All IsRechunk (c.copies infos made stored misaligned)

pub laws_of : (form : Form) → Laws (cost_of form)
laws_of (Form.Input name) = record {
  most = λ infos made reserved g. omega arith;
  partials = λ infos made node. tt;
  operands = λ infos made node. All-nil IsRechunk;
  copies = λ infos made stored misaligned node within. stored_within made node.own stored;
}
laws_of (Form.Rechunk args chunk) = record {
  most = λ infos made reserved g. omega arith;
  partials = λ infos made node. tt;
  operands = λ infos made node. All-nil IsRechunk;
  copies = λ infos made stored misaligned node within. copy_within made node.own (array_of infos args 0) (array_kept infos node.arrays args 0) node.typed.0 node.typed.1;
}
laws_of (Form.Elementwise op args) = record {
  most = λ infos made reserved g. omega arith;
  partials = λ infos made node. tt;
  operands = λ infos made node. function_within infos node.arrays op args made node.own node.typed.0 node.typed.1 node.typed.2;
  copies = λ infos made stored misaligned node within. within;
}
laws_of (Form.Reduce kind args axes keepdims) = record {
  most = λ infos made reserved g.
      let source = array_of infos args 0 in
      sym (chain_most reserved None _ _ (first_partial made.dtype (axes_reduced source axes) source) made (reduction_rounds (axes_reduced source axes) g source));
  partials = λ infos made node. reduction_within made node.own (fold_rule kind (array_of infos args 0).dtype) axes keepdims (array_of infos args 0) node.typed;
  operands = λ infos made node. All-nil IsRechunk;
  copies = λ infos made stored misaligned node within. within;
}
laws_of (Form.ArgPlace least args axis keepdims) = record {
  most = λ infos made reserved g.
      let source = array_of infos args 0 in
      sym (chain_most reserved (Some source.dtype) _ _ (first_partial Int64 (axes_sought source axis) source) made (reduction_rounds (axes_sought source axis) g source));
  partials = λ infos made node. search_within made node.own axis keepdims (array_of infos args 0) (array_kept infos node.arrays args 0) node.typed;
  operands = λ infos made node. All-nil IsRechunk;
  copies = λ infos made stored misaligned node within. within;
}
laws_of (Form.Matmul args) = record {
  most = λ infos made reserved g.
      let left = array_of infos args 0 in
      sym (chain_most reserved None _ _ (product_partial left made) made (product_rounds g left made));
  partials = λ infos made node. product_within made node.own (array_of infos args 0) (array_of infos args 1) node.typed;
  operands = λ infos made node.
      matrices_within made node.own (array_of infos args 0) (array_of infos args 1) (array_kept infos node.arrays args 0) (array_kept infos node.arrays args 1) node.typed;
  copies = λ infos made stored misaligned node within. within;
}
laws_of (Form.CumulativeSum args axis) = record {
  most = λ infos made reserved g. sym (cumulative_most reserved g made (array_of infos args 0) (sum_axis (array_of infos args 0) axis));
  partials = λ infos made node. sums_within axis (array_of infos args 0) made (array_kept infos node.arrays args 0) node.own node.typed;
  operands = λ infos made node. All-nil IsRechunk;
  copies = λ infos made stored misaligned node within. within;
}
laws_of (Form.GroupBy least args axis groups) = record {
  most = λ infos made reserved g.
      let labels = rechunked (labels_wanted (array_of infos args 0) axis (array_of infos args 1)) in
      sym (chain_most reserved None _ _ (product_partial labels made) made (product_rounds g labels made));
  partials = λ infos made node.
      groups_within (group_kind least) axis groups (array_of infos args 0) (array_of infos args 1) made
      (array_kept infos node.arrays args 0) (array_kept infos node.arrays args 1) node.own node.typed;
  operands = λ infos made node.
      grouped_within made node.own (group_kind least) axis groups (array_of infos args 0) (array_of infos args 1)
      (array_kept infos node.arrays args 0) (array_kept infos node.arrays args 1) node.typed;
  copies = λ infos made stored misaligned node within. within;
}
laws_of form = record {
  most = λ infos made reserved g. omega arith;
  partials = λ infos made node. tt;
  operands = λ infos made node. All-nil IsRechunk;
  copies = λ infos made stored misaligned node within. within;
}
