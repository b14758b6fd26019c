-- What typing sees to of each kind of operation: its partial results, its operands and copies keep the limits.
use Rattle.std.proofs.Common.{◌≡◌, ℕ, ◌<◌, ◌≤◌, ◌*◌, ◌^◌, true, false, Bool, if◌then◌else◌, ℤ, List, [], ◌∷◌, length, get_or, map, All, Option, Some, None, Ok, refl, ap, sym, ◌∙◌, subst, arith}
use Rattle.std.specs.Prelude.{option_map, replicate, unwrap_or, slice_get}
use Rattle.std.proofs.lemmas.Bool.{le-leb}
use Rattle.std.proofs.lemmas.List.{get_or_past}
use Rattle.std.proofs.lemmas.List.Elements.{All-nil, All-cons, All-map}
use Rattle.cu_num.specs.Dtype.{size_of}
use Rattle.cu_num.specs.declared.folds.FoldKind.{FoldKind}
use Rattle.cu_num.specs.declared.types.Dtype.TheVariants.{Int64}
use Rattle.cu_num.specs.declared.types.Dtype.{Dtype}
use Rattle.cu_shape.specs.Index.{product}
use Rattle.cu_origin.specs.Pull.{has_axis}
use Rattle.cu_origin.specs.declared.axes.Axes.{Axes}
use Rattle.cu_form.specs.declared.args.Arg.{Arg}
use Rattle.cu_node.specs.Info.{IsInfo, info_at, info_of, no_info}
use Rattle.cu_node.specs.Limited.{is_chunk_within}
use Rattle.cu_node.specs.declared.element_op.ElementOp.{ElementOp}
use Rattle.cu_node.specs.declared.info.NodeInfo.{NodeInfo}
use Rattle.cu_typing.specs.Accepted.{GoesInto, IsElementwise}
use Rattle.cu_typing.specs.Along.{typed_groups}
use Rattle.cu_typing.specs.Elementwise.{typed_elementwise}
use Rattle.cu_typing.specs.Joined.{aligned_chunk, arrays_of}
use Rattle.cu_typing.specs.Matmul.{typed_matmul}
use Rattle.cu_typing.specs.Reduction.{ReductionRule, reduced, typed_arg_place, place_rule, kept_sizes}
use Rattle.cu_typing.specs.declared.argument.Argument.{Argument}
use Rattle.cu_typing.proofs.Passed.{passed}
use Rattle.cu_typing.proofs.PassedTogether.{reduction_passed, product_passed}
use Rattle.cu_tree.specs.Marks.{marked_axes}
use Rattle.cu_tree.specs.Partials.{partial_chunk_from}
use Rattle.cu_tree.proofs.Bits.{marked}
use Rattle.cu_copy.specs.Copies.{IsRechunk, in_chunks}
use Rattle.cu_need.specs.Along.{labels_wanted}
use Rattle.cu_need.specs.Chunks.{arrays_in}
use Rattle.cu_need.specs.Elementwise.{in_aligned}
use Rattle.cu_need.specs.Reduction.{array_from, array_of, axes_reduced, axes_sought, left_wanted, right_wanted, IsFoldWithin, IsSearchWithin}
use Rattle.cu_need.proofs.AlongTypes.{labels_rechunk, own_rechunk}
use Rattle.cu_need.proofs.PartialChunks.{partial_within}
use Rattle.cu_need.proofs.SoughtAxes.{sought_marked}
use Rattle.cu_need.proofs.WantedChunks.{aligned_wanted, left_is_wanted, right_is_wanted}

-- ---- the arrays of arguments

module _ (infos : List NodeInfo) (kept : (k : ℕ) → IsInfo (info_at infos k)) where
  kept_none : IsInfo no_info
  kept_none = subst IsInfo (get_or_past infos (length infos) no_info (omega arith)) (kept (length infos))

  kept_from : (o : Option Arg) → IsInfo (array_from infos o)
  kept_from (Some (Arg.Node n)) = kept n
  kept_from (Some (Arg.Int x)) = kept_none
  kept_from (Some (Arg.Truth b)) = kept_none
  kept_from None = kept_none

  pub array_kept : (args : List Arg) (at : ℕ) → IsInfo (array_of infos args at)
  array_kept args at = kept_from (slice_get args at)

  kept_all : (args : List Arg) → All IsInfo (arrays_in infos args)
  kept_all [] = All-nil IsInfo
  kept_all (Arg.Node n ∷ args) = All-cons IsInfo (info_at infos n) (arrays_in infos args) (kept n) (kept_all args)
  kept_all (Arg.Int x ∷ args) = kept_all args
  kept_all (Arg.Truth b ∷ args) = kept_all args

  -- those of an elementwise function, in aligned chunks
  pub function_within : (op : ElementOp) (args : List Arg) (made : NodeInfo) → IsInfo made → (told : List Argument) → arrays_of told ≡ arrays_in infos args → typed_elementwise op told ≡ Ok made
      → All IsRechunk (map (in_aligned made) (arrays_in infos args))
  function_within op args made own told same typed =
      let accepted : (t : Dtype) × IsElementwise op told t made = passed op told made typed in
      let broadcast = subst (λ (is : List NodeInfo). All (λ i. GoesInto i.dims made.dims) is) same accepted.1.broadcast in
      let within = subst (λ (is : List NodeInfo). All (λ i. is_chunk_within i.dtype (aligned_chunk made.dims made.chunk i) ≡ true) is) same accepted.1.within in
      All-map IsRechunk (in_aligned made) (arrays_in infos args)
      (λ j d l. aligned_wanted made (get_or (arrays_in infos args) j d) own (kept_all args j d l) (broadcast j d l).rank (within j d l))

-- ---- a node whose own array keeps the limits

module _ (made : NodeInfo) (own : IsInfo made) where
  bytes_are : (t : Dtype) (shape chunk : List ℕ) → made ≡ info_of t shape chunk → product chunk * size_of t ≤ 2 ^ 28
  bytes_are t shape chunk is = subst (λ (i : NodeInfo). product i.chunk * size_of i.dtype ≤ 2 ^ 28) is own.bytes

  -- ---- partial results

  pub reduction_within : (rule : ReductionRule) (axes : Option (List ℤ)) (keepdims : Bool) (source : NodeInfo) → reduced rule axes keepdims source ≡ Ok made → IsFoldWithin made source axes
  reduction_within rule axes keepdims source typed =
      let p = reduction_passed rule axes keepdims source made typed in
      let marks = p.0 in
      let named : axes_reduced source axes ≡ marked_axes marks = ap (λ (o : Option (List Bool)). marked_axes (unwrap_or o (replicate 6 false))) p.1.named in
      let dtype : made.dtype ≡ rule.dtype = ap (λ (i : NodeInfo). i.dtype) p.1.array in
      let within = partial_within (marked_axes marks) rule.dtype keepdims marks source.chunk (λ i l. marked marks i) (bytes_are rule.dtype (kept_sizes keepdims source.dims marks) (kept_sizes keepdims source.chunk marks) p.1.array) in
      subst (λ (t : Dtype). is_chunk_within t (partial_chunk_from (axes_reduced source axes) 0 source.chunk) ≡ true) (sym dtype)
      (subst (λ (a : Axes). is_chunk_within rule.dtype (partial_chunk_from a 0 source.chunk) ≡ true) (sym named) within)

  pub search_within : (axis : Option ℤ) (keepdims : Bool) (source : NodeInfo) → IsInfo source → typed_arg_place axis keepdims source ≡ Ok made → IsSearchWithin made source axis
  search_within axis keepdims source info typed =
      let rule = place_rule source.dtype in
      let axes = option_map (λ (d : ℤ). d ∷ []) axis in
      let p = reduction_passed rule axes keepdims source made typed in
      let marks = p.0 in
      let same = info.ranks in
      let has : (i : ℕ) → i < length source.chunk → has_axis (axes_sought source axis) i ≡ get_or marks i false =
      λ i l. sought_marked (length source.dims) axis marks i info.short (omega (arith, l, same)) p.1.named in (
        ap (λ (i : NodeInfo). i.dtype) p.1.array,
        partial_within (axes_sought source axis) Int64 keepdims marks source.chunk has (bytes_are Int64 (kept_sizes keepdims source.dims marks) (kept_sizes keepdims source.chunk marks) p.1.array),
      )

  pub product_within : (left right : NodeInfo) → typed_matmul left right ≡ Ok made → (0 < length left.dims) × (length made.dims < 6)
  product_within left right typed =
      let p = product_passed left right made typed in
      let short = p.1.1.short in
      let dims = ap (λ (i : NodeInfo). length i.dims) p.1.1.array in
      (p.1.1.left_rank, omega (arith, short, dims))

  -- ---- two operands

  pub matrices_within : (left right : NodeInfo) → IsInfo left → IsInfo right → typed_matmul left right ≡ Ok made → All IsRechunk (left_wanted made left right ∷ right_wanted made left right ∷ [])
  matrices_within left right hl hr typed =
      let p = product_passed left right made typed in
      All-cons IsRechunk (left_wanted made left right) (right_wanted made left right ∷ []) (left_is_wanted left right made p.0 p.1.0 p.1.1 hl hr own)
      (All-cons IsRechunk (right_wanted made left right) [] (right_is_wanted left right made p.0 p.1.0 p.1.1 hl hr own) (All-nil IsRechunk))

  pub grouped_within : (kind : FoldKind) (axis : ℤ) (groups : ℕ) (source labels : NodeInfo) → IsInfo source → IsInfo labels → typed_groups kind axis groups source labels ≡ Ok made
      → All IsRechunk (in_chunks source source.chunk ∷ labels_wanted source axis labels ∷ [])
  grouped_within kind axis groups source labels hs hl typed =
      All-cons IsRechunk (in_chunks source source.chunk) (labels_wanted source axis labels ∷ []) (own_rechunk source hs)
      (All-cons IsRechunk (labels_wanted source axis labels) [] (labels_rechunk kind axis groups source labels made hs hl own typed) (All-nil IsRechunk))

  -- ---- copies

  -- in the node's chunks, an array of the same type and shape
  pub copy_within : (source : NodeInfo) → IsInfo source → made.dims ≡ source.dims → made.dtype ≡ source.dtype → All IsRechunk (in_chunks source made.chunk ∷ [])
  copy_within source h dims dtype =
      let copied : IsRechunk (in_chunks source made.chunk) = record {
        source = h;
        ranks = own.ranks ∙ ap length dims;
        positive = own.positive;
        bytes = subst (λ (t : Dtype). is_chunk_within t made.chunk ≡ true) dtype (le-leb (product made.chunk * size_of made.dtype) (2 ^ 28) own.bytes);
      } in
      All-cons IsRechunk (in_chunks source made.chunk) [] copied (All-nil IsRechunk)

  pub stored_within : (stored : Bool) → All IsRechunk (if stored then in_chunks made made.chunk ∷ [] else [])
  stored_within true = copy_within made own refl refl
  stored_within false = All-nil IsRechunk
