-- The pull of a typed view.
use Rattle.std.proofs.Common.{◌≡◌, ◌∙◌, ℕ, ◌+◌, ◌≤◌, ◌==◌, ◌&&◌, pos, true, false, List, [], length, Option, Some, None, Result, Ok, refl, ap, sym, arith, if◌then◌else◌}
use Rattle.std.specs.Prelude.{nat_le, map}
use Rattle.std.specs.Ordering.{int_eq}
use Rattle.std.proofs.lemmas.Bool.{and_parts, le-leb, leb-true}
use Rattle.std.proofs.lemmas.List.FromFn.{length-map-range_with_len}
use Rattle.std.proofs.lemmas.List.Elements.{All-nil}
use Rattle.cu_shape.specs.Index.{product}
use Rattle.cu_node.specs.Fault.{fault}
use Rattle.cu_node.specs.Info.{info_at}
use Rattle.cu_node.specs.Limited.{limited}
use Rattle.cu_node.specs.Literal.{literal_number}
use Rattle.cu_node.specs.declared.faults.FaultCode.TheVariants.{Axis, Shape}
use Rattle.cu_node.specs.declared.faults.NodeFault.{NodeFault}
use Rattle.cu_node.specs.declared.info.NodeInfo.{NodeInfo}
use Rattle.cu_node.specs.declared.new_shape.NewShape.{NewShape}
use Rattle.cu_form.specs.declared.args.Arg.{Arg}
use Rattle.cu_form.specs.declared.form.Form.{Form}
use Rattle.cu_origin.specs.Fits.{FitsSlice}
use Rattle.cu_origin.specs.Pull.{is_in_triangle, diagonal_of}
use Rattle.cu_origin.specs.declared.provenance.Provenance.TheVariants.{From, Const}
use Rattle.cu_origin.specs.declared.pull.Pull.{Pull}
use Rattle.cu_origin.specs.declared.pull.Pull.TheVariants as pull
use Rattle.cu_typing_view.specs.Entries.{untaken, first_wrong, index_shape, index_chunk, unless_wrong}
use Rattle.cu_typing_view.specs.Rearranged.{is_permutation, permuted_sizes, are_axes}
use Rattle.cu_typing_view.specs.Reshaped.{stretches_to}
use Rattle.cu_typing_view.proofs.NewShapes.{new_shape_count, new_shape_type}
use Rattle.cu_lower_view.specs.Axes.{named_axis, shift_along, shifts_along}
use Rattle.cu_lower_view.specs.Runs.{whole_run, index_runs, axes_taken}
use Rattle.cu_lower_view.specs.Sources.{sources_of}
use Rattle.cu_lower_view.specs.Typed.{IsTypedView, IsPull}
use Rattle.cu_lower_view.specs.View.{flip_pull}
use Rattle.cu_lower_view.proofs.Joined.{concat_typed, stack_typed}
use Rattle.cu_lower_view.proofs.Numbers.{zero_in, one_in, tells_const, tells_from, tells_when, tells_concat, full_typed, arange_typed, eye_typed}
use Rattle.cu_lower_view.proofs.Permuted.{few_axes, fits_permute}
use Rattle.cu_lower_view.proofs.OnesLeftOut.{expanded_ones, squeezed_ones}
use Rattle.cu_lower_view.proofs.Sliced.{length-runs, runs_right, fits_slice, fits_whole}
use Rattle.cu_lower_view.proofs.Sources.{one_source, fits_one, types_one, short_source}
use Rattle.cu_lower_view.proofs.Stretched.{stretched_to}
use Rattle.cu_lower_view.proofs.Typed.{limited_array, checked_array}

-- what is known of a view's only source
abbrev source : List NodeInfo → List Arg → NodeInfo
source infos args = info_at (sources_of infos args) 0

abbrev HasPull : List NodeInfo → Form → NodeInfo → Type 0
HasPull infos form i = (p : Pull) × IsPull infos form i p

right_given : (o : Option ℕ) (r : Result NodeInfo NodeFault) (i : NodeInfo) → unless_wrong o r ≡ Ok i → (o ≡ None) × (r ≡ Ok i)
right_given None r i h = (refl, h)
right_given (Some k) r i h = cc

few_some : (n : ℕ) (p : Pull) → n ≤ 6 → (if nat_le n 6 then Some p else None) ≡ Some p
few_some n p h = rw (le-leb n 6 h) refl

-- each typed view by its form; the last row is of the forms that are no views
pub view_pull : (infos : List NodeInfo) (form : Form) (i : NodeInfo) → IsTypedView infos form i → HasPull infos form i
-- arrays that are made from no other
view_pull infos (Form.Full shape t value chunk) i h = (
  pull.Full (literal_number value),
  record {
    pull = refl;
    fits = refl;
    types = All-nil (λ s. s ≡ i.dtype);
    numbers = λ idx x inside e. tells_const i.dtype (literal_number value) (full_typed shape t value chunk i h.typed) x e;
  },
)
view_pull infos (Form.Arange start stop step t chunk) i h =
    let g = arange_typed start stop step t chunk i h.typed in (
      pull.Arange start step,
      record {
        pull = refl;
        fits = (refl, g.rank);
        types = All-nil (λ s. s ≡ i.dtype);
        numbers = λ idx x inside e. tells_const i.dtype _ (g.numbers idx inside) x e;
      },
    )
view_pull infos (Form.Eye rows cols k t chunk) i h = (
  pull.Eye k,
  record {
    pull = refl;
    fits = (refl, eye_typed rows cols t chunk i h.typed);
    types = All-nil (λ s. s ≡ i.dtype);
    numbers = λ idx x inside e. tells_when i.dtype (int_eq (diagonal_of idx) k) (Const (pos 1)) (Const (pos 0)) (tells_const i.dtype (pos 1) (one_in i.dtype)) (tells_const i.dtype (pos 0) (zero_in i.dtype)) x e;
  },
)
-- views of one array
view_pull infos (Form.Triangle lower args k) i h =
    let a = source infos args in
    let one = one_source infos args h.args in
    let g = checked_array (nat_le 2 (length a.dims)) (fault Axis) a.dtype a.dims a.chunk i h.typed in
    let two : 2 ≤ length a.dims = leb-true 2 (length a.dims) g.0 in
    let rank : length i.dims ≡ length a.dims = ap (λ (ns : List ℕ). length ns) g.1.dims in (
      pull.Triangle lower k,
      record {
        pull = refl;
        fits = fits_one (λ s. (s ≡ i.dims) × (2 ≤ length i.dims)) (sources_of infos args) one (sym g.1.dims, omega arith);
        types = types_one i.dtype (sources_of infos args) one g.1.dtype;
        numbers = λ idx x inside e. tells_when i.dtype (is_in_triangle lower k idx) (From 0 idx) (Const (pos 0)) (tells_from i.dtype 0 idx) (tells_const i.dtype (pos 0) (zero_in i.dtype)) x e;
      },
    )
view_pull infos (Form.Index args items) i h =
    let a = source infos args in
    let one = one_source infos args h.args in
    let short = short_source infos args h.kept h.args in
    let more = untaken (length a.dims) items in
    let runs = index_runs more items a.dims in
    let taken = axes_taken more (length a.dims) items a.dims in
    let right = right_given (first_wrong more false 0 items a.dims) (limited a.dtype (index_shape more items a.dims) (index_chunk more items a.dims a.chunk)) i h.typed in
    let g = limited_array a.dtype (index_shape more items a.dims) (index_chunk more items a.dims a.chunk) i right.1 in
    let count : length runs ≡ length a.dims = length-runs runs a.dims (runs_right more false 0 items a.dims right.0) in
    let p : Pull = pull.Slice (record { items = runs }) (record { items = taken }) in (
      p,
      record {
        pull = few_some (length runs) p (omega arith);
        fits = fits_one _ (sources_of infos args) one (fits_slice more items i.dims a.dims right.0 g.dims);
        types = types_one i.dtype (sources_of infos args) one g.dtype;
        numbers = λ idx x inside e. cc;
      },
    )
view_pull infos (Form.PermuteDims args axes) i h =
    let a = source infos args in
    let one = one_source infos args h.args in
    let short = short_source infos args h.kept h.args in
    let g = checked_array (is_permutation (length a.dims) axes) (fault Axis) a.dtype (permuted_sizes axes a.dims) (permuted_sizes axes a.chunk) i h.typed in
    let p : Pull = pull.Permute (record { items = map (named_axis (length a.dims)) axes }) in (
      p,
      record {
        pull = few_some (length axes) p (few_axes axes a.dims short g.0);
        fits = fits_one _ (sources_of infos args) one (fits_permute axes i.dims a.dims short g.0 g.1.dims);
        types = types_one i.dtype (sources_of infos args) one g.1.dtype;
        numbers = λ idx x inside e. cc;
      },
    )
view_pull infos (Form.Reshape args (NewShape.Sizes sizes)) i h =
    let a = source infos args in
    let one = one_source infos args h.args in (
      pull.Reshape,
      record {
        pull = refl;
        fits = fits_one (λ s. product s ≡ product i.dims) (sources_of infos args) one (new_shape_count a i (NewShape.Sizes sizes) h.ranges h.typed);
        types = types_one i.dtype (sources_of infos args) one (new_shape_type a i (NewShape.Sizes sizes) h.typed);
        numbers = λ idx x inside e. cc;
      },
    )
view_pull infos (Form.Reshape args (NewShape.Expanded axis)) i h =
    let a = source infos args in
    let one = one_source infos args h.args in (
      pull.Slice (record { items = map whole_run a.dims }) (record { items = [] }),
      record {
        pull = refl;
        fits = fits_one (FitsSlice (map whole_run a.dims) [] i.dims) (sources_of infos args) one (fits_whole i.dims a.dims (expanded_ones a axis i h.typed));
        types = types_one i.dtype (sources_of infos args) one (new_shape_type a i (NewShape.Expanded axis) h.typed);
        numbers = λ idx x inside e. cc;
      },
    )
view_pull infos (Form.Reshape args (NewShape.Squeezed axes)) i h =
    let a = source infos args in
    let one = one_source infos args h.args in (
      pull.Slice (record { items = map whole_run a.dims }) (record { items = [] }),
      record {
        pull = refl;
        fits = fits_one (FitsSlice (map whole_run a.dims) [] i.dims) (sources_of infos args) one (fits_whole i.dims a.dims (squeezed_ones a axes i h.typed));
        types = types_one i.dtype (sources_of infos args) one (new_shape_type a i (NewShape.Squeezed axes) h.typed);
        numbers = λ idx x inside e. cc;
      },
    )
view_pull infos (Form.Flip args axes) i h =
    let a = source infos args in
    let one = one_source infos args h.args in
    let g = checked_array (are_axes (length a.dims) axes) (fault Axis) a.dtype a.dims a.chunk i h.typed in (
      flip_pull axes a.dims,
      record {
        pull = refl;
        fits = fits_one (λ s. s ≡ i.dims) (sources_of infos args) one (sym g.1.dims);
        types = types_one i.dtype (sources_of infos args) one g.1.dtype;
        numbers = λ idx x inside e. cc;
      },
    )
view_pull infos (Form.Roll args shifts axes) i h =
    let a = source infos args in
    let one = one_source infos args h.args in
    let g = checked_array (length shifts == length axes && are_axes (length a.dims) (Some axes)) (fault Axis) a.dtype a.dims a.chunk i h.typed in
    let long : length (shifts_along (length a.dims) shifts axes) ≡ length a.dims = length-map-range_with_len (shift_along (length a.dims) shifts axes) 0 (length a.dims) in
    let rank : length i.dims ≡ length a.dims = ap (λ (ns : List ℕ). length ns) g.1.dims in (
      pull.Roll (record { items = shifts_along (length a.dims) shifts axes }),
      record {
        pull = refl;
        fits = fits_one (λ s. (s ≡ i.dims) × (length (shifts_along (length a.dims) shifts axes) ≡ length i.dims)) (sources_of infos args) one (sym g.1.dims, long ∙ sym rank);
        types = types_one i.dtype (sources_of infos args) one g.1.dtype;
        numbers = λ idx x inside e. cc;
      },
    )
view_pull infos (Form.BroadcastTo args shape chunk) i h =
    let a = source infos args in
    let one = one_source infos args h.args in
    let g = checked_array (stretches_to a.dims shape && length chunk == length shape) (fault Shape) a.dtype shape chunk i h.typed in
    let stretched : stretches_to a.dims shape ≡ true = (and_parts (stretches_to a.dims shape) (length chunk == length shape) g.0).0 in
    let both = stretched_to a.dims i.dims (ap (stretches_to a.dims) g.1.dims ∙ stretched) in (
      pull.Broadcast,
      record {
        pull = refl;
        fits = fits_one _ (sources_of infos args) one both;
        types = types_one i.dtype (sources_of infos args) one g.1.dtype;
        numbers = λ idx x inside e. cc;
      },
    )
-- arrays put together
view_pull infos (Form.Concat args axis) i h =
    let g = concat_typed (sources_of infos args) axis i h.typed in (
      pull.Concat (named_axis (length (source infos args).dims) axis),
      record {
        pull = refl;
        fits = g.0;
        types = g.1;
        numbers = λ idx x inside e. tells_concat i.dtype (named_axis (length (source infos args).dims) axis) 0 _ idx x e;
      },
    )
view_pull infos (Form.Stack args axis) i h =
    let g = stack_typed (sources_of infos args) axis i h.typed in (
      pull.Stack (named_axis (length (source infos args).dims + 1) axis),
      record {
        pull = refl;
        fits = g.0;
        types = g.1;
        numbers = λ idx x inside e. cc;
      },
    )
view_pull infos form i h = let e = h.typed in cc
