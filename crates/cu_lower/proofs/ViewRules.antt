-- The meaning of a view at an index of its result is the element that the view's pull takes there.
use Rattle.std.proofs.Common.{◌≡◌, ℕ, suc, ◌+◌, ◌-◌, ◌==◌, nat_le, Bool, true, false, ◌&&◌, ℤ, pos, ◌-ℤ◌, List, [], ◌∷◌, Option, None, Some, Result, Ok, length, map, set, take, drop, refl, ap, sym, ◌∙◌, subst, arith, if◌then◌else◌}
use Rattle.std.specs.Prelude.{slice_get, slice_index, slice_set, remove, is_some, int_le}
use Rattle.std.specs.List.{list_all}
use Rattle.std.specs.Ordering.{int_eq}
use Rattle.std.proofs.lemmas.Bool.{and_parts, leb-true}
use Rattle.std.proofs.lemmas.List.{length-append, length-take, length-drop, length-set}
use Rattle.std.proofs.lemmas.List.Elements.{All-head}
use Rattle.cu_result.proofs.ResultSteps.{check_step_ok}
use Rattle.cu_shape.specs.Index.{IsInside}
use Rattle.cu_shape.proofs.Places.{inside-length}
use Rattle.cu_form.specs.Form.{args_of, is_array, are_arrays, takes_args}
use Rattle.cu_form.specs.declared.args.Arg.{Arg}
use Rattle.cu_form.specs.declared.form.Form.{Form}
use Rattle.cu_node.specs.Axes.{marked_of}
use Rattle.cu_node.specs.Info.{info_at}
use Rattle.cu_node.specs.Fault.{fault}
use Rattle.cu_node.specs.Limited.{limited}
use Rattle.cu_node.specs.declared.faults.FaultCode.TheVariants.{Axis as WrongAxis}
use Rattle.cu_node.specs.declared.faults.NodeFault.{NodeFault}
use Rattle.cu_node.specs.declared.index_item.IndexItem.{IndexItem}
use Rattle.cu_node.specs.declared.info.NodeInfo.{NodeInfo}
use Rattle.cu_node.specs.declared.new_shape.NewShape.{NewShape}
use Rattle.cu_node.proofs.KeptLimits.{given}
use Rattle.cu_typing_view.specs.Entries.{untaken, first_wrong, index_shape, index_chunk, unless_wrong}
use Rattle.cu_typing_view.specs.Rearranged.{is_permutation, permuted_sizes}
use Rattle.cu_semantics.specs.Argument.{NodeElements}
use Rattle.cu_semantics.specs.Rule.{rule_of}
use Rattle.cu_origin.specs.Fits.{FitsPull}
use Rattle.cu_origin.specs.Pull.{origin_of, diagonal_of, is_in_triangle}
use Rattle.cu_origin.specs.declared.provenance.Provenance.TheVariants.{From, Const}
use Rattle.cu_origin.specs.declared.pull.Pull.{Pull}
use Rattle.cu_origin.specs.declared.pull.Pull.TheVariants as pulls
use Rattle.cu_lower_view.specs.Axes.{named_axis, is_turned, axes_that, shifts_along}
use Rattle.cu_lower_view.specs.Runs.{whole_run, index_runs, axes_taken}
use Rattle.cu_lower_view.specs.Sources.{sources_of, shapes_of, source_shapes}
use Rattle.cu_lower_view.specs.Typed.{IsTypedView, IsPull}
use Rattle.cu_lower_view.specs.View.{pull_of}
use Rattle.cu_lower.proofs.AxisIndices.{flipped_same, rolled_same, are_axes, permuted_same, concat_same, taken_from, taken_choice}
use Rattle.cu_lower.proofs.EntryIndices.{read_by_entries, read_whole}

-- ---- arguments

one_array : (args : List Arg) → are_arrays 1 1 args ≡ true → (n : ℕ) × (args ≡ Arg.Node n ∷ [])
one_array [] h = cc
one_array (Arg.Node n ∷ []) h = (n, refl)
one_array (Arg.Int x ∷ []) h = cc
one_array (Arg.Truth b ∷ []) h = cc
one_array (x ∷ y ∷ args) h =
    let a = and_parts (nat_le 1 (length (x ∷ y ∷ args)) && nat_le (length (x ∷ y ∷ args)) 1) (list_all is_array (x ∷ y ∷ args)) h in
    let b = and_parts (nat_le 1 (length (x ∷ y ∷ args))) (nat_le (length (x ∷ y ∷ args)) 1) a.0 in
    let few = leb-true (length (x ∷ y ∷ args)) 1 b.1 in
    absurd (omega (arith, few))

all_arrays : (least most : ℕ) (args : List Arg) → are_arrays least most args ≡ true → list_all is_array args ≡ true
all_arrays least most args h = (and_parts (nat_le least (length args) && nat_le (length args) most) (list_all is_array args) h).1

-- what a form takes that has a pull
pub view_arrays : (infos : List NodeInfo) (form : Form) (p : Pull) → takes_args form ≡ true → pull_of infos form ≡ Some p → list_all is_array (args_of form) ≡ true
view_arrays infos (Form.Full shape dtype value chunk) p takes pull = refl
view_arrays infos (Form.Arange start stop step dtype chunk) p takes pull = refl
view_arrays infos (Form.Eye rows cols d dtype chunk) p takes pull = refl
view_arrays infos (Form.Concat args axis) p takes pull = all_arrays 1 8 args takes
view_arrays infos (Form.Stack args axis) p takes pull = all_arrays 1 8 args takes
view_arrays infos (Form.Triangle lower args d) p takes pull = all_arrays 1 1 args takes
view_arrays infos (Form.Index args items) p takes pull = all_arrays 1 1 args takes
view_arrays infos (Form.PermuteDims args axes) p takes pull = all_arrays 1 1 args takes
view_arrays infos (Form.Reshape args shape) p takes pull = all_arrays 1 1 args takes
view_arrays infos (Form.Flip args axes) p takes pull = all_arrays 1 1 args takes
view_arrays infos (Form.Roll args shifts axes) p takes pull = all_arrays 1 1 args takes
view_arrays infos (Form.BroadcastTo args shape chunk) p takes pull = all_arrays 1 1 args takes
view_arrays infos form p takes pull = cc

-- ---- what typing and the choice of a pull tell

right_entries : (wrong : Option ℕ) (made : Result NodeInfo NodeFault) (i : NodeInfo) → unless_wrong wrong made ≡ Ok i → (wrong ≡ None) × (made ≡ Ok i)
right_entries None made i h = (refl, h)
right_entries (Some k) made i h = cc

some_if : {A : Type 0} (b : Bool) (x y : A) → (if b then Some x else None) ≡ Some y → x ≡ y
some_if true x y h = cc
some_if false x y h = cc

module _ (infos : List NodeInfo) (env at : NodeElements) (k : ℕ) (p : Pull) (idx : List ℕ) (inside : IsInside (info_at infos k).dims idx) where
  abbrev result : NodeInfo
  result = info_at infos k

  -- the pull takes what the form means
  abbrev Takes : Form → Type 0
  Takes form = rule_of infos env at k form idx ≡ taken_from at (args_of form) (origin_of p (source_shapes infos form) result.dims idx)

  long : length idx ≡ length result.dims
  long = inside-length result.dims idx inside

  -- of the pull that it is
  carry : (args : List Arg) (sources : List (List ℕ)) (x : ℤ) (view : Pull) → view ≡ p → x ≡ taken_from at args (origin_of view sources result.dims idx) → x ≡ taken_from at args (origin_of p sources result.dims idx)
  carry args sources x view same h = subst (λ (q : Pull). x ≡ taken_from at args (origin_of q sources result.dims idx)) same h

  fits_as : (sources : List (List ℕ)) (view : Pull) → view ≡ p → FitsPull p sources result.dims → FitsPull view sources result.dims
  fits_as sources view same h = subst (λ (q : Pull). FitsPull q sources result.dims) (sym same) h

  -- of a form of one array
  with_one : (make : List Arg → Form) (args : List Arg) → are_arrays 1 1 args ≡ true
      → ((n : ℕ) → IsTypedView infos (make (Arg.Node n ∷ [])) result → IsPull infos (make (Arg.Node n ∷ [])) result p → Takes (make (Arg.Node n ∷ [])))
      → IsTypedView infos (make args) result → IsPull infos (make args) result p → Takes (make args)
  with_one make args takes proof typed pull =
      let one = one_array args takes in
      subst (λ (xs : List Arg). Takes (make xs)) (sym one.1)
      (proof one.0 (subst (λ (xs : List Arg). IsTypedView infos (make xs) result) one.1 typed) (subst (λ (xs : List Arg). IsPull infos (make xs) result p) one.1 pull))

  index_takes : (items : List IndexItem) (n : ℕ) → IsTypedView infos (Form.Index (Arg.Node n ∷ []) items) result → IsPull infos (Form.Index (Arg.Node n ∷ []) items) result p → Takes (Form.Index (Arg.Node n ∷ []) items)
  index_takes items n typed pull =
      let source = info_at infos n in
      let more = untaken (length source.dims) items in
      let runs = index_runs more items source.dims in
      let view = pulls.Slice (record { items = runs }) (record { items = axes_taken more (length source.dims) items source.dims }) in
      let same : view ≡ p = some_if (nat_le (length runs) 6) view p pull.pull in
      let right = right_entries (first_wrong more false 0 items source.dims) (limited source.dtype (index_shape more items source.dims) (index_chunk more items source.dims source.chunk)) result typed.typed in
      let shape = ap (λ (i : NodeInfo). i.dims) (given true source.dtype (index_shape more items source.dims) (index_chunk more items source.dims source.chunk) result right.1) in
      carry (Arg.Node n ∷ []) (source.dims ∷ []) (rule_of infos env at k (Form.Index (Arg.Node n ∷ []) items) idx) view same
      (ap (at n) (sym (read_by_entries items source.dims result.dims idx right.0 shape inside)))

  permute_takes : (axes : List ℤ) (n : ℕ) → IsTypedView infos (Form.PermuteDims (Arg.Node n ∷ []) axes) result → IsPull infos (Form.PermuteDims (Arg.Node n ∷ []) axes) result p → Takes (Form.PermuteDims (Arg.Node n ∷ []) axes)
  permute_takes axes n typed pull =
      let source = info_at infos n in
      let rank = length source.dims in
      let view = pulls.Permute (record { items = map (named_axis rank) axes }) in
      let same : view ≡ p = some_if (nat_le (length axes) 6) view p pull.pull in
      let right = check_step_ok (is_permutation rank axes) (fault WrongAxis) (λ t. limited source.dtype (permuted_sizes axes source.dims) (permuted_sizes axes source.chunk)) result typed.typed in
      let both = and_parts (length axes == rank) (list_all (λ d. int_le (pos 0) d) axes && is_some (marked_of rank axes)) right.0 in
      let marked = and_parts (list_all (λ d. int_le (pos 0) d) axes) (is_some (marked_of rank axes)) both.1 in
      carry (Arg.Node n ∷ []) (source.dims ∷ []) (rule_of infos env at k (Form.PermuteDims (Arg.Node n ∷ []) axes) idx) view same
      (ap (at n) (sym (permuted_same rank axes idx (are_axes rank _ axes marked.0 marked.1))))

  flip_takes : (axes : Option (List ℤ)) (n : ℕ) → IsTypedView infos (Form.Flip (Arg.Node n ∷ []) axes) result → IsPull infos (Form.Flip (Arg.Node n ∷ []) axes) result p → Takes (Form.Flip (Arg.Node n ∷ []) axes)
  flip_takes axes n typed pull =
      let source = info_at infos n in
      let made : List ℕ → Pull = λ shape. pulls.Flip (axes_that (length shape) (is_turned (length shape) axes)) in
      let is : made source.dims ≡ p = cc pull.pull in
      let shape : source.dims ≡ result.dims = fits_as (source.dims ∷ []) (made source.dims) is pull.fits in
      carry (Arg.Node n ∷ []) (source.dims ∷ []) (rule_of infos env at k (Form.Flip (Arg.Node n ∷ []) axes) idx) (made result.dims) (sym (ap made shape) ∙ is)
      (ap (at n) (sym (flipped_same axes result.dims idx)))

  roll_takes : (shifts axes : List ℤ) (n : ℕ) → IsTypedView infos (Form.Roll (Arg.Node n ∷ []) shifts axes) result → IsPull infos (Form.Roll (Arg.Node n ∷ []) shifts axes) result p → Takes (Form.Roll (Arg.Node n ∷ []) shifts axes)
  roll_takes shifts axes n typed pull =
      let source = info_at infos n in
      let made : List ℕ → Pull = λ shape. pulls.Roll (record { items = shifts_along (length shape) shifts axes }) in
      let is : made source.dims ≡ p = cc pull.pull in
      let shape = (fits_as (source.dims ∷ []) (made source.dims) is pull.fits).0 in
      carry (Arg.Node n ∷ []) (source.dims ∷ []) (rule_of infos env at k (Form.Roll (Arg.Node n ∷ []) shifts axes) idx) (made result.dims) (sym (ap made shape) ∙ is)
      (ap (at n) (sym (rolled_same shifts axes result.dims idx)))

  whole_takes : (shape : NewShape) (n : ℕ) → pulls.Slice (record { items = map whole_run (info_at infos n).dims }) (record { items = [] }) ≡ p → Takes (Form.Reshape (Arg.Node n ∷ []) shape)
  whole_takes shape n same =
      let source = (info_at infos n).dims in
      carry (Arg.Node n ∷ []) (source ∷ []) (rule_of infos env at k (Form.Reshape (Arg.Node n ∷ []) shape) idx) (pulls.Slice (record { items = map whole_run source }) (record { items = [] })) same
      (ap (at n) (sym (read_whole source result.dims idx)))

  new_shape_takes : (shape : NewShape) (n : ℕ) → IsTypedView infos (Form.Reshape (Arg.Node n ∷ []) shape) result → IsPull infos (Form.Reshape (Arg.Node n ∷ []) shape) result p → Takes (Form.Reshape (Arg.Node n ∷ []) shape)
  new_shape_takes (NewShape.Sizes sizes) n typed pull =
      carry (Arg.Node n ∷ []) ((info_at infos n).dims ∷ []) (rule_of infos env at k (Form.Reshape (Arg.Node n ∷ []) (NewShape.Sizes sizes)) idx) pulls.Reshape (cc pull.pull) refl
  new_shape_takes (NewShape.Expanded axis) n typed pull = whole_takes (NewShape.Expanded axis) n (cc pull.pull)
  new_shape_takes (NewShape.Squeezed axes) n typed pull = whole_takes (NewShape.Squeezed axes) n (cc pull.pull)

  -- ---- arrays put together

  -- the axis is counted in as many axes as the result has
  concat_rank : (sources : List (List ℕ)) (first : List ℕ) (axis : ℤ) (rest : List (List ℕ)) → sources ≡ first ∷ rest → FitsPull (pulls.Concat (named_axis (length first) axis)) sources result.dims → length idx ≡ length first
  concat_rank sources first axis rest e fits =
      let a = named_axis (length first) axis in
      let all = subst (λ (ss : List (List ℕ)). FitsPull (pulls.Concat a) ss result.dims) e fits in
      let same : length (set first a 0) ≡ length (set result.dims a 0) = ap length (All-head (λ (source : List ℕ). slice_set source a 0 ≡ slice_set result.dims a 0) first rest all.off_axis) in
      let l = long in
      let one = length-set first a 0 in
      let other = length-set result.dims a 0 in
      omega (arith, same, one, other, l)

  concat_takes : (args : List Arg) (axis : ℤ) → IsTypedView infos (Form.Concat args axis) result → IsPull infos (Form.Concat args axis) result p → Takes (Form.Concat args axis)
  concat_takes [] axis typed pull = let a = typed.args in cc
  concat_takes (Arg.Int x ∷ args) axis typed pull = let a = all_arrays 1 8 (Arg.Int x ∷ args) typed.args in cc
  concat_takes (Arg.Truth x ∷ args) axis typed pull = let a = all_arrays 1 8 (Arg.Truth x ∷ args) typed.args in cc
  concat_takes (Arg.Node n ∷ args) axis typed pull =
      let first = (info_at infos n).dims in
      let all : List Arg = Arg.Node n ∷ args in
      let sources = source_shapes infos (Form.Concat all axis) in
      let made : ℕ → Pull = λ rank. pulls.Concat (named_axis rank axis) in
      let is : made (length first) ≡ p = cc pull.pull in
      let rank = concat_rank sources first axis (shapes_of (sources_of infos args)) refl (fits_as sources (made (length first)) is pull.fits) in
      carry all sources (rule_of infos env at k (Form.Concat all axis) idx) (made (length idx)) (ap made rank ∙ is)
      (sym (concat_same infos at (named_axis (length idx) axis) 0 all all idx (all_arrays 1 8 all typed.args) (λ j. ap (slice_get all) (let z : 0 + j ≡ j = omega arith in z))))

  stack_rank : (sources : List (List ℕ)) (first : List ℕ) (axis : ℤ) (rest : List (List ℕ)) → sources ≡ first ∷ rest → FitsPull (pulls.Stack (named_axis (length first + 1) axis)) sources result.dims → length idx ≡ length first + 1
  stack_rank sources first axis rest e fits =
      let a = named_axis (length first + 1) axis in
      let all = subst (λ (ss : List (List ℕ)). FitsPull (pulls.Stack a) ss result.dims) e fits in
      let same : length first ≡ length (remove result.dims a) = ap length (All-head (λ (source : List ℕ). source ≡ remove result.dims a) first rest all.off_axis) in
      let below = all.below in
      let whole = length-append (take a result.dims) (drop (suc a) result.dims) in
      let front = length-take a result.dims in
      let back = length-drop (suc a) result.dims in
      let l = long in
      omega (arith, same, below, whole, front, back, l)

  stack_takes : (args : List Arg) (axis : ℤ) → IsTypedView infos (Form.Stack args axis) result → IsPull infos (Form.Stack args axis) result p → Takes (Form.Stack args axis)
  stack_takes [] axis typed pull = let a = typed.args in cc
  stack_takes (Arg.Int x ∷ args) axis typed pull = let a = all_arrays 1 8 (Arg.Int x ∷ args) typed.args in cc
  stack_takes (Arg.Truth x ∷ args) axis typed pull = let a = all_arrays 1 8 (Arg.Truth x ∷ args) typed.args in cc
  stack_takes (Arg.Node n ∷ args) axis typed pull =
      let first = (info_at infos n).dims in
      let all : List Arg = Arg.Node n ∷ args in
      let sources = source_shapes infos (Form.Stack all axis) in
      let made : ℕ → Pull = λ rank. pulls.Stack (named_axis rank axis) in
      let is : made (length first + 1) ≡ p = cc pull.pull in
      let rank = stack_rank sources first axis (shapes_of (sources_of infos args)) refl (fits_as sources (made (length first + 1)) is pull.fits) in
      carry all sources (rule_of infos env at k (Form.Stack all axis) idx) (made (length idx)) (ap made rank ∙ is) refl

  -- ---- each form

  pub view_takes : (form : Form) → IsTypedView infos form result → IsPull infos form result p → Takes form
  view_takes (Form.Full shape t value chunk) typed pull = carry [] [] (rule_of infos env at k (Form.Full shape t value chunk) idx) (pulls.Full _) (cc pull.pull) refl
  view_takes (Form.Arange start stop step t chunk) typed pull = carry [] [] (rule_of infos env at k (Form.Arange start stop step t chunk) idx) (pulls.Arange start step) (cc pull.pull) refl
  view_takes (Form.Eye rows cols d t chunk) typed pull =
      let is : pulls.Eye d ≡ p = cc pull.pull in
      let two = long ∙ (fits_as [] (pulls.Eye d) is pull.fits).1 in
      let diagonal : pos (slice_index idx 1) -ℤ pos (slice_index idx 0) ≡ diagonal_of idx = sym (ap (λ (r : ℕ). pos (slice_index idx (r - 1)) -ℤ pos (slice_index idx (r - 2))) two) in
      carry [] [] (rule_of infos env at k (Form.Eye rows cols d t chunk) idx) (pulls.Eye d) is
      (ap (λ (x : ℤ). if int_eq x d then pos 1 else pos 0) diagonal ∙ sym (taken_choice at [] (int_eq (diagonal_of idx) d) (Const (pos 1)) (Const (pos 0))))
  view_takes (Form.Triangle lower args d) typed pull =
      carry args (source_shapes infos (Form.Triangle lower args d)) (rule_of infos env at k (Form.Triangle lower args d) idx) (pulls.Triangle lower d) (cc pull.pull)
      (sym (taken_choice at args (is_in_triangle lower d idx) (From 0 idx) (Const (pos 0))))
  view_takes (Form.Index args items) typed pull = with_one (λ xs. Form.Index xs items) args typed.args (index_takes items) typed pull
  view_takes (Form.Concat args axis) typed pull = concat_takes args axis typed pull
  view_takes (Form.Stack args axis) typed pull = stack_takes args axis typed pull
  view_takes (Form.PermuteDims args axes) typed pull = with_one (λ xs. Form.PermuteDims xs axes) args typed.args (permute_takes axes) typed pull
  view_takes (Form.Reshape args shape) typed pull = with_one (λ xs. Form.Reshape xs shape) args typed.args (new_shape_takes shape) typed pull
  view_takes (Form.Flip args axes) typed pull = with_one (λ xs. Form.Flip xs axes) args typed.args (flip_takes axes) typed pull
  view_takes (Form.Roll args shifts axes) typed pull = with_one (λ xs. Form.Roll xs shifts axes) args typed.args (roll_takes shifts axes) typed pull
  view_takes (Form.BroadcastTo args shape chunk) typed pull =
      with_one (λ xs. Form.BroadcastTo xs shape chunk) args typed.args
      (λ n t q. carry (Arg.Node n ∷ []) ((info_at infos n).dims ∷ []) (rule_of infos env at k (Form.BroadcastTo (Arg.Node n ∷ []) shape chunk) idx) pulls.Broadcast (cc q.pull) refl) typed pull
  view_takes form typed pull = let t = typed.typed in cc
