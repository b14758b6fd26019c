-- What is proved of groups by labels.
use Rattle.std.proofs.Common.{◌≡◌, ℕ, zero, suc, ◌<◌, ◌+◌, Bool, true, ℤ, List, [], ◌∷◌, Option, Some, Ok, length, map, refl, ap, sym, ◌∙◌, subst, inl, inr, arith}
use Rattle.std.specs.Prelude.{slice_index, slice_set, unwrap_or}
use Rattle.std.specs.List.{range_with_len}
use Rattle.std.proofs.lemmas.List.{length-set}
use Rattle.cu_copy.specs.Copies.{rechunked}
use Rattle.cu_copy.specs.declared.copies.Rechunk.{Rechunk}
use Rattle.cu_num.specs.Wrap.{wrapped}
use Rattle.cu_shape.specs.Index.{IsInside}
use Rattle.cu_shape.proofs.Places.{inside-length}
use Rattle.cu_form.specs.Form.{group_kind, takes_args}
use Rattle.cu_form.specs.declared.args.Arg.{Arg}
use Rattle.cu_form.specs.declared.form.Form.{Form}
use Rattle.cu_node.specs.Axes.{axis_of}
use Rattle.cu_node.specs.Info.{IsInfo, info_at}
use Rattle.cu_node.specs.declared.info.NodeInfo.{NodeInfo}
use Rattle.cu_semantics.specs.Argument.{NodeElements, shape_of_node}
use Rattle.cu_semantics.specs.Index.{axis_in}
use Rattle.cu_semantics.specs.Rule.{rule_of}
use Rattle.cu_reduce.specs.Labels.{Labelled, group_fold, grouped_at, grouped_to, marked, picked, with_label}
use Rattle.cu_reduce.proofs.Given.{labelled_by, picked_given}
use Rattle.cu_typing.specs.Along.{typed_groups}
use Rattle.cu_expr.proofs.ToldArguments.{info_kept}
use Rattle.cu_expr.specs.declared.inputs.InputInfo.{InputInfo}
use Rattle.cu_need.specs.Along.{group_axis, labels_wanted}
use Rattle.cu_need.specs.Operands.{operands_of}
use Rattle.cu_need.proofs.AlongTypes as wanted
use Rattle.cu_lower_reduce.specs.Copies.{aligned_places, aligned_steps}
use Rattle.cu_lower_reduce.specs.Grouped.{grouped_steps, IsGrouped}
use Rattle.cu_lower_reduce.specs.Partials.{IsSetting}
use Rattle.cu_lower_reduce.specs.Steps.{all_made, last_made, HaveEach, HaveInfos, AreSteps}
use Rattle.cu_lower_reduce.specs.declared.copy.CopySetting.{CopySetting}
use Rattle.cu_lower_reduce.specs.declared.grouped.Grouped.{Grouped}
use Rattle.cu_lower_reduce.specs.declared.step.Step.{Step}
use Rattle.cu_lower.specs.Parts.{copying, grouped_of, grouped_over, setting, CanMakeCopies}
use Rattle.cu_lower.proofs.AlongTypes.{grouped_typed}
use Rattle.cu_lower.proofs.Applied.{Told}
use Rattle.cu_lower.proofs.Behind.{behind_hold, behind_last, own_known, own_solved, read_known, read_value}
use Rattle.cu_lower.proofs.Node.{sources_at, steps_at, Contents, IsAccepted, Laws, Site, Solves, StandsAt}
use Rattle.cu_lower.proofs.OperandSteps.{copies_few, operands_own, own_setting, HasRoom}
use Rattle.cu_lower.proofs.ReducedValues.{all_told, made_told, over_range}
use Rattle.cu_lower.proofs.ReductionTypes.{two_arrays}
use Rattle.cu_lower.proofs.StepLaws.{HaveLaws}

-- ---- its elements are those that its operator gives

-- the index of a place on the axis, where the array has another size there
set_inside : (ns idx : List ℕ) (axis size k : ℕ) → k < slice_index ns axis → IsInside (slice_set ns axis size) idx → IsInside ns (slice_set idx axis k)
set_inside [] idx axis size k below inside = absurd (omega (arith, below))
set_inside (n ∷ ns) [] zero size k below inside = absurd inside
set_inside (n ∷ ns) (i ∷ is) zero size k below inside = (below, inside.1)
set_inside (n ∷ ns) [] (suc axis) size k below inside = absurd inside
set_inside (n ∷ ns) (i ∷ is) (suc axis) size k below inside = (inside.0, set_inside ns is axis size k below inside.1)

-- an element with its label
labelled_told : (must : Bool) (o p : Option ℤ) (x y : ℤ) → Told must o x → Told must p y → Told must (with_label o p) (record { label = x; element = y })
labelled_told must o p x y (inl a) (inl b) =
    inl (ap (λ (v : Option ℤ). with_label v p) a ∙ ap (λ (v : Option ℤ). with_label (Some x) v) b)
labelled_told must o p x y (inl a) (inr none) =
    inr (none.0, ap (λ (v : Option ℤ). with_label v p) a ∙ ap (λ (v : Option ℤ). with_label (Some x) v) none.1)
labelled_told must o p x y (inr none) b = inr (none.0, ap (λ (v : Option ℤ). with_label v p) none.1)

grouped_told : (must : Bool) (infos : List NodeInfo) (elements meaning : NodeElements) (k l m : ℕ) (least : Bool) (number : ℤ) (groups : ℕ) (source labels : List ℕ → Option ℤ) (o : Option ℤ) (idx : List ℕ)
    → IsInfo (info_at infos l) → IsInfo (info_at infos m) → IsInfo (info_at infos k) → typed_groups (group_kind least) number groups (info_at infos l) (info_at infos m) ≡ Ok (info_at infos k) → IsInside (info_at infos k).dims idx
    → o ≡ grouped_to (group_kind least) (info_at infos k).dtype (slice_index idx (group_axis (info_at infos l) number))
    (marked (λ p. labels (p ∷ [])) (λ p. source (slice_set idx (group_axis (info_at infos l) number) p)) (range_with_len 0 (slice_index (info_at infos l).dims (group_axis (info_at infos l) number))))
    → ((i : List ℕ) → IsInside (shape_of_node infos l) i → Told must (source i) (meaning l i)) → ((i : List ℕ) → IsInside (shape_of_node infos m) i → Told must (labels i) (meaning m i))
    → Told must o (rule_of infos elements meaning k (Form.GroupBy least (Arg.Node l ∷ Arg.Node m ∷ []) number groups) idx)
grouped_told must infos elements meaning k l m least number groups source labels o idx hl hm hk typed inside value sources marks =
    let kind = group_kind least in
    let from = info_at infos l in
    let p = wanted.accepted kind number groups (info_at infos l) (info_at infos m) (info_at infos k) hl hm hk typed in
    let is = wanted.axis_is kind number groups (info_at infos l) (info_at infos m) (info_at infos k) hl hm hk typed in
    let sizes = wanted.label_sizes kind number groups (info_at infos l) (info_at infos m) (info_at infos k) hl hm hk typed in
    let axis = group_axis (info_at infos l) number in
    let acc = (info_at infos k).dtype in
    let dims : (info_at infos k).dims ≡ slice_set (info_at infos l).dims (group_axis (info_at infos l) number) groups = ap (λ (i : NodeInfo). i.dims) p.array ∙ ap (λ (a : ℕ). slice_set (info_at infos l).dims a groups) (sym is) in
    let into = subst (λ (ds : List ℕ). IsInside ds idx) dims inside in
    let rank : length idx ≡ length (info_at infos l).dims = inside-length (info_at infos k).dims idx inside ∙ ap length dims ∙ length-set (info_at infos l).dims (group_axis (info_at infos l) number) groups in
    let same : group_axis (info_at infos l) number ≡ axis_in (length idx) number = ap (λ (r : ℕ). unwrap_or (axis_of number r) 0) (sym rank) in
    let count = slice_index (info_at infos l).dims (group_axis (info_at infos l) number) in
    let label : ℕ → ℤ = λ j. meaning m (j ∷ []) in
    let element : ℕ → ℤ = λ j. meaning l (slice_set idx (group_axis (info_at infos l) number) j) in
    let each = over_range (λ j. Told must (with_label (labels (j ∷ [])) (source (slice_set idx axis j))) (labelled_by label element j)) 0 count
    (λ j low high.
    labelled_told must (labels (j ∷ [])) (source (slice_set idx axis j)) (meaning m (j ∷ [])) (meaning l (slice_set idx axis j))
    (marks (j ∷ []) (subst (λ (ds : List ℕ). IsInside ds (j ∷ [])) (sym (sizes ∙ ap (λ (a : ℕ). slice_index (info_at infos l).dims a ∷ []) (sym is))) (omega (arith, high), tt)))
    (sources (slice_set idx axis j) (set_inside (info_at infos l).dims idx axis groups j (omega (arith, high)) into))) in
    let all = made_told must (λ (ys : List Labelled). wrapped acc (group_fold kind acc (picked (slice_index idx axis) ys))) _ _
    (all_told must (λ j. with_label (labels (j ∷ [])) (source (slice_set idx axis j))) (labelled_by label element) (range_with_len 0 count) each) in
    let chosen : wrapped acc (group_fold kind acc (picked (slice_index idx axis) (map (labelled_by label element) (range_with_len 0 count))))
    ≡ wrapped acc (grouped_at kind acc label element (slice_index idx axis) (range_with_len 0 count)) =
    ap (λ (xs : List ℤ). wrapped acc (group_fold kind acc xs)) (picked_given label element (slice_index idx axis) (range_with_len 0 count)) in
    let rule : wrapped acc (grouped_at kind acc label element (slice_index idx axis) (range_with_len 0 count)) ≡ rule_of infos elements meaning k (Form.GroupBy least (Arg.Node l ∷ Arg.Node m ∷ []) number groups) idx =
    ap (λ (a : ℕ). wrapped acc (grouped_at kind acc label (λ j. meaning l (slice_set idx a j)) (slice_index idx a) (range_with_len 0 (slice_index (info_at infos l).dims a)))) same in
    subst (λ (v : Option ℤ). Told must v (rule_of infos elements meaning k (Form.GroupBy least (Arg.Node l ∷ Arg.Node m ∷ []) number groups) idx)) (sym value)
    (subst (λ (x : ℤ). Told must (grouped_to kind acc (slice_index idx axis) (marked (λ j. labels (j ∷ [])) (λ j. source (slice_set idx axis j)) (range_with_len 0 count))) x) (chosen ∙ rule) all)

-- ---- its laws

module _ (least : Bool) (l m : ℕ) (axis : ℤ) (groups : ℕ) where
  abbrev form : Form
  form = Form.GroupBy least (Arg.Node l ∷ Arg.Node m ∷ []) axis groups

  abbrev over : List NodeInfo → ℕ → List ℕ → Grouped
  over infos k ins = grouped_over (grouped_of infos k least (Arg.Node l ∷ Arg.Node m ∷ []) axis groups) ins

  groups_are : (inputs : List InputInfo) (infos : List NodeInfo) (k : ℕ)
      → IsAccepted inputs infos k form → (ins : List ℕ) → IsGrouped (over infos k ins)
  groups_are inputs infos k n ins =
      grouped_typed least axis groups (info_at infos l) (info_at infos m) (info_at infos k) (slice_index ins 0) (slice_index ins 1)
      (info_kept infos l n.kept) (info_kept infos m n.kept) (info_kept infos k n.kept) n.ranges n.typed

  module _ (laws : HaveLaws) (p : Site) (k : ℕ) where
    abbrev copies : CopySetting
    copies = copying p.options p.first

    abbrev asked : List Rechunk
    asked = operands_of p.infos k form

    abbrev reads : List ℕ
    reads = aligned_places copies (sources_at p form) asked

    abbrev next : ℕ
    next = p.first + length (all_made (aligned_steps copies (sources_at p form) asked))

    abbrev own : List ℕ → ℕ → List Step
    own read at = grouped_steps (setting p.options at) (over p.infos k read)

    abbrev both : (s : StandsAt p k form) → HaveEach p.arrays (sources_at p form) (info_at p.infos l ∷ info_at p.infos m ∷ [])
    both s = (s.known.0, (s.known.1.0, tt))

    next_setting : CanMakeCopies p.infos p.options k form p.first → HasRoom p.options p.first → IsSetting (setting p.options next)
    next_setting can room = own_setting p.options p.first next room (copies_few laws copies (sources_at p form) asked can.operands refl can.few)

    reads_known : StandsAt p k form → HaveEach p.arrays reads (info_at p.infos l ∷ rechunked (labels_wanted (info_at p.infos l) axis (info_at p.infos m)) ∷ [])
    reads_known s = read_known laws.operands copies (sources_at p form) asked own p.arrays (both s) s.made

    made_known : StandsAt p k form → HaveInfos p.arrays next (all_made (own reads next))
    made_known s = own_known laws.operands copies (sources_at p form) asked own p.arrays (both s) s.made

    groups_steps : StandsAt p k form → AreSteps p.arrays p.options.reserved (sources_at p form) p.first p.first (steps_at p k form)
    groups_steps s =
        behind_hold laws.operands copies (sources_at p form) asked own p.arrays (both s) s.made (s.fitting.1 p.first).operands
        (laws.groups.steps p.arrays (setting p.options next) (over p.infos k reads) (next_setting (s.fitting.1 p.first) s.room) (s.fitting.0 reads) (reads_known s).0 (reads_known s).1.0 (made_known s))

    -- the elements of the source are numbers of its type
    groups_told : (c : Contents) (inputs : List InputInfo) → IsAccepted inputs p.infos k form → (s : StandsAt p k form) → Solves p c k form
        → (idx : List ℕ) → IsInside (shape_of_node p.infos k) idx
        → Told c.must (c.at (last_made p.first (steps_at p k form)) idx) (rule_of p.infos c.elements c.meaning k form idx)
    groups_told c inputs n s solves idx inside =
        let solved = own_solved laws.operands copies (sources_at p form) asked own p.arrays (both s) s.made c.at solves.made in
        let same = read_value laws.operands copies (sources_at p form) asked own p.arrays (both s) s.made c.at solves.made in
        let value = laws.groups.value p.arrays c.at (setting p.options next) (over p.infos k reads) (next_setting (s.fitting.1 p.first) s.room) (s.fitting.0 reads)
        (reads_known s).0 (reads_known s).1.0 (made_known s) solved (λ i y lies some. solves.arguments.0.ranged i y lies (sym (same 0 (omega arith) i) ∙ some)) idx inside in
        let told = grouped_told c.must p.infos c.elements c.meaning k l m least axis groups (c.at (slice_index reads 0)) (c.at (slice_index reads 1))
        (c.at (last_made next (own reads next)) idx) idx
        (info_kept p.infos l n.kept) (info_kept p.infos m n.kept) (info_kept p.infos k n.kept) n.typed inside value
        (λ i lies. subst (λ (o : Option ℤ). Told c.must o (c.meaning l i)) (sym (same 0 (omega arith) i)) (solves.arguments.0.carries i lies))
        (λ i lies. subst (λ (o : Option ℤ). Told c.must o (c.meaning m i)) (sym (same 1 (omega arith) i)) (solves.arguments.1.0.carries i lies)) in
        subst (λ (a : ℕ). Told c.must (c.at a idx) (rule_of p.infos c.elements c.meaning k form idx))
        (sym (behind_last laws.operands copies (sources_at p form) asked own (omega arith))) told

  of_two : Laws form
  of_two = record {
    typed = λ inputs infos k typed. typed;
    fitting = λ e inputs infos options k n copies made. (
      groups_are inputs infos k n,
      (λ first. record { rechunks = copies.operands; operands = record { staged = copies.staged first }; few = omega arith }),
    );
    copies = λ infos options k fits. fits.1;
    own = λ laws p inputs k n made fits room.
        operands_own laws p.infos p.options p.e.out k form (sources_at p form) p.first (own laws p k) (fits.1 p.first) refl refl
        (laws.groups.sizes (setting p.options (next laws p k)) (over p.infos k (reads laws p k)) (next_setting laws p k (fits.1 p.first) room) (fits.0 (reads laws p k)));
    steps = λ laws p inputs k n s. groups_steps laws p k s;
    told = λ laws p c inputs k n s solves. groups_told laws p k c inputs n s solves;
  }

pub groups_laws : (least : Bool) (args : List Arg) (axis : ℤ) (groups : ℕ)
    → takes_args (Form.GroupBy least args axis groups) ≡ true → Laws (Form.GroupBy least args axis groups)
groups_laws least args axis groups takes =
    let (l, (m, two)) = two_arrays args takes in
    subst (λ (xs : List Arg). Laws (Form.GroupBy least xs axis groups)) (sym two) (of_two least l m axis groups)
