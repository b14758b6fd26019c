-- What is proved of a reduction.
use Rattle.std.proofs.Common.{◌≡◌, ℕ, Bool, true, ℤ, List, [], ◌∷◌, Option, Ok, map, refl, ap, sym, ◌∙◌, subst}
use Rattle.std.specs.Prelude.{option_map, slice_index}
use Rattle.cu_num.specs.Wrap.{wrapped}
use Rattle.cu_num.specs.declared.folds.FoldKind.{FoldKind}
use Rattle.cu_shape.specs.Index.{IsInside, sums, indices_of}
use Rattle.cu_form.specs.Form.{takes_args}
use Rattle.cu_form.specs.declared.args.Arg.{Arg}
use Rattle.cu_form.specs.declared.form.Form.{Form}
use Rattle.cu_node.specs.Info.{IsInfo, info_at}
use Rattle.cu_node.specs.declared.info.NodeInfo.{NodeInfo}
use Rattle.cu_semantics.specs.Argument.{NodeElements, shape_of_node}
use Rattle.cu_semantics.specs.Rule.{rule_of}
use Rattle.cu_origin.specs.Pull.{has_axis}
use Rattle.cu_reduce.specs.Folds.{fold_of, all_some, reduced_to}
use Rattle.cu_typing.specs.Reduction.{fold_rule, kept_sizes, typed_reduction}
use Rattle.cu_typing.proofs.PassedTogether.{reduction_passed}
use Rattle.cu_expr.proofs.ToldArguments.{info_kept}
use Rattle.cu_expr.specs.declared.inputs.InputInfo.{InputInfo}
use Rattle.cu_need.specs.Reduction.{axes_reduced}
use Rattle.cu_lower_reduce.specs.Reductions.{reduced_indices, IsReduction}
use Rattle.cu_lower_reduce.specs.Steps.{last_made}
use Rattle.cu_lower_reduce.specs.declared.reduction.Reduction.{Reduction}
use Rattle.cu_lower.specs.Parts.{reduction_of, setting}
use Rattle.cu_lower.proofs.Applied.{Told}
use Rattle.cu_lower.proofs.Node.{no_copies, setting_at, sources_at, steps_at, IsAccepted, Laws, Site}
use Rattle.cu_lower.proofs.OperandSteps.{computed_own}
use Rattle.cu_lower.proofs.ReducedIndices.{start_along, box_along, group_is}
use Rattle.cu_lower.proofs.ReducedValues.{all_told, made_told, map_twice, each_so, all_inside, start_inside, elements_are}
use Rattle.cu_lower.proofs.ReductionTypes.{one_array, reduced_marked, reduction_typed}

-- its elements are what its operator makes of its argument's
reduction_told : (must : Bool) (infos : List NodeInfo) (elements meaning : NodeElements) (k n : ℕ) (kind : FoldKind) (axes : Option (List ℤ)) (keepdims : Bool) (source : List ℕ → Option ℤ) (o : Option ℤ) (idx : List ℕ)
    → IsInfo (info_at infos n) → typed_reduction kind axes keepdims (info_at infos n) ≡ Ok (info_at infos k) → IsInside (info_at infos k).dims idx
    → o ≡ reduced_to kind (info_at infos k).dtype (map source (reduced_indices (axes_reduced (info_at infos n) axes) (info_at infos n).dims (info_at infos k).dims idx))
    → ((i : List ℕ) → IsInside (shape_of_node infos n) i → Told must (source i) (meaning n i))
    → Told must o (rule_of infos elements meaning k (Form.Reduce kind (Arg.Node n ∷ []) axes keepdims) idx)
reduction_told must infos elements meaning k n kind axes keepdims source o idx kept typed inside value told =
    let from = info_at infos n in
    let made = info_at infos k in
    let shape = from.dims in
    let (ms, p) = reduction_passed (fold_rule kind (info_at infos n).dtype) axes keepdims (info_at infos n) (info_at infos k) typed in
    let dims : (info_at infos k).dims ≡ kept_sizes keepdims (info_at infos n).dims ms = ap (λ (m : NodeInfo). m.dims) p.array in
    let into : IsInside (kept_sizes keepdims (info_at infos n).dims ms) idx = subst (λ (ds : List ℕ). IsInside ds idx) dims inside in
    let indices = ap (λ ds. reduced_indices (axes_reduced (info_at infos n) axes) (info_at infos n).dims ds idx) dims
    ∙ group_is (has_axis (axes_reduced (info_at infos n) axes)) keepdims ms (info_at infos n).dims idx (reduced_marked from axes ms p.named) into in
    let start = start_along keepdims ms (info_at infos n).dims idx in
    let box = box_along ms (info_at infos n).dims in
    let is : o ≡ option_map (λ ys. wrapped (info_at infos k).dtype (fold_of kind ys)) (all_some (map (λ step. source (sums (start_along keepdims ms (info_at infos n).dims idx) step)) (indices_of (box_along ms (info_at infos n).dims)))) =
    value ∙ ap (λ xs. reduced_to kind (info_at infos k).dtype (map source xs)) indices
    ∙ ap (λ xs. reduced_to kind (info_at infos k).dtype xs) (map_twice source (sums start) (indices_of box)) in
    let each = each_so (IsInside box) (λ step. Told must (source (sums start step)) (meaning n (sums start step))) (indices_of box)
    (λ step within. told (sums start step) (start_inside keepdims ms shape idx step into within)) (all_inside box) in
    let all = made_told must (λ ys. wrapped (info_at infos k).dtype (fold_of kind ys)) _ _ (all_told must (λ step. source (sums start step)) (λ step. meaning n (sums start step)) (indices_of box) each) in
    let own = ap (λ ys. wrapped (info_at infos k).dtype (fold_of kind ys)) (elements_are (meaning n) axes keepdims (info_at infos n).dims ms idx kept.short p.named) in
    subst (λ (x : ℤ). Told must o x) (sym own)
    (subst (λ (v : Option ℤ). Told must v (wrapped (info_at infos k).dtype (fold_of kind (map (λ step. meaning n (sums (start_along keepdims ms (info_at infos n).dims idx) step)) (indices_of (box_along ms (info_at infos n).dims)))))) (sym is) all)

module _ (m : ℕ) (kind : FoldKind) (axes : Option (List ℤ)) (keepdims : Bool) where
  abbrev form : Form
  form = Form.Reduce kind (Arg.Node m ∷ []) axes keepdims

  reduces : (inputs : List InputInfo) (infos : List NodeInfo) (k : ℕ)
      → IsAccepted inputs infos k form → (ins : List ℕ) → IsReduction (reduction_of infos k kind (Arg.Node m ∷ []) axes ins)
  reduces inputs infos k n ins =
      reduction_typed kind axes keepdims (info_at infos m) (info_at infos k)
      (slice_index ins 0) (info_kept infos m n.kept) (info_kept infos k n.kept) n.typed

  -- what its steps go by
  abbrev reduction : Site → ℕ → Reduction
  reduction p k = reduction_of p.infos k kind (Arg.Node m ∷ []) axes (sources_at p form)

  of_one : Laws form
  of_one = record {
    typed = λ inputs infos k typed. typed;
    fitting = λ e inputs infos options k n copies made. reduces inputs infos k n;
    copies = λ infos options k fits. no_copies infos options k form refl;
    own = λ laws p inputs k n made fits room.
        computed_own p.infos p.options p.e.out k form (steps_at p k form) refl
        (laws.reductions.sizes (setting p.options p.first) (reduction p k) (setting_at p room) (fits (sources_at p form)));
    steps = λ laws p inputs k n s.
        laws.reductions.steps p.arrays (setting p.options p.first) (reduction p k) (setting_at p s.room) (s.fitting (sources_at p form)) s.known.0 s.made;
    told = λ laws p c inputs k n s solves idx inside.
        let value = laws.reductions.value p.arrays c.at (setting p.options p.first) (reduction p k) (setting_at p s.room) (s.fitting (sources_at p form))
        s.known.0 s.made solves.made solves.arguments.0.ranged idx inside in
        reduction_told c.must p.infos c.elements c.meaning k m kind axes keepdims
        (c.at (slice_index p.places m)) (c.at (last_made p.first (steps_at p k form)) idx) idx
        (info_kept p.infos m n.kept) n.typed inside value solves.arguments.0.carries;
  }

pub reduction_laws : (kind : FoldKind) (args : List Arg) (axes : Option (List ℤ)) (keepdims : Bool)
    → takes_args (Form.Reduce kind args axes keepdims) ≡ true → Laws (Form.Reduce kind args axes keepdims)
reduction_laws kind args axes keepdims takes =
    let (m, one) = one_array args takes in
    subst (λ (xs : List Arg). Laws (Form.Reduce kind xs axes keepdims)) (sym one) (of_one m kind axes keepdims)
