-- What is proved of a search for places.
use Rattle.std.proofs.Common.{◌≡◌, ℕ, ◌+◌, Bool, true, ℤ, pos, List, [], ◌∷◌, Option, Some, Ok, length, map, refl, ap, sym, ◌∙◌, subst, inl, inr, arith}
use Rattle.std.specs.Prelude.{option_map, option_and_then, slice_index}
use Rattle.cu_shape.specs.Index.{product, IsInside, sums, indices_of}
use Rattle.cu_form.specs.Form.{takes_args}
use Rattle.cu_form.specs.declared.args.Arg.{Arg}
use Rattle.cu_form.specs.declared.form.Form.{Form}
use Rattle.cu_node.specs.Info.{IsInfo, info_at}
use Rattle.cu_node.specs.declared.info.NodeInfo.{NodeInfo}
use Rattle.cu_semantics.specs.Argument.{NodeElements, shape_of_node}
use Rattle.cu_semantics.specs.Rule.{place_axes, rule_of}
use Rattle.cu_op.specs.Places.{counted_at, pair_part}
use Rattle.cu_origin.specs.Pull.{has_axis}
use Rattle.cu_reduce.specs.Folds.{all_some}
use Rattle.cu_reduce.specs.Places.{Found, is_sought, counted_place, found_at, best_of, best_in, best_place}
use Rattle.cu_tree.proofs.Bits.{sought}
use Rattle.cu_typing.specs.Reduction.{place_rule, kept_sizes, reduced_sizes, typed_arg_place}
use Rattle.cu_typing.proofs.PassedTogether.{reduction_passed}
use Rattle.cu_need.specs.Reduction.{axes_sought, sought_axis}
use Rattle.cu_expr.proofs.ToldArguments.{info_kept}
use Rattle.cu_expr.specs.declared.inputs.InputInfo.{InputInfo}
use Rattle.cu_lower_reduce.specs.Reductions.{reduced_indices}
use Rattle.cu_lower_reduce.specs.Searches.{IsSearch}
use Rattle.cu_lower_reduce.specs.Steps.{last_made}
use Rattle.cu_lower_reduce.specs.declared.search.Search.{Search}
use Rattle.cu_lower.specs.Parts.{search_of, setting}
use Rattle.cu_lower.proofs.Applied.{Told}
use Rattle.cu_lower.proofs.Marked.{AreMarked, have_elements}
use Rattle.cu_lower.proofs.Node.{no_copies, setting_at, sources_at, steps_at, IsAccepted, Laws, Site}
use Rattle.cu_lower.proofs.OperandSteps.{computed_own}
use Rattle.cu_lower.proofs.PlaceLinks.{places_found}
use Rattle.cu_lower.proofs.ReducedIndices.{start_along, box_along, group_is}
use Rattle.cu_lower.proofs.ReducedValues.{all_told, map_twice, each_so, all_inside, start_inside, elements_are}
use Rattle.cu_lower.proofs.ReductionTypes.{one_array, search_typed, sought_are, along_axis, not_empty}

-- ---- the places that it finds are those that its operator names

-- an element with its place
found_told : (must : Bool) (o : Option ℤ) (v p : ℤ) → Told must o v → Told must (found_at o (Some p)) (record { value = v; place = p })
found_told must o v p (inl some) = inl (ap (λ (x : Option ℤ). found_at x (Some p)) some)
found_told must o v p (inr none) = inr (none.0, ap (λ (x : Option ℤ). found_at x (Some p)) none.1)

-- elements that are all there
somes : {A T : Type 0} (g : A → T) (xs : List A) → all_some (map (λ x. Some (g x)) xs) ≡ Some (map g xs)
somes g [] = refl
somes g (x ∷ xs) = ap (option_map (λ ys. g x ∷ ys)) (somes g xs)

-- the place of the best of them, where these are told and the best is known
best_told : (must : Bool) (least : Bool) (o : Option (List Found)) (xs : List Found) (b : Found) → Told must o xs → best_of least xs ≡ Some b → Told must (pair_part true (option_and_then (best_of least) o)) b.place
best_told must least o xs b (inl some) best = inl (ap (λ (x : Option (List Found)). pair_part true (option_and_then (best_of least) x)) some ∙ ap (pair_part true) best)
best_told must least o xs b (inr none) best = inr (none.0, ap (λ (x : Option (List Found)). pair_part true (option_and_then (best_of least) x)) none.1)

search_told : (must : Bool) (infos : List NodeInfo) (elements meaning : NodeElements) (k n : ℕ) (least : Bool) (axis : Option ℤ) (keepdims : Bool) (source : List ℕ → Option ℤ) (o : Option ℤ) (idx : List ℕ)
    → IsInfo (info_at infos n) → typed_arg_place axis keepdims (info_at infos n) ≡ Ok (info_at infos k) → IsInside (info_at infos k).dims idx
    → o ≡ pair_part true (best_in least (map (counted_at (info_at infos n).dims (sought_axis (length (info_at infos n).dims) axis) source)
    (reduced_indices (axes_sought (info_at infos n) axis) (info_at infos n).dims (info_at infos k).dims idx)))
    → ((i : List ℕ) → IsInside (shape_of_node infos n) i → Told must (source i) (meaning n i))
    → Told must o (rule_of infos elements meaning k (Form.ArgPlace least (Arg.Node n ∷ []) axis keepdims) idx)
search_told must infos elements meaning k n least axis keepdims source o idx kept typed inside value told =
    let from = info_at infos n in
    let shape = (info_at infos n).dims in
    let (ms, p) = reduction_passed (place_rule (info_at infos n).dtype) (option_map (λ d. d ∷ []) axis) keepdims (info_at infos n) (info_at infos k) typed in
    let dims : (info_at infos k).dims ≡ kept_sizes keepdims (info_at infos n).dims ms = ap (λ (m : NodeInfo). m.dims) p.array in
    let into : IsInside (kept_sizes keepdims (info_at infos n).dims ms) idx = subst (λ (ds : List ℕ). IsInside ds idx) dims inside in
    let are = sought_are (info_at infos n) axis ms kept.short p.named in
    let along = sought_axis (length (info_at infos n).dims) axis in
    let few = kept.short in
    let marked : AreMarked (is_sought (sought_axis (length (info_at infos n).dims) axis)) 0 ms (info_at infos n).dims =
    λ i l. sym (sought (sought_axis (length (info_at infos n).dims) axis) (0 + i) (omega (arith, few, l))) ∙ are i l in
    let some = have_elements (is_sought along) 0 ms shape marked (not_empty (product (reduced_sizes shape ms)) p.elements) in
    let start = start_along keepdims ms (info_at infos n).dims idx in
    let box = box_along ms (info_at infos n).dims in
    let counted = counted_at (info_at infos n).dims (sought_axis (length (info_at infos n).dims) axis) source in
    let G : List ℕ → Found = λ step. record { value = meaning n (sums start step); place = pos (counted_place along shape (sums start step)) } in
    let indices = ap (λ ds. reduced_indices (axes_sought (info_at infos n) axis) (info_at infos n).dims ds idx) dims ∙ group_is (has_axis (axes_sought (info_at infos n) axis)) keepdims ms (info_at infos n).dims idx are into in
    let is : o ≡ pair_part true (best_in least (map (λ step. counted (sums start step)) (indices_of box))) =
    value ∙ ap (λ xs. pair_part true (best_in least (map counted xs))) indices ∙ ap (λ xs. pair_part true (best_in least xs)) (map_twice counted (sums start) (indices_of box)) in
    let each = each_so (IsInside box) (λ step. Told must (counted (sums start step)) (G step)) (indices_of box)
    (λ step within. found_told must (source (sums start step)) (meaning n (sums start step)) (pos (counted_place along shape (sums start step))) (told (sums start step) (start_inside keepdims ms shape idx step into within)))
    (all_inside box) in
    let found = places_found least along (meaning n) keepdims ms shape idx marked (along_axis (info_at infos n) axis) some in
    let b = found.0 in
    let best : best_of least (map G (indices_of box)) ≡ Some b =
    sym (ap (option_and_then (best_of least)) (ap all_some (map_twice (λ i. found_at (Some (meaning n i)) (Some (pos (counted_place along shape i)))) (sums start) (indices_of box)) ∙ somes G (indices_of box))) ∙ found.1 in
    let all = best_told must least _ (map G (indices_of box)) b (all_told must (λ step. counted (sums start step)) G (indices_of box) each) best in
    let own : rule_of infos elements meaning k (Form.ArgPlace least (Arg.Node n ∷ []) axis keepdims) idx ≡ b.place =
    ap (λ xs. pos (best_place least xs)) (elements_are (meaning n) (place_axes axis) keepdims shape ms idx kept.short p.named ∙ sym (map_twice (meaning n) (sums start) (indices_of box))) ∙ sym found.2 in
    subst (λ (x : ℤ). Told must o x) (sym own) (subst (λ (v : Option ℤ). Told must v b.place) (sym is) all)

-- ---- its laws

module _ (m : ℕ) (least : Bool) (axis : Option ℤ) (keepdims : Bool) where
  abbrev form : Form
  form = Form.ArgPlace least (Arg.Node m ∷ []) axis keepdims

  searches : (inputs : List InputInfo) (infos : List NodeInfo) (k : ℕ)
      → IsAccepted inputs infos k form → (ins : List ℕ) → IsSearch (search_of infos k least (Arg.Node m ∷ []) axis ins)
  searches inputs infos k n ins =
      search_typed least axis keepdims (info_at infos m) (info_at infos k)
      (slice_index ins 0) (info_kept infos m n.kept) (info_kept infos k n.kept) n.typed

  -- what its steps go by
  abbrev sought_there : Site → ℕ → Search
  sought_there p k = search_of p.infos k least (Arg.Node m ∷ []) axis (sources_at p form)

  of_one : Laws form
  of_one = record {
    typed = λ inputs infos k typed. typed;
    fitting = λ e inputs infos options k n copies made. searches inputs infos k n;
    copies = λ infos options k fits. no_copies infos options k form refl;
    own = λ laws p inputs k n made fits room.
        computed_own p.infos p.options p.e.out k form (steps_at p k form) refl
        (laws.searches.sizes (setting p.options p.first) (sought_there p k) (setting_at p room) (fits (sources_at p form)));
    steps = λ laws p inputs k n s.
        laws.searches.steps p.arrays (setting p.options p.first) (sought_there p k) (setting_at p s.room) (s.fitting (sources_at p form)) s.known.0 s.made;
    told = λ laws p c inputs k n s solves idx inside.
        let value = laws.searches.value p.arrays c.at (setting p.options p.first) (sought_there p k) (setting_at p s.room) (s.fitting (sources_at p form))
        s.known.0 s.made solves.made idx inside in
        search_told c.must p.infos c.elements c.meaning k m least axis keepdims
        (c.at (slice_index p.places m)) (c.at (last_made p.first (steps_at p k form)) idx) idx
        (info_kept p.infos m n.kept) n.typed inside value solves.arguments.0.carries;
  }

pub search_laws : (least : Bool) (args : List Arg) (axis : Option ℤ) (keepdims : Bool)
    → takes_args (Form.ArgPlace least args axis keepdims) ≡ true → Laws (Form.ArgPlace least args axis keepdims)
search_laws least args axis keepdims takes =
    let (m, one) = one_array args takes in
    subst (λ (xs : List Arg). Laws (Form.ArgPlace least xs axis keepdims)) (sym one) (of_one m least axis keepdims)
