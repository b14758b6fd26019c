-- The plan of an expression is sound.
use Rattle.std.proofs.Common.{◌≡◌, ◌≢◌, ℕ, zero, suc, ◌<◌, ◌≤◌, ◌+◌, ◌-◌, ◌*◌, ◌^◌, ◌==◌, ◌&&◌, pos, Bool, true, false, List, [], ◌∷◌, All, Contains, Some, None, length, sum_by, get_or, refl, ap, sym, ◌∙◌, subst, inl, inr, ◌⊎◌, arith}
use Rattle.std.specs.Prelude.{bytes_eq}
use Rattle.std.proofs.lemmas.Bool.{cases_Bool, eqb-true, and_parts}
use Rattle.std.proofs.lemmas.Int.{ints}
use Rattle.std.proofs.lemmas.List.{get_or_default}
use Rattle.std.proofs.lemmas.List.Elements.{All-head, All-tail}
use Rattle.cu_num.specs.Dtype.{InRange}
use Rattle.cu_num.specs.declared.layout.Encoding.TheVariants.{Plain}
use Rattle.cu_num.specs.declared.layout.Sep.TheVariants.{Slash}
use Rattle.cu_num.specs.declared.types.Dtype.{Dtype}
use Rattle.cu_num.specs.declared.types.Dtype.TheVariants as types
use Rattle.cu_name.specs.Keys.{made_prefix_of}
use Rattle.cu_name.proofs.Prefixes.{length-made_prefix_of}
use Rattle.cu_shape.specs.Index.{product}
use Rattle.cu_grid.specs.Grid.{RegularGrid, IsGrid}
use Rattle.cu_op.specs.Arrays.{array_at, is_inlined, maker_at, no_array, grid_counts, array_chunk_count, AllStored}
use Rattle.cu_op.specs.Layout.{IsArray, IsLayout}
use Rattle.cu_op.specs.Names.{HasOwnNames}
use Rattle.cu_op.specs.Operation.{writes_of}
use Rattle.cu_op.specs.PlanView.{operation_at}
use Rattle.cu_op.specs.Projection.{projection}
use Rattle.cu_op.specs.Sound.{Sound}
use Rattle.cu_op.specs.declared.layout.ArrayInfo.{ArrayInfo}
use Rattle.cu_op.specs.declared.layout.Layout.{Layout}
use Rattle.cu_op.specs.declared.operation.Planned.{Planned}
use Rattle.cu_op.specs.Cells.{tasks_of}
use Rattle.cu_op.proofs.AllStored.{all_projection, all_tasks, stored_at}
use Rattle.cu_op.proofs.KeyTexts.{keys_differ}
use Rattle.cu_form.specs.Expression.{Expression}
use Rattle.cu_node.specs.Info.{info_at}
use Rattle.cu_node.specs.declared.info.NodeInfo.{NodeInfo}
use Rattle.cu_expr.specs.declared.inputs.InputInfo.{InputInfo}
use Rattle.cu_copy.specs.Copies.{max_mem}
use Rattle.cu_need.specs.Counts.{plan_counts}
use Rattle.cu_need.specs.Live.{is_live, IsClosed}
use Rattle.cu_lower_reduce.specs.Steps.{made_infos, grid_of}
use Rattle.cu_lower.specs.Inputs.{input_array, input_names}
use Rattle.cu_lower.specs.Plan.{array_of_node, as_plan}
use Rattle.cu_lower.specs.Parts.{Grown, made_layout}
use Rattle.cu_lower.specs.Premises.{IsLowerable}
use Rattle.cu_lower.specs.declared.options.Options.{Options}
use Rattle.cu_lower.proofs.Counted.{kept_limits}
use Rattle.cu_lower.proofs.Counted as counted
use Rattle.cu_lower.proofs.Grids.{info_grid, info_chunks}
use Rattle.cu_lower.proofs.Growing.{HasGrid, step_long}
use Rattle.cu_lower.proofs.NoNode.{no_node}
use Rattle.cu_lower.proofs.Names.{IsUsed, input_used, inputs_few, used_is_name, array_name, prefix_told, prefix_other}
use Rattle.cu_lower.proofs.NodeSteps.{all_steps}
use Rattle.cu_lower.proofs.Operations as operations
use Rattle.cu_lower.proofs.Placed as placed
use Rattle.cu_lower.proofs.Standing as standing
use Rattle.cu_lower.proofs.StepLaws.{HaveLaws}
use Rattle.cu_lower.proofs.Stepped.{step_operation, step_within, in_range}
use Rattle.cu_lower.proofs.Typed as typed
use Rattle.std.proofs.lemmas.Option.{slice_get-get_or}
use Rattle.cu_expr.specs.Inputs.{layout_named}

-- ---- single arrays

zero_fits : (t : Dtype) → InRange t (pos 0)
zero_fits types.Bool = (omega (arith, ints), omega (arith, ints))
zero_fits types.Int8 = (omega (arith, ints), omega (arith, ints))
zero_fits types.Int16 = (omega (arith, ints), omega (arith, ints))
zero_fits types.Int32 = (omega (arith, ints), omega (arith, ints))
zero_fits types.Int64 = (omega (arith, ints), omega (arith, ints))
zero_fits types.Uint8 = (omega (arith, ints), omega (arith, ints))
zero_fits types.Uint16 = (omega (arith, ints), omega (arith, ints))
zero_fits types.Uint32 = (omega (arith, ints), omega (arith, ints))
zero_fits types.Uint64 = (omega (arith, ints), omega (arith, ints))

fill_fits : (inputs : List InputInfo) (name : List ℕ) → All (λ i. IsLayout i.layout) inputs → IsLayout (layout_named inputs name)
fill_fits [] name h = zero_fits types.Bool
fill_fits (i ∷ is) name h =
    elim (cases_Bool (bytes_eq name i.name)) [
      | inl same ↦ rw same (All-head (λ (x : InputInfo). IsLayout x.layout) i is h)
      | inr other ↦ rw other (fill_fits is name (All-tail (λ (x : InputInfo). IsLayout x.layout) i is h))
    ]

-- an array of a made layout whose prefix is short
made_fits : (a : ArrayInfo) (i : NodeInfo) → a.layout ≡ made_layout i → HasGrid i → length a.prefix ≤ 45 → IsArray a
made_fits a i layout kept short = record {
  short = short;
  grid = subst IsGrid (sym (ap (λ (l : Layout). l.grid) layout)) kept;
  fill = subst (λ (l : Layout). InRange l.dtype l.fill) (sym layout) (zero_fits i.dtype);
}

module _ (e : Expression) (infos : List NodeInfo) (inputs : List InputInfo) (options : Options) (ok : IsLowerable e infos inputs options) (laws : HaveLaws) (closed : IsClosed e (is_live e)) where
  abbrev grown : Grown
  grown = placed.grown e infos inputs options ok laws

  abbrev given : ℕ
  given = length (input_names e)

  abbrev pub StoodArray : ℕ → Type 0
  StoodArray a = operations.Stood e infos inputs options ok laws closed (standing.arrays_of e infos inputs options ok.form (all_steps e infos inputs options ok laws)) a

  pub by_array : (a : ℕ) → a < length grown.arrays → (a < given) ⊎ StoodArray a
  by_array = standing.by_array e infos inputs options ok.form (all_steps e infos inputs options ok laws)

  -- ---- counts of arrays and operations

  pub given_few : given ≤ 256
  given_few = let a = inputs_few e in let b = ok.form.few in omega (arith, a, b)

  pub ops_few : length grown.ops ≤ 10240
  ops_few =
      let k = standing.known e infos inputs options ok.form (all_steps e infos inputs options ok laws) in
      let few = k.few in
      let all = standing.all_placed e infos inputs options ok.form (all_steps e infos inputs options ok laws) in
      let nodes = ok.form.few in
      omega (arith, few, all, nodes)

  pub arrays_few : length grown.arrays ≤ 256 + 2 * 10240
  arrays_few =
      let k = (standing.known e infos inputs options ok.form (all_steps e infos inputs options ok laws)).growing.few in
      let ops = ops_few in
      let inputs_few = given_few in
      omega (arith, k, ops, inputs_few)

  -- ---- an input

  pub used : (a : ℕ) → a < given → IsUsed e (get_or (input_names e) a [])
  used a below = input_used e a [] below

  pub input_at : (a : ℕ) → a < given → array_at grown.arrays a ≡ input_array inputs (get_or (input_names e) a [])
  input_at = standing.input_at e infos inputs options ok.form (all_steps e infos inputs options ok laws)

  -- no operation makes it
  pub input_maker : (a : ℕ) → a < given → maker_at grown.arrays a ≡ None
  input_maker a below = ap (λ (x : ArrayInfo). x.maker) (input_at a below)

  input_ok : (a : ℕ) → a < given → IsArray (array_at grown.arrays a) × (array_chunk_count (array_at grown.arrays a) ≤ 65536)
  input_ok a below =
      let name = get_or (input_names e) a [] in
      let (k, u) = used a below in
      let known = typed.input_info e infos inputs options ok k u.node name u.at u.form in
      let info = typed.known_kept e infos inputs options ok k in
      let grid : grid_of (info_at infos k) ≡ (layout_named inputs name).grid = ap grid_of known in
      let short = (array_name name (used_is_name e name ok.form (k, u))).short in
      let fine : IsArray (input_array inputs name) = record {
        short = omega (arith, short);
        grid = subst IsGrid grid (info_grid (info_at infos k) info);
        fill = fill_fits inputs name ok.fills;
      } in (
        subst IsArray (sym (input_at a below)) fine,
        subst (λ (x : ArrayInfo). array_chunk_count x ≤ 65536) (sym (input_at a below)) (subst (λ (g : RegularGrid). product (grid_counts g) ≤ 65536) grid (info_chunks (info_at infos k) info)),
      )

  -- ---- an array that an operation makes

  pub record IsMadeArray (a : ℕ) : Type 0 where
    pub past : given ≤ a
    pub info : NodeInfo
    pub kept : HasGrid info
    pub layout : (array_at grown.arrays a).layout ≡ made_layout info
    pub maker : ℕ
    pub made : maker_at grown.arrays a ≡ Some maker
    pub stored : is_inlined grown.arrays a ≡ false
    pub named : ((a ≡ array_of_node grown e.out) × ((array_at grown.arrays a).prefix ≡ e.store_as)) ⊎ ((array_at grown.arrays a).prefix ≡ made_prefix_of e.store_as (a - given))

  pub made_array : (a : ℕ) → StoodArray a → IsMadeArray a
  made_array a w =
      let long = step_long e w.step.last w.step.before w.step.step in
      let low = w.step.least in
      let high = w.step.below in
      let first = w.step.growing.inputs in
      let pair = operations.step_made e infos inputs options ok laws closed (standing.arrays_of e infos inputs options ok.form (all_steps e infos inputs options ok laws)) a w a low (omega (arith, long, high)) in
      record {
        past = omega (arith, low, first);
        info = pair.info;
        kept = pair.kept (w.step.grids w.node.make.grids);
        layout = pair.layout;
        maker = length w.step.before.ops;
        made = pair.made;
        stored = pair.stays;
        named = elim pair.named [
          | inl own ↦ inl (own_place a w own.0 own.1, own.2)
          | inr number ↦ inr (number ∙ ap (made_prefix_of e.store_as) (let z : length w.step.before.arrays - given + (a - length w.step.before.arrays) ≡ a - given = omega (arith, low, first) in z))
        ];
      }
    where
      own_place : (a : ℕ) (w : StoodArray a) → (w.step.last && (length w.step.before.places == e.out)) ≡ true → suc (a - length w.step.before.arrays) ≡ length (made_infos w.step.step) → a ≡ array_of_node grown e.out
      own_place a w stored last =
          let both = and_parts w.step.last (length w.step.before.places == e.out) stored in
          let out = eqb-true (length w.step.before.places) e.out both.1 in
          let number = operations.step_number e infos inputs options ok laws closed (standing.arrays_of e infos inputs options ok.form (all_steps e infos inputs options ok laws)) a w in
          let k : w.k ≡ e.out = sym number ∙ out in
          let long = step_long e w.step.last w.step.before w.step.step in
          let low = w.step.least in
          let ends = ap (λ (g : Grown). length g.arrays) (w.step.ends both.0) in
          let place = w.node.place in
          let here : a ≡ array_of_node grown w.k = omega (arith, long, low, ends, place, last) in
          here ∙ ap (array_of_node grown) k

  made_short : (a : ℕ) → a < length grown.arrays → IsMadeArray a → length (array_at grown.arrays a).prefix ≤ 45
  made_short a below m =
      let few = arrays_few in
      let name = (array_name e.store_as ok.form.store_as).short in
      elim m.named [
        | inl own ↦ let l = ap length own.1 in omega (arith, l, name)
        | inr number ↦ let l = ap length number in let most = length-made_prefix_of e.store_as (a - given) name (omega (arith, below, few)) in omega (arith, l, most)
      ]

  pub arrays_ok : All IsArray grown.arrays
  arrays_ok a d below =
      subst IsArray (get_or_same grown.arrays a d below)
      (elim (by_array a below) [
        | inl l ↦ (input_ok a l).0
        | inr w ↦ let m = made_array a w in made_fits (array_at grown.arrays a) m.info m.layout m.kept (made_short a below m)
      ])
    where
      get_or_same : (xs : List ArrayInfo) (k : ℕ) (d : ArrayInfo) → k < length xs → array_at xs k ≡ get_or xs k d
      get_or_same [] k d h = absurd (omega arith)
      get_or_same (x ∷ xs) zero d h = refl
      get_or_same (x ∷ xs) (suc k) d h = get_or_same xs k d (omega arith)

  -- each is stored
  stored_here : (a : ℕ) → a < length grown.arrays → is_inlined grown.arrays a ≡ false
  stored_here a below =
      elim (by_array a below) [
        | inl l ↦ ap (λ (x : ArrayInfo). x.inlined) (input_at a l)
        | inr w ↦ (made_array a w).stored
      ]

  pub all_stored : AllStored grown.arrays
  all_stored a d below = subst (λ (x : ArrayInfo). x.inlined ≡ false) (get_or_default grown.arrays a no_array d below) (stored_here a below)

  -- an array with a maker is made
  pub with_maker : (a : ℕ) → a < length grown.arrays → maker_at grown.arrays a ≢ None → IsMadeArray a
  with_maker a below made =
      elim (by_array a below) [
        | inl l ↦ absurd (made (input_maker a l))
        | inr w ↦ made_array a w
      ]

  -- one without is an input's
  pub without_maker : (a : ℕ) → a < length grown.arrays → maker_at grown.arrays a ≡ None → a < given
  without_maker a below none =
      elim (by_array a below) [
        | inl l ↦ l
        | inr w ↦ let m = made_array a w in let no : None ≡ Some m.maker = sym none ∙ m.made in cc
      ]

  -- ---- keys

  pub encoding_at : (a : ℕ) → IsMadeArray a → (array_at grown.arrays a).layout.encoding ≡ Plain Slash
  encoding_at a m = ap (λ (l : Layout). l.encoding) m.layout

  one_prefix : (a b : ℕ) → a < length grown.arrays → b < length grown.arrays → IsMadeArray a → IsMadeArray b → (array_at grown.arrays a).prefix ≡ (array_at grown.arrays b).prefix → a ≡ b
  one_prefix a b la lb m n same =
      let few = arrays_few in
      elim m.named [
        | inl p ↦ elim n.named [
          | inl q ↦ p.0 ∙ sym q.0
          | inr q ↦ absurd (prefix_other e.store_as (b - given) (sym p.1 ∙ same ∙ q))
        ]
        | inr p ↦ elim n.named [
          | inl q ↦ absurd (prefix_other e.store_as (a - given) (sym q.1 ∙ sym same ∙ p))
          | inr q ↦
              let told = prefix_told e.store_as (a - given) (b - given) (omega (arith, la, few)) (omega (arith, lb, few)) (sym p ∙ same ∙ q) in
              let pa = m.past in
              let pb = n.past in
              omega (arith, told, pa, pb)
        ]
      ]

  own_names : HasOwnNames grown.arrays
  own_names = record {
    encodings = λ a h. encoding_at a (with_maker a h.within h.made);
    prefixes = λ a b h k same. one_prefix a b h.within k.within (with_maker a h.within h.made) (with_maker b k.within k.made) same;
  }

  -- ---- the whole

  maker_of : (a : ℕ) (w : StoodArray a) → maker_at grown.arrays a ≡ Some (length w.step.before.ops)
  maker_of a w =
      let long = step_long e w.step.last w.step.before w.step.step in
      let high = w.step.below in
      (operations.step_made e infos inputs options ok laws closed (standing.arrays_of e infos inputs options ok.form (all_steps e infos inputs options ok laws)) a w a w.step.least (omega (arith, long, high))).made

  makers : (a k : ℕ) → a < length grown.arrays → maker_at grown.arrays a ≡ Some k → (k < length grown.ops) × Contains (writes_of (operation_at grown.ops k).op) a
  makers a k below made =
      elim (by_array a below) [
        | inl l ↦ let none = input_maker a l in let no : None ≡ Some k = sym none ∙ made in cc
        | inr w ↦
            let own : Some (length w.step.before.ops) ≡ Some k = sym (maker_of a w) ∙ made in
            let same : length w.step.before.ops ≡ k = cc own in
            let fit = operations.step_fits e infos inputs options ok laws closed (standing.arrays_of e infos inputs options ok.form (all_steps e infos inputs options ok laws)) a w in
            let long = step_long e w.step.last w.step.before w.step.step in
            let high = w.step.below in
            let among : Contains (writes_of w.step.step.op) a = subst (λ (ws : List ℕ). Contains ws a) (sym fit.writes) (in_range (length w.step.before.arrays) (length (made_infos w.step.step)) a w.step.least (omega (arith, long, high))) in
            let is = ap (λ (o : Planned). o.op) (step_operation e w.step.last w.step.before grown w.step.step w.step.front) in
            subst (λ (j : ℕ). (j < length grown.ops) × Contains (writes_of (operation_at grown.ops j).op) a) same
            (step_within e w.step.last w.step.before grown w.step.step w.step.front, subst (λ o. Contains (writes_of o) a) (sym is) among)
      ]

  pub out_within : array_of_node grown e.out < length grown.arrays
  out_within =
      let n = get_or e.nodes e.out no_node in
      (placed.live_known e infos inputs options ok laws e.out n (slice_get-get_or e.nodes e.out no_node ok.form.out) closed.stored).within

  -- since each array is stored, what an operation needs alone is all that it needs
  needs_alone : (j : ℕ) → j < length grown.ops → (operation_at grown.ops j).projected ≡ projection (as_plan e options grown) j
  needs_alone j below = (operations.operation_needs e infos inputs options ok laws closed j below).0 ∙ sym (all_projection (as_plan e options grown) j all_stored)

  -- and each region is that of a task
  pub tasks_all : sum_by (λ (o : Planned). tasks_of grown.arrays o.op) grown.ops ≡ (plan_counts (max_mem options.allowed options.reserved) options.split_every e infos).tasks
  tasks_all = (λ i. sum_by (λ (o : Planned). all_tasks grown.arrays o.op all_stored i) grown.ops) ∙ counted.regions_all e infos inputs options ok laws closed

  pub sound : Sound (as_plan e options grown)
  sound =
      let ops = ops_few in
      let arrays = arrays_few in
      record {
        operations = operations.operation_fits e infos inputs options ok laws closed;
        projections = needs_alone;
        rooms = λ j below. subst (λ (n : ℕ). n < 2 ^ 64) (needs_alone j below) (operations.operation_needs e infos inputs options ok laws closed j below).1;
        inlined = λ a below inner. absurd (not_both (stored_at grown.arrays a all_stored) inner);
        makers = makers;
        arrays = arrays_ok;
        keys = keys_differ grown.arrays arrays_ok own_names;
        out = out_within;
        array_count = omega (arith, arrays);
        operation_count = omega (arith, ops);
        input_chunks = λ a below none. (input_ok a (without_maker a below none)).1;
        tasks = (let a = tasks_all in let c = (kept_limits (plan_counts (max_mem options.allowed options.reserved) options.split_every e infos) ok.counts).0 in omega (arith, a, c));
        cells = (let a = counted.cells_all e infos inputs options ok laws closed in let c = (kept_limits (plan_counts (max_mem options.allowed options.reserved) options.split_every e infos) ok.counts).1 in omega (arith, a, c));
      }
    where
      not_both : {b : Bool} → b ≡ false → b ≡ true → ⊥
      not_both f t = cc
