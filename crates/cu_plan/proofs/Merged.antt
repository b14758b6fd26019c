-- The plan of an expression before maps are merged, and what holds of a plan that keeps what it is for.
use Rattle.std.proofs.Common.{◌≡◌, ◌≢◌, ◌⊎◌, ℕ, zero, suc, ◌-◌, ◌<◌, ◌≤◌, ◌^◌, ◌==◌, true, false, [], List, None, length, refl, ap, sym, ◌∙◌, subst, arith, inl, inr, ⊎_elim}
use Rattle.std.proofs.lemmas.Bool.{cases_lt}
use Rattle.std.proofs.lemmas.Bool.Decides.{eqb_tells}
use Rattle.cu_shape.specs.Index.{IsInside}
use Rattle.cu_num.specs.Dtype.{InRange}
use Rattle.cu_name.specs.Keys.{made_prefix_of}
use Rattle.cu_name.specs.Name.{IsArrayName}
use Rattle.cu_op.specs.Arrays.{array_at, maker_at}
use Rattle.cu_op.specs.Names.{HasCells, HasOwnNames}
use Rattle.cu_op.specs.PlanView.{PlanView}
use Rattle.cu_op.specs.Elements.{Elements}
use Rattle.cu_op.specs.Value.{plan_value}
use Rattle.cu_op.specs.declared.layout.ArrayInfo.{ArrayInfo}
use Rattle.cu_op.specs.declared.layout.Layout.{Layout}
use Rattle.cu_run_law.specs.Names.{HasPlanNames}
use Rattle.cu_form.specs.Expression.{Expression}
use Rattle.cu_node.specs.declared.info.NodeInfo.{NodeInfo}
use Rattle.cu_semantics.specs.Argument.{NodeElements, shape_of_node}
use Rattle.cu_expr.specs.declared.inputs.InputInfo.{InputInfo}
use Rattle.cu_fuse.specs.Close.{count_behind, fused, others_before, setting_of, HasInputsFirst, HasMadeNames}
use Rattle.cu_fuse.proofs.ClosedNames.{behind_other, prefix_other, prefix_told}
use Rattle.cu_lower.specs.Inputs.{input_array, input_names, input_place}
use Rattle.cu_lower.specs.Plan.{plan_of}
use Rattle.cu_lower.specs.Premises.{HasArraysInOrder, HaveElements, IsLiveInput, IsLowerable, IsOutput, expression_run}
use Rattle.cu_lower.specs.declared.options.Options.{Options}
use Rattle.cu_lower.proofs.Names.{array_name}
use Rattle.cu_plan.specs.Keeping.{KeepsPlan}
use Rattle.cu_plan.specs.Plan.{inlined_plan_of, merged_plan_of, HaveInputElements}

-- ---- the two ways

pub plan_inlined : (e : Expression) (infos : List NodeInfo) (inputs : List InputInfo) (options : Options) → (options.fusion == 2) ≡ true
    → inlined_plan_of (plan_of e infos inputs options) ≡ merged_plan_of e infos inputs options
unfolding merged_plan_of
plan_inlined e infos inputs options t = rw t refl

pub plan_merged : (e : Expression) (infos : List NodeInfo) (inputs : List InputInfo) (options : Options) → (options.fusion == 2) ≡ false
    → fused (plan_of e infos inputs options) ≡ merged_plan_of e infos inputs options
unfolding merged_plan_of
plan_merged e infos inputs options f = rw f refl

-- ---- the plan before, and after

module _ (e : Expression) (infos : List NodeInfo) (inputs : List InputInfo) (options : Options) (ok : IsLowerable e infos inputs options)
    (output : IsOutput e infos (array_at (plan_of e infos inputs options).arrays (plan_of e infos inputs options).out))
    (order : HasArraysInOrder e (plan_of e infos inputs options)) where
  abbrev p : PlanView
  p = plan_of e infos inputs options

  abbrev n : ℕ
  n = length (input_names e)

  pub room : p.allowed < 2 ^ 64
  room = let few = ok.allowed in omega (arith, few)

  inputs_few : n ≤ length p.arrays
  inputs_few = let first = order.inputs in let last = order.last in omega (arith, first, last)

  pub inputs_first : HasInputsFirst p n
  inputs_first = record { few = inputs_few; given = order.given; alone = order.others }

  -- up to the output the made arrays are counted one after another
  numbered : (a : ℕ) → a ≤ p.out → others_before p a ≡ a - n
  numbered zero l = omega arith
  numbered (suc a) l =
      let before = numbered a (omega (arith, l)) in
      elim (cases_lt a n) [
        | inl input ↦ let same = ap (count_behind (setting_of p) (others_before p a) a) (order.given a input) in omega (arith, before, input, same)
        | inr past ↦
            let last = order.last in
            let made : maker_at p.arrays a ≢ None = λ none. let early = order.others a (omega (arith, l, last)) none in omega (arith, early, past) in
            let next = behind_other p [] (others_before p a) a (made, λ same. omega (arith, l, same)) in
            omega (arith, before, past, next)
      ]

  pub has_names : HasMadeNames p
  has_names = record {
    named = subst IsArrayName (sym output.name) (array_name e.store_as ok.form.store_as);
    others = λ a below made differs.
        let last = order.last in
        let before : a < p.out = omega (arith, below, last, differs) in
        let past : n ≤ a = elim (cases_lt a n) [ inl input ↦ absurd (made (order.given a input)) | inr past ↦ past ] in
        order.names a past before ∙ (λ i. made_prefix_of (sym output.name i) (sym (numbered a (omega (arith, before))) i));
  }

  -- a made array is the output, or one of the others
  place_of : (a : ℕ) → HasCells p.arrays a → (a ≡ p.out) ⊎ ((n ≤ a) × (a < p.out))
  place_of a cells =
      let last = order.last in
      let below = cells.within in
      let past : n ≤ a = elim (cases_lt a n) [ inl input ↦ absurd (cells.made (order.given a input)) | inr past ↦ past ] in
      elim (eqb_tells a p.out) [ inl t ↦ inl t.1 | inr t ↦ inr (past, (let differs = t.1 in omega (arith, below, last, differs))) ]

  -- the output and another have different names
  other_name : (a b : ℕ) → a ≡ p.out → n ≤ b → b < p.out → (array_at p.arrays a).prefix ≡ (array_at p.arrays b).prefix → ⊥
  other_name a b is past below same =
      prefix_other e.store_as (b - n) (sym output.name ∙ ap (λ (c : ℕ). (array_at p.arrays c).prefix) (sym is) ∙ same ∙ order.names b past below)

  pub names_apart : length p.arrays < 2 ^ 32 → HasOwnNames p.arrays
  names_apart few = record {
    encodings = λ a cells. order.encodings a cells.within cells.made;
    prefixes = λ a b one two same.
        ⊎_elim
        (λ x. ⊎_elim (λ y. x ∙ sym y) (λ (past, below). absurd (other_name a b x past below same)) (place_of b two))
        (λ (past, below). ⊎_elim
        (λ y. absurd (other_name b a y past below (sym same)))
        (λ (also, under).
        let last = order.last in
        let counted = prefix_told e.store_as (a - n) (b - n) (omega (arith, below, last, few)) (omega (arith, under, last, few))
        (sym (order.names a past below) ∙ same ∙ order.names b also under) in
        omega (arith, counted, past, also))
        (place_of b two))
        (place_of a one);
  }

  module _ (q : PlanView) (kept : KeepsPlan p n q) where
    pub merged_output : IsOutput e infos (array_at q.arrays q.out)
    merged_output = record { name = kept.name ∙ output.name; layout = kept.layout ∙ output.layout; made = kept.output }

    pub merged_input : ((k : ℕ) (name : List ℕ) → IsLiveInput e k name → array_at p.arrays (input_place e name) ≡ input_array inputs name)
        → (k : ℕ) (name : List ℕ) → IsLiveInput e k name → array_at q.arrays (input_place e name) ≡ input_array inputs name
    merged_input was k name live = kept.inputs (input_place e name) (order.places k name live) ∙ was k name live

    pub merged_only : ((a : ℕ) → a < length p.arrays → maker_at p.arrays a ≡ None → (k : ℕ) × (name : List ℕ) × IsLiveInput e k name × (array_at p.arrays a ≡ input_array inputs name))
        → (a : ℕ) → a < length q.arrays → maker_at q.arrays a ≡ None
        → (k : ℕ) × (name : List ℕ) × IsLiveInput e k name × (array_at q.arrays a ≡ input_array inputs name)
    merged_only was a below none =
        let l = kept.first.alone a below none in
        let all = inputs_few in
        let (k, name, live, is) = was a (omega (arith, l, all)) (order.given a l) in
        (k, name, live, kept.inputs a l ∙ is)

    pub merged_names : (recorded metadata : List ℕ) → HasPlanNames (expression_run e p recorded metadata) e.store_as recorded metadata
        → HasPlanNames (expression_run e q recorded metadata) e.store_as recorded metadata
    merged_names recorded metadata names = record {
      named = names.named;
      texts = refl;
      encodings = kept.encodings;
      made = λ a cells.
          ⊎_elim (λ own. inl (own ∙ output.name)) (λ (k, few, is). inr (k, few, is ∙ ap (λ name. made_prefix_of name k) output.name)) (kept.made a cells);
      inputs = λ a below none.
          let l = kept.first.alone a below none in
          let all = inputs_few in
          subst (λ (x : ArrayInfo). IsArrayName x.prefix × (x.prefix ≢ e.store_as)) (sym (kept.inputs a l)) (names.inputs a (omega (arith, l, all)) (order.given a l));
      once = λ a b below also none other e.
          let l = kept.first.alone a below none in
          let k = kept.first.alone b also other in
          let all = inputs_few in
          names.once a b (omega (arith, l, all)) (omega (arith, k, all)) (order.given a l) (order.given b k)
          (sym (ap (λ (x : ArrayInfo). x.prefix) (kept.inputs a l)) ∙ e ∙ ap (λ (x : ArrayInfo). x.prefix) (kept.inputs b k));
    }

    -- the result's value is what it was
    pub merged_value : (env : Elements) (idx : List ℕ) → IsInside (shape_of_node infos e.out) idx → plan_value q env q.out idx ≡ plan_value p env p.out idx
    merged_value env idx inside = kept.value env idx (subst (λ (l : Layout). IsInside l.grid.shape idx) (sym output.layout) inside)

  -- elements of the inputs' types are so before the merges
  pub elements_before : KeepsPlan p n (merged_plan_of e infos inputs options) → (env : Elements) (elements : NodeElements)
      → HaveInputElements e infos inputs options env elements → HaveElements e infos inputs options env elements
  elements_before kept env elements have = record {
    lowerable = have.lowerable;
    typed = λ a idx x below none is.
        let l = order.others a below none in
        let few = kept.first.few in
        let same = kept.inputs a l in
        let t = have.typed a idx x (omega (arith, l, few)) (ap (λ (b : ArrayInfo). b.maker) same ∙ none) is in
        subst (λ (b : ArrayInfo). InRange b.layout.dtype x) same t;
    given = have.given;
  }
