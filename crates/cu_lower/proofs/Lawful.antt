-- What a plan's user wants to know of it, from where its parts stand.
use Rattle.std.proofs.Common.{◌≡◌, ◌≢◌, ℕ, ◌+◌, ◌<◌, ◌≤◌, ◌-◌, ◌==◌, ℤ, Bool, true, false, List, Option, Some, None, length, get_or, refl, ap, sym, ◌∙◌, subst, inl, inr, [], ◌∷◌, arith}
use Rattle.std.specs.Prelude.{not, slice_get}
use Rattle.std.proofs.lemmas.Bool.{cases_lt, eq-eqb}
use Rattle.std.proofs.lemmas.Option.{slice_get-get_or}
use Rattle.cu_name.specs.Keys.{made_prefix_of}
use Rattle.cu_name.specs.Name.{IsArrayName}
use Rattle.cu_shape.specs.Index.{IsInside}
use Rattle.cu_op.specs.Arrays.{array_at, maker_at}
use Rattle.cu_op.specs.PlanView.{operation_at}
use Rattle.cu_op.specs.Elements.{Elements}
use Rattle.cu_op.specs.Value.{plan_value}
use Rattle.cu_op.specs.declared.layout.ArrayInfo.{ArrayInfo}
use Rattle.cu_run_law.specs.Names.{HasPlanNames}
use Rattle.cu_form.specs.Expression.{Expression}
use Rattle.cu_form.specs.declared.expr.Node.{Node}
use Rattle.cu_form.specs.declared.form.Form.{Form}
use Rattle.cu_node.specs.declared.info.NodeInfo.{NodeInfo}
use Rattle.cu_semantics.specs.Argument.{NodeElements, shape_of_node}
use Rattle.cu_semantics.specs.Meaning.{meaning_of}
use Rattle.cu_expr.specs.declared.inputs.InputInfo.{InputInfo}
use Rattle.cu_need.specs.Live.{is_live, IsClosed}
use Rattle.cu_lower.specs.Inputs.{input_array, input_names, input_place}
use Rattle.cu_lower.specs.Plan.{lowered, array_of_node, plan_of}
use Rattle.cu_lower.specs.Premises.{IsLowerable, IsLiveInput, OutputDiffers, AreThere, HasArraysInOrder, HaveElements, IsOfNode, IsOutput, expression_run}
use Rattle.cu_lower.specs.declared.options.Options.{Options}
use Rattle.cu_lower.proofs.Applied.{Told}
use Rattle.cu_lower.proofs.Meanings as meanings
use Rattle.cu_lower.proofs.Meanings.{HaveRanges}
use Rattle.cu_lower.proofs.Names.{array_name, used_is_name}
use Rattle.cu_lower.proofs.InputNames.{input_placed, names_once}
use Rattle.cu_need.specs.Need.{own_need}
use Rattle.cu_need.specs.Operands.{copies_of}
use Rattle.cu_lower_reduce.specs.Steps.{all_made}
use Rattle.cu_lower_reduce.specs.declared.step.Step.{Step}
use Rattle.cu_lower.specs.Parts.{Grown, is_given}
use Rattle.cu_lower.proofs.Growing.{make_some, steps_long}
use Rattle.cu_lower.proofs.NodeSteps.{all_steps}
use Rattle.cu_lower.proofs.Operations as operations
use Rattle.cu_lower.proofs.Placed as placed
use Rattle.cu_lower.proofs.Stepped.{last_name}
use Rattle.cu_lower.proofs.Soundness as soundness
use Rattle.cu_lower.proofs.NoNode.{no_node}
use Rattle.cu_lower.proofs.Standing as standing
use Rattle.cu_lower.proofs.StepLaws.{HaveLaws}

-- the live nodes are a closed set, none of which has a number past the stored node's (the law of live nodes)
pub record LiveLaw (e : Expression) : Type 0 where
  pub closed : IsClosed e (is_live e)
  pub below : (j : ℕ) → is_live e j ≡ true → j ≤ e.out

told_some : {T : Type 0} (must : Bool) (o : Option T) (x y : T) → Told must o x → o ≡ Some y → y ≡ x
told_some must o x y (inl some) is = let e : Some y ≡ Some x = sym is ∙ some in cc
told_some must o x y (inr none) is = let n = none.1 in cc

told_there : {T : Type 0} (o : Option T) (x : T) → Told true o x → o ≡ Some x
told_there o x (inl some) = some
told_there o x (inr none) = let n = none.0 in cc

module _ (e : Expression) (infos : List NodeInfo) (inputs : List InputInfo) (options : Options) (ok : IsLowerable e infos inputs options) (laws : HaveLaws) (lives : LiveLaw e) where
  abbrev grown : Grown
  grown = placed.grown e infos inputs options ok laws

  abbrev given : ℕ
  given = length (input_names e)

  -- ---- needs

  pub of_node : (j : ℕ) → j < length grown.ops → IsOfNode e infos options (operation_at grown.ops j)
  of_node j below =
      let w = operations.stood e infos inputs options ok laws lives.closed j below in
      let own = operations.step_need e infos inputs options ok laws lives.closed (standing.ops_of e infos inputs options ok.form (all_steps e infos inputs options ok laws)) j w in
      let same = ap (own_need options.reserved options.split_every infos w.k) w.node.is in
      subst (IsOfNode e infos options) (sym (operations.operation_is e infos inputs options ok laws lives.closed j w)) (record {
        node = w.node.node;
        at = w.node.at;
        live = w.node.live;
        allowed = operations.step_allowed e infos inputs options ok laws lives.closed (standing.ops_of e infos inputs options ok.form (all_steps e infos inputs options ok laws)) j w;
        copies = λ copy none.
            operations.step_copied e infos inputs options ok laws lives.closed (standing.ops_of e infos inputs options ok.form (all_steps e infos inputs options ok laws)) j w copy
            (ap (copies_of infos e.out w.k) (sym w.node.is) ∙ none);
        need = λ other. let most = own other in omega (arith, most, same);
      })

  -- ---- names

  -- no input stands twice
  pub once : (a b : ℕ) → a < length grown.arrays → b < length grown.arrays → maker_at grown.arrays a ≡ None → maker_at grown.arrays b ≡ None
      → (array_at grown.arrays a).prefix ≡ (array_at grown.arrays b).prefix → a ≡ b
  once a b la lb na nb same =
      let ga = soundness.without_maker e infos inputs options ok laws lives.closed a la na in
      let gb = soundness.without_maker e infos inputs options ok laws lives.closed b lb nb in
      let pa = ap (λ (x : ArrayInfo). x.prefix) (soundness.input_at e infos inputs options ok laws lives.closed a ga) in
      let pb = ap (λ (x : ArrayInfo). x.prefix) (soundness.input_at e infos inputs options ok laws lives.closed b gb) in
      names_once e a b ga gb (sym pa ∙ same ∙ pb)

  pub named : (recorded metadata : List ℕ) → OutputDiffers e → HasPlanNames (expression_run e (plan_of e infos inputs options) recorded metadata) e.store_as recorded metadata
  named recorded metadata differs = record {
    named = array_name e.store_as ok.form.store_as;
    texts = refl;
    encodings = λ a h. soundness.encoding_at e infos inputs options ok laws lives.closed a (soundness.with_maker e infos inputs options ok laws lives.closed a h.within h.made);
    made = λ a h.
        let below = h.within in
        let m = soundness.with_maker e infos inputs options ok laws lives.closed a h.within h.made in
        let few = soundness.arrays_few e infos inputs options ok laws lives.closed in
        elim m.named [
          | inl own ↦ inl own.1
          | inr number ↦ inr (a - given, omega (arith, below, few), number)
        ];
    inputs = λ a below none.
        let l = soundness.without_maker e infos inputs options ok laws lives.closed a below none in
        let prefix : (array_at grown.arrays a).prefix ≡ get_or (input_names e) a [] = ap (λ (x : ArrayInfo). x.prefix) (soundness.input_at e infos inputs options ok laws lives.closed a l) in
        let (k, u) = soundness.used e infos inputs options ok laws lives.closed a l in
        subst (λ (q : List ℕ). IsArrayName q × (q ≢ e.store_as)) (sym prefix)
        (array_name (get_or (input_names e) a []) (used_is_name e (get_or (input_names e) a []) ok.form (k, u)), differs k (get_or (input_names e) a []) u);
    once = once;
  }

  -- ---- arrays

  made_output : (n : Node) (f : Form) → slice_get e.nodes e.out ≡ Some n → n.form ≡ f → is_given e e.out f ≡ false → IsOutput e infos (array_at grown.arrays (array_of_node grown e.out))
  made_output n f at is other =
      let s = placed.node_stands e infos inputs options ok laws e.out n f at is other lives.closed.stored in
      let ss = placed.steps_at e infos inputs options ok laws e.out f (length s.before.arrays) in
      let out : (length s.before.places == e.out) ≡ true = eq-eqb (length s.before.places) e.out s.number in
      let maker = (standing.known e infos inputs options ok.form (all_steps e infos inputs options ok laws)).growing.makers in
      let below = soundness.out_within e infos inputs options ok laws lives.closed in
      record {
        name = ap (λ a. (array_at grown.arrays a).prefix) s.place ∙ last_name e s.before grown ss (some_steps ss (make_some _ ss s.make)) s.front out;
        layout = placed.stood_layout e infos inputs options ok laws e.out f s;
        made = λ none. out_made n f at is other none;
      }
    where
      some_steps : (ss : List Step) → 0 < length (all_made ss) → 0 < length ss
      some_steps [] h = absurd (omega arith)
      some_steps (s ∷ ss) h = omega arith

      out_made : (n : Node) (f : Form) → slice_get e.nodes e.out ≡ Some n → n.form ≡ f → is_given e e.out f ≡ false → maker_at grown.arrays (array_of_node grown e.out) ≡ None → ⊥
      out_made n f at is other none =
          let l = soundness.without_maker e infos inputs options ok laws lives.closed (array_of_node grown e.out) (soundness.out_within e infos inputs options ok laws lives.closed) none in
          let s = placed.node_stands e infos inputs options ok laws e.out n f at is other lives.closed.stored in
          let first = s.known.growing.inputs in
          let some = make_some _ _ s.make in
          let place = s.place in
          let long = steps_long e s.before (placed.steps_at e infos inputs options ok laws e.out f (length s.before.arrays)) in
          absurd (omega (arith, l, first, some, place, long))

  -- the stored node isn't given
  stored_made : (f : Form) → is_given e e.out f ≡ false
  stored_made (Form.Input name) = ap not (eq-eqb e.out e.out refl)
  stored_made f = refl

  pub output : IsOutput e infos (array_at grown.arrays (array_of_node grown e.out))
  output =
      let n = get_or e.nodes e.out no_node in
      made_output n n.form (slice_get-get_or e.nodes e.out no_node ok.form.out) refl (stored_made n.form)

  -- ---- the order of the arrays

  -- where the stored node stands
  out_stands : placed.Stands e infos inputs options ok laws e.out (get_or e.nodes e.out no_node).form
  out_stands =
      let n = get_or e.nodes e.out no_node in
      placed.node_stands e infos inputs options ok laws e.out n n.form (slice_get-get_or e.nodes e.out no_node ok.form.out) refl (stored_made n.form) lives.closed.stored

  -- its array stands behind all that was there before it
  out_behind : length out_stands.before.arrays ≤ array_of_node grown e.out
  out_behind =
      let some = make_some _ _ out_stands.make in
      let place = out_stands.place in
      let long = steps_long e out_stands.before (placed.steps_at e infos inputs options ok laws e.out (get_or e.nodes e.out no_node).form (length out_stands.before.arrays)) in
      omega (arith, some, place, long)

  out_past : given ≤ array_of_node grown e.out
  out_past = let first = out_stands.known.growing.inputs in let behind = out_behind in omega (arith, first, behind)

  -- what a node makes stands up to its own array
  up_to : (a : ℕ) (w : soundness.StoodArray e infos inputs options ok laws lives.closed a) → a ≤ array_of_node grown w.k
  up_to a w = let within = w.step.within in let place = w.node.place in omega (arith, within, place)

  -- no live node has a number past the stored node's, so no array stands behind its
  before_out : (a : ℕ) → a < length grown.arrays → a ≤ array_of_node grown e.out
  before_out a below =
      elim (soundness.by_array e infos inputs options ok laws lives.closed a below) [
        | inl l ↦ let past = out_past in omega (arith, l, past)
        | inr w ↦
            let most = up_to a w in
            elim (cases_lt w.k e.out) [
              | inl earlier ↦ let behind = out_behind in let l = out_stands.earlier w.k earlier w.node.live in omega (arith, most, behind, l)
              | inr late ↦
                  let l = lives.below w.k w.node.live in
                  let same : w.k ≡ e.out = omega (arith, l, late) in
                  let place = ap (array_of_node grown) same in
                  omega (arith, most, place)
            ]
      ]

  out_last : array_of_node grown e.out + 1 ≡ length grown.arrays
  out_last =
      let within = soundness.out_within e infos inputs options ok laws lives.closed in
      let most = before_out (length grown.arrays - 1) (omega (arith, within)) in
      omega (arith, within, most)

  pub order : HasArraysInOrder e (plan_of e infos inputs options)
  order = record {
    inputs = out_past;
    given = λ a l. ap (λ (x : ArrayInfo). x.maker) (soundness.input_at e infos inputs options ok laws lives.closed a l);
    places = λ k name u. (input_placed e k u.node name u.at u.live u.form).0;
    others = λ a below none. soundness.without_maker e infos inputs options ok laws lives.closed a below none;
    encodings = λ a below made. soundness.encoding_at e infos inputs options ok laws lives.closed a (soundness.with_maker e infos inputs options ok laws lives.closed a below made);
    last = out_last;
    names = λ a past before. numbered a past before;
  }
    where
      numbered : (a : ℕ) → given ≤ a → a < array_of_node grown e.out → (array_at grown.arrays a).prefix ≡ made_prefix_of e.store_as (a - given)
      numbered a past before =
          let within = soundness.out_within e infos inputs options ok laws lives.closed in
          elim (soundness.by_array e infos inputs options ok laws lives.closed a (omega (arith, within, before))) [
            | inl l ↦ absurd (omega (arith, l, past))
            | inr w ↦
                elim (soundness.made_array e infos inputs options ok laws lives.closed a w).named [
                  | inl own ↦ let is = own.0 in absurd (omega (arith, is, before))
                  | inr number ↦ number
                ]
          ]

  pub input : (k : ℕ) (name : List ℕ) → IsLiveInput e k name → array_at grown.arrays (input_place e name) ≡ input_array inputs name
  input k name u = (standing.named_at e infos inputs options ok.form (all_steps e infos inputs options ok laws) k u.node name u.at u.form u.live).1

  pub only : (a : ℕ) → a < length grown.arrays → maker_at grown.arrays a ≡ None → (k : ℕ) × (name : List ℕ) × IsLiveInput e k name × (array_at grown.arrays a ≡ input_array inputs name)
  only a below none =
      let l = soundness.without_maker e infos inputs options ok laws lives.closed a below none in
      let (k, u) = soundness.used e infos inputs options ok laws lives.closed a l in
      (k, get_or (input_names e) a [], u, soundness.input_at e infos inputs options ok laws lives.closed a l)

-- ---- values

module _ (e : Expression) (infos : List NodeInfo) (inputs : List InputInfo) (options : Options) (env : Elements) (elements : NodeElements)
    (have : HaveElements e infos inputs options env elements) (lives : LiveLaw e) (ranges : HaveRanges) (laws : HaveLaws) where
  carried : (must : Bool) → (must ≡ true → AreThere e infos env) → (k : ℕ) (idx : List ℕ) → is_live e k ≡ true → IsInside (shape_of_node infos k) idx
      → Told must (plan_value (plan_of e infos inputs options) env (array_of_node (lowered e infos inputs options) k) idx) (meaning_of e infos elements k idx)
  carried must there k idx live inside =
      let out = have.lowerable.form.out in
      let low = lives.below k live in
      meanings.carries e infos inputs options have.lowerable laws lives.closed ranges must env elements have.typed have.given there
      k (get_or e.nodes k no_node) (slice_get-get_or e.nodes k no_node (omega (arith, out, low))) live idx inside

  pub equal : (k : ℕ) (idx : List ℕ) (x : ℤ) → is_live e k ≡ true → IsInside (shape_of_node infos k) idx
      → plan_value (plan_of e infos inputs options) env (array_of_node (lowered e infos inputs options) k) idx ≡ Some x → x ≡ meaning_of e infos elements k idx
  equal k idx x live inside is =
      told_some false (plan_value (plan_of e infos inputs options) env (array_of_node (lowered e infos inputs options) k) idx) (meaning_of e infos elements k idx) x
      (carried false (λ wanted. cc) k idx live inside) is

  pub defined : AreThere e infos env → (k : ℕ) (idx : List ℕ) → is_live e k ≡ true → IsInside (shape_of_node infos k) idx
      → plan_value (plan_of e infos inputs options) env (array_of_node (lowered e infos inputs options) k) idx ≡ Some (meaning_of e infos elements k idx)
  defined there k idx live inside =
      told_there (plan_value (plan_of e infos inputs options) env (array_of_node (lowered e infos inputs options) k) idx) (meaning_of e infos elements k idx)
      (carried true (λ wanted. there) k idx live inside)
