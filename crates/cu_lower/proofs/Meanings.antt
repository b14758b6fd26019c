-- The value of a live node's array is the meaning of the node.
use Rattle.std.proofs.Common.{◌≡◌, ℕ, zero, suc, ◌<◌, ◌+◌, ◌-◌, ℤ, pos, Bool, true, List, Option, Some, None, length, get_or, refl, ap, sym, ◌∙◌, subst, inl, inr, arith, if◌then◌else◌}
use Rattle.std.specs.Prelude.{slice_get, unwrap_or}
use Rattle.std.proofs.lemmas.Bool.{cases_Bool}
use Rattle.std.proofs.lemmas.Option.{slice_get_within, slice_get-get_or}
use Rattle.cu_num.specs.Dtype.{InRange}
use Rattle.cu_num.specs.declared.types.Dtype.{Dtype}
use Rattle.cu_shape.specs.Index.{IsInside}
use Rattle.cu_shape.proofs.Places.{test_from_inside}
use Rattle.cu_grid.specs.Grid.{RegularGrid}
use Rattle.cu_op.specs.Arrays.{grid_at, type_at, maker_at}
use Rattle.cu_op.specs.PlanView.{PlanView}
use Rattle.cu_op.specs.Sound.{Sound}
use Rattle.cu_op.specs.Elements.{Elements}
use Rattle.cu_op.specs.Value.{plan_value, HasTypes, Solves as PlanSolves}
use Rattle.cu_op.specs.declared.layout.ArrayInfo.{ArrayInfo}
use Rattle.cu_op.proofs.Values.{value_solves}
use Rattle.cu_form.specs.Expression.{Expression}
use Rattle.cu_form.specs.Form.{args_of}
use Rattle.cu_form.specs.declared.expr.Node.{Node}
use Rattle.cu_form.specs.declared.form.Form.{Form}
use Rattle.cu_node.specs.declared.info.NodeInfo.{NodeInfo}
use Rattle.cu_semantics.specs.Argument.{NodeElements, shape_of_node}
use Rattle.cu_semantics.specs.Meaning.{meaning_of}
use Rattle.cu_semantics.specs.Rule.{rule_of, node_element}
use Rattle.cu_semantics.proofs.Equation.{equation}
use Rattle.cu_expr.specs.declared.inputs.InputInfo.{InputInfo}
use Rattle.cu_need.specs.Live.{is_live, IsClosed}
use Rattle.cu_lower_reduce.specs.Steps.{all_made, SolveSteps, last_made}
use Rattle.cu_lower.specs.Plan.{array_of_node, as_plan}
use Rattle.cu_lower.specs.Inputs.{input_place}
use Rattle.cu_lower.specs.Parts.{Grown}
use Rattle.cu_lower.specs.Premises.{IsLowerable, IsLiveInput, AreOfInputs, AreThere}
use Rattle.cu_lower.specs.declared.options.Options.{Options}
use Rattle.cu_lower.proofs.Applied.{Told}
use Rattle.cu_lower.proofs.Arguments.{each_so, IsEarlierNode}
use Rattle.cu_lower.proofs.Growing.{steps_long}
use Rattle.cu_lower.proofs.NodeSteps.{all_steps}
use Rattle.cu_lower.proofs.Operations as operations
use Rattle.cu_lower.proofs.Placed as placed
use Rattle.cu_lower.proofs.Soundness as soundness
use Rattle.cu_lower.proofs.Standing as standing
use Rattle.cu_lower.proofs.StepLaws.{HaveLaws}
use Rattle.cu_lower.proofs.Stepped.{solve_steps}
use Rattle.cu_lower.proofs.Node.{Contents, IsCarried, Site, Solves}
use Rattle.cu_lower.proofs.NodeLaws.{laws_of}
use Rattle.cu_lower.proofs.GivenInputs.{IsGivenInput, given_kind}

-- the values of a sound plan are numbers of their arrays' types
abbrev pub HaveRanges : Type 0
HaveRanges = (p : PlanView) (env : Elements) (a : ℕ) (idx : List ℕ) (x : ℤ) → Sound p → HasTypes p.arrays env → a < length p.arrays → IsInside (grid_at p.arrays a).shape idx → plan_value p env a idx ≡ Some x → InRange (type_at p.arrays a) x

-- an element, and 0 where there is none
told_or_zero : (must : Bool) (o : Option ℤ) → (must ≡ true → (x : ℤ) × (o ≡ Some x)) → Told must o (unwrap_or o (pos 0))
told_or_zero must (Some x) there = inl refl
told_or_zero must None there =
    elim (cases_Bool must) [
      | inl wanted ↦ let e = (there wanted).1 in cc
      | inr free ↦ inr (free, refl)
    ]

module _ (e : Expression) (infos : List NodeInfo) (inputs : List InputInfo) (options : Options) (ok : IsLowerable e infos inputs options) (laws : HaveLaws) (closed : IsClosed e (is_live e))
    (ranges : HaveRanges) (must : Bool) (env : Elements) (elements : NodeElements) where
  abbrev grown : Grown
  grown = placed.grown e infos inputs options ok laws

  abbrev Stands : ℕ → Form → Type 0
  Stands k f = placed.Stands e infos inputs options ok laws k f

  abbrev plan : PlanView
  plan = as_plan e options grown

  sound : Sound plan
  sound = soundness.sound e infos inputs options ok laws closed

  abbrev at : Elements
  at = plan_value plan env

  abbrev meaning : NodeElements
  meaning = meaning_of e infos elements

  solves : PlanSolves plan env at
  solves = value_solves plan env sound

  -- what the arrays of the plan contain
  abbrev contents : Contents
  contents = record { must = must; elements = elements; meaning = meaning; at = at }

  abbrev site : ℕ → Site
  site first = operations.site e infos inputs options ok laws closed first

  -- the array of node k carries its meaning
  abbrev pub Carries : ℕ → Type 0
  Carries k = (idx : List ℕ) → IsInside (shape_of_node infos k) idx → Told must (at (array_of_node grown k) idx) (meaning k idx)

  -- inside a node's shape its meaning is that of its form
  meaning_is : (k : ℕ) (n : Node) (f : Form) (idx : List ℕ) → slice_get e.nodes k ≡ Some n → n.form ≡ f → IsInside (shape_of_node infos k) idx → meaning k idx ≡ rule_of infos elements meaning k f idx
  meaning_is k n f idx node is inside =
      equation e infos elements k n idx ok.form node
      ∙ ap (λ g. node_element infos elements meaning k g idx) is
      ∙ ap (λ (b : Bool). if b then rule_of infos elements meaning k f idx else pos 0) (test_from_inside (shape_of_node infos k) idx inside)

  -- ---- an input

  -- the array with its name has its elements
  named_told : AreOfInputs e infos env elements → (must ≡ true → AreThere e infos env)
      → (k : ℕ) (n : Node) (name : List ℕ) → slice_get e.nodes k ≡ Some n → n.form ≡ Form.Input name → is_live e k ≡ true
      → (idx : List ℕ) → IsInside (shape_of_node infos k) idx → Told must (at (input_place e name) idx) (elements k idx)
  named_told of_inputs there k n name node is live idx inside =
      let f = standing.named_at e infos inputs options ok.form (all_steps e infos inputs options ok laws) k n name node is live in
      let none : maker_at grown.arrays (input_place e name) ≡ None = ap (λ (a : ArrayInfo). a.maker) f.1 in
      let input : IsLiveInput e k name = record { node = n; at = node; form = is; live = live } in
      let value = solves.inputs (input_place e name) idx none in
      let told = told_or_zero must (env (input_place e name) idx) (λ wanted. there wanted k name idx input inside) in
      subst (λ (o : Option ℤ). Told must o (elements k idx)) (sym value)
      (subst (λ (x : ℤ). Told must (env (input_place e name) idx) x) (sym (of_inputs k name idx input inside)) told)

  -- one that isn't stored has that array
  input_carries : AreOfInputs e infos env elements → (must ≡ true → AreThere e infos env)
      → (k : ℕ) (n : Node) → slice_get e.nodes k ≡ Some n → is_live e k ≡ true → IsGivenInput e k n.form → Carries k
  input_carries of_inputs there k n node live i idx inside =
      let place = (standing.from_input e infos inputs options ok.form (all_steps e infos inputs options ok laws) k n i node live).0 in
      let told = named_told of_inputs there k n i.name node i.is live idx inside in
      subst (λ (a : ℕ). Told must (at a idx) (meaning k idx)) (sym place)
      (subst (λ (x : ℤ). Told must (at (input_place e i.name) idx) x) (sym (meaning_is k n (Form.Input i.name) idx node i.is inside)) told)

  -- ---- a node that operations make

  argument_carried : HasTypes grown.arrays env → (k first : ℕ) → ((n : ℕ) → n < k → is_live e n ≡ true → Carries n) → (n : ℕ) → IsEarlierNode e k n → IsCarried (site first) contents n
  argument_carried types k first earlier n a =
      let known = placed.live_known e infos inputs options ok laws n a.node a.at a.live in
      record {
        known = known;
        carries = earlier n a.below a.live;
        ranged = λ idx x inside some.
            subst (λ (d : Dtype). InRange d x) known.dtype
            (ranges plan env (array_of_node grown n) idx x sound types known.within (subst (λ (g : RegularGrid). IsInside g.shape idx) (sym known.grid) inside) some);
      }

  -- the elements of the plan are those that its steps make
  steps_solved : (k : ℕ) (f : Form) (s : Stands k f) → SolveSteps grown.arrays at (placed.steps_at e infos inputs options ok laws k f (length s.before.arrays))
  steps_solved k f s = solve_steps e s.before grown (placed.steps_at e infos inputs options ok laws k f (length s.before.arrays)) at (λ j a idx below among. solves.made j a idx below among) s.front

  -- its array is the last that they make
  place_is : (k : ℕ) (f : Form) (s : Stands k f) → array_of_node grown k ≡ length s.before.arrays + length (all_made (placed.steps_at e infos inputs options ok laws k f (length s.before.arrays))) - 1
  place_is k f s =
      let l = steps_long e s.before (placed.steps_at e infos inputs options ok laws k f (length s.before.arrays)) in
      let place = s.place in
      omega (arith, l, place)

  -- the rule of its form is what its array carries
  carries_rule : (k : ℕ) (f : Form) (s : Stands k f) (place : ℕ) → array_of_node grown k ≡ place
      → ((idx : List ℕ) → IsInside (shape_of_node infos k) idx → Told must (at place idx) (rule_of infos elements meaning k f idx)) → Carries k
  carries_rule k f s place is told idx inside =
      subst (λ (a : ℕ). Told must (at a idx) (meaning k idx)) (sym is)
      (subst (λ (x : ℤ). Told must (at place idx) x) (sym (meaning_is k s.node f idx s.at s.is inside)) (told idx inside))

  -- ---- each live node

  module _ (types : HasTypes grown.arrays env) (of_inputs : AreOfInputs e infos env elements) (there : must ≡ true → AreThere e infos env) where
    solved : (k : ℕ) (f : Form) (s : Stands k f) → ((m : ℕ) → m < k → is_live e m ≡ true → Carries m) → Solves (site (length s.before.arrays)) contents k f
    solved k f s earlier = record {
      arguments = each_so (IsEarlierNode e k) (IsCarried (site (length s.before.arrays)) contents) (argument_carried types k (length s.before.arrays) earlier) (args_of f) (placed.arguments e infos inputs options ok laws closed k f s);
      named = λ name is. named_told of_inputs there k s.node name s.at (s.is ∙ is) s.live;
      made = steps_solved k f s;
    }

    made_carries : (k : ℕ) (f : Form) → Stands k f → ((m : ℕ) → m < k → is_live e m ≡ true → Carries m) → Carries k
    made_carries k f s earlier =
        let accepted = operations.accepted e infos inputs options ok laws closed k f s in
        carries_rule k f s (last_made (length s.before.arrays) (placed.steps_at e infos inputs options ok laws k f (length s.before.arrays))) (place_is k f s)
        ((laws_of f accepted.args).told laws (site (length s.before.arrays)) contents inputs k accepted (operations.stands e infos inputs options ok laws closed k f s) (solved k f s earlier))

    node_carries : (k : ℕ) (n : Node) → slice_get e.nodes k ≡ Some n → is_live e k ≡ true → ((m : ℕ) → m < k → is_live e m ≡ true → Carries m) → Carries k
    node_carries k n node live earlier =
        elim (given_kind e k n.form) [
          | inl input ↦ input_carries of_inputs there k n node live input
          | inr other ↦ made_carries k n.form (placed.node_stands e infos inputs options ok laws k n n.form node refl other live) earlier
        ]

    carries_below : (most k : ℕ) (n : Node) → k < most → slice_get e.nodes k ≡ Some n → is_live e k ≡ true → Carries k
    carries_below zero k n below node live = absurd (omega arith)
    carries_below (suc most) k n below node live =
        node_carries k n node live
        (λ m under alive. let here = node_at m k n node under in carries_below most m here.0 (omega (arith, below, under)) here.1 alive)
      where
        node_at : (m k : ℕ) (n : Node) → slice_get e.nodes k ≡ Some n → m < k → (x : Node) × (slice_get e.nodes m ≡ Some x)
        node_at m k n node under = let w = slice_get_within e.nodes k n node in (get_or e.nodes m n, slice_get-get_or e.nodes m n (omega (arith, w, under)))

    pub carries : (k : ℕ) (n : Node) → slice_get e.nodes k ≡ Some n → is_live e k ≡ true → Carries k
    carries k n node live = carries_below (k + 1) k n (omega arith) node live
