-- Each operation of the plan of an expression fits its arrays; the arrays that it makes are its own.
use Rattle.std.proofs.Common.{◌≡◌, ◌≢◌, ℕ, ◌<◌, ◌≤◌, ◌+◌, ◌-◌, ◌*◌, ◌^◌, ◌==◌, ◌&&◌, true, false, List, [], All, Contains, Option, Some, length, get_or, refl, ap, sym, ◌∙◌, subst, inl, inr, arith}
use Rattle.std.proofs.lemmas.Bool.{cases_Bool}
use Rattle.std.proofs.lemmas.List.Elements.{All-nil, All-cons}
use Rattle.cu_op.specs.Arrays.{array_at}
use Rattle.cu_op.specs.Operation.{reads_of, IsReadable, IsMadeBy, IsBefore}
use Rattle.cu_op.specs.PlanView.{operation_at}
use Rattle.cu_op.specs.Projection.{own_projection}
use Rattle.cu_op.specs.Sound.{IsOperation}
use Rattle.cu_op.specs.declared.layout.ArrayInfo.{ArrayInfo}
use Rattle.cu_op.specs.declared.operation.Planned.{Planned}
use Rattle.cu_form.specs.Expression.{Expression}
use Rattle.cu_form.specs.Form.{args_of}
use Rattle.cu_form.specs.declared.form.Form.{Form}
use Rattle.cu_node.specs.declared.info.NodeInfo.{NodeInfo}
use Rattle.cu_expr.specs.declared.inputs.InputInfo.{InputInfo}
use Rattle.cu_need.specs.Live.{is_live, IsClosed}
use Rattle.cu_need.specs.Need.{need_of, own_need}
use Rattle.cu_need.specs.Operands.{copies_of}
use Rattle.cu_copy.specs.Copies.{max_mem}
use Rattle.cu_lower_reduce.specs.Copies.{is_copy}
use Rattle.cu_lower_reduce.specs.Steps.{made_infos, IsGiven, IsStep, AreSteps}
use Rattle.cu_lower_reduce.specs.declared.step.Step.{Step}
use Rattle.cu_lower.specs.Inputs.{input_names, input_place}
use Rattle.cu_lower.specs.Parts.{Grown, array_places, source_places, with_step}
use Rattle.cu_lower.specs.Plan.{array_of_node}
use Rattle.cu_lower.specs.Premises.{IsLowerable}
use Rattle.cu_lower.specs.declared.options.Options.{Options}
use Rattle.cu_lower.proofs.Arguments.{each_so, IsEarlierNode, all_places}
use Rattle.cu_lower.proofs.Needs.{node_need}
use Rattle.cu_lower.proofs.OperandSteps.{AreOwn}
use Rattle.cu_lower.proofs.Ready as ready
use Rattle.cu_lower.proofs.Growing.{front_then, front_step, step_long, step_ops}
use Rattle.cu_lower.proofs.NodeSteps.{all_steps, node_own}
use Rattle.cu_lower.proofs.Placed as placed
use Rattle.cu_lower.proofs.Standing as standing
use Rattle.cu_lower.proofs.StepLaws.{HaveLaws}
use Rattle.cu_lower.proofs.Standing.{front_array, within_front}
use Rattle.cu_lower.proofs.Stepped.{IsPairArray, pair_array, step_array, step_operation, all_in_range}
use Rattle.cu_lower.proofs.Typed as typed
use Rattle.cu_lower.proofs.Node.{IsAccepted, Site, StandsAt}
use Rattle.cu_lower.proofs.NodeLaws.{laws_of}

-- a region and as much scratch keep within what is allowed
both_regions : (allowed reserved : ℕ) → reserved ≤ allowed → reserved + 2 * max_mem allowed reserved ≤ allowed
both_regions allowed reserved h = omega (arith, h)

-- what holds of all holds of one
all_among : {A : Type 0} (P : A → Type 0) (xs : List A) (x : A) → All P xs → Contains xs x → P x
all_among P xs x all (i, below, is) = subst P is (all i x below)

module _ (e : Expression) (infos : List NodeInfo) (inputs : List InputInfo) (options : Options) (ok : IsLowerable e infos inputs options) (laws : HaveLaws) (closed : IsClosed e (is_live e)) where
  abbrev grown : Grown
  grown = placed.grown e infos inputs options ok laws

  abbrev given : ℕ
  given = length (input_names e)

  abbrev pub Stands : ℕ → Form → Type 0
  Stands k f = placed.Stands e infos inputs options ok laws k f

  abbrev pub steps_at : ℕ → Form → ℕ → List Step
  steps_at k f first = placed.steps_at e infos inputs options ok laws k f first

  abbrev pub Stood : (Grown → ℕ) → ℕ → Type 0
  Stood size j = standing.Stood e infos inputs options ok.form (all_steps e infos inputs options ok laws) size j

  -- the arrays that a node reads
  abbrev pub ins_of : Form → List ℕ
  ins_of f = source_places e grown.places f

  -- ---- the steps of a node

  pub accepted : (k : ℕ) (f : Form) → Stands k f → IsAccepted inputs infos k f
  accepted k f s = typed.accepted e infos inputs options ok k s.node f s.at s.is

  -- where they stand
  abbrev pub site : ℕ → Site
  site first = record { e = e; infos = infos; options = options; arrays = grown.arrays; places = grown.places; first = first }

  pub stands : (k : ℕ) (f : Form) (s : Stands k f) → StandsAt (site (length s.before.arrays)) k f
  stands k f s = record {
    fitting = ready.fitting e infos inputs options ok k s.node f s.at s.is s.live s.other;
    room = ready.has_room e infos inputs options ok k s.node (length s.before.arrays) s.at s.live s.small;
    known = placed.arguments_known e infos inputs options ok laws closed k f s;
    before = each_so (IsEarlierNode e k) (λ n. array_of_node grown n < length s.before.arrays) (λ n a. s.earlier n a.below a.live) (args_of f) (placed.arguments e infos inputs options ok laws closed k f s);
    named = λ name is. placed.named_known e infos inputs options ok laws k s.node name s.at (s.is ∙ is) s.live;
    made = placed.stood_infos e infos inputs options ok laws k f s;
  }

  -- they are steps over the arrays of the plan
  pub node_steps : (k : ℕ) (f : Form) (s : Stands k f) → AreSteps grown.arrays options.reserved (ins_of f) (length s.before.arrays) (length s.before.arrays) (steps_at k f (length s.before.arrays))
  node_steps k f s = (laws_of f (accepted k f s).args).steps laws (site (length s.before.arrays)) inputs k (accepted k f s) (stands k f s)

  -- ---- a step

  -- that of an operation or an array
  pub step_fits : (size : Grown → ℕ) (j : ℕ) (w : Stood size j)
      → IsStep grown.arrays options.reserved (ins_of w.operator) (length w.node.before.arrays) (length w.step.before.arrays) w.step.step
  step_fits size j w = w.step.fits grown.arrays options.reserved (ins_of w.operator) (length w.node.before.arrays) (node_steps w.k w.operator w.node)

  pub step_number : (size : Grown → ℕ) (j : ℕ) (w : Stood size j) → length w.step.before.places ≡ w.k
  step_number size j w = ap length w.step.node ∙ w.node.number

  -- what its node's steps come to
  pub own : (size : Grown → ℕ) (j : ℕ) (w : Stood size j) → AreOwn infos options e.out w.k w.operator (steps_at w.k w.operator (length w.node.before.arrays))
  own size j w = node_own e infos inputs options ok laws w.k w.node.node w.operator w.node.at w.node.is w.node.live w.node.other grown.places (length w.node.before.arrays) w.node.small

  -- the need of its node besides copies
  pub step_need : (size : Grown → ℕ) (j : ℕ) (w : Stood size j) → is_copy w.step.step.op ≡ false → w.step.step.need ≤ own_need options.reserved options.split_every infos w.k w.operator
  step_need size j w = all_among (λ x. is_copy x.op ≡ false → x.need ≤ own_need options.reserved options.split_every infos w.k w.operator) _ w.step.step (own size j w).needs w.step.among

  -- a copy belongs to a node that has copies
  pub step_copied : (size : Grown → ℕ) (j : ℕ) (w : Stood size j) → is_copy w.step.step.op ≡ true → copies_of infos e.out w.k w.operator ≢ []
  step_copied size j w = all_among (λ x. is_copy x.op ≡ true → copies_of infos e.out w.k w.operator ≢ []) _ w.step.step (own size j w).copied w.step.among

  need_within : (size : Grown → ℕ) (j : ℕ) (w : Stood size j) → need_of options.reserved options.split_every infos e.out w.k w.operator ≤ options.allowed
  need_within size j w = subst (λ (x : Form). need_of options.reserved options.split_every infos e.out w.k x ≤ options.allowed) w.node.is (typed.need_within e infos inputs options ok w.k w.node.node w.node.at w.node.live)

  -- and at most what is allowed
  pub step_allowed : (size : Grown → ℕ) (j : ℕ) (w : Stood size j) → w.step.step.need ≤ options.allowed
  step_allowed size j w =
      let within = need_within size j w in
      elim (cases_Bool (is_copy w.step.step.op)) [
        | inl copy ↦
            let low = node_need infos options.reserved options.split_every e.out w.k w.operator in
            let most = all_among (λ x. is_copy x.op ≡ true → x.need ≤ options.reserved + 2 * max_mem options.allowed options.reserved) _ w.step.step (own size j w).copies w.step.among copy in
            let half = both_regions options.allowed options.reserved (omega (arith, low, within)) in
            omega (arith, most, half)
        | inr other ↦
            let need = step_need size j w other in
            let most : own_need options.reserved options.split_every infos w.k w.operator ≤ need_of options.reserved options.split_every infos e.out w.k w.operator = omega arith in
            omega (arith, need, most, within)
      ]

  -- an array before a step has an earlier maker
  readable : (size : Grown → ℕ) (j : ℕ) (w : Stood size j) (a : ℕ) → a < length w.step.before.arrays → IsReadable grown.arrays (length w.step.before.ops) a
  readable size j w a below =
      let long = step_long e w.step.last w.step.before w.step.step in
      let within = within_front (with_step e w.step.last w.step.before w.step.step).arrays w.step.front.arrays.0 grown.arrays w.step.front.arrays.1 in
      let same = front_array w.step.before grown a (front_then w.step.before (with_step e w.step.last w.step.before w.step.step) grown (front_step e w.step.last w.step.before w.step.step) w.step.front) below in (
        omega (arith, long, within, below),
        subst (λ (m : Option ℕ). IsBefore m (length w.step.before.ops)) (sym (ap (λ (x : ArrayInfo). x.maker) same)) (w.step.growing.makers a below),
      )

  arguments_before : (size : Grown → ℕ) (j : ℕ) (w : Stood size j) → All (λ a. a < length w.step.before.arrays) (array_places grown.places (args_of w.operator))
  arguments_before size j w =
      all_places grown.places (λ a. a < length w.step.before.arrays) (args_of w.operator)
      (each_so (IsEarlierNode e w.k) (λ n. array_of_node grown n < length w.step.before.arrays) (λ n a. let early = w.node.earlier n a.below a.live in let past = w.step.past in omega (arith, early, past)) (args_of w.operator)
      (placed.arguments e infos inputs options ok laws closed w.k w.operator w.node))

  -- a named array comes before all that are made
  named_before : (size : Grown → ℕ) (j : ℕ) (w : Stood size j) (name : List ℕ) → w.operator ≡ Form.Input name → input_place e name < length w.step.before.arrays
  named_before size j w name is =
      let named = (standing.named_at e infos inputs options ok.form (all_steps e infos inputs options ok laws) w.k w.node.node name w.node.at (w.node.is ∙ is) w.node.live).0 in
      let inputs = w.step.growing.inputs in
      omega (arith, named, inputs)

  ins_before : (size : Grown → ℕ) (j : ℕ) (w : Stood size j) → All (λ a. a < length w.step.before.arrays) (ins_of w.operator)
  ins_before size j w =
      source_before w.operator (λ name is. named_before size j w name is) (arguments_before size j w)
    where
      source_before : (f : Form) → ((name : List ℕ) → f ≡ Form.Input name → input_place e name < length w.step.before.arrays) → All (λ a. a < length w.step.before.arrays) (array_places grown.places (args_of f))
          → All (λ a. a < length w.step.before.arrays) (source_places e grown.places f)
      source_before (Form.Input name) named all = All-cons (λ a. a < length w.step.before.arrays) (input_place e name) [] (named name refl) (All-nil (λ a. a < length w.step.before.arrays))
      source_before f named all = all

  step_reads : (size : Grown → ℕ) (j : ℕ) (w : Stood size j) (a : ℕ) → IsGiven (ins_of w.operator) (length w.node.before.arrays) (length w.step.before.arrays) a → IsReadable grown.arrays (length w.step.before.ops) a
  step_reads size j w a (inl among) = readable size j w a (all_among (λ b. b < length w.step.before.arrays) (ins_of w.operator) a (ins_before size j w) among)
  step_reads size j w a (inr own) = readable size j w a own.1

  -- one of the arrays that a step makes
  pub step_made : (size : Grown → ℕ) (j : ℕ) (w : Stood size j) (b : ℕ) → length w.step.before.arrays ≤ b → b < length w.step.before.arrays + length (made_infos w.step.step)
      → IsPairArray e (w.step.last && (length w.step.before.places == e.out)) (length w.step.before.arrays - given) (length w.step.before.ops) w.step.step.values w.step.step.made (b - length w.step.before.arrays) (array_at grown.arrays b)
  step_made size j w b low high =
      let i = b - length w.step.before.arrays in
      let is = step_array e w.step.last w.step.before grown w.step.step (b - length w.step.before.arrays) w.step.front (omega (arith, low, high)) in
      let at : array_at grown.arrays b ≡ _ = ap (array_at grown.arrays) (let z : b ≡ length w.step.before.arrays + (b - length w.step.before.arrays) = omega (arith, low) in z) ∙ is in
      subst (IsPairArray e (w.step.last && (length w.step.before.places == e.out)) (length w.step.before.arrays - given) (length w.step.before.ops) w.step.step.values w.step.step.made (b - length w.step.before.arrays)) (sym at)
      (pair_array e (w.step.last && (length w.step.before.places == e.out)) (length w.step.before.arrays - given) (length w.step.before.ops) w.step.step.values w.step.step.made (b - length w.step.before.arrays) (omega (arith, low, high)))

  -- ---- the operation of a number

  pub ops_number : (j : ℕ) (w : Stood (standing.ops_of e infos inputs options ok.form (all_steps e infos inputs options ok laws)) j) → length w.step.before.ops ≡ j
  ops_number j w =
      let one = step_ops e w.step.last w.step.before w.step.step in
      let low = w.step.least in
      let high = w.step.below in
      omega (arith, one, low, high)

  pub stood : (j : ℕ) → j < length grown.ops → Stood (standing.ops_of e infos inputs options ok.form (all_steps e infos inputs options ok laws)) j
  stood j below = standing.from_operation e infos inputs options ok.form (all_steps e infos inputs options ok laws) j below

  pub operation_is : (j : ℕ) (w : Stood (standing.ops_of e infos inputs options ok.form (all_steps e infos inputs options ok laws)) j)
      → operation_at grown.ops j ≡ record { op = w.step.step.op; node = w.k; projected = w.step.step.need }
  operation_is j w =
      ap (operation_at grown.ops) (sym (ops_number j w))
      ∙ step_operation e w.step.last w.step.before grown w.step.step w.step.front
      ∙ ap (λ (k : ℕ). record { op = w.step.step.op; node = k; projected = w.step.step.need }) (step_number (standing.ops_of e infos inputs options ok.form (all_steps e infos inputs options ok laws)) j w)

  pub operation_fits : (j : ℕ) → j < length grown.ops → IsOperation grown.arrays j (operation_at grown.ops j).op
  operation_fits j below =
      let w = stood j below in
      let fit = step_fits _ j w in
      let number = ops_number j w in
      subst (λ (o : Planned). IsOperation grown.arrays j o.op) (sym (operation_is j w)) (record {
        reads = λ i d under. subst (λ (m : ℕ). IsReadable grown.arrays m (get_or (reads_of w.step.step.op) i d)) number (step_reads _ j w (get_or (reads_of w.step.step.op) i d) (fit.reads i d under));
        writes = subst (All (IsMadeBy grown.arrays j)) (sym fit.writes) (all_in_range (IsMadeBy grown.arrays j) (length w.step.before.arrays) (length (made_infos w.step.step)) (λ b low high.
            let long = step_long e w.step.last w.step.before w.step.step in
            let within = within_front (with_step e w.step.last w.step.before w.step.step).arrays w.step.front.arrays.0 grown.arrays w.step.front.arrays.1 in
            (omega (arith, long, within, high), (step_made _ j w b low high).made ∙ ap Some number)));
        fits = fit.fits;
      })

  -- it needs what it needs alone
  pub operation_needs : (j : ℕ) → j < length grown.ops
      → ((operation_at grown.ops j).projected ≡ own_projection grown.arrays options.reserved (operation_at grown.ops j).op) × ((operation_at grown.ops j).projected < 2 ^ 64)
  operation_needs j below =
      let w = stood j below in
      let fit = step_fits _ j w in
      let need = step_allowed _ j w in
      let allowed = ok.allowed in
      subst (λ (o : Planned). (o.projected ≡ own_projection grown.arrays options.reserved o.op) × (o.projected < 2 ^ 64)) (sym (operation_is j w))
      (fit.need, omega (arith, need, allowed))
