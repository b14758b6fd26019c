-- The arrays of the live nodes in the plan of an expression.
use Rattle.std.proofs.Common.{◌≡◌, ℕ, ◌+◌, true, false, List, ◌∷◌, [], Some, length, refl, ap, sym, ◌∙◌, subst, inl, inr, arith}
use Rattle.std.specs.Prelude.{slice_get}
use Rattle.std.proofs.lemmas.List.{length-append}
use Rattle.cu_op.specs.Arrays.{array_at}
use Rattle.cu_op.specs.declared.layout.ArrayInfo.{ArrayInfo}
use Rattle.cu_form.specs.Expression.{Expression}
use Rattle.cu_form.specs.Form.{args_of}
use Rattle.cu_form.specs.declared.expr.Node.{Node}
use Rattle.cu_form.specs.declared.form.Form.{Form}
use Rattle.cu_node.specs.Info.{info_at}
use Rattle.cu_node.specs.declared.info.NodeInfo.{NodeInfo}
use Rattle.cu_expr.specs.declared.inputs.InputInfo.{InputInfo}
use Rattle.cu_need.specs.Live.{is_live, IsClosed}
use Rattle.cu_lower_reduce.specs.Steps.{all_made, grid_of, HasInfo, HaveInfos}
use Rattle.cu_lower_reduce.specs.declared.step.Step.{Step}
use Rattle.cu_lower.specs.Plan.{lowered, array_of_node}
use Rattle.cu_lower.specs.Inputs.{input_place}
use Rattle.cu_lower.specs.Parts.{Grown, is_given, made_layout, with_steps}
use Rattle.cu_lower.specs.Premises.{IsLowerable}
use Rattle.cu_lower.specs.declared.options.Options.{Options}
use Rattle.cu_lower.proofs.Arguments.{Each, each_so, IsEarlierNode, live_arguments}
use Rattle.cu_lower.proofs.GivenInputs.{IsGivenInput, given_kind}
use Rattle.cu_lower.proofs.Growing.{steps_long}
use Rattle.cu_lower.proofs.NodeSteps.{all_steps}
use Rattle.cu_lower.proofs.Standing as standing
use Rattle.cu_lower.proofs.StepLaws.{HaveLaws}
use Rattle.cu_lower.proofs.Standing.{within_front}
use Rattle.cu_lower.proofs.Stepped.{HaveLayouts, have_layouts, layouts_known, last_layout, last_known}
use Rattle.cu_lower.proofs.Typed as typed

module _ (e : Expression) (infos : List NodeInfo) (inputs : List InputInfo) (options : Options) (ok : IsLowerable e infos inputs options) (laws : HaveLaws) where
  abbrev pub grown : Grown
  grown = lowered e infos inputs options

  -- where the steps of a node stand
  abbrev pub Stands : ℕ → Form → Type 0
  Stands k f = standing.Standing e infos inputs options ok.form (all_steps e infos inputs options ok laws) k f

  abbrev pub steps_at : ℕ → Form → ℕ → List Step
  steps_at k f first = standing.own_steps e infos inputs options ok.form (all_steps e infos inputs options ok laws) k f first

  -- the arrays that they make
  layouts : (k : ℕ) (f : Form) (s : Stands k f) → HaveLayouts grown.arrays (length s.before.arrays) (all_made (steps_at k f (length s.before.arrays)))
  layouts k f s = have_layouts e s.before grown (steps_at k f (length s.before.arrays)) s.front

  pub stood_infos : (k : ℕ) (f : Form) (s : Stands k f) → HaveInfos grown.arrays (length s.before.arrays) (all_made (steps_at k f (length s.before.arrays)))
  stood_infos k f s =
      let ss = steps_at k f (length s.before.arrays) in
      let l = steps_long e s.before ss in
      let w = within_front (with_steps e s.before ss).arrays s.front.arrays.0 grown.arrays s.front.arrays.1 in
      layouts_known grown.arrays (length s.before.arrays) (all_made ss) (omega (arith, l, w)) (layouts k f s)

  -- the node's own is the last of them
  own_place : (k : ℕ) (f : Form) (s : Stands k f) → array_of_node grown k ≡ length s.before.arrays + length s.make.ends.0
  own_place k f s =
      let ss = steps_at k f (length s.before.arrays) in
      let l = steps_long e s.before ss in
      let ends = ap length s.make.ends.1 ∙ length-append s.make.ends.0 (info_at infos k ∷ []) in
      let place = s.place in
      omega (arith, l, ends, place)

  pub stood_layout : (k : ℕ) (f : Form) → Stands k f → (array_at grown.arrays (array_of_node grown k)).layout ≡ made_layout (info_at infos k)
  stood_layout k f s =
      ap (λ a. (array_at grown.arrays a).layout) (own_place k f s)
      ∙ last_layout grown.arrays (length s.before.arrays) s.make.ends.0 (info_at infos k) (subst (HaveLayouts grown.arrays (length s.before.arrays)) s.make.ends.1 (layouts k f s))

  stood_known : (k : ℕ) (f : Form) → Stands k f → HasInfo grown.arrays (array_of_node grown k) (info_at infos k)
  stood_known k f s =
      subst (λ (a : ℕ). HasInfo grown.arrays a (info_at infos k)) (sym (own_place k f s))
      (last_known grown.arrays (length s.before.arrays) s.make.ends.0 (info_at infos k) (subst (HaveInfos grown.arrays (length s.before.arrays)) s.make.ends.1 (stood_infos k f s)))

  -- the array with the name of a live input
  pub named_known : (k : ℕ) (n : Node) (name : List ℕ) → slice_get e.nodes k ≡ Some n → n.form ≡ Form.Input name → is_live e k ≡ true → HasInfo grown.arrays (input_place e name) (info_at infos k)
  named_known k n name at is live =
      let f = standing.named_at e infos inputs options ok.form (all_steps e infos inputs options ok laws) k n name at is live in
      let c = (standing.known e infos inputs options ok.form (all_steps e infos inputs options ok laws)).growing.inputs in
      let below = f.0 in
      let known = sym (typed.input_info e infos inputs options ok k n name at is) in
      record {
        within = omega (arith, c, below);
        grid = ap (λ (a : ArrayInfo). a.layout.grid) f.1 ∙ ap grid_of known;
        dtype = ap (λ (a : ArrayInfo). a.layout.dtype) f.1 ∙ ap (λ (i : NodeInfo). i.dtype) known;
      }

  input_known : (k : ℕ) (n : Node) → slice_get e.nodes k ≡ Some n → is_live e k ≡ true → IsGivenInput e k n.form → HasInfo grown.arrays (array_of_node grown k) (info_at infos k)
  input_known k n at live i =
      let f = standing.from_input e infos inputs options ok.form (all_steps e infos inputs options ok laws) k n i at live in
      subst (λ (a : ℕ). HasInfo grown.arrays a (info_at infos k)) (sym f.0) (named_known k n i.name at i.is live)

  -- where a live node that isn't given stands
  pub node_stands : (k : ℕ) (n : Node) (f : Form) → slice_get e.nodes k ≡ Some n → n.form ≡ f → is_given e k f ≡ false → is_live e k ≡ true → Stands k f
  node_stands k n f at is other live = standing.from_node e infos inputs options ok.form (all_steps e infos inputs options ok laws) k n f at is other live

  -- the array of a live node has the node's type and grid
  pub live_known : (k : ℕ) (n : Node) → slice_get e.nodes k ≡ Some n → is_live e k ≡ true → HasInfo grown.arrays (array_of_node grown k) (info_at infos k)
  live_known k n at live =
      elim (given_kind e k n.form) [
        | inl input ↦ input_known k n at live input
        | inr other ↦ stood_known k n.form (node_stands k n n.form at refl other live)
      ]

  -- ---- arguments

  pub arguments : IsClosed e (is_live e) → (k : ℕ) (f : Form) → Stands k f → Each (IsEarlierNode e k) (args_of f)
  arguments closed k f s = live_arguments e ok.form closed k s.node f s.at s.is s.live

  pub arguments_known : IsClosed e (is_live e) → (k : ℕ) (f : Form) → Stands k f → Each (λ n. HasInfo grown.arrays (array_of_node grown n) (info_at infos n)) (args_of f)
  arguments_known closed k f s =
      each_so (IsEarlierNode e k) (λ n. HasInfo grown.arrays (array_of_node grown n) (info_at infos n)) (λ n a. live_known n a.node a.at a.live) (args_of f) (arguments closed k f s)
