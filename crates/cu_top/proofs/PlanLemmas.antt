-- The plan of a job: what its tasks are lent, its names, and what its output holds.
use Rattle.std.proofs.Common.{◌≡◌, ◌≢◌, ℕ, ◌<◌, ◌≤◌, ℤ, pos, true, false, List, length, Option, Some, None, refl, sym, ap, ◌∙◌, subst, inl, inr, get_or, true≢false}
use Rattle.std.specs.Prelude.{slice_get, unwrap_or}
use Rattle.std.proofs.lemmas.Slice.Eq.{bytes_eq-Decides}
use Rattle.std.proofs.lemmas.List.Folds.{list_any_at}
use Rattle.std.proofs.lemmas.Option.{get_or_from_slice_get, slice_get_cases}
use Rattle.cu_shape.specs.Index.{IsInside, quotients}
use Rattle.cu_grid.proofs.Parting.{has_coordinate, lies_within}
use Rattle.cu_expr.specs.declared.inputs.InputInfo.{InputInfo}
use Rattle.cu_form.specs.Expression.{Expression}
use Rattle.cu_form.specs.declared.expr.Node.{Node}
use Rattle.cu_form.specs.declared.form.Form.{Form}
use Rattle.cu_semantics.specs.Argument.{NodeElements, shape_of_node}
use Rattle.cu_semantics.specs.Meaning.{meaning_of}
use Rattle.cu_node.specs.declared.info.NodeInfo.{NodeInfo}
use Rattle.cu_lower.specs.Inputs.{input_array, input_place}
use Rattle.cu_lower.specs.Premises.{IsLowerable, IsLiveInput, IsOutput, OutputDiffers}
use Rattle.cu_lower.specs.declared.options.Options.{Options}
use Rattle.cu_op.specs.declared.layout.ArrayInfo.{ArrayInfo}
use Rattle.cu_op.specs.declared.layout.Layout.{Layout}
use Rattle.cu_op.specs.Arrays.{array_at, layout_at, grid_at, is_inlined, maker_at}
use Rattle.cu_op.specs.Chunks.{cell}
use Rattle.cu_op.specs.Layout.{layout_view}
use Rattle.cu_op.specs.PlanView.{PlanView, operation_at}
use Rattle.cu_op.specs.Sound.{Sound}
use Rattle.cu_op.specs.Elements.{Elements}
use Rattle.cu_op.specs.Value.{plan_value, stored_inputs}
use Rattle.cu_op.proofs.Plans.{grid_ok}
use Rattle.cu_op.proofs.Spellings.{defined_at}
use Rattle.cu_run_law.proofs.Reading.{out_stored}
use Rattle.cu_run_law.specs.Left.{IsLeft}
use Rattle.cu_run_law.specs.Pieces.{PlanRun, Chunk, IsComplete}
use Rattle.cu_store.specs.Held.{Contents}
use Rattle.cu_store.specs.Steps.{Shown}
use Rattle.cu_zarr.specs.Stored.{stored_element}
use Rattle.cu_plan.specs.Plan.{merged_plan_of, HaveInputElements}
use Rattle.cu_command.specs.declared.job.Job.{Job}
use Rattle.cu_top.specs.Kept.{IsUsed}
use Rattle.cu_top.specs.Prepare.{reads_array, HasNoOwnInput, IsLentWithin, HasPlan, out_layout}
use Rattle.cu_top.specs.Run.{RunCase, plan_in, job_run, env_of, IsMeant}
use Rattle.cu_check.specs.Elements.{used_element, elements_of}

-- ---- what tasks are lent

pub lent_within : (p : PlanView) → Sound p → ((j : ℕ) → j < length p.ops → (operation_at p.ops j).projected ≤ p.allowed) → IsLentWithin p
lent_within p sound few k below = (sound.projections k below, few k below)

-- ---- names

own_name : (name used : List ℕ) (form : Form) → form ≡ Form.Input used → used ≡ name → reads_array name form ≡ true
own_name name used form is same = ap (reads_array name) is ∙ (bytes_eq-Decides used name).1 same

within : (nodes : List Node) (k : ℕ) (node : Node) → slice_get nodes k ≡ Some node → k < length nodes
within nodes k node at = elim ((slice_get_cases nodes k).1) [
  | inl (x, below, same, here) ↦ below
  | inr (past, none) ↦ cc
]

-- where no node reads the array with the output's name, each that is used has another
pub used_differs : (e : Expression) (name : List ℕ) → HasNoOwnInput e → IsUsed e name → name ≢ e.store_as
used_differs e name apart (node, (k, below, here), form) same =
    let reads : reads_array e.store_as (get_or e.nodes k node).form ≡ true =
    subst (λ (n : Node). reads_array e.store_as n.form ≡ true) (sym here) (own_name e.store_as name node.form form same) in
    true≢false (sym (list_any_at (λ (n : Node). reads_array e.store_as n.form) e.nodes k node below reads) ∙ apart)

-- and so has each that a live node uses
pub differs : (e : Expression) → HasNoOwnInput e → OutputDiffers e
differs e apart k name i =
    used_differs e name apart
    (i.node, (k, within e.nodes k i.node i.at, get_or_from_slice_get e.nodes k i.node i.node i.at), i.form)

-- ---- the output

-- in a complete run each element of a made array that is stored has a value
complete_value : (r : PlanRun) (env : Elements) (shown : Shown) (a : ℕ) (idx : List ℕ) → Sound r.plan → IsComplete r env shown → a < length r.plan.arrays → maker_at r.plan.arrays a ≢ None
    → is_inlined r.plan.arrays a ≡ false → IsInside (grid_at r.plan.arrays a).shape idx → (x : ℤ) × (plan_value r.plan env a idx ≡ Some x)
complete_value r env shown a idx sound complete within made stored inside =
    let g = grid_at r.plan.arrays a in
    let ok = grid_ok r.plan a sound within in
    let here = has_coordinate g idx ok inside in
    let (bytes, value, holds) = complete (Chunk (cell a (quotients idx g.chunk))) (record { within = within; made = made; stored = stored; coordinate = here }) in
    defined_at (layout_at r.plan.arrays a) (plan_value r.plan env a) (quotients idx g.chunk) idx bytes ok here value (lies_within g idx ok inside)

-- the laws of a plan's arrays and values
abbrev pub OutputLaw : Type 0
OutputLaw = (e : Expression) (infos : List NodeInfo) (inputs : List InputInfo) (options : Options) → IsLowerable e infos inputs options
    → IsOutput e infos (array_at (merged_plan_of e infos inputs options).arrays (merged_plan_of e infos inputs options).out)

abbrev pub InputLaw : Type 0
InputLaw = (e : Expression) (infos : List NodeInfo) (inputs : List InputInfo) (options : Options) (k : ℕ) (name : List ℕ) → IsLowerable e infos inputs options
    → IsLiveInput e k name → array_at (merged_plan_of e infos inputs options).arrays (input_place e name) ≡ input_array inputs name

abbrev pub ValueLaw : Type 0
ValueLaw = (e : Expression) (infos : List NodeInfo) (inputs : List InputInfo) (options : Options) (env : Elements) (elements : NodeElements) (idx : List ℕ) (x : ℤ)
    → HaveInputElements e infos inputs options env elements → IsInside (shape_of_node infos e.out) idx
    → plan_value (merged_plan_of e infos inputs options) env (merged_plan_of e infos inputs options).out idx ≡ Some x → x ≡ meaning_of e infos elements e.out idx

abbrev pub ElementsLaw : Type 0
ElementsLaw = (r : PlanRun) (env : Elements) (shown : Shown) (a : ℕ) (idx : List ℕ) (left : IsLeft r env shown) → IsComplete r env shown
    → a < length r.plan.arrays → maker_at r.plan.arrays a ≢ None → is_inlined r.plan.arrays a ≡ false → IsInside (grid_at r.plan.arrays a).shape idx
    → stored_inputs r.plan.arrays left.held a idx ≡ plan_value r.plan env a idx

-- the element of a live input node is that of its array
used_input : (job : Job) (entry : Contents) (idx name : List ℕ) (found : Option Node) (n : Node) (a : ArrayInfo) → found ≡ Some n → n.form ≡ Form.Input name
    → a ≡ input_array job.inputs.items name → used_element job entry idx found ≡ unwrap_or (stored_element (layout_view a.layout) a.prefix entry idx) (pos 0)
used_input job entry idx name found n a at is same = rw (at, is, same) refl

module _ (c : RunCase) (job : Job) (planned : HasPlan c.options job) (inputs : InputLaw) (output : OutputLaw) where
  elements_given : (entry : Contents) → (k : ℕ) (name idx : List ℕ) → IsLiveInput job.expr k name
      → elements_of job entry k idx ≡ unwrap_or (env_of c job entry (input_place job.expr name) idx) (pos 0)
  elements_given entry k name idx i =
      used_input job entry idx name (slice_get job.expr.nodes k) i.node (array_at (plan_in c job).arrays (input_place job.expr name)) i.at i.form
      (inputs job.expr job.types job.inputs.items c.options k name planned i)

  have_elements : (entry : Contents) (shown : Shown) → IsLeft (job_run c job) (env_of c job entry) shown
      → HaveInputElements job.expr job.types job.inputs.items c.options (env_of c job entry) (elements_of job entry)
  have_elements entry shown left = record { lowerable = planned; typed = left.typed; given = λ k name idx i inside. elements_given entry k name idx i }

  -- the output of a complete run is what the expression means
  pub meant : ValueLaw → ElementsLaw → (entry : Contents) (shown : Shown) → (left : IsLeft (job_run c job) (env_of c job entry) shown)
      → IsComplete (job_run c job) (env_of c job entry) shown → IsMeant job entry left.held
  meant value elements entry shown left complete idx inside =
      let is = output job.expr job.types job.inputs.items c.options planned in
      let a = (plan_in c job).out in
      let within = left.sound.out in
      let place : IsInside (grid_at (plan_in c job).arrays a).shape idx = subst (λ (l : Layout). IsInside l.grid.shape idx) (sym is.layout) inside in
      let out = out_stored (plan_in c job) left.sound in
      let (x, valued) = complete_value (job_run c job) (env_of c job entry) shown a idx left.sound complete within is.made out place in
      let means = value job.expr job.types job.inputs.items c.options (env_of c job entry) (elements_of job entry) idx x (have_elements entry shown left) inside valued in
      let stored = elements (job_run c job) (env_of c job entry) shown a idx left complete within is.made out place in
      stored_is (array_at (plan_in c job).arrays a) (out_layout job) job.expr.store_as left.held idx is.layout is.name ∙ stored ∙ valued ∙ ap Some means
    where
      stored_is : (a : ArrayInfo) (l : Layout) (name : List ℕ) (held : Contents) (idx : List ℕ) → a.layout ≡ l → a.prefix ≡ name
          → stored_element (layout_view l) name held idx ≡ stored_element (layout_view a.layout) a.prefix held idx
      stored_is a l name held idx same called = rw (← same, ← called) refl
