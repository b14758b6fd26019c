-- Two jobs of one text, over depots that hold the same inputs.
use Rattle.std.proofs.Common.{◌≡◌, ℕ, pos, List, Contains, Option, Some, None, Result, Ok, refl, sym, ap, ◌∙◌, subst}
use Rattle.std.specs.Prelude.{slice_get, string_bytes, unwrap_or}
use Rattle.std.proofs.lemmas.List.Elements.{Contains-get_or}
use Rattle.std.proofs.lemmas.Option.{slice_get_within, get_or_from_slice_get}
use Rattle.cu_expr.specs.Typing.{typed}
use Rattle.cu_expr.specs.declared.inputs.InputInfo.{InputInfo}
use Rattle.cu_form.specs.Expression.{Expression}
use Rattle.cu_form.specs.declared.expr.Node.{Node}
use Rattle.cu_form.specs.declared.form.Form.{Form}
use Rattle.cu_lower.specs.Parts.{made_layout}
use Rattle.cu_lower.specs.Premises.{expression_run as plan_run}
use Rattle.cu_lower.specs.declared.options.Options.{Options}
use Rattle.cu_node.specs.Info.{info_at}
use Rattle.cu_node.specs.declared.info.NodeInfo.{NodeInfo}
use Rattle.cu_op.specs.Layout.{layout_view}
use Rattle.cu_plan.specs.Plan.{merged_plan_of}
use Rattle.cu_read.specs.Read.{expression_of}
use Rattle.cu_run_law.specs.Pieces.{PlanRun}
use Rattle.cu_store.specs.Held.{Contents}
use Rattle.cu_store.specs.Steps.{Shown}
use Rattle.cu_zarr.specs.Metadata.{metadata_text}
use Rattle.cu_zarr.specs.Stored.{element_in}
use Rattle.cu_command.proofs.JobLemmas.{said_names, inputs_read}
use Rattle.cu_command.specs.Job.{IsJob}
use Rattle.cu_command.specs.declared.job.Job.{Job}
use Rattle.cu_top.specs.Quiet.{run_of_job}
use Rattle.cu_top.specs.Record.{record_text, assembled, inputs_text}
use Rattle.cu_top.specs.Versions.{StoresInputs, HoldSameChunks}
use Rattle.cu_expr.specs.Inputs.{layout_named}
use Rattle.cu_check.specs.Elements.{form_element, used_element, elements_of}

module _ (text : List ℕ) (a : Shown) (inputs : List InputInfo) (job : Job) (stores : StoresInputs a text inputs) (is_job : IsJob a text job) where
  same_inputs : inputs ≡ job.inputs.items
  same_inputs = inputs_read a stores.contents inputs job.inputs.items stores.told (stores.names ∙ said_names text job.expr is_job.said ∙ sym is_job.names) stores.held stores.calm is_job.inputs

one_value : {A E : Type 0} (r : Result A E) (x y : A) → r ≡ Ok x → r ≡ Ok y → x ≡ y
one_value r x y one other = cc

one_of : {A : Type 0} (o : Option A) (x y : A) → o ≡ Some x → o ≡ Some y → x ≡ y
one_of o x y one other = cc

-- what a run is made from
abbrev run_from : Options → Expression → List NodeInfo → List InputInfo → List ℕ → PlanRun
run_from options expr types inputs compact =
    plan_run expr (merged_plan_of expr types inputs options) (assembled options compact (inputs_text inputs)) (metadata_text (layout_view (made_layout (info_at types expr.out))))

made_from : (options : Options) (job : Job) → run_of_job options job ≡ run_from options job.expr job.types job.inputs.items (string_bytes job.compact)
unfolding record_text
made_from options job = refl

module _ (text : List ℕ) (a b : Shown) (inputs : List InputInfo) (one other : Job) (first : StoresInputs a text inputs) (second : StoresInputs b text inputs)
    (is_one : IsJob a text one) (is_other : IsJob b text other) where
  pub expr_same : one.expr ≡ other.expr
  expr_same = one_value (expression_of text) one.expr other.expr is_one.said is_other.said

  pub inputs_same : one.inputs.items ≡ other.inputs.items
  inputs_same = sym (same_inputs text a inputs one first is_one) ∙ same_inputs text b inputs other second is_other

  types_same : one.types ≡ other.types
  types_same =
      one_value (typed one.inputs.items one.expr) one.types other.types is_one.types
      (ap (λ (is : List InputInfo). typed is one.expr) inputs_same ∙ ap (typed other.inputs.items) expr_same ∙ is_other.types)

  compact_same : string_bytes one.compact ≡ string_bytes other.compact
  compact_same = one_of _ (string_bytes one.compact) (string_bytes other.compact) is_one.compact is_other.compact

  pub run_same : (options : Options) → run_of_job options one ≡ run_of_job options other
  run_same options =
      made_from options one
      ∙ ap (λ (e : Expression). run_from options e one.types one.inputs.items (string_bytes one.compact)) expr_same
      ∙ ap (λ (ts : List NodeInfo). run_from options other.expr ts one.inputs.items (string_bytes one.compact)) types_same
      ∙ ap (λ (is : List InputInfo). run_from options other.expr other.types is (string_bytes one.compact)) inputs_same
      ∙ ap (λ (t : List ℕ). run_from options other.expr other.types other.inputs.items t) compact_same
      ∙ sym (made_from options other)

-- ---- elements

there : (nodes : List Node) (k : ℕ) (node : Node) → slice_get nodes k ≡ Some node → Contains nodes node
there nodes k node at = subst (Contains nodes) (get_or_from_slice_get nodes k node node at) (Contains-get_or nodes k node (slice_get_within nodes k node at))

module _ (one other : Job) (held now : Contents) (nodes : one.expr ≡ other.expr) (inputs : one.inputs.items ≡ other.inputs.items) (chunks : HoldSameChunks one held now) where
  form_same : (idx : List ℕ) (node : Node) (form : Form) → Contains one.expr.nodes node → node.form ≡ form → form_element one held idx form ≡ form_element other now idx form
  form_same idx node (Form.Input name) listed is =
      rw (← inputs) (ap (λ (bytes : Option (List ℕ)). unwrap_or (element_in (layout_view (layout_named one.inputs.items name)) bytes idx) (pos 0)) (chunks name _ (node, listed, is)))
  form_same idx node form listed is = refl

  node_same : (idx : List ℕ) (node : Option Node) → ((n : Node) → node ≡ Some n → Contains one.expr.nodes n) → used_element one held idx node ≡ used_element other now idx node
  node_same idx None listed = refl
  node_same idx (Some node) listed = form_same idx node node.form (listed node refl) refl

  pub elements_same : (k : ℕ) (idx : List ℕ) → elements_of one held k idx ≡ elements_of other now k idx
  elements_same k idx = rw (← nodes) (node_same idx (slice_get one.expr.nodes k) (λ n at. there one.expr.nodes k n at))
