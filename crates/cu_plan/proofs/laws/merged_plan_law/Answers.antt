use Rattle.std.proofs.Common.{◌≡◌, ◌∙◌, inl, inr, ◌==◌, List, refl, sym}
use Rattle.cu_expr.specs.declared.inputs.InputInfo.{InputInfo}
use Rattle.cu_form.specs.Expression.{Expression}
use Rattle.cu_lower.specs.declared.options.Options.{Options}
use Rattle.cu_node.specs.declared.info.NodeInfo.{NodeInfo}
use Rattle.cu_op.proofs.Members.{bool_cases}
use Rattle.cu_plan.specs.Plan.{merged_plan_of}
use Rattle.cu_plan.proofs.Merged.{elements_before, merged_input, merged_names, merged_only, merged_output, merged_value}
use Rattle.cu_plan.proofs.laws.merged_plan_law.Goals as goal

allowed_same : (e : Expression) (infos : List NodeInfo) (inputs : List InputInfo) (options : Options) → (merged_plan_of e infos inputs options).allowed ≡ options.allowed
unfolding merged_plan_of
allowed_same e infos inputs options = elim (bool_cases (options.fusion == 2)) [ inl t ↦ rw t refl | inr f ↦ rw f refl ]

pub returns : goal.returns
returns c =
    let lowered = c.plan_law.ensures in
    let arrays = c.array_law.ensures in
    let values = c.value_law.ensures in
    let keeping = c.keeping_law.ensures in
    record {
      sound = λ e infos inputs options ok. (keeping e infos inputs options ok).sound;
      needs = λ e infos inputs options j ok below. (keeping e infos inputs options ok).needs j below;
      memory = λ e infos inputs options. allowed_same e infos inputs options;
      names = λ e infos inputs options recorded metadata ok differs.
          merged_names e infos inputs options ok (arrays.output e infos inputs options ok) (arrays.order e infos inputs options ok)
          (merged_plan_of e infos inputs options) (keeping e infos inputs options ok) recorded metadata (lowered.names e infos inputs options recorded metadata ok differs);
      output = λ e infos inputs options ok.
          merged_output e infos inputs options ok (arrays.output e infos inputs options ok) (arrays.order e infos inputs options ok)
          (merged_plan_of e infos inputs options) (keeping e infos inputs options ok);
      inputs = λ e infos inputs options k name ok live.
          merged_input e infos inputs options ok (arrays.output e infos inputs options ok) (arrays.order e infos inputs options ok)
          (merged_plan_of e infos inputs options) (keeping e infos inputs options ok) (λ i q l. arrays.inputs e infos inputs options i q ok l) k name live;
      only = λ e infos inputs options a ok below none.
          merged_only e infos inputs options ok (arrays.output e infos inputs options ok) (arrays.order e infos inputs options ok)
          (merged_plan_of e infos inputs options) (keeping e infos inputs options ok) (λ i l m. arrays.only e infos inputs options i ok l m) a below none;
      equal = λ e infos inputs options env elements idx x have inside is.
          let ok = have.lowerable in
          let output = arrays.output e infos inputs options ok in
          let order = arrays.order e infos inputs options ok in
          let kept = keeping e infos inputs options ok in
          let live = (c.live_law.ensures.closed e ok.form).stored in
          values.equal e infos inputs options env elements e.out idx x (elements_before e infos inputs options ok output order kept env elements have) live inside
          (sym (merged_value e infos inputs options ok output order (merged_plan_of e infos inputs options) kept env idx inside) ∙ is);
      defined = λ e infos inputs options env elements idx have there inside.
          let ok = have.lowerable in
          let output = arrays.output e infos inputs options ok in
          let order = arrays.order e infos inputs options ok in
          let kept = keeping e infos inputs options ok in
          merged_value e infos inputs options ok output order (merged_plan_of e infos inputs options) kept env idx inside
          ∙ values.result e infos inputs options env elements idx (elements_before e infos inputs options ok output order kept env elements have) there inside;
    }
