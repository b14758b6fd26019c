use Rattle.std.proofs.Common.{eq-eqb, subst}
use Rattle.cu_fuse.specs.Close.{fused_loading_once}
use Rattle.cu_fuse.specs.Copies.{copies_joined}
use Rattle.cu_fuse.specs.Inlining.{IsInlinedOf}
use Rattle.cu_lower.specs.Plan.{plan_of}
use Rattle.cu_plan.proofs.Choice.{is_inlined_of}
use Rattle.cu_plan.proofs.Merged.{names_apart, plan_inlined}
use Rattle.cu_plan.proofs.laws.merged_arrays_law.Goals as goal

pub returns : goal.returns
returns c =
    let lowered = c.plan_law.ensures in
    let arrays = c.array_law.ensures in
    let keeping = c.keeping_law.ensures in
    record {
      names = λ e infos inputs options ok.
          (keeping e infos inputs options ok).apart
          (names_apart e infos inputs options ok (arrays.output e infos inputs options ok) (arrays.order e infos inputs options ok) (lowered.sound e infos inputs options ok).array_count);
      first = λ e infos inputs options ok. (keeping e infos inputs options ok).first;
      inlined = λ e infos inputs options two.
          let joined = copies_joined (fused_loading_once (plan_of e infos inputs options)) in
          subst (IsInlinedOf joined) (plan_inlined e infos inputs options (eq-eqb options.fusion 2 two))
          (is_inlined_of joined);
    }
