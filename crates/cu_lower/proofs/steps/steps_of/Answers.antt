use Rattle.std.proofs.Common.{rules, ◌≡◌, List, ℕ, ℤ, ap, sym, subst, ◌∙◌, of_z, to_z, w64}
use Rattle.std.proofs.lemmas.Int.{to_z-of_z}
use Rattle.cu_copy.specs.Copies.{in_chunks}
use Rattle.cu_form.specs.declared.args.Arg.{Arg}
use Rattle.cu_node.specs.Info.{info_at}
use Rattle.cu_node.specs.declared.info.NodeInfo.{NodeInfo}
use Rattle.cu_need.specs.Reduction.{array_of}
use Rattle.cu_lower_reduce.specs.Copies.{IsStaged}
use Rattle.cu_lower_reduce.specs.Cumulative.{IsCumulative}
use Rattle.cu_lower_reduce.specs.Grouped.{IsGrouped}
use Rattle.cu_lower_reduce.specs.Reductions.{IsReduction}
use Rattle.cu_lower_reduce.specs.Searches.{IsSearch}
use Rattle.cu_lower_reduce.specs.declared.copy.CopySetting.{CopySetting}
use Rattle.cu_lower_reduce.specs.declared.grouped.Grouped.{Grouped}
use Rattle.cu_lower.specs.Parts.{copying, cumulative_of, grouped_of, grouped_over, reduction_of, search_of}
use Rattle.cu_lower.specs.declared.options.Options.{Options}
use Rattle.cu_lower.proofs.NodeLaws.{can_copy, fitting_as}
use Rattle.cu_lower.proofs.steps.steps_of.Goals as goal

can_rechunk : (options : Options) (first : ℕ) (s : CopySetting) (i j : NodeInfo) (chunk : List ℕ) → s ≡ copying options first → i ≡ j → IsStaged (copying options first) (in_chunks j chunk) → IsStaged s (in_chunks i chunk)
can_rechunk options first s i j chunk setting is staged =
    subst (λ (y : CopySetting). IsStaged y (in_chunks i chunk)) (sym setting) (subst (λ (x : NodeInfo). IsStaged (copying options first) (in_chunks x chunk)) (sym is) staged)

pub own_need-need-requires-clause-operands : goal.own_need-need-requires-clause-operands
own_need-need-requires-clause-operands c = (can_copy c.args.infos.now c.args.options.now c.args.node c.args.form.now c.args.first c.requires.form).rechunks

pub rechunk_steps-requires-clause-array : goal.rechunk_steps-requires-clause-array
rechunk_steps-requires-clause-array c =
    let fits = fitting_as c.args.infos.now c.args.options.now c.args.node c.in-Rechunk.is c.requires.form in
    can_rechunk c.args.options.now c.args.first c.copying.result c.array_of-array.result (array_of c.args.infos.now c.in-Rechunk.args 0) (info_at c.args.infos.now c.args.node).chunk c.copying.ensures.setting
    (c.array_of-array.ensures ∙ ap (λ (args : List Arg). array_of c.args.infos.now args 0) c.as_slice-in-Rechunk.ensures) (fits c.args.first)

pub rechunk_steps-requires-in-Input-clause-array : goal.rechunk_steps-requires-in-Input-clause-array
rechunk_steps-requires-in-Input-clause-array c =
    let fits = fitting_as c.args.infos.now c.args.options.now c.args.node c.in-Input.is c.requires.form in
    can_rechunk c.args.options.now c.args.first c.copying-in-Input.result c.info_at.result (info_at c.args.infos.now c.args.node) (info_at c.args.infos.now c.args.node).chunk c.copying-in-Input.ensures.setting c.info_at.ensures
    (fits c.args.first)

pub reduction_steps-requires-clause-reduction : goal.reduction_steps-requires-clause-reduction
reduction_steps-requires-clause-reduction c =
    let fits = fitting_as c.args.infos.now c.args.options.now c.args.node c.in-Reduce.is c.requires.form in
    subst IsReduction
    (sym (c.reduction_of-x.ensures ∙ ap (λ args. reduction_of c.args.infos.now c.args.node c.in-Reduce.kind args c.in-Reduce.axes c.as_slice-ins.result.now) c.as_slice-in-Reduce.ensures))
    (fits c.as_slice-ins.result.now)

pub search_steps-requires-clause-search : goal.search_steps-requires-clause-search
search_steps-requires-clause-search c =
    let fits = fitting_as c.args.infos.now c.args.options.now c.args.node c.in-ArgPlace.is c.requires.form in
    subst IsSearch
    (sym (c.search_of-x.ensures ∙ ap (λ args. search_of c.args.infos.now c.args.node c.in-ArgPlace.least args c.in-ArgPlace.axis c.as_slice-ins.result.now) c.as_slice-in-ArgPlace.ensures))
    (fits c.as_slice-ins.result.now)

pub cumulative_steps-requires-clause-cumulative : goal.cumulative_steps-requires-clause-cumulative
cumulative_steps-requires-clause-cumulative c =
    let fits = fitting_as c.args.infos.now c.args.options.now c.args.node c.in-CumulativeSum.is c.requires.form in
    subst IsCumulative
    (sym (c.cumulative_of-x.ensures ∙ ap (λ args. cumulative_of c.args.infos.now c.args.node args c.in-CumulativeSum.axis c.as_slice-ins.result.now) c.as_slice-in-CumulativeSum.ensures))
    (fits c.as_slice-ins.result.now)

pub group_steps-requires-clause-grouped : goal.group_steps-requires-clause-grouped
group_steps-requires-clause-grouped c =
    let fits = fitting_as c.args.infos.now c.args.options.now c.args.node c.in-GroupBy.is c.requires.form in
    let read = c.in_ok-aligned-in-GroupBy.aligned.places.items in
    let axis : to_z w64 (of_z w64 c.in-GroupBy.axis) ≡ c.in-GroupBy.axis = to_z-of_z w64 c.in-GroupBy.axis (search rules) in
    subst (λ (x : Grouped). IsGrouped (grouped_over x read))
    (sym (c.grouped_of-x.ensures
    ∙ ap (λ (a : ℤ). grouped_of c.args.infos.now c.args.node c.in-GroupBy.least c.as_slice-in-GroupBy.result.now a c.in-GroupBy.groups) axis
    ∙ ap (λ args. grouped_of c.args.infos.now c.args.node c.in-GroupBy.least args c.in-GroupBy.axis c.in-GroupBy.groups) c.as_slice-in-GroupBy.ensures))
    (fits.0 read)
