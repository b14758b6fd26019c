use Rattle.std.proofs.Common.{◌≡◌, ap, ◌∙◌, arith, true, Some}
use Rattle.std.specs.List.{slice_get}
use Rattle.std.proofs.lemmas.Option.{slice_get-get_or}
use Rattle.cu_op.specs.declared.kernel.Instr.TheVariants.{Load, Const}
use Rattle.cu_kern.specs.declared.rows.RowLoad.TheVariants.{Nothing}
use Rattle.cu_kern.specs.Strips.{strip}
use Rattle.cu_kern.specs.Rows.{rows_before, loads_along}
use Rattle.cu_kern.proofs.RowResults.{if_some, if_some_of_three, literal_results, region_results, row_results}
use Rattle.cu_kern.proofs.arguments.found.Goals as goal

pub returns-in-Const : goal.returns-in-Const
returns-in-Const c =
    let earlier = c.args.earlier in
    let code = earlier.kernel.code.now in
    let r = rows_before code earlier.kernel.rows.now earlier.bytes.now earlier.number in
    let loads = loads_along earlier.kernel.inputs.lays.now earlier.kernel.inputs.ins.now earlier.kernel.inputs.dims.now earlier.range.from in
    let y = c.in-Const.field-0 in
    let is : slice_get code c.args.a ≡ Some (Const y) = slice_get-get_or code c.args.a _ (omega arith) ∙ ap Some c.in-Const.is in
    let own = slice_get-get_or earlier.kernel.rows.now c.args.a (record { dtype = c.args.kind; at = 0; kept = true; load = Nothing }) (omega arith) in
    if_some_of_three c.literal_strip.result _ _ _ _
    (λ s range bytes step. literal_results r loads earlier.range.count c.args.a s.step y _ c.args.kind s.bytes.now c.args.literal.now (omega arith) is own bytes step (omega arith) (c.requires.literal y is (range y c.in-Const.is)))
    c.literal_strip.ensures.range c.literal_strip.ensures.bytes c.literal_strip.ensures.step

pub returns-then-row : goal.returns-then-row
returns-then-row c =
    let earlier = c.args.earlier in
    let code = earlier.kernel.code.now in
    let r = rows_before code earlier.kernel.rows.now earlier.bytes.now earlier.number in
    let loads = loads_along earlier.kernel.inputs.lays.now earlier.kernel.inputs.ins.now earlier.kernel.inputs.dims.now earlier.range.from in
    let j = c.in-Load.j in
    let is : slice_get code c.args.a ≡ Some (Load j) = slice_get-get_or code c.args.a _ (omega arith) ∙ ap Some c.in-Load.is in
    if_some c.row_strip.result _ _ _
    (λ s places same. row_results r loads earlier.range.count c.args.a (Load j) _ c.args.kind (strip s.bytes.now s.step) (omega arith) is (slice_get-get_or earlier.kernel.rows.now c.args.a _ (omega arith))
    (λ y e. cc) c.if-row.true places same)
    c.row_strip.ensures.places c.row_strip.ensures.elements

pub returns-else-row : goal.returns-else-row
returns-else-row c =
    let earlier = c.args.earlier in
    let code = earlier.kernel.code.now in
    let r = rows_before code earlier.kernel.rows.now earlier.bytes.now earlier.number in
    let loads = loads_along earlier.kernel.inputs.lays.now earlier.kernel.inputs.ins.now earlier.kernel.inputs.dims.now earlier.range.from in
    let j = c.in-Load.j in
    let is : slice_get code c.args.a ≡ Some (Load j) = slice_get-get_or code c.args.a _ (omega arith) ∙ ap Some c.in-Load.is in
    if_some c.region_strip.result _ _ _
    (λ s places same. region_results r loads earlier.range.count c.args.a j _ c.args.kind (strip s.bytes.now s.step) (omega arith) is (slice_get-get_or earlier.kernel.rows.now c.args.a (record { dtype = c.args.kind; at = 0; kept = true; load = Nothing }) (omega arith)) places same)
    c.region_strip.ensures.places c.region_strip.ensures.elements

pub returns-then-row-2 : goal.returns-then-row-2
returns-then-row-2 c =
    let earlier = c.args.earlier in
    let code = earlier.kernel.code.now in
    let r = rows_before code earlier.kernel.rows.now earlier.bytes.now earlier.number in
    let loads = loads_along earlier.kernel.inputs.lays.now earlier.kernel.inputs.ins.now earlier.kernel.inputs.dims.now earlier.range.from in
    if_some c.row_strip-then-row-2.result _ _ _
    (λ s places same. row_results r loads earlier.range.count c.args.a _ _ c.args.kind (strip s.bytes.now s.step) (omega arith) (slice_get-get_or code c.args.a _ (omega arith))
    (slice_get-get_or earlier.kernel.rows.now c.args.a _ (omega arith)) c.in_default.not-Const c.if-row-2.true places same)
    c.row_strip-then-row-2.ensures.places c.row_strip-then-row-2.ensures.elements
