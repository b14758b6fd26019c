use Rattle.cu_kern.specs.Strips.{strip}
use Rattle.cu_kern.specs.Rows.{rows_before, loads_along}
use Rattle.cu_kern.proofs.RowResults.{if_some, source_results}
use Rattle.cu_kern.proofs.arguments.found_unconverted.Goals as goal

pub returns : goal.returns
returns c =
    let earlier = c.args.earlier in
    let r = rows_before earlier.kernel.code.now earlier.kernel.rows.now earlier.bytes.now earlier.number in
    let loads = loads_along earlier.kernel.inputs.lays.now earlier.kernel.inputs.ins.now earlier.kernel.inputs.dims.now earlier.range.from in
    if_some c.found.result _ _ _
    (λ s have same. source_results r loads earlier.range.count c.args.a c.source_of-source.result c.args.origin c.args.t (strip s.bytes.now s.step) c.requires.promoted c.source_of-source.ensures have)
    c.found.ensures c.found.ensures
