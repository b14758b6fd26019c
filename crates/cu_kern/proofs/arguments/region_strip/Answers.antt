use Rattle.std.proofs.Common.{rules, ◌≡◌, ◌+◌, Some, subst, sym, ap, get_or, ◌∙◌, arith}
use Rattle.std.specs.Option.{option_map}
use Rattle.std.proofs.lemmas.Option.{slice_get-get_or}
use Rattle.cu_num.specs.declared.types.Dtype.{Dtype}
use Rattle.cu_shape.specs.Index.{index_at}
use Rattle.cu_kern.specs.Lays.{lay_element}
use Rattle.cu_kern.specs.Strips.{strip, strip_element}
use Rattle.cu_kern.specs.Rows.{loads_along}
use Rattle.cu_kern.proofs.arguments.region_strip.Goals as goal

pub returns-clause-elements : goal.returns-clause-elements
returns-clause-elements c = λ k below.
    let s = c.strip_from.result in
    let lays = c.args.inputs.lays.now in
    let ins = c.args.inputs.ins.now in
    let dims = c.args.inputs.dims.now in
    let from = c.args.range.from in
    let lay = get_or lays c.args.j c.index-inputs-j.result in
    let same : lay.dtype ≡ c.args.kind = search rules in
    let P : Dtype → Type 0 = λ d. loads_along lays ins dims from k c.args.j ≡ Some (strip_element d (strip s.bytes.now s.step) k) in
    let there = slice_get-get_or lays c.args.j c.index-inputs-j.result (omega arith) in
    let read = ap (option_map (λ l. lay_element l ins (index_at dims (from + k)))) there in
    let own : P lay.dtype = read ∙ ap Some (sym (c.strip_from.ensures.elements k below)) in
    subst P same own
