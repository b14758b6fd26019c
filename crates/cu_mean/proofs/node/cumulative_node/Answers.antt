use Rattle.std.proofs.Common.{map, sym, ap, ◌∙◌}
use Rattle.std.specs.Int.{w128}
use Rattle.std.proofs.lemmas.Int.{to_z-of_z}
use Rattle.cu_num.specs.Wrap.{wrapped}
use Rattle.cu_shape.proofs.Places.{inside-length}
use Rattle.cu_node.specs.Info.{info_at}
use Rattle.cu_typing.specs.Joined.{arrays_of}
use Rattle.cu_expr.specs.Typing.{argument_of}
use Rattle.cu_semantics.specs.Along.{line_axis, sum_up_to}
use Rattle.cu_semantics.specs.Argument.{source_at}
use Rattle.cu_mean.specs.Reading.{elements_in}
use Rattle.cu_mean.proofs.AlongTypes.{cumulative_type}
use Rattle.cu_mean.proofs.node.cumulative_node.Goals as goal

pub sum_up_to-requires-clause-axis : goal.sum_up_to-requires-clause-axis
sum_up_to-requires-clause-axis c =
    let info = c.args.scope.now.info.now in
    let told = arrays_of (map (argument_of c.args.scope.now.infos.now) c.args.args.now) in
    let own = cumulative_type c.args.axis (info_at told 0) info c.requires.ready.typed in
    let n = inside-length info.dims c.args.scope.now.idx.now c.requires.inside in
    let is = c.line_axis-along.ensures ∙ ap (λ r. line_axis r c.args.axis) (c.rank.ensures.rank ∙ n) in
    rw (is, n) own.1

pub returns : goal.returns
returns c env k e =
    let s = c.as_slice-args.ensures in
    let d = sym e in
    let a = c.line_axis-along.ensures ∙ ap (λ r. line_axis r c.args.axis) c.rank.ensures.rank in
    to_z-of_z w128 c.sum_up_to.result (record { sfits = c.sum_up_to.type_inv })
    ∙ c.sum_up_to.ensures
    ∙ (λ i. wrapped (d i).dtype (sum_up_to (source_at (elements_in c.args.scope.now.plains.now) (s i) 0) (a i) c.args.scope.now.idx.now))
