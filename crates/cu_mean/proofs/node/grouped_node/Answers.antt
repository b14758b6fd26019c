use Rattle.std.proofs.Common.{[], ◌∷◌, map, sym, ap, ◌∙◌, rules}
use Rattle.std.specs.Prelude.{slice_index}
use Rattle.std.specs.Int.{w64, w128}
use Rattle.std.specs.List.{range_with_len}
use Rattle.std.proofs.lemmas.Int.{to_z-of_z}
use Rattle.cu_num.specs.Wrap.{wrapped}
use Rattle.cu_shape.proofs.Places.{inside-length}
use Rattle.cu_form.specs.Form.{group_kind}
use Rattle.cu_node.specs.Info.{info_at}
use Rattle.cu_typing.specs.Joined.{arrays_of}
use Rattle.cu_expr.specs.Typing.{argument_of}
use Rattle.cu_semantics.specs.Along.{along}
use Rattle.cu_semantics.specs.Argument.{source_at, source_shape}
use Rattle.cu_semantics.specs.Index.{axis_in}
use Rattle.cu_reduce.specs.Labels.{grouped_at}
use Rattle.cu_mean.specs.Reading.{elements_in}
use Rattle.cu_mean.proofs.AlongTypes.{groups_type}
use Rattle.cu_mean.proofs.node.grouped_node.Goals as goal

pub group_at-requires-clause-integer : goal.group_at-requires-clause-integer
group_at-requires-clause-integer c e =
    let told = arrays_of (map (argument_of c.args.scope.now.infos.now) c.args.args.now) in
    let own = groups_type (group_kind c.args.least) c.args.axis c.args.groups (info_at told 0) (info_at told 1) c.args.scope.now.info.now c.requires.ready.typed in
    own.0 (sym c.group_kind.ensures ∙ e)

pub group_at-requires-clause-axis : goal.group_at-requires-clause-axis
group_at-requires-clause-axis c =
    let info = c.args.scope.now.info.now in
    let told = arrays_of (map (argument_of c.args.scope.now.infos.now) c.args.args.now) in
    let own = groups_type (group_kind c.args.least) c.args.axis c.args.groups (info_at told 0) (info_at told 1) info c.requires.ready.typed in
    let n = inside-length info.dims c.args.scope.now.idx.now c.requires.inside in
    let z = to_z-of_z w64 c.args.axis (search rules) in
    let r = c.rank.ensures.rank ∙ n in
    let is = c.axis_in-along.ensures.axis ∙ (λ i. axis_in (r i) (z i)) in
    rw (is, n) own.1

pub returns : goal.returns
returns c env k e =
    let infos = c.args.scope.now.infos.now in
    let idx = c.args.scope.now.idx.now in
    let plains = c.args.scope.now.plains.now in
    let s = c.as_slice-args.ensures in
    let d = sym e in
    let z = to_z-of_z w64 c.args.axis (search rules) in
    let a = c.axis_in-along.ensures.axis ∙ (λ i. axis_in (c.rank.ensures.rank i) (z i)) in
    let shape = c.source_dims-shape.ensures ∙ ap (λ args. source_shape infos args 0) s in
    let n = c.size_at-count.ensures ∙ (λ i. slice_index (shape i) (a i)) in
    let kind = c.group_kind.ensures in
    to_z-of_z w128 c.group_at.result (record { sfits = c.group_at.type_inv })
    ∙ c.group_at.ensures
    ∙ (λ i. wrapped (d i).dtype
    (grouped_at (kind i) (d i).dtype (λ p. source_at (elements_in plains) (s i) 1 (p ∷ []))
    (along (source_at (elements_in plains) (s i) 0) (a i) idx) (slice_index idx (a i)) (range_with_len 0 (n i))))
