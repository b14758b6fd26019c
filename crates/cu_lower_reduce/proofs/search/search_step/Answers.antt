use Rattle.std.proofs.Common.{◌*◌, ◌≤◌, ◌^◌, subst, ◌∙◌, arith}
use Rattle.cu_num.specs.Dtype.{size_of}
use Rattle.cu_num.specs.declared.types.Dtype.{Dtype}
use Rattle.cu_shape.specs.Index.{product}
use Rattle.cu_lower_reduce.proofs.Firsts.{same_size, value_room, merges_reduction, search_behind, search_count}
use Rattle.cu_lower_reduce.proofs.search.search_step.Goals as goal

pub first_partial-values-requires-clause-bytes : goal.first_partial-values-requires-clause-bytes
first_partial-values-requires-clause-bytes c =
    let h = c.requires.search in
    rw (c.sought_axes-axes.ensures.axes, same_size _ c.args.x.now.from c.args.x.now.made h.from.ranks h.result) (value_room c.args.x.now h)

pub first_partial-places-requires-clause-bytes : goal.first_partial-places-requires-clause-bytes
first_partial-places-requires-clause-bytes c =
    let h = c.requires.search in
    let b : product c.args.x.now.made.chunk * size_of c.args.x.now.made.dtype ≤ 2 ^ 28 = h.made.bytes in
    rw (c.sought_axes-axes.ensures.axes, same_size _ c.args.x.now.from c.args.x.now.made h.from.ranks h.result) (subst (λ (t : Dtype). product c.args.x.now.made.chunk * size_of t ≤ 2 ^ 28) h.places b)

pub pair_step-requires-clause-values : goal.pair_step-requires-clause-values
pair_step-requires-clause-values c =
    rw (c.first_partial-values.ensures.partial, c.as_slice-else-at-eq0.ensures.value, c.reduction_rounds-rounds.ensures.rounds)
    (merges_reduction c.args.x.now.from.dtype c.sought_axes-axes.result c.args.s.now.split_every c.args.x.now.from c.requires.setting.several c.requires.search.from)

pub pair_step-requires-clause-places : goal.pair_step-requires-clause-places
pair_step-requires-clause-places c =
    rw (c.first_partial-places.ensures.partial, c.as_slice-else-at-eq0.ensures.value, c.reduction_rounds-rounds.ensures.rounds)
    (merges_reduction _ c.sought_axes-axes.result c.args.s.now.split_every c.args.x.now.from c.requires.setting.several c.requires.search.from)

pub pair_step-requires-clause-within : goal.pair_step-requires-clause-within
pair_step-requires-clause-within c =
    let n = search_count c.args.s.now c.args.x.now in
    rw (c.as_slice-else-at-eq0.ensures.value, c.reduction_rounds-rounds.ensures.rounds, c.sought_axes-axes.ensures.axes) (let w = c.requires.within in omega (arith, n, w))

pub returns-else-at-eq0 : goal.returns-else-at-eq0
returns-else-at-eq0 c =
    search_behind c.args.s.now c.args.x.now c.args.at c.sought_axes-axes.result c.first_partial-values.result c.first_partial-places.result c.as_slice-else-at-eq0.result.now c.pair_step.result (omega arith)
    c.sought_axes-axes.ensures.axes c.first_partial-values.ensures.partial c.first_partial-places.ensures.partial
    (c.as_slice-else-at-eq0.ensures.value ∙ c.reduction_rounds-rounds.ensures.rounds) c.pair_step.ensures
