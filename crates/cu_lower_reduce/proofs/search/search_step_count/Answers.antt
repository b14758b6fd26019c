use Rattle.std.proofs.Common.{◌+◌, length, List, ap, sym, ◌∙◌}
use Rattle.cu_origin.specs.declared.axes.Axes.{Axes}
use Rattle.cu_tree.specs.Partials.{reduction_rounds}
use Rattle.cu_tree.specs.declared.round.Round.{Round}
use Rattle.cu_lower_reduce.proofs.Firsts.{search_count}
use Rattle.cu_lower_reduce.proofs.search.search_step_count.Goals as goal

pub returns-clause-count : goal.returns-clause-count
returns-clause-count c =
    ap (λ n. n + 1) (c.len.ensures.value ∙ ap (λ (rs : List Round). length rs) (c.reduction_rounds.ensures.rounds ∙ ap (λ (axes : Axes). reduction_rounds axes c.args.s.now.split_every c.args.x.now.from) c.sought_axes.ensures.axes)) ∙ sym (search_count c.args.s.now c.args.x.now)
