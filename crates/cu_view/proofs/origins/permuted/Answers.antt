use Rattle.std.proofs.Common.{◌∙◌, length, arith}
use Rattle.std.proofs.lemmas.List.FromFn.{fill_by_all}
use Rattle.cu_origin.specs.Pull.{permuted_on}
use Rattle.cu_view.proofs.origins.permuted.Goals as goal

pub returns : goal.returns
returns c =
    fill_by_all (permuted_on c.args.axes.now c.args.idx.now) c.loop-axis.read (length c.args.axes.now) 0 (c.loop-axis.invariant.ranks ∙ c.requires.rank)
    (λ k b. c.loop-axis.invariant.done k (omega arith))
