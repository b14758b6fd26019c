use Rattle.std.proofs.Common.{◌≡◌, true, ap, sym, ◌∙◌, rules, length}
use Rattle.cu_typing_view.specs.Rearranged.{is_permutation}
use Rattle.cu_typing_view.proofs.MarkedAxes.{positive-permutation}
use Rattle.cu_typing_view.proofs.rearranged.type_permute.Goals as goal

pub within_limits-requires-clause-positive : goal.within_limits-requires-clause-positive
within_limits-requires-clause-positive c =
    let holds : c.is_permutation.result ≡ true = search rules in
    let named : is_permutation (length c.args.array.now.chunk) c.args.axes.now ≡ true =
    ap (λ n. is_permutation n c.args.axes.now) (c.requires.ranks ∙ sym c.rank.ensures.rank) ∙ (sym c.is_permutation.ensures ∙ holds) in
    rw c.permuted-2.ensures (positive-permutation c.args.axes.now c.args.array.now.chunk c.requires.positive named)
