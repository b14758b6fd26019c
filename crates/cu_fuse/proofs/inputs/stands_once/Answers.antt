use Rattle.std.proofs.Common.{◌+◌, ap, sym, ◌∙◌, not, arith}
use Rattle.cu_op.specs.Numbers.{stands_in}
use Rattle.cu_fuse.proofs.Scanning.{once_where, once_nowhere, rest_taken, not_below}
use Rattle.cu_fuse.proofs.inputs.stands_once.Goals as goal

pub returns-then-place-numbers : goal.returns-then-place-numbers
returns-then-place-numbers c =
    let xs = c.args.numbers.now in
    let a = c.args.a in
    let k = c.number_in-place.result in
    ap not (c.stands_in.ensures ∙ ap (λ ys. stands_in ys a) (rest_taken xs (k + 1))) ∙ sym (once_where xs a k c.number_in-place.ensures.place c.if-place-numbers.true)

pub returns-else-place-numbers : goal.returns-else-place-numbers
returns-else-place-numbers c = not_below _ _ c.if-place-numbers.false ∙ sym (once_nowhere c.args.numbers.now c.args.a (let e = c.number_in-place.ensures.place in let l = c.if-place-numbers.false in omega (arith, e, l)))
