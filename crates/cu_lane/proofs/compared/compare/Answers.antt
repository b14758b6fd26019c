use Rattle.std.proofs.Common.{◌∙◌, ap, sym, get_or}
use Rattle.cu_lane.specs.Compared.{bias_of, compared}
use Rattle.cu_lane.proofs.Ordered.{place_compared, bias_of_others}
use Rattle.cu_lane.proofs.compared.compare.Goals as goal

pub returns-in-Uint64 : goal.returns-in-Uint64
returns-in-Uint64 c = λ k x y b g h.
    let v = get_or c.args.x.now k 0 in
    let w = get_or c.args.y.now k 0 in
    place_compared c.args.order c.args.t v w _ x y (c.each_compared.ensures k b ∙ ap (λ n. compared c.args.order n v w) (c.bias.ensures ∙ ap bias_of (sym c.in-Uint64.is))) g h

pub returns-in_default : goal.returns-in_default
returns-in_default c = λ k x y b g h.
    let v = get_or c.args.x.now k 0 in
    let w = get_or c.args.y.now k 0 in
    place_compared c.args.order c.args.t v w _ x y
    (c.each_compared-in_default.ensures k b ∙ ap (λ n. compared c.args.order n v w) (c.bias-in_default.ensures ∙ sym (bias_of_others c.args.t c.in_default.not-Uint64))) g h
