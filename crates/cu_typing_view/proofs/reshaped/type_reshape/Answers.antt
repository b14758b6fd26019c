use Rattle.std.proofs.Common.{◌≡◌, ◌∙◌, true, Err, ap, sym, rules}
use Rattle.cu_shape.specs.Index.{product}
use Rattle.cu_typing_view.specs.Reshaped.{can_hold}
use Rattle.cu_typing_view.proofs.Exceeded.{reshape_limit}
use Rattle.cu_typing_view.proofs.reshaped.type_reshape.Goals as goal

pub returns-then-shape-gt6-clause-value : goal.returns-then-shape-gt6-clause-value
returns-then-shape-gt6-clause-value c =
    let held : c.can_hold.result ≡ true = search rules in
    let holds : can_hold (product c.args.array.now.dims) c.args.shape.now ≡ true =
    ap (λ n. can_hold n c.args.shape.now) (sym c.elements_of-count.ensures.value) ∙ (sym c.can_hold.ensures ∙ held) in
    ap Err c.fault_at.ensures ∙ sym (reshape_limit c.args.array.now c.args.shape.now holds c.if-shape-gt6.true)
