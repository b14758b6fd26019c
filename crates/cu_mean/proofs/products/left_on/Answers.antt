use Rattle.std.proofs.Common.{◌≡◌, ◌-◌, ℕ, List, length, ap, ◌∙◌, arith}
use Rattle.std.specs.Prelude.{slice_set}
use Rattle.cu_mean.proofs.InnerPlaces.{left_moved}
use Rattle.cu_mean.proofs.products.left_on.Goals as goal

pub returns : goal.returns
returns c a b idx e =
    let last : c.rank.result - 1 ≡ length c.args.left.now - 1 = let r = c.rank.ensures.rank in omega arith in
    c.changed.ensures ∙ ap (λ n. slice_set c.args.left.now n c.args.inner) last ∙ ap (λ (xs : List ℕ). slice_set xs (length xs - 1) c.args.inner) e ∙ left_moved a b idx c.args.inner
