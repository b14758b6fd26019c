use Rattle.std.proofs.Common.{◌≡◌, ◌-◌, ℕ, List, length, ap, ◌∙◌, arith}
use Rattle.std.specs.Prelude.{slice_set}
use Rattle.cu_mean.proofs.InnerPlaces.{right_moved}
use Rattle.cu_mean.proofs.products.right_on.Goals as goal

pub returns : goal.returns
returns c a b idx e =
    let last : c.saturating_sub.result ≡ length c.args.right.now - 2 = let r = c.rank.ensures.rank in omega arith in
    c.changed.ensures ∙ ap (λ n. slice_set c.args.right.now n c.args.inner) last ∙ ap (λ (xs : List ℕ). slice_set xs (length xs - 2) c.args.inner) e ∙ right_moved a b idx c.args.inner
