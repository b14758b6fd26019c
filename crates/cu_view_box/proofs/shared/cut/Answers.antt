use Rattle.std.proofs.Common.{◌≡◌, get_or, set, min, max, ap, ◌∙◌}
use Rattle.cu_view_box.proofs.Boxes.{within_cut}
use Rattle.cu_view_box.proofs.shared.cut.Goals as goal

pub returns-clause-exact : goal.returns-clause-exact
returns-clause-exact c = λ idx.
    let region = c.args.region.now in
    let lo : c.put.new.self ≡ set region.lo c.args.axis (max (get_or region.lo c.args.axis 0) c.args.from) =
    c.put.ensures ∙ ap (λ n. set region.lo c.args.axis n) (c.max.ensures ∙ ap (λ n. max n c.args.from) c.at.ensures) in
    let hi : c.put-2.new.self ≡ set region.hi c.args.axis (min (get_or region.hi c.args.axis 0) c.args.to) =
    c.put-2.ensures ∙ ap (λ n. set region.hi c.args.axis n) (c.min.ensures ∙ ap (λ n. min n c.args.to) c.at-2.ensures) in
    rw (lo, hi) (within_cut region.lo region.hi idx c.args.axis c.args.from c.args.to c.requires.rank c.requires.axis)
