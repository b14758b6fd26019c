use Rattle.std.proofs.Common.{◌↔◌, ℕ, sym, subst}
use Rattle.cu_view_box.specs.Way.{IsInInterval, IsRead}
use Rattle.cu_view_box.specs.declared.way.Way.{Way}
use Rattle.cu_view_box.proofs.way.Way.read_within.Goals as goal

pub returns-in-Fixed-clause-exact : goal.returns-in-Fixed-clause-exact
returns-in-Fixed-clause-exact c =
    subst (λ (way : Way). (t : ℕ) → IsInInterval c.fixed.result t ↔ IsRead way c.args.extent c.args.low c.args.high t) (sym c.in-Fixed.is) c.fixed.ensures.exact
