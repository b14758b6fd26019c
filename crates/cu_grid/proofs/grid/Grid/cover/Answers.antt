use Rattle.std.proofs.Common.{◌≡◌, ◌∙◌, ap, subst}
use Rattle.cu_grid.specs.Grid.{RegularGrid, IsGrid}
use Rattle.cu_grid.specs.Cover.{covering}
use Rattle.cu_grid.proofs.Meeting.{exact_of, order_of}
use Rattle.cu_grid.proofs.grid.Grid.cover.Goals as goal

listed : (c : goal.After-cover_of) → c.cover_of.result ≡ covering c.args.self.now.chunk c.args.region.now.lo c.args.region.now.hi
listed c = c.cover_of.ensures ∙ ap (λ (g : RegularGrid). covering g.chunk c.args.region.now.lo c.args.region.now.hi) c.self.view_is

kept : (c : goal.After-cover_of) → IsGrid c.args.self.now
kept c = subst IsGrid c.self.view_is c.self.invariant

pub returns-clause-exactly : goal.returns-clause-exactly
returns-clause-exactly c = exact_of c.args.self.now c.args.region.now.lo c.args.region.now.hi c.cover_of.result (kept c) c.requires (listed c)

pub returns-clause-order : goal.returns-clause-order
returns-clause-order c = order_of c.args.self.now c.args.region.now.lo c.args.region.now.hi c.cover_of.result (kept c) c.requires (listed c)
