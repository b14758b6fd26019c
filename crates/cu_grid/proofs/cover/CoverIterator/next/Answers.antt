use Rattle.std.proofs.Common.{◌≡◌, ◌+◌, ◌-◌, ◌∷◌, length, arith, sym, ◌∙◌, ap}
use Rattle.cu_shape.proofs.Places.{inside-length}
use Rattle.cu_shape.specs.Index.{index_at, sums}
use Rattle.cu_grid.specs.Cover.{coordinates_from}
use Rattle.cu_grid.proofs.Covers.{walk_more}
use Rattle.cu_grid.proofs.Regions.{inside-at}
use Rattle.cu_grid.proofs.cover.CoverIterator.next.Goals as goal

pub shifted-coord-requires-clause-ranks : goal.shifted-coord-requires-clause-ranks
shifted-coord-requires-clause-ranks c = c.self.invariant.ranks ∙ sym (inside-length _ _ c.index_of.ensures.inside)

pub shifted-coord-requires-clause-small : goal.shifted-coord-requires-clause-small
shifted-coord-requires-clause-small c = λ k h.
    let l = inside-length _ _ c.index_of.ensures.inside in
    let i = inside-at c.self.inside.spans c.index_of.result k c.index_of.ensures.inside (omega arith) in
    let s = c.self.invariant.coordinates k in
    omega arith

step : (c : goal.After-self-2-1) → c.args.self.now ≡ c.shifted-coord.result ∷ coordinates_from c.self.inside.corner c.self.inside.spans (c.self.inside.place + 1) (c.self.inside.left - 1)
step c =
    let e : c.shifted-coord.result ≡ sums c.self.inside.corner (index_at c.self.inside.spans c.self.inside.place) =
    c.shifted-coord.ensures ∙ ap (sums c.self.inside.corner) c.index_of.ensures.index in
    sym c.self.view_is ∙ (walk_more c.self.inside.corner c.self.inside.spans c.self.inside.place c.self.inside.left (omega arith)
    ∙ ap (λ x. x ∷ coordinates_from c.self.inside.corner c.self.inside.spans (c.self.inside.place + 1) (c.self.inside.left - 1)) (sym e))

pub returns-clause-steps : goal.returns-clause-steps
returns-clause-steps c = step c

pub returns-clause-goes : goal.returns-clause-goes
returns-clause-goes c =
    let e = ap length (step c) in
    record {
      on = λ _. (tt, tt, rw (step c) (omega arith));
      keeps = tt;
      rests = λ _. tt;
    }
