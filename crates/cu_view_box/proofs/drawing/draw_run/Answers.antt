use Rattle.std.proofs.Common.{◌≡◌, ℕ, refl, sym, subst, arith, rules}
use Rattle.cu_view_box.specs.Drawn.{IsRunIn, AreDrawn, AreOthersUndrawn}
use Rattle.cu_view_box.proofs.Drawn.{drawn_on, undrawn_on}
use Rattle.cu_view_box.proofs.drawing.draw_run.Goals as goal

pub loop-first-init : goal.loop-first-init
loop-first-init c = record {
  same_length = refl;
  low = omega arith;
  high = c.requires.run.order;
  drawn = λ x a b w. absurd (omega arith);
  others = λ q off. refl;
}

pub draw_stretch-requires-clause-run : goal.draw_stretch-requires-clause-run
draw_stretch-requires-clause-run c = subst (λ (n : ℕ). IsRunIn c.args.drawing.now.source.now c.args.drawing.now.to.now c.args.run n) (sym c.loop-first.invariant.same_length) c.requires.run

pub loop-first-preserved : goal.loop-first-preserved
loop-first-preserved c =
    let low = c.loop-first.invariant.low in
    let later = c.stretch_at-stretch.ensures.later in
    let within = c.stretch_at-stretch.ensures.within in
    let limit = c.limit.ensures.within in
    record {
      same_length = search rules;
      low = omega (arith, low, later);
      high = omega (arith, within, limit);
      drawn = drawn_on c.args.drawing.now.source.now c.args.drawing.now.from.now c.args.drawing.now.to.now c.args.drawing.now.bytes.now c.args.run c.args.run.first c.loop-first.first c.stretch_at-stretch.result.end
          c.loop-first.output c.draw_stretch.new.output (omega arith) low c.loop-first.invariant.drawn c.draw_stretch.ensures.drawn c.draw_stretch.ensures.others;
      others = undrawn_on c.args.drawing.now.source.now c.args.drawing.now.from.now c.args.drawing.now.to.now c.args.run c.args.run.first c.loop-first.first c.stretch_at-stretch.result.end
          c.args.output.now c.loop-first.output c.draw_stretch.new.output low (omega (arith, later)) c.loop-first.invariant.others c.draw_stretch.ensures.others;
    }

pub returns-clause-drawn : goal.returns-clause-drawn
returns-clause-drawn c =
    let high = c.loop-first.invariant.high in
    let all : c.loop-first.first ≡ c.args.run.end = omega (arith, high) in
    subst (λ (n : ℕ). AreDrawn c.args.drawing.now.source.now c.args.drawing.now.from.now c.args.drawing.now.bytes.now c.args.drawing.now.to.now c.args.run c.args.run.first n c.loop-first.output) all
    c.loop-first.invariant.drawn

pub returns-clause-others : goal.returns-clause-others
returns-clause-others c =
    let high = c.loop-first.invariant.high in
    let all : c.loop-first.first ≡ c.args.run.end = omega (arith, high) in
    subst (λ (n : ℕ). AreOthersUndrawn c.args.drawing.now.source.now c.args.drawing.now.from.now c.args.drawing.now.to.now c.args.run c.args.run.first n c.args.output.now c.loop-first.output) all
    c.loop-first.invariant.others
