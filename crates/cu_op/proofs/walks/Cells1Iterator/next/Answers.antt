use Rattle.std.proofs.Common.{List, drop, refl, sym, ap, ◌++◌, ◌∙◌, arith}
use Rattle.std.proofs.lemmas.List.{at_drop_all}
use Rattle.cu_op.specs.declared.cells.Cell.{Cell}
use Rattle.cu_op.specs.Walks.{cells_of_walks}
use Rattle.cu_op.proofs.Steps.{over_at, next_walk}
use Rattle.cu_op.proofs.walks.Cells1Iterator.next.Goals as goal

pub invariant_of-self : goal.invariant_of-self
invariant_of-self c = c.self.invariant

pub returns-in-Some-clause-steps : goal.returns-in-Some-clause-steps
returns-in-Some-clause-steps c =
    sym c.self.view_is ∙ ap (λ (cells : List Cell). cells ++ cells_of_walks c.self.inside.arrays.now (drop c.self.inside.at c.self.inside.walks.items)) c.in-Some.ensures

pub loop-at-init : goal.loop-at-init
loop-at-init c = record {
  at = refl;
  end = c.len-at-end.ensures.value;
  over = c.self.invariant.1;
  spent = c.in_default.ensures.1;
  left = sym c.self.view_is ∙ ap (λ (cells : List Cell). cells ++ cells_of_walks c.self.inside.arrays.now (drop c.self.inside.at c.self.inside.walks.items)) c.in_default.ensures.0;
}

pub invariant_of-self-in-loop-at : goal.invariant_of-self-in-loop-at
invariant_of-self-in-loop-at c = (omega arith, c.loop-at.invariant.over)

pub opened-cover-requires : goal.opened-cover-requires
opened-cover-requires c =
    over_at c.loop-at.self-inside.arrays.now c.loop-at.self-inside.walks.items c.loop-at.at c.index-deref-at.result c.loop-at.invariant.over (omega arith) (rw c.deref.ensures.0 at c.index-deref-at.is)

pub invariant_of-self-in-Some-taken : goal.invariant_of-self-in-Some-taken
invariant_of-self-in-Some-taken c = (omega arith, c.loop-at.invariant.over)

pub returns-in-Some-taken-clause-steps : goal.returns-in-Some-taken-clause-steps
returns-in-Some-taken-clause-steps c =
    c.loop-at.invariant.left
    ∙ next_walk c.loop-at.self-inside.arrays.now c.loop-at.self-inside.walks.items c.loop-at.at c.index-deref-at.result c.opened-cover.result _ (omega arith) (rw c.deref.ensures.0 at c.index-deref-at.is)
    c.opened-cover.ensures c.in-Some-taken.ensures

pub loop-at-preserved : goal.loop-at-preserved
loop-at-preserved c = record {
  at = refl;
  end = c.loop-at.invariant.end;
  over = c.loop-at.invariant.over;
  spent = c.in_default-taken.ensures.1;
  left = c.loop-at.invariant.left
      ∙ next_walk c.loop-at.self-inside.arrays.now c.loop-at.self-inside.walks.items c.loop-at.at c.index-deref-at.result c.opened-cover.result _ (omega arith) (rw c.deref.ensures.0 at c.index-deref-at.is)
      c.opened-cover.ensures c.in_default-taken.ensures.0;
}

pub returns-clause-steps : goal.returns-clause-steps
returns-clause-steps c =
    let behind = at_drop_all (cells_of_walks c.loop-at.self-inside.arrays.now) c.loop-at.self-inside.walks.items c.loop-at.at (omega arith) in
    (c.loop-at.invariant.left ∙ behind, rw (c.loop-at.invariant.spent, c.loop-at.invariant.at) behind)

pub bounds-deref-at : goal.bounds-deref-at
bounds-deref-at c = rw c.deref.ensures.0 (omega arith)

pub overflow_add-self : goal.overflow_add-self
overflow_add-self c = omega arith
