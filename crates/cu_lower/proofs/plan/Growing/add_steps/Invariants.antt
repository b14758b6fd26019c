use Rattle.std.proofs.Common.{◌≡◌, ◌≤◌, ◌+◌, ◌^◌, All, length}
use Rattle.std.specs.Vec.Iter.{into_iter_items, into_iter_len}
use Rattle.cu_grid.specs.Grid.{IsGrid}
use Rattle.cu_lower_reduce.specs.Steps.{all_made, grid_of}
use Rattle.cu_lower.specs.Parts.{IsGrowing, with_steps}
use Rattle.cu_lower.proofs.plan.Growing.add_steps.Given as goal

-- what is grown, with the steps that are left, is what is grown with all steps
abbrev pub invariant-loop-step : goal.invariant-loop-step
invariant-loop-step l = record {
  rest : with_steps l.expr l.self (into_iter_items l.step-iterator) ≡ with_steps l.expr l.initial.self (into_iter_items l.initial.step-iterator);
  count : l.left ≡ length (into_iter_items l.step-iterator);
  long : into_iter_len l.step-iterator ≡ length (into_iter_items l.step-iterator);
  growing : IsGrowing l.expr l.self;
  nodes : length l.self.places ≤ 256;
  few : length l.self.ops + length (into_iter_items l.step-iterator) ≤ 2 ^ 20;
  grids : All (λ i. IsGrid (grid_of i)) (all_made (into_iter_items l.step-iterator));
}
