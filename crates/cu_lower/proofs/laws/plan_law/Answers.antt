use Rattle.cu_lower.proofs.Attained.{attained}
use Rattle.cu_lower.proofs.Lawful.{of_node, named}
use Rattle.cu_lower.proofs.Counted as counted
use Rattle.cu_lower.proofs.Soundness as soundness
use Rattle.cu_lower.proofs.laws.plan_law.Goals as goal

pub returns : goal.returns
returns c = record {
  sound = λ e infos inputs options ok. soundness.sound e infos inputs options ok (record { pulls = c.pull_law.ensures; reductions = record { steps = c.reduction_law.ensures.steps; sizes = c.reduction_law.ensures.sizes; value = c.reduction_law.ensures.value }; searches = record { steps = c.search_law.ensures.steps; sizes = c.search_law.ensures.sizes; value = c.search_law.ensures.value }; products = record { steps = c.product_law.ensures.steps; sizes = c.product_law.ensures.sizes; value = c.product_law.ensures.value }; sums = record { steps = c.cumulative_law.ensures.steps; sizes = c.cumulative_law.ensures.sizes; value = c.cumulative_law.ensures.value }; groups = record { steps = c.grouped_law.ensures.steps; sizes = c.grouped_law.ensures.sizes; value = c.grouped_law.ensures.value }; rechunks = record { steps = c.rechunk_law.ensures.steps; last = c.rechunk_law.ensures.last; ends = c.rechunk_law.ensures.ends; sizes = c.rechunk_law.ensures.sizes; value = c.rechunk_law.ensures.value }; operands = record { steps = c.operands_law.ensures.steps; places = c.operands_law.ensures.places; given = c.operands_law.ensures.given; sizes = c.operands_law.ensures.sizes; value = c.operands_law.ensures.value } }) (c.live_law.ensures.closed e ok.form);
  stored = λ e infos inputs options ok. soundness.all_stored e infos inputs options ok (record { pulls = c.pull_law.ensures; reductions = record { steps = c.reduction_law.ensures.steps; sizes = c.reduction_law.ensures.sizes; value = c.reduction_law.ensures.value }; searches = record { steps = c.search_law.ensures.steps; sizes = c.search_law.ensures.sizes; value = c.search_law.ensures.value }; products = record { steps = c.product_law.ensures.steps; sizes = c.product_law.ensures.sizes; value = c.product_law.ensures.value }; sums = record { steps = c.cumulative_law.ensures.steps; sizes = c.cumulative_law.ensures.sizes; value = c.cumulative_law.ensures.value }; groups = record { steps = c.grouped_law.ensures.steps; sizes = c.grouped_law.ensures.sizes; value = c.grouped_law.ensures.value }; rechunks = record { steps = c.rechunk_law.ensures.steps; last = c.rechunk_law.ensures.last; ends = c.rechunk_law.ensures.ends; sizes = c.rechunk_law.ensures.sizes; value = c.rechunk_law.ensures.value }; operands = record { steps = c.operands_law.ensures.steps; places = c.operands_law.ensures.places; given = c.operands_law.ensures.given; sizes = c.operands_law.ensures.sizes; value = c.operands_law.ensures.value } }) (c.live_law.ensures.closed e ok.form);
  needs = λ e infos inputs options j ok below. of_node e infos inputs options ok (record { pulls = c.pull_law.ensures; reductions = record { steps = c.reduction_law.ensures.steps; sizes = c.reduction_law.ensures.sizes; value = c.reduction_law.ensures.value }; searches = record { steps = c.search_law.ensures.steps; sizes = c.search_law.ensures.sizes; value = c.search_law.ensures.value }; products = record { steps = c.product_law.ensures.steps; sizes = c.product_law.ensures.sizes; value = c.product_law.ensures.value }; sums = record { steps = c.cumulative_law.ensures.steps; sizes = c.cumulative_law.ensures.sizes; value = c.cumulative_law.ensures.value }; groups = record { steps = c.grouped_law.ensures.steps; sizes = c.grouped_law.ensures.sizes; value = c.grouped_law.ensures.value }; rechunks = record { steps = c.rechunk_law.ensures.steps; last = c.rechunk_law.ensures.last; ends = c.rechunk_law.ensures.ends; sizes = c.rechunk_law.ensures.sizes; value = c.rechunk_law.ensures.value }; operands = record { steps = c.operands_law.ensures.steps; places = c.operands_law.ensures.places; given = c.operands_law.ensures.given; sizes = c.operands_law.ensures.sizes; value = c.operands_law.ensures.value } }) (record { closed = c.live_law.ensures.closed e ok.form; below = λ k. c.live_law.ensures.below e k ok.form }) j below;
  names = λ e infos inputs options recorded metadata ok differs.
      named e infos inputs options ok (record { pulls = c.pull_law.ensures; reductions = record { steps = c.reduction_law.ensures.steps; sizes = c.reduction_law.ensures.sizes; value = c.reduction_law.ensures.value }; searches = record { steps = c.search_law.ensures.steps; sizes = c.search_law.ensures.sizes; value = c.search_law.ensures.value }; products = record { steps = c.product_law.ensures.steps; sizes = c.product_law.ensures.sizes; value = c.product_law.ensures.value }; sums = record { steps = c.cumulative_law.ensures.steps; sizes = c.cumulative_law.ensures.sizes; value = c.cumulative_law.ensures.value }; groups = record { steps = c.grouped_law.ensures.steps; sizes = c.grouped_law.ensures.sizes; value = c.grouped_law.ensures.value }; rechunks = record { steps = c.rechunk_law.ensures.steps; last = c.rechunk_law.ensures.last; ends = c.rechunk_law.ensures.ends; sizes = c.rechunk_law.ensures.sizes; value = c.rechunk_law.ensures.value }; operands = record { steps = c.operands_law.ensures.steps; places = c.operands_law.ensures.places; given = c.operands_law.ensures.given; sizes = c.operands_law.ensures.sizes; value = c.operands_law.ensures.value } }) (record { closed = c.live_law.ensures.closed e ok.form; below = λ k. c.live_law.ensures.below e k ok.form }) recorded metadata differs;
  counts = λ e infos inputs options ok. record {
    tasks = soundness.tasks_all e infos inputs options ok (record { pulls = c.pull_law.ensures; reductions = record { steps = c.reduction_law.ensures.steps; sizes = c.reduction_law.ensures.sizes; value = c.reduction_law.ensures.value }; searches = record { steps = c.search_law.ensures.steps; sizes = c.search_law.ensures.sizes; value = c.search_law.ensures.value }; products = record { steps = c.product_law.ensures.steps; sizes = c.product_law.ensures.sizes; value = c.product_law.ensures.value }; sums = record { steps = c.cumulative_law.ensures.steps; sizes = c.cumulative_law.ensures.sizes; value = c.cumulative_law.ensures.value }; groups = record { steps = c.grouped_law.ensures.steps; sizes = c.grouped_law.ensures.sizes; value = c.grouped_law.ensures.value }; rechunks = record { steps = c.rechunk_law.ensures.steps; last = c.rechunk_law.ensures.last; ends = c.rechunk_law.ensures.ends; sizes = c.rechunk_law.ensures.sizes; value = c.rechunk_law.ensures.value }; operands = record { steps = c.operands_law.ensures.steps; places = c.operands_law.ensures.places; given = c.operands_law.ensures.given; sizes = c.operands_law.ensures.sizes; value = c.operands_law.ensures.value } }) (c.live_law.ensures.closed e ok.form);
    cells = counted.cells_all e infos inputs options ok (record { pulls = c.pull_law.ensures; reductions = record { steps = c.reduction_law.ensures.steps; sizes = c.reduction_law.ensures.sizes; value = c.reduction_law.ensures.value }; searches = record { steps = c.search_law.ensures.steps; sizes = c.search_law.ensures.sizes; value = c.search_law.ensures.value }; products = record { steps = c.product_law.ensures.steps; sizes = c.product_law.ensures.sizes; value = c.product_law.ensures.value }; sums = record { steps = c.cumulative_law.ensures.steps; sizes = c.cumulative_law.ensures.sizes; value = c.cumulative_law.ensures.value }; groups = record { steps = c.grouped_law.ensures.steps; sizes = c.grouped_law.ensures.sizes; value = c.grouped_law.ensures.value }; rechunks = record { steps = c.rechunk_law.ensures.steps; last = c.rechunk_law.ensures.last; ends = c.rechunk_law.ensures.ends; sizes = c.rechunk_law.ensures.sizes; value = c.rechunk_law.ensures.value }; operands = record { steps = c.operands_law.ensures.steps; places = c.operands_law.ensures.places; given = c.operands_law.ensures.given; sizes = c.operands_law.ensures.sizes; value = c.operands_law.ensures.value } }) (c.live_law.ensures.closed e ok.form);
  };
  attained = λ e infos inputs options k node ok m. attained e infos inputs options ok (record { pulls = c.pull_law.ensures; reductions = record { steps = c.reduction_law.ensures.steps; sizes = c.reduction_law.ensures.sizes; value = c.reduction_law.ensures.value }; searches = record { steps = c.search_law.ensures.steps; sizes = c.search_law.ensures.sizes; value = c.search_law.ensures.value }; products = record { steps = c.product_law.ensures.steps; sizes = c.product_law.ensures.sizes; value = c.product_law.ensures.value }; sums = record { steps = c.cumulative_law.ensures.steps; sizes = c.cumulative_law.ensures.sizes; value = c.cumulative_law.ensures.value }; groups = record { steps = c.grouped_law.ensures.steps; sizes = c.grouped_law.ensures.sizes; value = c.grouped_law.ensures.value }; rechunks = record { steps = c.rechunk_law.ensures.steps; last = c.rechunk_law.ensures.last; ends = c.rechunk_law.ensures.ends; sizes = c.rechunk_law.ensures.sizes; value = c.rechunk_law.ensures.value }; operands = record { steps = c.operands_law.ensures.steps; places = c.operands_law.ensures.places; given = c.operands_law.ensures.given; sizes = c.operands_law.ensures.sizes; value = c.operands_law.ensures.value } }) (c.live_law.ensures.closed e ok.form) k node m;
}
