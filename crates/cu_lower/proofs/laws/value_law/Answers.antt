use Rattle.cu_lower.proofs.Lawful.{equal, defined}
use Rattle.cu_lower.proofs.laws.value_law.Goals as goal

pub returns : goal.returns
returns c = record {
  equal = λ e infos inputs options env elements k idx x have live inside is.
      equal e infos inputs options env elements have (record { closed = c.live_law.ensures.closed e have.lowerable.form; below = λ j. c.live_law.ensures.below e j have.lowerable.form }) c.range_law.ensures.values (record { pulls = c.pull_law.ensures; reductions = record { steps = c.reduction_law.ensures.steps; sizes = c.reduction_law.ensures.sizes; value = c.reduction_law.ensures.value }; searches = record { steps = c.search_law.ensures.steps; sizes = c.search_law.ensures.sizes; value = c.search_law.ensures.value }; products = record { steps = c.product_law.ensures.steps; sizes = c.product_law.ensures.sizes; value = c.product_law.ensures.value }; sums = record { steps = c.cumulative_law.ensures.steps; sizes = c.cumulative_law.ensures.sizes; value = c.cumulative_law.ensures.value }; groups = record { steps = c.grouped_law.ensures.steps; sizes = c.grouped_law.ensures.sizes; value = c.grouped_law.ensures.value }; rechunks = record { steps = c.rechunk_law.ensures.steps; last = c.rechunk_law.ensures.last; ends = c.rechunk_law.ensures.ends; sizes = c.rechunk_law.ensures.sizes; value = c.rechunk_law.ensures.value }; operands = record { steps = c.operands_law.ensures.steps; places = c.operands_law.ensures.places; given = c.operands_law.ensures.given; sizes = c.operands_law.ensures.sizes; value = c.operands_law.ensures.value } }) k idx x live inside is;
  defined = λ e infos inputs options env elements k idx have there live inside.
      defined e infos inputs options env elements have (record { closed = c.live_law.ensures.closed e have.lowerable.form; below = λ j. c.live_law.ensures.below e j have.lowerable.form }) c.range_law.ensures.values (record { pulls = c.pull_law.ensures; reductions = record { steps = c.reduction_law.ensures.steps; sizes = c.reduction_law.ensures.sizes; value = c.reduction_law.ensures.value }; searches = record { steps = c.search_law.ensures.steps; sizes = c.search_law.ensures.sizes; value = c.search_law.ensures.value }; products = record { steps = c.product_law.ensures.steps; sizes = c.product_law.ensures.sizes; value = c.product_law.ensures.value }; sums = record { steps = c.cumulative_law.ensures.steps; sizes = c.cumulative_law.ensures.sizes; value = c.cumulative_law.ensures.value }; groups = record { steps = c.grouped_law.ensures.steps; sizes = c.grouped_law.ensures.sizes; value = c.grouped_law.ensures.value }; rechunks = record { steps = c.rechunk_law.ensures.steps; last = c.rechunk_law.ensures.last; ends = c.rechunk_law.ensures.ends; sizes = c.rechunk_law.ensures.sizes; value = c.rechunk_law.ensures.value }; operands = record { steps = c.operands_law.ensures.steps; places = c.operands_law.ensures.places; given = c.operands_law.ensures.given; sizes = c.operands_law.ensures.sizes; value = c.operands_law.ensures.value } }) there k idx live inside;
  result = λ e infos inputs options env elements idx have there inside.
      defined e infos inputs options env elements have (record { closed = c.live_law.ensures.closed e have.lowerable.form; below = λ j. c.live_law.ensures.below e j have.lowerable.form }) c.range_law.ensures.values (record { pulls = c.pull_law.ensures; reductions = record { steps = c.reduction_law.ensures.steps; sizes = c.reduction_law.ensures.sizes; value = c.reduction_law.ensures.value }; searches = record { steps = c.search_law.ensures.steps; sizes = c.search_law.ensures.sizes; value = c.search_law.ensures.value }; products = record { steps = c.product_law.ensures.steps; sizes = c.product_law.ensures.sizes; value = c.product_law.ensures.value }; sums = record { steps = c.cumulative_law.ensures.steps; sizes = c.cumulative_law.ensures.sizes; value = c.cumulative_law.ensures.value }; groups = record { steps = c.grouped_law.ensures.steps; sizes = c.grouped_law.ensures.sizes; value = c.grouped_law.ensures.value }; rechunks = record { steps = c.rechunk_law.ensures.steps; last = c.rechunk_law.ensures.last; ends = c.rechunk_law.ensures.ends; sizes = c.rechunk_law.ensures.sizes; value = c.rechunk_law.ensures.value }; operands = record { steps = c.operands_law.ensures.steps; places = c.operands_law.ensures.places; given = c.operands_law.ensures.given; sizes = c.operands_law.ensures.sizes; value = c.operands_law.ensures.value } }) there e.out idx
      (c.live_law.ensures.closed e have.lowerable.form).stored inside;
}
