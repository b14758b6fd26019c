use Rattle.cu_lower.proofs.Lawful.{input, once, only, order, output}
use Rattle.cu_lower.proofs.laws.array_law.Goals as goal

pub returns : goal.returns
returns c = record {
  output = λ e infos inputs options ok. output e infos inputs options ok (record { pulls = c.pull_law.ensures; reductions = record { steps = c.reduction_law.ensures.steps; sizes = c.reduction_law.ensures.sizes; value = c.reduction_law.ensures.value }; searches = record { steps = c.search_law.ensures.steps; sizes = c.search_law.ensures.sizes; value = c.search_law.ensures.value }; products = record { steps = c.product_law.ensures.steps; sizes = c.product_law.ensures.sizes; value = c.product_law.ensures.value }; sums = record { steps = c.cumulative_law.ensures.steps; sizes = c.cumulative_law.ensures.sizes; value = c.cumulative_law.ensures.value }; groups = record { steps = c.grouped_law.ensures.steps; sizes = c.grouped_law.ensures.sizes; value = c.grouped_law.ensures.value }; rechunks = record { steps = c.rechunk_law.ensures.steps; last = c.rechunk_law.ensures.last; ends = c.rechunk_law.ensures.ends; sizes = c.rechunk_law.ensures.sizes; value = c.rechunk_law.ensures.value }; operands = record { steps = c.operands_law.ensures.steps; places = c.operands_law.ensures.places; given = c.operands_law.ensures.given; sizes = c.operands_law.ensures.sizes; value = c.operands_law.ensures.value } }) (record { closed = c.live_law.ensures.closed e ok.form; below = λ k. c.live_law.ensures.below e k ok.form });
  order = λ e infos inputs options ok. order e infos inputs options ok (record { pulls = c.pull_law.ensures; reductions = record { steps = c.reduction_law.ensures.steps; sizes = c.reduction_law.ensures.sizes; value = c.reduction_law.ensures.value }; searches = record { steps = c.search_law.ensures.steps; sizes = c.search_law.ensures.sizes; value = c.search_law.ensures.value }; products = record { steps = c.product_law.ensures.steps; sizes = c.product_law.ensures.sizes; value = c.product_law.ensures.value }; sums = record { steps = c.cumulative_law.ensures.steps; sizes = c.cumulative_law.ensures.sizes; value = c.cumulative_law.ensures.value }; groups = record { steps = c.grouped_law.ensures.steps; sizes = c.grouped_law.ensures.sizes; value = c.grouped_law.ensures.value }; rechunks = record { steps = c.rechunk_law.ensures.steps; last = c.rechunk_law.ensures.last; ends = c.rechunk_law.ensures.ends; sizes = c.rechunk_law.ensures.sizes; value = c.rechunk_law.ensures.value }; operands = record { steps = c.operands_law.ensures.steps; places = c.operands_law.ensures.places; given = c.operands_law.ensures.given; sizes = c.operands_law.ensures.sizes; value = c.operands_law.ensures.value } }) (record { closed = c.live_law.ensures.closed e ok.form; below = λ k. c.live_law.ensures.below e k ok.form });
  inputs = λ e infos inputs options k name ok is. input e infos inputs options ok (record { pulls = c.pull_law.ensures; reductions = record { steps = c.reduction_law.ensures.steps; sizes = c.reduction_law.ensures.sizes; value = c.reduction_law.ensures.value }; searches = record { steps = c.search_law.ensures.steps; sizes = c.search_law.ensures.sizes; value = c.search_law.ensures.value }; products = record { steps = c.product_law.ensures.steps; sizes = c.product_law.ensures.sizes; value = c.product_law.ensures.value }; sums = record { steps = c.cumulative_law.ensures.steps; sizes = c.cumulative_law.ensures.sizes; value = c.cumulative_law.ensures.value }; groups = record { steps = c.grouped_law.ensures.steps; sizes = c.grouped_law.ensures.sizes; value = c.grouped_law.ensures.value }; rechunks = record { steps = c.rechunk_law.ensures.steps; last = c.rechunk_law.ensures.last; ends = c.rechunk_law.ensures.ends; sizes = c.rechunk_law.ensures.sizes; value = c.rechunk_law.ensures.value }; operands = record { steps = c.operands_law.ensures.steps; places = c.operands_law.ensures.places; given = c.operands_law.ensures.given; sizes = c.operands_law.ensures.sizes; value = c.operands_law.ensures.value } }) (record { closed = c.live_law.ensures.closed e ok.form; below = λ k. c.live_law.ensures.below e k ok.form }) k name is;
  only = λ e infos inputs options a ok below none. only e infos inputs options ok (record { pulls = c.pull_law.ensures; reductions = record { steps = c.reduction_law.ensures.steps; sizes = c.reduction_law.ensures.sizes; value = c.reduction_law.ensures.value }; searches = record { steps = c.search_law.ensures.steps; sizes = c.search_law.ensures.sizes; value = c.search_law.ensures.value }; products = record { steps = c.product_law.ensures.steps; sizes = c.product_law.ensures.sizes; value = c.product_law.ensures.value }; sums = record { steps = c.cumulative_law.ensures.steps; sizes = c.cumulative_law.ensures.sizes; value = c.cumulative_law.ensures.value }; groups = record { steps = c.grouped_law.ensures.steps; sizes = c.grouped_law.ensures.sizes; value = c.grouped_law.ensures.value }; rechunks = record { steps = c.rechunk_law.ensures.steps; last = c.rechunk_law.ensures.last; ends = c.rechunk_law.ensures.ends; sizes = c.rechunk_law.ensures.sizes; value = c.rechunk_law.ensures.value }; operands = record { steps = c.operands_law.ensures.steps; places = c.operands_law.ensures.places; given = c.operands_law.ensures.given; sizes = c.operands_law.ensures.sizes; value = c.operands_law.ensures.value } }) (record { closed = c.live_law.ensures.closed e ok.form; below = λ k. c.live_law.ensures.below e k ok.form }) a below none;
  once = λ e infos inputs options a b ok la lb na nb same.
      once e infos inputs options ok (record { pulls = c.pull_law.ensures; reductions = record { steps = c.reduction_law.ensures.steps; sizes = c.reduction_law.ensures.sizes; value = c.reduction_law.ensures.value }; searches = record { steps = c.search_law.ensures.steps; sizes = c.search_law.ensures.sizes; value = c.search_law.ensures.value }; products = record { steps = c.product_law.ensures.steps; sizes = c.product_law.ensures.sizes; value = c.product_law.ensures.value }; sums = record { steps = c.cumulative_law.ensures.steps; sizes = c.cumulative_law.ensures.sizes; value = c.cumulative_law.ensures.value }; groups = record { steps = c.grouped_law.ensures.steps; sizes = c.grouped_law.ensures.sizes; value = c.grouped_law.ensures.value }; rechunks = record { steps = c.rechunk_law.ensures.steps; last = c.rechunk_law.ensures.last; ends = c.rechunk_law.ensures.ends; sizes = c.rechunk_law.ensures.sizes; value = c.rechunk_law.ensures.value }; operands = record { steps = c.operands_law.ensures.steps; places = c.operands_law.ensures.places; given = c.operands_law.ensures.given; sizes = c.operands_law.ensures.sizes; value = c.operands_law.ensures.value } }) (record { closed = c.live_law.ensures.closed e ok.form; below = λ k. c.live_law.ensures.below e k ok.form }) a b la lb na nb same;
}
