use Rattle.std.proofs.Common.{ℕ, ◌+◌, ◌*◌, ◌^◌, ◌≤◌, drop, sum_by, ap, ◌∙◌, arith}
use Rattle.cu_copy.specs.Copies.{rechunk_tasks, rechunk_cells}
use Rattle.cu_copy.specs.declared.copies.CopyCounts.{CopyCounts}
use Rattle.cu_need.proofs.LoopSteps.{more_summed, all_summed}
use Rattle.cu_need.proofs.copies.copies_counts.Goals as goal

few_more : (n own i : ℕ) → n ≤ i * 2 ^ 41 → own ≤ 2 ^ 41 → n + own ≤ (i + 1) * 2 ^ 41
few_more n own i few small = omega arith

pub loop-rechunk-preserved : goal.loop-rechunk-preserved
loop-rechunk-preserved c =
    let copies = c.args.copies.now in
    let i = c.loop-rechunk.rechunk-index in
    let item = c.rechunk-item.result in
    let own = c.rechunk_counts-own.result in
    let counts = c.rechunk_counts-own.ensures.counts in
    let known = c.loop-rechunk.invariant in
    record {
      few_tasks = few_more c.loop-rechunk.tasks own.tasks i known.few_tasks c.rechunk_counts-own.ensures.few_tasks;
      few_cells = few_more c.loop-rechunk.cells own.cells i known.few_cells c.rechunk_counts-own.ensures.few_cells;
      tasks =
          ap (λ n. (c.loop-rechunk.tasks + n) + sum_by (rechunk_tasks c.args.most) (drop (i + 1) copies)) (ap (λ (r : CopyCounts). r.tasks) counts ∙ ap (rechunk_tasks c.args.most) c.rechunk-item.is)
          ∙ more_summed (rechunk_tasks c.args.most) copies i item c.loop-rechunk.tasks (sum_by (rechunk_tasks c.args.most) copies) c.loop-rechunk-test.true known.tasks;
      cells =
          ap (λ n. (c.loop-rechunk.cells + n) + sum_by (rechunk_cells c.args.most) (drop (i + 1) copies)) (ap (λ (r : CopyCounts). r.cells) counts ∙ ap (rechunk_cells c.args.most) c.rechunk-item.is)
          ∙ more_summed (rechunk_cells c.args.most) copies i item c.loop-rechunk.cells (sum_by (rechunk_cells c.args.most) copies) c.loop-rechunk-test.true known.cells;
    }

pub returns-clause-tasks : goal.returns-clause-tasks
returns-clause-tasks c = all_summed (rechunk_tasks c.args.most) c.args.copies.now c.loop-rechunk.rechunk-index c.loop-rechunk.tasks (sum_by (rechunk_tasks c.args.most) c.args.copies.now) c.loop-rechunk-test.false c.loop-rechunk.invariant.tasks

pub returns-clause-cells : goal.returns-clause-cells
returns-clause-cells c = all_summed (rechunk_cells c.args.most) c.args.copies.now c.loop-rechunk.rechunk-index c.loop-rechunk.cells (sum_by (rechunk_cells c.args.most) c.args.copies.now) c.loop-rechunk-test.false c.loop-rechunk.invariant.cells
