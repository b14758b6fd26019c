use Rattle.std.proofs.Common.{sym, subst}
use Rattle.cu_fold.specs.Levels.{leaf_levels}
use Rattle.cu_fold.specs.Taken.{TakesAll}
use Rattle.cu_fold.proofs.Runs.{run_results, row_results, runs_results, rows_results}
use Rattle.cu_fold.proofs.last.by_leaf.Goals as goal

pub returns-in-Run : goal.returns-in-Run
returns-in-Run c =
    subst (λ leaf. TakesAll (record { kind = c.args.kind; from = c.args.from; acc = c.args.acc }) (leaf_levels leaf) c.args.input.now c.args.out.now c.take_run.new.out) (sym c.in-Run.is)
    (run_results c.args.kind c.args.from c.args.acc c.in-Run.count c.args.input.now c.args.out.now c.take_run.new.out c.take_run.ensures)

pub returns-in-Row : goal.returns-in-Row
returns-in-Row c =
    subst (λ leaf. TakesAll (record { kind = c.args.kind; from = c.args.from; acc = c.args.acc }) (leaf_levels leaf) c.args.input.now c.args.out.now c.take_row.new.out) (sym c.in-Row.is)
    (row_results c.args.kind c.args.from c.args.acc c.in-Row.count c.args.input.now c.args.out.now c.take_row.new.out c.take_row.ensures)

pub returns-in-Runs : goal.returns-in-Runs
returns-in-Runs c =
    subst (λ leaf. TakesAll (record { kind = c.args.kind; from = c.args.from; acc = c.args.acc }) (leaf_levels leaf) c.args.input.now c.args.out.now c.take_runs.new.out) (sym c.in-Runs.is)
    (runs_results c.args.kind c.args.from c.args.acc c.in-Runs.count c.in-Runs.width c.args.input.now c.args.out.now c.take_runs.new.out c.take_runs.ensures)

pub returns-in-Rows : goal.returns-in-Rows
returns-in-Rows c =
    subst (λ leaf. TakesAll (record { kind = c.args.kind; from = c.args.from; acc = c.args.acc }) (leaf_levels leaf) c.args.input.now c.args.out.now c.take_rows.new.out) (sym c.in-Rows.is)
    (rows_results c.args.kind c.args.from c.args.acc c.in-Rows.count c.in-Rows.width c.args.input.now c.args.out.now c.take_rows.new.out c.take_rows.ensures.takes)
