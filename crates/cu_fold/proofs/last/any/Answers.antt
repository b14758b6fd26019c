use Rattle.std.proofs.Common.{sym, subst}
use Rattle.cu_num.specs.declared.types.Dtype.TheVariants.{Bool}
use Rattle.cu_num.specs.declared.folds.FoldKind.TheVariants.{Any}
use Rattle.cu_fold.specs.Levels.{leaf_levels}
use Rattle.cu_fold.specs.Taken.{TakesAll}
use Rattle.cu_fold.proofs.Runs.{run_results}
use Rattle.cu_fold.proofs.last.any.Goals as goal

pub returns-in-Run : goal.returns-in-Run
returns-in-Run c =
    subst (λ leaf. TakesAll (record { kind = Any; from = c.args.from; acc = Bool }) (leaf_levels leaf) c.args.input.now c.args.out.now c.take_any.new.out) (sym c.in-Run.is)
    (run_results Any c.args.from Bool c.in-Run.count c.args.input.now c.args.out.now c.take_any.new.out c.take_any.ensures)
