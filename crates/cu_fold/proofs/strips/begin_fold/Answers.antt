use Rattle.cu_fold.proofs.StripsTaken.{begun}
use Rattle.cu_fold.proofs.strips.begin_fold.Goals as goal

pub returns : goal.returns
returns c at = begun c.args.fold.now c.fill.new.out _ at c.requires.out c.fill.ensures
