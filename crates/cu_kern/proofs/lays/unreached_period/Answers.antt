use Rattle.std.proofs.Common.{arith}
use Rattle.cu_kern.proofs.Stretched.{unreached}
use Rattle.cu_kern.proofs.lays.unreached_period.Goals as goal

pub returns-clause-period : goal.returns-clause-period
returns-clause-period c = unreached c.args.shape.now c.args.dims.now 18446744073709551615 (omega (arith, c.requires.small))
