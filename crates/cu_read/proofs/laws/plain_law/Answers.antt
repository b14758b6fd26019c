use Rattle.cu_read.proofs.NoFloats.{read_has_no_float}
use Rattle.cu_read.proofs.laws.plain_law.Goals as goal

pub returns : goal.returns
returns c text e d says reads = read_has_no_float text e d says reads
