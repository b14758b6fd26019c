use Rattle.cu_num.proofs.ElementBytes.{element_at-written_at_same, element_at-written_at_other}
use Rattle.cu_num.proofs.laws.element_write_law.Goals as goal

pub returns-clause-written : goal.returns-clause-written
returns-clause-written c e t bytes at x h = element_at-written_at_same e t bytes at x h

pub returns-clause-others : goal.returns-clause-others
returns-clause-others c e t bytes at other x apart h = element_at-written_at_other e t bytes at other x apart h
