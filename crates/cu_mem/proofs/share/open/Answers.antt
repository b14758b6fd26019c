use Rattle.std.proofs.Common.{ap, ◌∙◌}
use Rattle.cu_mem.proofs.share.open.Goals as goal

pub fill_all-requires-clause-promised : goal.fill_all-requires-clause-promised
fill_all-requires-clause-promised c key bytes made held = ap (λ p. p key) c.in_ok-yard.ensures.promise ∙ c.requires.held key bytes made held

pub returns-clause-fresh : goal.returns-clause-fresh
returns-clause-fresh c = (c.fill_all.ensures.kept.0 ∙ c.in_ok-yard.ensures.waits, (λ key. ap (λ landed. landed key) c.fill_all.ensures.kept.1 ∙ c.in_ok-yard.ensures.landed key))
