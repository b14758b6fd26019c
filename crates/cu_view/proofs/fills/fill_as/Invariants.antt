use Rattle.cu_view.proofs.Laid.{IsLaid}
use Rattle.cu_view.proofs.fills.fill_as.Given as goal

abbrev pub invariant-loop-p : goal.invariant-loop-p
invariant-loop-p l = IsLaid l.fn.dtype (λ p. l.fn.number) l.p l.fn.output l.output
