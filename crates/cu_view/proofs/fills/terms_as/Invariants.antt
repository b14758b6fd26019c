use Rattle.std.proofs.Common.{◌+◌, pos, ◌+ℤ◌, ◌*ℤ◌}
use Rattle.cu_view.proofs.Laid.{IsLaid}
use Rattle.cu_view.proofs.fills.terms_as.Given as goal

abbrev pub invariant-loop-p : goal.invariant-loop-p
invariant-loop-p l = IsLaid l.fn.dtype (λ p. l.fn.start +ℤ pos (l.fn.first + p) *ℤ l.fn.step) l.p l.fn.output l.output
