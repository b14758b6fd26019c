use Rattle.std.proofs.Common.{◌≡◌, ◌-◌, ◌∙◌, sym, None, Some, arith}
use Rattle.cu_shape.specs.Broadcast.{mismatch_of}
use Rattle.cu_shape.proofs.Broadcasts.{found, mismatch_is_last}
use Rattle.cu_shape.proofs.broadcasting.broadcast.Goals as goal

mismatch_found : (c : goal.Then-apart) → mismatch_of c.args.a.now c.args.b.now ≡ Some (c.loop-axis.axis - 1)
mismatch_found c =
    found c.args.a.now c.args.b.now c.max-rank.result c.loop-axis.axis (c.loop-axis.axis - 1) c.size_on-n.result c.size_on-m.result
    (omega arith) (omega arith) (omega arith) c.loop-axis.invariant.agree c.size_on-n.ensures c.size_on-m.ensures (sym c.if-apart.ensures)

pub returns-then-apart-clause-mismatch : goal.returns-then-apart-clause-mismatch
returns-then-apart-clause-mismatch c = (mismatch_found c, mismatch_is_last _ _ _ (mismatch_found c))

pub returns-then-apart-clause-fits : goal.returns-then-apart-clause-fits
returns-then-apart-clause-fits c = let m = mismatch_found c in (λ h. absurd (cc h), λ h. absurd (let w : Some (c.loop-axis.axis - 1) ≡ None = sym m ∙ h in cc w))
