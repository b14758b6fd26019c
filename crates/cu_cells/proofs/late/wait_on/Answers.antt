use Rattle.std.proofs.Common.{sym, ap, ◌∙◌, ◌++◌, arith}
use Rattle.cu_cells.proofs.Lates.{behind_some, behind_none}
use Rattle.cu_cells.proofs.late.wait_on.Goals as goal

pub returns-then-l-gt0 : goal.returns-then-l-gt0
returns-then-l-gt0 c = c.push.ensures.items ∙ ap (λ ls. c.args.rest.now.items ++ ls) (sym (behind_some c.args.l.now c.args.l.now.wait c.if-l-gt0.true))

pub returns-else-l-gt0 : goal.returns-else-l-gt0
returns-else-l-gt0 c = behind_none c.args.l.now c.args.l.now.wait c.args.rest.now.items (omega (arith, c.if-l-gt0.false))
