use Rattle.cu_box.specs.Rows.{AreRowsCopied}
use Rattle.cu_box.proofs.RowCopies.{rows_below}
use Rattle.cu_box.proofs.rows.copy_each.Given as goal

abbrev pub invariant-loop-row : goal.invariant-loop-row
invariant-loop-row l = AreRowsCopied l.size l.order (rows_below l.rows l.row) l.source l.fn.target l.target
