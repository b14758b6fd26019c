use Rattle.std.proofs.Common.{ℤ, pos, ◌+ℤ◌, ap, w64}
use Rattle.std.proofs.lemmas.Int.{to_z-of_z}
use Rattle.cu_view.proofs.Cells.{lower_columns, upper_columns}
use Rattle.cu_view.proofs.triangles.columns.Goals as goal

pub returns-then-lower-clause-exactly : goal.returns-then-lower-clause-exactly
returns-then-lower-clause-exactly c = λ column p q.
    lower_columns c.args.lower c.args.k _ c.args.row column c.args.first c.args.end c.held.result c.if-lower.true (ap (λ (z : ℤ). (pos c.args.row +ℤ z) +ℤ pos 1) (to_z-of_z w64 c.args.k c.ranges.k)) p (c.held.ensures.below column p q)

pub returns-else-lower-clause-exactly : goal.returns-else-lower-clause-exactly
returns-else-lower-clause-exactly c = λ column p q.
    upper_columns c.args.lower c.args.k _ c.args.row column c.args.end c.held-else-lower.result c.if-lower.false (ap (λ (z : ℤ). (pos c.args.row +ℤ z) +ℤ pos 0) (to_z-of_z w64 c.args.k c.ranges.k)) q (c.held-else-lower.ensures.below column p q)
