use Rattle.std.proofs.Common.{◌≡◌, ℤ, pos, true, subst, arith}
use Rattle.std.specs.Prelude.{int_lt}
use Rattle.std.specs.Int.{w128}
use Rattle.std.proofs.lemmas.Int.{to_z-of_z}
use Rattle.cu_semantics.specs.Index.{natural}
use Rattle.cu_mean.proofs.IndexEntries.{longer, outside_big, natural_big}
use Rattle.cu_mean.proofs.indexing.push_number.Goals as goal

pub returns-then-rank-eq-MOST_AXES-clause-outside : goal.returns-then-rank-eq-MOST_AXES-clause-outside
returns-then-rank-eq-MOST_AXES-clause-outside c rest = longer c.args.read.now (natural c.args.number) rest (omega arith)

pub returns-then-number-gt-MOST_NUMBER-clause-outside : goal.returns-then-number-gt-MOST_NUMBER-clause-outside
returns-then-number-gt-MOST_NUMBER-clause-outside c rest =
    outside_big c.args.read.now (natural c.args.number) rest
    (natural_big c.args.number (subst (λ (z : ℤ). int_lt (pos 18446744073709551615) z ≡ true) (to_z-of_z w128 c.args.number c.ranges.number) c.if-number-gt-MOST_NUMBER.true))
