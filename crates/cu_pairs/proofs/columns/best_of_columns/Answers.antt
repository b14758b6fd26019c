use Rattle.std.proofs.Common.{◌≡◌, refl, subst, arith}
use Rattle.cu_pairs.specs.Columns.{table, HasBests}
use Rattle.cu_pairs.proofs.columns.best_of_columns.Goals as goal

pub loop-row-init : goal.loop-row-init
loop-row-init c = record {
  values_length = refl;
  places_length = refl;
  done = record { column = λ k b some. absurd (omega arith) };
}

pub returns : goal.returns
returns c =
    let rows = c.args.rows in
    let all : c.loop-row.row ≡ c.args.count = omega arith in
    subst (λ m. HasBests c.args.least (table c.args.t rows.width rows.bytes.now rows.first rows.places.now) m c.loop-row.values c.loop-row.places) all c.loop-row.invariant.done
