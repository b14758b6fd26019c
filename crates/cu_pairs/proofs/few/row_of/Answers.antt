use Rattle.std.proofs.Common.{length, inl, inr, sym, ap, ◌∙◌, arith}
use Rattle.std.specs.Int.{w128, cast_signed, cast_unsigned}
use Rattle.std.proofs.lemmas.Bool.{cases_eq}
use Rattle.cu_pairs.specs.Columns.{column_of}
use Rattle.cu_pairs.proofs.FewColumns.{column_fits, column_small}
use Rattle.cu_pairs.proofs.Parts.{kept}
use Rattle.cu_pairs.proofs.few.row_of.Goals as goal

pub load-requires : goal.load-requires
load-requires c = column_fits c.args.t c.args.rows.width c.args.column c.loop-row.row c.args.count (length c.args.rows.bytes.now) c.requires.column (omega (arith, c.loop-row-test.true)) c.requires.rows

pub overflow_mul-row : goal.overflow_mul-row
overflow_mul-row c =
    let small = column_small c.args.t c.args.rows.width c.args.column c.loop-row.row c.args.count (length c.args.rows.bytes.now) c.requires.column (omega (arith, c.loop-row-test.true)) c.requires.rows in
    let number = small.1 in
    omega arith

pub overflow_add-row : goal.overflow_add-row
overflow_add-row c =
    let small = column_small c.args.t c.args.rows.width c.args.column c.loop-row.row c.args.count (length c.args.rows.bytes.now) c.requires.column (omega (arith, c.loop-row-test.true)) c.requires.rows in
    let number = small.1 in
    omega arith

pub returns-then-load-x-clause-before : goal.returns-then-load-x-clause-before
returns-then-load-x-clause-before c = λ k a b e. c.loop-row.invariant k a b (e ∙ sym (kept c.args.x c.ranges.x))

pub returns-then-load-x-clause-found : goal.returns-then-load-x-clause-found
returns-then-load-x-clause-found c = λ b.
    sym c.load.ensures.value ∙ sym (kept c.load.result (record { sfits = c.load.type_inv })) ∙ ap (cast_signed w128) c.if-load-x.true ∙ kept c.args.x c.ranges.x

pub loop-row-preserved : goal.loop-row-preserved
loop-row-preserved c = λ k a b e.
    elim (cases_eq k c.loop-row.row) [
      | inl here ↦
          let own = column_of c.args.t c.args.rows.width c.args.rows.bytes.now c.args.column in
          c.if-load-x.false (ap (cast_unsigned w128) (c.load.ensures.value ∙ ap own (sym here) ∙ e ∙ kept c.args.x c.ranges.x))
      | inr other ↦ c.loop-row.invariant k a (omega (arith, other)) e
    ]

pub returns-clause-before : goal.returns-clause-before
returns-clause-before c = λ k a b e. c.loop-row.invariant k a (let past = c.loop-row-test.false in omega arith) (e ∙ sym (kept c.args.x c.ranges.x))
