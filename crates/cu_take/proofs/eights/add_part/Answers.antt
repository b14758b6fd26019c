use Rattle.std.proofs.Common.{◌≡◌, ◌+◌, length, arith}
use Rattle.cu_take.specs.Taken.{elements_at_places, column_places}
use Rattle.cu_take.proofs.Sums.{takes_sum, number_fits, elements_in_range, column_length}
use Rattle.cu_take.proofs.eights.add_part.Goals as goal

pub returns-clause-takes : goal.returns-clause-takes
returns-clause-takes c j b =
    let from = c.args.from in
    let input = c.args.input.now in
    let places = column_places c.args.place c.args.step 8 j in
    let xs = elements_at_places from input places in
    let long : length xs ≡ 8 = column_length from input c.args.place c.args.step 8 j in
    takes_sum c.args.acc c.args.narrow c.args.out.now c.take_row.new.out c.add_columns.new.out
    128 (c.args.q + j) 32 j xs c.requires.acc c.requires.narrow
    (c.requires.sums xs (omega (arith, long)) (elements_in_range from input places))
    (number_fits c.args.narrow j b c.requires.few_bytes)
    (c.add_columns.ensures.takes j b)
    (c.take_row.ensures.takes j b)
