use Rattle.std.proofs.Common.{◌+◌, ◌*◌, length, ◌∙◌, rules, to_z, of_z}
use Rattle.std.specs.Int.{w128}
use Rattle.std.proofs.lemmas.Int.{to_z-of_z}
use Rattle.cu_num.specs.Dtype.{size_of}
use Rattle.cu_pairs.proofs.BlockParts.{block_written, block_length}
use Rattle.cu_scan.proofs.RowSums.{same_room, line_rows, line_keeps}
use Rattle.cu_scan.proofs.blocks.scan_line.Goals as goal

pub returns-clause-rows : goal.returns-clause-rows
returns-clause-rows c =
    let acc = c.args.acc in
    let rows = c.args.rows in
    let size = c.size-size.result in
    let out = c.args.out.now in
    let end = same_room (c.args.at * rows + rows) size (size_of acc)
    (length out) c.size-size.ensures c.requires.out in
    let long = c.scan_run.ensures.same_length
    ∙ block_length c.args.at rows size (size_of acc) out c.size-size.ensures end in
    let w = block_written acc c.args.at rows size out c.scan_run.new.out c.size-size.ensures long end in
    let first = to_z w128 (of_z w128 c.given_number-first.result) in
    let is = to_z-of_z w128 c.given_number-first.result (search rules)
    ∙ c.given_number-first.ensures.value in
    line_rows c.args.t acc rows c.args.at c.args.input.now c.args.carry.now c.row_of.result.now c.scan_run.new.out _ first is c.row_of.ensures.elements c.scan_run.ensures.sums w.here

pub returns-clause-keeps : goal.returns-clause-keeps
returns-clause-keeps c =
    let acc = c.args.acc in
    let rows = c.args.rows in
    let size = c.size-size.result in
    let out = c.args.out.now in
    let end = same_room (c.args.at * rows + rows) size (size_of acc)
    (length out) c.size-size.ensures c.requires.out in
    line_keeps acc rows c.args.at size out c.scan_run.new.out c.size-size.ensures end
