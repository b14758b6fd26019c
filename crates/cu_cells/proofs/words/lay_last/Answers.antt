use Rattle.std.proofs.Common.{◌+◌, ◌-◌, ap, ◌∙◌, take, get_or, get_or-take, length-take, length, arith}
use Rattle.cu_cells.proofs.Bytes.{laid_byte}
use Rattle.cu_cells.proofs.words.lay_last.Goals as goal

pub returns-clause-laid : goal.returns-clause-laid
returns-clause-laid c j inside =
    let n = length c.args.buf.now - c.args.at in
    let is = c.copy_from_slice.ensures.after ∙ ap (take n) c.to_le_bytes.ensures in
    laid_byte c.args.at _ c.args.buf.now c.copy_from_slice.new.self (c.args.at + n) j (omega (arith, c.requires)) (ap length is ∙ (length-take n _ ∙ omega (arith, c.requires))) (omega (arith, inside))
    ∙ (ap (λ bs. get_or bs j 0) is ∙ get_or-take n _ j 0 (omega (arith, inside)))
