use Rattle.std.proofs.Common.{◌+◌, ap, ◌∙◌, get_or, length, arith}
use Rattle.cu_cells.proofs.Bytes.{laid_byte}
use Rattle.cu_cells.proofs.words.lay_word.Goals as goal

pub returns-clause-laid : goal.returns-clause-laid
returns-clause-laid c j low =
    let is = c.copy_from_slice.ensures.after ∙ c.to_le_bytes.ensures in
    laid_byte c.args.at _ c.args.buf.now c.copy_from_slice.new.self (c.args.at + 8) j (omega (arith, c.requires)) (ap length is ∙ omega arith) (omega arith)
    ∙ ap (λ bs. get_or bs j 0) is
