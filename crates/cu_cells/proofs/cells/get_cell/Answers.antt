use Rattle.std.proofs.Common.{◌∙◌}
use Rattle.cu_cells.proofs.Bytes.{one_more}
use Rattle.cu_cells.proofs.cells.get_cell.Goals as goal

pub loop-k-preserved : goal.loop-k-preserved
loop-k-preserved c = record {
  table = c.cell_word-word.ensures.same.0 ∙ c.loop-k.invariant.table;
  same = c.cell_word-word.ensures.same.1 ∙ c.loop-k.invariant.same;
  long = c.lay_word.ensures.length ∙ c.loop-k.invariant.long;
  read = one_more c.args.words.now.key c.args.first c.loop-k.k c.cell_word-word.result c.loop-k.buf c.lay_word.new.buf c.args.buf.now c.loop-k.invariant.long c.cell_word-word.ensures.value c.lay_word.ensures.before
      (λ j low inside. c.lay_word.ensures.laid j low) c.loop-k.invariant.read;
}
