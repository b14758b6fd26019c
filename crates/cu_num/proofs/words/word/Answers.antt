use Rattle.cu_num.proofs.WordNumbers.{masked_word}
use Rattle.cu_num.proofs.words.word.Goals as goal

pub returns : goal.returns
returns c = masked_word c.args.x c.unsigned.result c.ranges.x c.unsigned.ensures
