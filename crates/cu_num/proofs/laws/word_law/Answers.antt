use Rattle.std.proofs.Common.{pos}
use Rattle.cu_num.specs.Word.{number_of}
use Rattle.cu_num.proofs.Wrapped.{InRange-wrapped}
use Rattle.cu_num.proofs.WordNumbers.{IsWord-word_of, number_of-IsWord, number_of-word_of, word_of-lt}
use Rattle.cu_num.proofs.laws.word_law.Goals as goal

pub returns-clause-word : goal.returns-clause-word
returns-clause-word c = IsWord-word_of

pub returns-clause-number : goal.returns-clause-number
returns-clause-number c = number_of-IsWord

pub returns-clause-cast : goal.returns-clause-cast
returns-clause-cast c = number_of-word_of

pub returns-clause-fits : goal.returns-clause-fits
returns-clause-fits c = word_of-lt

pub returns-clause-range : goal.returns-clause-range
unfolding number_of
returns-clause-range c t w = InRange-wrapped t (pos w)
