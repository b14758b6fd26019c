use Rattle.std.proofs.Common.{◌≡◌, ap, ◌∙◌}
use Rattle.std.specs.Int.{w128, cast_signed, cast_unsigned}
use Rattle.cu_num.specs.Wrap.{wrapped}
use Rattle.cu_num.specs.Word.{number_of}
use Rattle.cu_num.proofs.WordNumbers.{number_of-IsWord}
use Rattle.cu_num.proofs.Masked.{passed}
use Rattle.cu_num.proofs.words.number.Goals as goal

-- the answer is the word wrapped
value : (c : goal.After-wrap) → cast_signed w128 (cast_unsigned w128 c.wrap.result) ≡ number_of c.args.t c.args.w
unfolding number_of
value c = passed c.wrap.result _ (record { sfits = c.wrap.type_inv }) (c.wrap.ensures.value ∙ ap (wrapped c.args.t) (passed c.from.result _ (record { sfits = c.from.type_inv }) c.from.ensures))

pub returns-clause-value : goal.returns-clause-value
returns-clause-value c = value c

pub returns-clause-exact : goal.returns-clause-exact
returns-clause-exact c x h = value c ∙ number_of-IsWord c.args.t c.args.w x h
