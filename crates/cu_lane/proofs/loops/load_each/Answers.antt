use Rattle.std.proofs.Common.{arith, ap, ◌∙◌}
use Rattle.cu_num.specs.Element.{element_at}
use Rattle.cu_num.specs.Word.{word_of, IsWord}
use Rattle.cu_num.specs.declared.layout.Endian.TheVariants.{Little}
use Rattle.cu_num.proofs.ElementBytes.{InRange-element_at}
use Rattle.cu_lane.proofs.Words.{is_word, kept, one_more}
use Rattle.cu_lane.proofs.loops.load_each.Goals as goal

pub loop-at-preserved : goal.loop-at-preserved
loop-at-preserved c =
    one_more (λ k w. IsWord c.args.t w (element_at Little c.args.t c.args.bytes.now k)) c.loop-at.out c.loop-at.at c.word.result (omega arith) c.loop-at.invariant
    (is_word c.args.t c.word.result _ (c.word.ensures ∙ ap word_of (kept c.load.result (record { sfits = c.load.type_inv }) ∙ c.load.ensures.value)) (InRange-element_at Little c.args.t c.args.bytes.now c.loop-at.at))
