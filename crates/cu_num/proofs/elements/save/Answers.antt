use Rattle.std.proofs.Common.{ap, ◌∙◌, take}
use Rattle.std.proofs.lemmas.Int.{to_z-of_z}
use Rattle.std.specs.Int.{w128}
use Rattle.cu_num.specs.Wrap.{residue, wrapped}
use Rattle.cu_num.specs.Element.{element_bytes}
use Rattle.cu_num.specs.Word.{word_of}
use Rattle.cu_num.proofs.Bytes.{IsSize-size_of}
use Rattle.cu_num.proofs.Masked.{passed}
use Rattle.cu_num.proofs.Saved.{saved}
use Rattle.cu_num.proofs.elements.save.Goals as goal

-- the bytes that the call copied are the lowest ones of the word
pub returns : goal.returns
unfolding element_bytes word_of
returns c = saved c.args.bytes.now _ c.args.at c.size-size.result _ _ (wrapped c.args.t c.args.x) (IsSize-size_of c.args.t) c.size-size.ensures
    (c.copy_from_slice.ensures.after ∙ ap (take _) c.to_le_bytes-word.ensures)
    (c.word.ensures ∙ ap (residue 64) (passed c.wrap.result _ (record { sfits = c.wrap.type_inv }) (c.wrap.ensures.value ∙ ap (wrapped c.args.t) (to_z-of_z w128 c.args.x c.ranges.x))))
