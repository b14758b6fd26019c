use Rattle.std.proofs.Common.{◌||◌, get_or, sym, ◌∙◌}
use Rattle.std.proofs.lemmas.List.Folds.{list_any_more}
use Rattle.cu_fold.specs.SetBytes.{is_set}
use Rattle.cu_fold.proofs.SetElements.{set_or}
use Rattle.cu_fold.proofs.truths.block_has.Goals as goal

pub loop-byte-preserved : goal.loop-byte-preserved
loop-byte-preserved c =
    let bytes = c.args.bytes.now in
    let i = c.loop-byte.byte-index in
    set_or c.loop-byte.seen (get_or bytes i 0) ∙ (λ j. c.loop-byte.invariant j || is_set (get_or bytes i 0)) ∙ sym (list_any_more is_set bytes i 0 c.loop-byte-test.true)
