use Rattle.std.proofs.Common.{arith}
use Rattle.cu_name.proofs.Texts.{filled}
use Rattle.cu_name.proofs.id_text.IdText.make.Goals as goal

pub invariant_of-result : goal.invariant_of-result
invariant_of-result c =
    rw (c.copy_from_slice.ensures.after, c.split_at_mut-front.ensures.back) (filled _ (omega arith) c.as_bytes-bytes.ensures.utf8)
