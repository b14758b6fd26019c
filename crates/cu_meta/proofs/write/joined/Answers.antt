use Rattle.cu_meta.proofs.Assembled.{joined_parts}
use Rattle.cu_meta.proofs.write.joined.Goals as goal

pub returns : goal.returns
returns c =
    joined_parts _ _ _ _ _ _ _ _ _ c.args.chunk.now _ c.args.encoding.now _ c.args.codec.now _ c.args.name.now _ c.args.fill.now _ c.args.shape.now _ c.new-text.ensures.bytes
    c.in_ok-push_part.ensures c.in_ok-push_part-2.ensures c.in_ok-push_part-3.ensures c.in_ok-push_part-4.ensures c.in_ok-push_part-5.ensures c.in_ok-push_part-6.ensures c.in_ok-push_str.ensures.bytes
