use Rattle.cu_typing.specs.Joined.{arrays_of}
use Rattle.std.proofs.lemmas.List.Elements.{All-weaker}
use Rattle.cu_node.specs.Info.{IsInfo}
use Rattle.cu_typing.proofs.Chunks.{HasChunks, has_chunks, joined_chunk-positive}
use Rattle.cu_typing.proofs.elementwise.array_joined.Goals as goal

pub within_limits-requires-clause-positive : goal.within_limits-requires-clause-positive
within_limits-requires-clause-positive c = rw c.chunk_joined-chunk.ensures.chunk (joined_chunk-positive c.args.shape.now (arrays_of c.args.args.now) (All-weaker IsInfo HasChunks has_chunks _ c.requires))
