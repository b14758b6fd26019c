use Rattle.cu_codec.proofs.KeyLaws.{same_chunk, chunk_not_metadata, chunk_is_key_of, metadata_is_key_of, one_name}
use Rattle.cu_codec.proofs.laws.keys_differ.Goals as goal

pub returns : goal.returns
returns c = record {
  chunks = same_chunk;
  metadata = chunk_not_metadata;
  chunk_of_name = chunk_is_key_of;
  metadata_of_name = metadata_is_key_of;
  names = one_name;
}
