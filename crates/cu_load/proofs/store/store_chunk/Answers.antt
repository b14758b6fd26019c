use Rattle.std.proofs.Common.{◌≡◌, Some, arith, refl}
use Rattle.cu_store.proofs.Steps.{steps_wider}
use Rattle.cu_load.specs.Load.{given_chunk, key_of_chunk}
use Rattle.cu_load.specs.LoadForm.{given_by}
use Rattle.cu_load.proofs.ChunkLemmas.{small_coord}
use Rattle.cu_load.proofs.StoreLemmas.{value_put}
use Rattle.cu_load.proofs.store.store_chunk.Goals as goal

pub chunk_key-key-requires-clause-coordinates : goal.chunk_key-key-requires-clause-coordinates
chunk_key-key-requires-clause-coordinates g c =
    rw (c.index_of-coord.ensures.index, c.counts.ensures.counts) (small_coord (given_by c.args.form.now) c.args.number 1048576 c.requires.given (omega arith) c.requires.number)

pub returns-clause-step : goal.returns-clause-step
returns-clause-step g c =
    let key_is : c.chunk_key-key.result ≡ key_of_chunk (given_by c.args.form.now) c.args.number =
    rw (c.chunk_key-key.ensures, c.key_of_name-name.ensures.key, c.index_of-coord.ensures.index, c.counts.ensures.counts) refl in
    let value : given_chunk (given_by c.args.form.now) c.args.number ≡ Some c.spell_chunk.new.chunk = rw (c.index_of-coord.ensures.index, c.counts.ensures.counts) at c.spell_chunk.ensures in
    steps_wider (value_put (given_by c.args.form.now) c.args.number c.chunk_key-key.result c.spell_chunk.new.chunk key_is value) (omega arith) (omega arith) c.put_value.ensures.step
