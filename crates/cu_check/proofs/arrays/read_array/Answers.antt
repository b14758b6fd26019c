use Rattle.std.proofs.Common.{◌≡◌, ◌+◌, ◌*◌, ℕ, List, length, ap, ◌∙◌, subst, sym, arith}
use Rattle.cu_num.specs.Dtype.{size_of}
use Rattle.cu_shape.specs.Index.{product}
use Rattle.cu_check.specs.Chunks.{HasAllSteady, AtEachEntry, IsArrayFault}
use Rattle.cu_check.proofs.Layouts.{few_bytes}
use Rattle.cu_check.proofs.Plains.{written_over}
use Rattle.cu_check.proofs.arrays.read_array.Goals as goal

pub overflow_mul-bytes : goal.overflow_mul-bytes
overflow_mul-bytes g c =
    let wide : c.from.result ≡ size_of c.args.array.now.layout.dtype = c.from.ensures ∙ c.size.ensures in
    rw wide (omega (arith, few_bytes c.element_count.result c.args.array.now.layout.dtype c.element_count.ensures.few))

pub read_chunks-requires-clause-chunk_length : goal.read_chunks-requires-clause-chunk_length
read_chunks-requires-clause-chunk_length g c = ap length c.deref_mut.ensures.value ∙ c.in-Ok-zeros.ensures ∙ c.chunk_bytes.ensures

pub read_chunks-requires-clause-all_length : goal.read_chunks-requires-clause-all_length
read_chunks-requires-clause-all_length g c =
    ap length c.deref_mut-2.ensures.value ∙ c.in-Ok.ensures ∙ ap (λ n. n * c.from.result) c.element_count.ensures.value
    ∙ ap (λ wide. product c.args.array.now.layout.grid.shape * wide) (c.from.ensures ∙ c.size.ensures)

pub read_chunks-requires-clause-readable : goal.read_chunks-requires-clause-readable
read_chunks-requires-clause-readable g c = record { short = (let short = c.key_of_name.ensures.name.short in omega arith); layout = c.requires.layout }

pub returns-in-Ok-read_chunks-clause-read : goal.returns-in-Ok-read_chunks-clause-read
returns-in-Ok-read_chunks-clause-read g c =
    subst (λ (bytes : List ℕ). AtEachEntry (g.D.PutStore.shown c.args.depot.now) (HasAllSteady c.args.array.now bytes)) (sym (written_over _ c.read_chunks.new.all _ (omega arith)))
    (subst (λ (name : List ℕ). AtEachEntry (g.D.PutStore.shown c.args.depot.now) (HasAllSteady (record { name = name; layout = c.args.array.now.layout }) c.read_chunks.new.all))
    c.key_of_name.ensures.key c.in-Ok-read_chunks.ensures.read)

pub returns-in-Err-clause-cause : goal.returns-in-Err-clause-cause
returns-in-Err-clause-cause g c =
    subst (λ (name : List ℕ). IsArrayFault (c.args.retries + 1) (g.D.PutStore.shown c.args.depot.now) (g.D.PutStore.shown c.read_chunks.new.depot) (record { name = name; layout = c.args.array.now.layout }) c.in-Err.status)
    c.key_of_name.ensures.key c.in-Err.ensures.cause

pub returns-in-Ok-read_chunks-clause-length : goal.returns-in-Ok-read_chunks-clause-length
returns-in-Ok-read_chunks-clause-length g c =
    ap length (written_over c.in-Ok.all.len c.read_chunks.new.all _ (omega arith)) ∙ c.read_chunks.auto.all
    ∙ ap length c.deref_mut-2.ensures.value ∙ c.in-Ok.ensures ∙ ap (λ n. n * c.from.result) c.element_count.ensures.value
    ∙ ap (λ wide. product c.args.array.now.layout.grid.shape * wide) (c.from.ensures ∙ c.size.ensures)
