use Rattle.std.proofs.Common.{◌≡◌, ◌<◌, ◌≤◌, ◌+◌, ◌*◌, ℕ, subst, arith, sym}
use Rattle.cu_command.proofs.SeenLemmas.{stepped, stepped_then, stepped_wider, within_more, within_few}
use Rattle.cu_command.specs.Seen.{Stepped, WithinCalls}
use Rattle.cu_store.specs.Steps.{OnceEach}
use Rattle.cu_store.proofs.Once.{once_then, once_few}
use Rattle.cu_load.specs.Load.{ChunksPut, HoldsChunks, chunks_in}
use Rattle.cu_load.specs.LoadForm.{given_by}
use Rattle.cu_load.proofs.StoreLemmas.{next_put, more_put, chunk_put, chunks_put, values_stay, more_stored, chunk_fault, some_stay}
use Rattle.cu_load.proofs.store.store_chunks.Goals as goal

pub returns-in-Err-clause-failed : goal.returns-in-Err-clause-failed
returns-in-Err-clause-failed g c =
    let below : c.loop-number.number < chunks_in (given_by c.args.form.now) = omega (arith, c.count-number-end.ensures.count) in
    let so_far = c.loop-number.invariant.step in
    chunk_fault _ (given_by c.args.form.now) c.loop-number.number (g.D.PutStore.shown c.args.depot.now) (g.D.PutStore.shown c.loop-number.depot) (g.D.PutStore.shown c.store_chunk.new.depot) c.in-Err.status below so_far
    (stepped c.store_chunk.ensures.step)
    (λ calm. some_stay (given_by c.args.form.now) (g.D.PutStore.shown c.loop-number.depot).held (g.D.PutStore.shown c.store_chunk.new.depot).held c.loop-number.number (omega (arith, below))
    (values_stay (given_by c.args.form.now) (g.D.PutStore.shown c.args.depot.now).late (g.D.PutStore.shown c.loop-number.depot).late (g.D.PutStore.shown c.loop-number.depot).held (g.D.PutStore.shown c.store_chunk.new.depot).held
    c.requires.given calm (stepped_wider (chunks_put (given_by c.args.form.now) c.loop-number.number (omega (arith, below))) so_far).step.late
    (stepped_wider (chunk_put (given_by c.args.form.now) c.loop-number.number below) (stepped c.store_chunk.ensures.step)).step.lands)
    (c.loop-number.invariant.stored calm))
    c.in-Err.ensures.cause c.in-Err.ensures.unput

pub returns-in-Err-clause-calls : goal.returns-in-Err-clause-calls
returns-in-Err-clause-calls g c =
    let below : c.loop-number.number + 1 ≤ chunks_in (given_by c.args.form.now) = omega (arith, c.count-number-end.ensures.count) in
    within_few (c.loop-number.number + 1) (chunks_in (given_by c.args.form.now)) (c.args.retries + 1) (g.D.PutStore.shown c.args.depot.now) (g.D.PutStore.shown c.store_chunk.new.depot) below
    (within_more c.loop-number.number (c.args.retries + 1) (g.D.PutStore.shown c.args.depot.now) (g.D.PutStore.shown c.loop-number.depot) (g.D.PutStore.shown c.store_chunk.new.depot)
    c.loop-number.invariant.calls c.store_chunk.ensures.step.calls.1)

pub returns-in-Err-clause-once : goal.returns-in-Err-clause-once
returns-in-Err-clause-once g c =
    let below : c.loop-number.number + 1 ≤ chunks_in (given_by c.args.form.now) = omega (arith, c.count-number-end.ensures.count) in
    once_few (c.loop-number.number + 1) (chunks_in (given_by c.args.form.now)) (g.D.PutStore.shown c.args.depot.now) (g.D.PutStore.shown c.store_chunk.new.depot) below
    (once_then c.loop-number.number 1 (g.D.PutStore.shown c.args.depot.now) (g.D.PutStore.shown c.loop-number.depot) (g.D.PutStore.shown c.store_chunk.new.depot) c.loop-number.invariant.once c.store_chunk.ensures.once)

pub returns-clause-once : goal.returns-clause-once
returns-clause-once g c =
    let all : chunks_in (given_by c.args.form.now) ≡ c.loop-number.number = omega (arith, c.count-number-end.ensures.count) in
    subst (λ (n : ℕ). OnceEach n (g.D.PutStore.shown c.args.depot.now) (g.D.PutStore.shown c.loop-number.depot)) (sym all) c.loop-number.invariant.once

pub returns-clause-calls : goal.returns-clause-calls
returns-clause-calls g c =
    let all : chunks_in (given_by c.args.form.now) ≡ c.loop-number.number = omega (arith, c.count-number-end.ensures.count) in
    subst (λ (n : ℕ). WithinCalls (n * (c.args.retries + 1)) (g.D.PutStore.shown c.args.depot.now) (g.D.PutStore.shown c.loop-number.depot)) (sym all) c.loop-number.invariant.calls

pub loop-number-preserved : goal.loop-number-preserved
loop-number-preserved g c =
    let below : c.loop-number.number < chunks_in (given_by c.args.form.now) = omega (arith, c.count-number-end.ensures.count) in
    let so_far = c.loop-number.invariant.step in
    record {
      step = stepped_then (stepped_wider (more_put (given_by c.args.form.now) c.loop-number.number) so_far) (stepped_wider (next_put (given_by c.args.form.now) c.loop-number.number) (stepped c.store_chunk.ensures.step));
      stored = λ calm.
          more_stored (given_by c.args.form.now) (g.D.PutStore.shown c.loop-number.depot).held (g.D.PutStore.shown c.store_chunk.new.depot).held c.loop-number.number below
          (values_stay (given_by c.args.form.now) (g.D.PutStore.shown c.args.depot.now).late (g.D.PutStore.shown c.loop-number.depot).late (g.D.PutStore.shown c.loop-number.depot).held (g.D.PutStore.shown c.store_chunk.new.depot).held
          c.requires.given calm (stepped_wider (chunks_put (given_by c.args.form.now) c.loop-number.number (omega arith)) so_far).step.late
          (stepped_wider (chunk_put (given_by c.args.form.now) c.loop-number.number below) (stepped c.store_chunk.ensures.step)).step.lands)
          (c.loop-number.invariant.stored calm) c.in_default.ensures.stored;
      calls = within_more c.loop-number.number (c.args.retries + 1) (g.D.PutStore.shown c.args.depot.now) (g.D.PutStore.shown c.loop-number.depot) (g.D.PutStore.shown c.store_chunk.new.depot)
          c.loop-number.invariant.calls c.store_chunk.ensures.step.calls.1;
      once = once_then c.loop-number.number 1 (g.D.PutStore.shown c.args.depot.now) (g.D.PutStore.shown c.loop-number.depot) (g.D.PutStore.shown c.store_chunk.new.depot) c.loop-number.invariant.once c.store_chunk.ensures.once;
    }

pub returns-clause-step : goal.returns-clause-step
returns-clause-step g c =
    let all : chunks_in (given_by c.args.form.now) ≡ c.loop-number.number = omega (arith, c.count-number-end.ensures.count) in
    subst (λ (n : ℕ). Stepped (ChunksPut (given_by c.args.form.now) n) (g.D.PutStore.shown c.args.depot.now) (g.D.PutStore.shown c.loop-number.depot)) (sym all) c.loop-number.invariant.step

pub returns-clause-stored : goal.returns-clause-stored
returns-clause-stored g c calm =
    let all : chunks_in (given_by c.args.form.now) ≡ c.loop-number.number = omega (arith, c.count-number-end.ensures.count) in
    subst (λ (n : ℕ). HoldsChunks (given_by c.args.form.now) (g.D.PutStore.shown c.loop-number.depot).held n) (sym all) (c.loop-number.invariant.stored calm)
