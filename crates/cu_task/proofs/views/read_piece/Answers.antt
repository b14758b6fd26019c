use Rattle.std.proofs.Common.{sym, ◌∙◌}
use Rattle.std.proofs.lemmas.Bool.{true≢false}
use Rattle.cu_task.specs.ViewJobs.{buffer_in, job_weight, view_task_of}
use Rattle.cu_task.specs.Views.{IsOfChunk}
use Rattle.cu_task.proofs.ViewChunks.{needed, calls_unneeded, calls_needed, tally_unneeded, tally_needed}
use Rattle.cu_task.proofs.ViewElements.{takes_nothing}
use Rattle.cu_task.proofs.views.read_piece.Goals as goal

pub returns-then-not-is_needed-clause-takes : goal.returns-then-not-is_needed-clause-takes
returns-then-not-is_needed-clause-takes g c told known =
    takes_nothing (view_task_of c.args.chunk.now.job.now) c.args.chunk.now.source (IsOfChunk (view_task_of c.args.chunk.now.job.now) c.args.chunk.now.source c.args.chunk.now.coord) told (buffer_in (view_task_of c.args.chunk.now.job.now) c.args.room.now)
    (λ idx i w o part. true≢false (sym (c.is_needed.ensures.needed (needed (view_task_of c.args.chunk.now.job.now) c.args.chunk.now.source c.args.chunk.now.coord (record { idx = idx; i = i; within = w; origin = o; part = part }))) ∙ c.if-not-is_needed.true))

pub returns-then-not-is_needed-clause-step : goal.returns-then-not-is_needed-clause-step
returns-then-not-is_needed-clause-step g c =
    calls_unneeded (view_task_of c.args.chunk.now.job.now) c.args.chunk.now.source c.args.chunk.now.coord (g.C.Chunks.shown c.args.access.now) (λ needs. true≢false (sym (c.is_needed.ensures.needed needs) ∙ c.if-not-is_needed.true))

pub returns-clause-step : goal.returns-clause-step
returns-clause-step g c =
    calls_needed (view_task_of c.args.chunk.now.job.now) c.args.chunk.now.source c.args.chunk.now.coord (g.C.Chunks.shown c.args.access.now) (g.C.Chunks.shown c.take_chunk.new.access)
    (λ exact. c.is_needed.ensures.only exact c.if-not-is_needed.false) c.take_chunk.ensures.step

pub returns-then-not-is_needed-clause-called : goal.returns-then-not-is_needed-clause-called
returns-then-not-is_needed-clause-called g c exact =
    tally_unneeded (job_weight (g.C.Chunks.weight c.args.store.now) c.args.chunk.now.job.now) (view_task_of c.args.chunk.now.job.now) c.args.chunk.now.source c.args.chunk.now.coord (g.C.Chunks.tally c.args.access.now) exact
    (λ needs. true≢false (sym (c.is_needed.ensures.needed needs) ∙ c.if-not-is_needed.true))

pub returns-clause-called : goal.returns-clause-called
returns-clause-called g c exact =
    tally_needed (job_weight (g.C.Chunks.weight c.args.store.now) c.args.chunk.now.job.now) (view_task_of c.args.chunk.now.job.now) c.args.chunk.now.source c.args.chunk.now.coord (g.C.Chunks.tally c.args.access.now) (g.C.Chunks.tally c.take_chunk.new.access) exact
    (c.is_needed.ensures.only exact c.if-not-is_needed.false) c.take_chunk.ensures.called
